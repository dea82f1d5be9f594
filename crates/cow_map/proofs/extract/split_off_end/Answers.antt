use Rattle.std.proofs.Common.{subst, sym}
use Rattle.std.specs.Option.{option_copied}
use Rattle.std.proofs.lemmas.Result.{IfOk-weaker}
use Rattle.cow_map.specs.Places.{AreBeyond}
use Rattle.cow_map.specs.CowMap.{joined}
use Rattle.cow_map.proofs.Cuts.{beyond_from}
use Rattle.cow_map.proofs.TableFacts.{rows_none}
use Rattle.cow_map.proofs.extract.split_off_end.Goals as goal

pub returns-in-None-clause-back_rows : goal.returns-in-None-clause-back_rows
returns-in-None-clause-back_rows g c = rows_none c.new.result.items c.new.ensures.items

pub returns-in-Some-clause-back : goal.returns-in-Some-clause-back
returns-in-Some-clause-back g c = IfOk-weaker c.split_chunks_at.result _ _ (λ back h. subst (λ o. AreBeyond (option_copied o) (joined back.items)) (sym c.in-Some.is) (beyond_from c.in-Some.end.now (joined back.items) h)) c.split_chunks_at.ensures.back
