use Rattle.std.proofs.Common.{ℕ, sym, subst}
use Rattle.std.proofs.lemmas.Result.{on_ok_weaker}
use Rattle.images.specs.Spots.{EndsBy}
use Rattle.images.proofs.Spots.{ends_by, passes_entry, passes_then}
use Rattle.images.proofs.spot.PrintPosition.print_entry.Goals as goal

pub returns-clause-passes : goal.returns-clause-passes
returns-clause-passes c = on_ok_weaker c.print_blocks.result
    (λ h t mean passed next.
    let first = passes_entry t c.args.self.now (c.args.path, c.args.meta) c.args.text.now.items c.put_entry.new.text.items passed next c.in_ok-put_entry.ensures in
    passes_then _ _ _ _ _ _ _ first (h t mean first.at))
    c.print_blocks.ensures.passes

pub returns-clause-rest : goal.returns-clause-rest
returns-clause-rest c = on_ok_weaker c.print_blocks.result
    (λ h t mean next. h t mean (c.args.meta, next.is) (subst (λ (n : ℕ). EndsBy t c.args.path n) (sym c.len_of.ensures) (ends_by t c.args.path c.args.meta next.is)))
    c.print_blocks.ensures.rest
