use Rattle.std.proofs.lemmas.Result.{on_ok_weaker}
use Rattle.delta.proofs.WalkFacts.{walks_one}
use Rattle.delta.proofs.line_cursor.LineCursor.step.Goals as goal

pub returns : goal.returns
returns c = on_ok_weaker c.read.result (λ r. walks_one c.args.self.now c.read.new.self c.requires r) c.read.ensures
