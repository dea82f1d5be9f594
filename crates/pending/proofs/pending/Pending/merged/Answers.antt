use Rattle.std.proofs.lemmas.Result.{IfOk-weaker}
use Rattle.message.specs.Cuts.{IsJoined}
use Rattle.message.specs.Effects.{Takes}
use Rattle.message.proofs.SideBySide.{takes_joined}
use Rattle.pending.proofs.pending.Pending.merged.Goals as goal

pub returns-then-lies_from : goal.returns-then-lies_from
returns-then-lies_from g c =
    let old = c.args.self.0 in
    let newer = c.args.newer.0 in
    let p = c.args.pivot.now in
    IfOk-weaker c.joined_at.result (λ all. IsJoined p old newer all.0) (λ all. Takes g.U.Update.means old newer all.0) (λ all h. takes_joined g.U.Update.means p old newer all.0 h) c.joined_at.ensures
