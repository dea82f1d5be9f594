use Rattle.std.proofs.Common.{subst, ◌∙◌}
use Rattle.cow_map.specs.Places.{BeginsHeaded}
use Rattle.cow_map.specs.CowMap.{first_key}
use Rattle.cow_map.proofs.Entries.{headed_first, order_by_heads}
use Rattle.cow_map.proofs.chunk.Chunk.cmp_from.Goals as goal

pub returns-then-self-head-clause-order : goal.returns-then-self-head-clause-order
returns-then-self-head-clause-order g c = λ alike.
    let headed = headed_first c.self.inside.head c.args.self.now c.requires (subst (λ t. BeginsHeaded c.self.inside.head t) c.self.view_is c.self.invariant.0) in
    c.cmp.ensures ∙ order_by_heads c.head-head.result c.self.inside.head c.args.key.now (first_key c.args.self.now) c.head-head.ensures headed c.if-self-head.true
