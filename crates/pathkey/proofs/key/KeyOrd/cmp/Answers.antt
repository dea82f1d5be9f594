use Rattle.std.proofs.Common.{◌≡◌, ◌∙◌, ap, sym}
use Rattle.pathkey.specs.Heads.{head_of}
use Rattle.pathkey.proofs.HeadFacts.{order_of_heads}
use Rattle.pathkey.proofs.key.KeyOrd.cmp.Goals as goal

pub returns-then-self-other : goal.returns-then-self-other
returns-then-self-other c = rw (c.cmp.ensures, c.self.invariant.is_head, c.other.invariant.is_head, ← c.self.view_is, ← c.other.view_is)
    (order_of_heads 8 _ _ c.self.invariant.are_bytes c.other.invariant.are_bytes (λ e. c.if-self-other.true (c.self.invariant.is_head ∙ e ∙ sym c.other.invariant.is_head)))

pub returns : goal.returns
returns c =
    let heads : head_of c.args.self.now ≡ head_of c.args.other.now =
    sym (ap head_of c.self.view_is) ∙ sym c.self.invariant.is_head ∙ c.if-self-other.false ∙ c.other.invariant.is_head ∙ ap head_of c.other.view_is in
    rw (← c.as_bytes.ensures, ← c.as_bytes-2.ensures) (c.order_from.ensures.order (rw (c.as_bytes.ensures, c.as_bytes-2.ensures) heads))
