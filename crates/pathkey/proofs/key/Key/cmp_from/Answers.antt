use Rattle.std.proofs.Common.{◌≡◌, ◌≤◌, ◌<◌, arith, ap, sym, ◌∙◌}
use Rattle.pathkey.specs.Heads.{head, head_of}
use Rattle.pathkey.proofs.HeadFacts.{begins_at, order_of_heads}
use Rattle.pathkey.proofs.key.Key.cmp_from.Goals.{else-skip-lt-HEAD-via-then-skip-lt-HEAD+else-self-other, else-skip-lt-HEAD-via-else-skip-lt-HEAD}
use Rattle.pathkey.proofs.key.Key.cmp_from.Goals as goal

pub returns-then-self-other-clause-order : goal.returns-then-self-other-clause-order
returns-then-self-other-clause-order c = λ alike. rw (c.cmp.ensures, c.self.invariant.is_head, c.other.invariant.is_head, ← c.self.view_is, ← c.other.view_is)
    (order_of_heads 8 _ _ c.self.invariant.are_bytes c.other.invariant.are_bytes (λ e. c.if-self-other.true (c.self.invariant.is_head ∙ e ∙ sym c.other.invariant.is_head)))

pub returns-clause-order : goal.returns-clause-order
returns-clause-order c = λ alike.
    let heads : c.args.skip < 8 → head_of c.args.self.now ≡ head_of c.args.other.now = λ l. elim c.else-skip-lt-HEAD.branch [
      | else-skip-lt-HEAD-via-then-skip-lt-HEAD+else-self-other w ↦ sym (ap head_of c.self.view_is) ∙ sym c.self.invariant.is_head ∙ w.if-self-other.false ∙ c.other.invariant.is_head ∙ ap head_of c.other.view_is
      | else-skip-lt-HEAD-via-else-skip-lt-HEAD w ↦ absurd (omega (arith, l, w.if-skip-lt-HEAD.false))
    ] in
    let few : (l : c.args.skip < 8) → c.max.result ≡ 8 = λ l. omega (arith, l, c.max.ensures) in
    let many : (l : 8 ≤ c.args.skip) → c.max.result ≡ c.args.skip = λ l. omega (arith, l, c.max.ensures) in
    let begun : head c.max.result c.args.self.now ≡ head c.max.result c.args.other.now = begins_at c.args.skip c.max.result c.args.self.now c.args.other.now (λ l. (few l, heads l)) many alike in
    rw (← c.as_bytes.ensures, ← c.as_bytes-2.ensures) (c.order_from.ensures.order (rw (c.as_bytes.ensures, c.as_bytes-2.ensures) begun))

pub returns-clause-same : goal.returns-clause-same
returns-clause-same c = λ alike.
    let heads : c.args.skip < 8 → head_of c.args.self.now ≡ head_of c.args.other.now = λ l. elim c.else-skip-lt-HEAD.branch [
      | else-skip-lt-HEAD-via-then-skip-lt-HEAD+else-self-other w ↦ sym (ap head_of c.self.view_is) ∙ sym c.self.invariant.is_head ∙ w.if-self-other.false ∙ c.other.invariant.is_head ∙ ap head_of c.other.view_is
      | else-skip-lt-HEAD-via-else-skip-lt-HEAD w ↦ absurd (omega (arith, l, w.if-skip-lt-HEAD.false))
    ] in
    let few : (l : c.args.skip < 8) → c.max.result ≡ 8 = λ l. omega (arith, l, c.max.ensures) in
    let many : (l : 8 ≤ c.args.skip) → c.max.result ≡ c.args.skip = λ l. omega (arith, l, c.max.ensures) in
    let begun : head c.max.result c.args.self.now ≡ head c.max.result c.args.other.now = begins_at c.args.skip c.max.result c.args.self.now c.args.other.now (λ l. (few l, heads l)) many alike in
    rw (← c.as_bytes.ensures, ← c.as_bytes-2.ensures) (c.order_from.ensures.same (rw (c.as_bytes.ensures, c.as_bytes-2.ensures) begun))
