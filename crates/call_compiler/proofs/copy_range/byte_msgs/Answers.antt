use Rattle.std.proofs.Common.{arith, ◌≡◌, ◌+◌, ◌-◌, ◌/◌, ◌∙◌, List, ℕ, take, drop, length, sym, ap, subst}
use Rattle.call_compiler.specs.Copied.{Overwrites}
use Rattle.call_compiler.proofs.Copying.{count_patches, length_taken, overwrites_patches, taken_none}
use Rattle.call_compiler.proofs.Compiling.{if_ok_both}
use Rattle.call_compiler.proofs.copy_range.byte_msgs.Goals as goal

pub returns-then-count-eq0-clause-copied : goal.returns-then-count-eq0-clause-copied
returns-then-count-eq0-clause-copied c = λ t b means there long d.
    taken_none d c.args.to.now c.args.target c.args.offset c.args.count b c.if-count-eq0.true _ c.new.ensures.items

pub returns-then-len-count-clause-copied : goal.returns-then-len-count-clause-copied
returns-then-len-count-clause-copied c = λ t b means there long d.
    let read : c.in_ok-bytes.bytes.items ≡ take c.args.count (drop c.args.offset b) = c.in_ok-bytes.ensures t b means there long in
    let l : length c.in_ok-shared.shared ≡ c.args.count = ap length (c.in_ok-shared.ensures.ok ∙ read) ∙ length_taken b c.args.offset c.args.count (omega (arith, c.requires.within, long)) in
    absurd (c.if-len-count.true (c.len.ensures.value ∙ l))

pub returns-clause-copied : goal.returns-clause-copied
returns-clause-copied c = if_ok_both c.write_msgs.result _ _ _
    (λ ms messages meaning t b means there long d. subst (λ (w : List ℕ). Overwrites d c.args.to.now c.args.target w ms.items) (c.in_ok-shared.ensures.ok ∙ c.in_ok-bytes.ensures t b means there long)
    (overwrites_patches c.args.to.now c.args.target c.in_ok-shared.shared ms.items meaning d))
    c.write_msgs.ensures.messages c.write_msgs.ensures.meaning

pub returns-clause-few : goal.returns-clause-few
returns-clause-few c = if_ok_both c.write_msgs.result _ _ _
    (λ ms messages meaning.
    let same : length c.in_ok-shared.shared ≡ c.args.count = sym c.len.ensures.value ∙ c.if-len-count.false in
    let n : length ms.items ≡ (c.args.target + c.args.count + 4095) / 4096 - c.args.target / 4096 =
    ap length messages ∙ count_patches c.args.to.now c.args.target c.in_ok-shared.shared (omega (arith, same, c.if-count-eq0.false)) ∙ ap (λ (x : ℕ). (c.args.target + x + 4095) / 4096 - c.args.target / 4096) same in
    omega (arith, n))
    c.write_msgs.ensures.messages c.write_msgs.ensures.meaning
