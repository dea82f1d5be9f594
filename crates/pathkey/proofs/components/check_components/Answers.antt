use Rattle.std.proofs.Common.{sym, ◌∙◌}
use Rattle.pathkey.proofs.ComponentFacts.{first_fault, second_fault, no_fault, malformed_decides, after_component, last_malformed, last_long}
use Rattle.pathkey.proofs.components.check_components.Goals as goal

pub returns-then-is_malformed : goal.returns-then-is_malformed
returns-then-is_malformed c =
    first_fault _ _ _ _ _
    (malformed_decides _ _ _ _ _ _ c.loop-component.invariant c.in-Some.ensures.0 c.in-Some.ensures.1 (sym c.is_malformed.ensures ∙ c.if-is_malformed.true))

pub loop-component-preserved : goal.loop-component-preserved
loop-component-preserved c =
    rw c.is_long-has_long.ensures
    (after_component _ _ _ _ _ _ c.loop-component.invariant c.in-Some.ensures.0 c.in-Some.ensures.1 (sym c.is_malformed.ensures ∙ c.if-is_malformed.false))

pub returns-then-is_malformed-2 : goal.returns-then-is_malformed-2
returns-then-is_malformed-2 c =
    first_fault _ _ _ _ _
    (last_malformed _ _ _ _ c.loop-component.invariant c.in_default.ensures ∙ sym c.is_malformed-2.ensures ∙ c.if-is_malformed-2.true)

pub returns-then-has_long-is_long : goal.returns-then-has_long-is_long
returns-then-has_long-is_long c =
    second_fault _ _ _ _ _
    (last_malformed _ _ _ _ c.loop-component.invariant c.in_default.ensures ∙ sym c.is_malformed-2.ensures ∙ c.if-is_malformed-2.false)
    (last_long _ _ _ _ c.loop-component.invariant c.in_default.ensures ∙ rw (← c.is_long.ensures) c.if-has_long-is_long.true)

pub returns : goal.returns
returns c =
    no_fault _ _ _ _ _
    (last_malformed _ _ _ _ c.loop-component.invariant c.in_default.ensures ∙ sym c.is_malformed-2.ensures ∙ c.if-is_malformed-2.false)
    (last_long _ _ _ _ c.loop-component.invariant c.in_default.ensures ∙ rw (← c.is_long.ensures) c.if-has_long-is_long.false)
