use Rattle.std.proofs.Common.{◌≡◌, List, [], ◌++◌, length, true, ap, sym, subst, ◌∙◌, arith}
use Rattle.attributes.specs.declared.record.ExtendedAttribute.{ExtendedAttribute}
use Rattle.attributes.specs.Attributes.{may_stand}
use Rattle.attributes.specs.Packed.{packed_one}
use Rattle.attributes.proofs.PackFacts.{all_stand}
use Rattle.attributes.proofs.ReadFacts.{Continues, continues_more, continues_none, same_extended}
use Rattle.attributes.proofs.xattr_codec.parse_unchecked.Goals as goal

pub loop-name-init : goal.loop-name-init
loop-name-init c = λ es rises is. record { others = es; keep = all_stand [] es rises; split = ap (λ (l : List ExtendedAttribute). l ++ es) (sym c.new-extended.ensures); here = is }

pub loop-name-preserved : goal.loop-name-preserved
loop-name-preserved c = λ es rises is.
    let rest = c.loop-name.rest.now in
    let after = c.in-Some.after.now in
    let one = c.in_ok-one.one in
    subst (λ (done : List ExtendedAttribute). Continues (λ e. may_stand e ≡ true) packed_one es done after) (sym c.in_ok-push.ensures)
    (continues_more (λ e. may_stand e ≡ true) packed_one es c.loop-name.extended rest after one (c.loop-name.invariant es rises is)
    (λ e. let none : length rest ≡ 0 = ap length e in omega (arith, c.in-Some.ensures.shorter))
    (λ e behind keep here.
    let parts = c.in-Some.ensures.reported e behind keep here in
    (same_extended e one.name one.value (c.in_ok-one.ensures.0 ∙ parts.0) (c.in_ok-one.ensures.1 ∙ parts.1), parts.2)))

pub returns : goal.returns
returns c = λ es rises is.
    continues_none (λ e. may_stand e ≡ true) packed_one es c.loop-name.extended c.loop-name.rest.now (c.loop-name.invariant es rises is)
    (λ e behind keep here. c.in_default.ensures.reported e behind keep here)
