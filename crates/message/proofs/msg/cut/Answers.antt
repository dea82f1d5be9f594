-- The part between the range's ends is the part in the range.
use Rattle.std.proofs.Common.{◌≡◌, ◌∙◌, ap, subst, sym, List, ℕ, Option}
use Rattle.std.proofs.lemmas.Result.{IfOk-weaker}
use Rattle.message.specs.Cuts.{IsCut, cut_to}
use Rattle.message.proofs.CutFacts.{cut_is}
use Rattle.message.proofs.msg.cut.Goals as goal

pub returns-clause-part : goal.returns-clause-part
returns-clause-part g c =
    let msg = c.args.msg.now in
    let range = c.args.range.now in
    let same_end = ap (λ (hi : Option (List ℕ)). cut_to range.lo hi msg) c.as_ref.ensures.value in
    IfOk-weaker c.cut_between.result _ (λ piece. piece ≡ cut_to range.lo range.hi msg) (λ piece e. e ∙ same_end) c.cut_between.ensures

pub returns-clause-meaning : goal.returns-clause-meaning
returns-clause-meaning g c =
    let means = g.U.Update.means in
    let msg = c.args.msg.now in
    let range = c.args.range.now in
    IfOk-weaker c.cut_between.result _ (λ piece. IsCut means msg range piece) (λ piece e. subst (λ m. IsCut means msg range m) (sym e) (cut_is means msg range)) (returns-clause-part g c)
