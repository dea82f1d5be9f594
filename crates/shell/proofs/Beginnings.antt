-- How a drawing continues, and how it ends.
use Rattle.std.proofs.Common.{◌≡◌, ℕ, Bool, true, false, cond, List, ◌++◌, length, take, drop, sym, ap, ◌∙◌, subst, append_assoc, take-append-drop}
use Rattle.std.proofs.Math.Seq.{take-append_seam}
use Rattle.shell.specs.Drawing.{IsBegun, IsDrawing, head, foot}

-- what is begun is what it begins with, and more
splits : (text : List ℕ) → IsBegun text → text ≡ head ++ drop (length head) text
splits text begun = sym (take-append-drop (length head) text) ∙ ap (λ l. l ++ drop (length head) text) begun

-- it remains begun with more text after it
pub goes_on : (text more : List ℕ) → IsBegun text → IsBegun (text ++ more)
goes_on text more begun =
    ap (λ l. take (length head) (l ++ more)) (splits text begun)
    ∙ ap (take (length head)) (append_assoc head (drop (length head) text) more)
    ∙ take-append_seam head (drop (length head) text ++ more)

-- with its end it is whole
pub ends : (text : List ℕ) → IsBegun text → IsDrawing (text ++ foot)
ends text begun = (drop (length head) text, ap (λ l. l ++ foot) (splits text begun) ∙ append_assoc head (drop (length head) text) foot)

-- it remains begun if more text may have been added
pub goes_on_or_stays : (did : Bool) (text more now : List ℕ) → now ≡ cond did (text ++ more) text → IsBegun text → IsBegun now
goes_on_or_stays true text more now is begun = subst IsBegun (sym is) (goes_on text more begun)
goes_on_or_stays false text more now is begun = subst IsBegun (sym is) begun
