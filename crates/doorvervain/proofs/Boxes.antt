-- What is owned as a box.
use seplogic.Ra.Ura.{Ura}
use Rattle.doorvervain.proofs.Steps.{List, [], ◌∷◌, refl, sym, ap, subst, Val, T, has_ty, WT, Logic, Goal, Item, Seq, ‵, ◌$◌, rewrite, only}
use Rattle.std.proofs.BoxSteps.Form.{Bx, D, B, box_ty, box_typed}
use Rattle.std.proofs.BoxSteps.Steps.{box_out, box_in}

module _ (X : Bx) {M : Type 1} {𝓤 : Ura M} {𝓛 : Logic 𝓤} {K : Type 0} {Γ : List (Item 𝓤)} {G : Goal 𝓤 𝓛.H} where
  -- what is owned as a box is one machine value, of a box's type
  pub box_fits : K → (r : D X) (u : Val) → (T (has_ty (box_ty X) u) × WT u → Seq K 𝓛 (‵ ((B X).own_val r (u ∷ [])) ∷ Γ) G) → Seq K 𝓛 (‵ ((B X).own_val r (u ∷ [])) ∷ Γ) G
  box_fits t r u k =
      box_out X t r (u ∷ []) (λ b o hv at is fits. box_in X t r b o r.value at refl $ rewrite t 0 (λ (us : List Val). ‵ ((B X).own_val r us)) (sym is) refl $
      k (subst (λ (v : Val). T (has_ty (box_ty X) v) × WT v) (sym (ap only is)) (box_typed X hv b o fits)))
