-- `of` takes the box apart by `Box::into_raw_with_allocator`, and the parts own what that ensures.
use Rattle.doorvervain.proofs.Steps.{◌≡◌, List, [], ◌∷◌, ◌++◌, refl, sym, ap, subst, SProp, ent, id⊢, never, fst∗, ftrue, fsep, flft, inst_fn, Args, a_type, dcons, dnil, bare, Val, vstruct, of_list, WpFn, sem, ‵, raw, ◌⊛◌, some, later, ◌$◌, ◌∵◌, !, qed, move, drop, split, split3, join, done, fsplit, fjoin, feq_l, fpick, pick, await, rewrite, suffices, use1, whole, sub, agg, enter, stop, fld, of_opd, and_then, no_more, returns, alloc_all, pass_all, free_all, look_at, get, get_in, sets, lands_as, fact, tables, no, RawPtr, bounded, Ptr, block_ptr, null_ptr, ptr_val, in_a_block, Slot, plain, type_at, heard, nothing, only, Tuple, calls_at, Lasts, lasts, triple_of, framed, says, Stays, stay_dropped, walk_of, ends_at, token, handle_tells, Goes-blank, proved_at, box_owns}
use Rattle.std.proofs.BoxSteps.Form.{Bx, D, R, P, B, τ, word, box_typed}
use Rattle.std.proofs.BoxSteps.Steps.{box_out, box_in}
use Rattle.std.specs.contracts.boxed.Box.into_raw_with_allocator as taken
use Rattle.std.proofs.boxed.Box.into_raw_with_allocator.Met.{met}
use Rattle.doorvervain.specs.contracts.parts.RawBox.of as f
use Rattle.doorvervain.proofs.parts.RawBox.of.Statement.{statement}
use Rattle.doorvervain.proofs.parts.RawBox.of.Code as code

pub of_spec : {M : Type 1} → statement M
of_spec 𝓤 𝓛 𝓜 𝓡 wired X A LX LA g d dd td allocator md mt =
    let E : Bx = record { row = X; laws = LX; al = record { row = A; laws = LA; g = g; d = d; drops = dd } } in
    let args : Args = bounded (a_type ∷ a_type ∷ []) (X, (A, tt)) (dcons d (dcons dd (dcons td dnil))) in
    let Of : Slot 2 = plain (λ _. B E) in let fn = inst_fn args code.function in let 𝓣 = tables 𝓤 𝓛.H 𝓜 𝓡 𝓡.env in
    let Ended = f.ended X A g d dd td in let c = f.clauses X A g d dd td 𝓛 𝓜.mem 𝓡.returns in
    let ends : Stays Ended.signature.params Ended.kept = (stay_dropped Of no, tt) in
    proved_at 𝓛 Ended ends c 𝓜 𝓡 (Goes-blank 𝓛 2 Of no (λ κs x l. tt), tt) (f.Key.name args) fn (code.unfolded 𝓤 𝓛.H 𝓜 𝓡 wired (X, (A, tt)) d dd td) (λ y are.
    let κs = y.0.0 in let qs = y.0.1 in let box = y.0.3.0 in let Post : Val → SProp 𝓤 = (walk_of 𝓛 Ended ends c).post y in let Run : List Val → SProp 𝓤 = λ vs. WpFn 𝓤 𝓛.H 𝓣.C 𝓣.Λ fn vs Post in
    let tokens = ‵ (flft κs.0 qs.0) ⊛ ‵ (flft κs.1.0 qs.1.0) ⊛ ‵ ftrue in let asked = raw ((c κs y.0.3).requires y.1) in
    qed 𝓛 ((tokens ⊛ ‵ (fsep ((B E).own_val box y.0.4.0) ftrue)) ∷ asked ∷ []) ∵ split ! $ move ! (1 ∷ []) $ fsplit ! $
    box_out E ! box y.0.4.0 (λ b o hv at_block spelled fits. box_in E ! box b o box.value at_block refl $ fjoin ! $
    let w = word E hv b o in
    let k = triple_of 𝓛 (taken.signature X A g d dd td) (taken.spec X A g d dd td 𝓛 𝓜.mem 𝓡.returns) in
    let z : k.Ghost = ((κs, qs, tt, (box, tt), (w ∷ [], tt)), tt) in
    move ! (1 ∷ 0 ∷ []) $ join ! $ join ! $ use1 𝓛 (raw (k.pre z)) (id⊢ 𝓤 _) $
    suffices ! (Run (w ∷ [])) (subst (λ (us : List Val). ent 𝓤 (Run (w ∷ [])) (Run us)) (sym (λ i. spelled i ++ [])) (id⊢ 𝓤 (Run (w ∷ [])))) $
    enter ! 𝓣.C 𝓣.Λ fn (w ∷ []) Post $ alloc_all ! (λ l. pass_all ! refl (box_typed E hv b o fits, tt) $
    sets ! (of_opd ! (get ! refl)) refl (box_typed E hv b o fits) $
    calls_at ! (framed 𝓤 𝓛.H 𝓜 𝓣) k (met 𝓤 𝓛 𝓜 𝓡 (code.calls-std_alloc::boxed::Box::into_raw_with_allocator 𝓡.env wired) X A LX LA g d dd td allocator md mt) z
    (and_then ! (get ! refl) (no_more !)) (λ u.
    let Pair = Tuple (RawPtr ∷ P E ∷ []) in
    use1 𝓛 (later (some (λ (r : Pair.Denot). (tokens ⊛ ‵ (Pair.own_val r (u ∷ []))) ⊛ some (λ (ls : Lasts (taken.ended X A g d dd td) κs z.0.3). ‵ (lasts (taken.ended X A g d dd td) κs z.0.3 ls)
    ⊛ (raw (fact 𝓤 (r.1 ≡ box.alloc)) ⊛ ‵ (box_owns (token E.al box.alloc) (R E) r.0 box.value)))))) (id⊢ 𝓤 (k.post z u)) $ await ! tt $ pick ! (λ r. split ! $ split ! $ move ! (2 ∷ []) $ pick ! (λ ls. split3 ! $ drop ! $
    heard ! (r.1 ≡ box.alloc) (λ same.
    in_a_block ! r.0 (λ p. box_owns (token E.al box.alloc) (R E) p box.value) (fst∗ 𝓤 (never 𝓤) (sem 𝓛 (token E.al box.alloc (bare (τ E)) null_ptr))) (λ b' o' at_block'. fsplit ! $
    -- [the value; the right to free it; the tokens; the pair]
    move ! (3 ∷ []) $ fpick ! (λ vss. fsplit ! $ feq_l ! (λ ev. fsplit ! $ feq_l ! (λ ep. fsplit ! $ handle_tells E.al ! r.1 vss.1.0 (λ hv' ea fits'.
    let is : u ≡ word E hv' b' o' = ap only (subst (λ (p : Ptr). u ∷ [] ≡ vstruct (of_list (ptr_val p ∷ hv' ∷ [])) ∷ []) at_block'
    (subst (λ (ws : List Val). u ∷ [] ≡ vstruct (of_list (ptr_val r.0 ∷ (ws ++ []))) ∷ []) ea (subst (λ (ps : List Val). u ∷ [] ≡ vstruct (of_list (ps ++ (vss.1.0 ++ []))) ∷ []) ep ev))) in
    lands_as ! is refl (box_typed E hv' b' o' fits') $
    sets ! (of_opd ! (get_in ! (fld ! refl (stop !)) (sub ! 0 refl (whole !)))) refl (tt, tt) $ sets ! (of_opd ! (get_in ! (fld ! refl (stop !)) (sub ! 1 refl (whole !)))) refl fits' $
    sets ! (of_opd ! (get ! refl)) refl fits' $
    sets ! (agg ! (and_then ! (get ! refl) (and_then ! (get ! refl) (no_more !)))) refl (box_typed E hv' b' o' fits') $
    let To = type_at (f.signature X A g d dd td).result κs in
    let made : To.Denot = record { ptr = block_ptr b' o'; alloc = box.alloc; value = box.value } in
    let again : D E = record { ptr = block_ptr b' o'; alloc = box.alloc; value = box.value } in
    rewrite ! 0 (λ (alloc : A.Denot). ‵ (A.own_val alloc (hv' ∷ []))) same refl $ move ! (2 ∷ 3 ∷ 0 ∷ []) $ box_in E ! again b' o' box.value refl refl $
    use1 𝓛 (‵ (To.own_val made (word E hv' b' o' ∷ []))) (id⊢ 𝓤 _) $
    -- [the parts; true; the tokens]
    move ! (1 ∷ []) $ drop ! $ returns ! (look_at ! 0 refl) $ free_all ! refl $
    suffices ! _ (ends_at 𝓛 Ended ends c y (word E hv' b' o') made ((tt, (tt, tt)), tt) (tt, tt)) $ says ! refl $
    nothing ! $ nothing ! $ fjoin ! $ join ! $ move ! (1 ∷ 0 ∷ []) $ join ! $ done !))))))))))))
