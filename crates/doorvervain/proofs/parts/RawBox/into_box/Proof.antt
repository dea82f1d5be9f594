-- `into_box` gives `Box::from_raw` what the parts have, and returns its box.
use Rattle.doorvervain.proofs.Steps.{◌≡◌, List, [], ◌∷◌, ◌++◌, refl, sym, subst, proved_at, after, SProp, ent, id⊢, ftrue, flft, fsep, Fn, inst_fn, Val, vptr, WpFn, fact, ◌⊑◌, tables, ‵, raw, ◌⊛◌, some, later, at_ret, ◌$◌, ◌∵◌, !, qed, move, drop, use1, split, split3, join, pick, fsplit, fjoin, feq_i, await, suffices, done, whole, sub, enter, of_opd, stop, fld, no_more, and_then, first, blocks, exec, returns, alloc_all, pass_all, free_all, look_at, get, get_in, sets, lands_last, env, no, RattleType, block_ptr, plain, nothing, heard, calls_at_last, triple_of, framed, Ended, Stays, walk_of, says, stay_dropped, ends_at, Goes-blank}
use Rattle.std.proofs.BoxSteps.Form.{Bx, D, B, R, P, args, word, box_typed}
use Rattle.std.proofs.BoxSteps.Steps.{box_out}
use Rattle.std.specs.contracts.boxed.Box.from_raw as g
use Rattle.std.proofs.boxed.Box.from_raw.Met.{met}
use Rattle.doorvervain.proofs.Boxes.{box_fits}
use Rattle.doorvervain.specs.contracts.parts.RawBox as RawBox
use Rattle.doorvervain.specs.contracts.parts.RawBox.into_box as f
use Rattle.doorvervain.proofs.parts.RawBox.into_box.Statement.{statement}
use Rattle.doorvervain.proofs.parts.RawBox.into_box.Code as code

module _ (E : Bx) where
  abbrev made : Fn
  made = inst_fn (args E) code.function

  abbrev contract : Ended
  contract = f.ended E.row E.al.row E.al.g E.al.d E.al.drops

  abbrev From : RattleType
  From = RawBox.the_row (R E) (P E) E.al.g

  abbrev stayed : Stays contract.signature.params contract.kept
  stayed = (stay_dropped (plain (λ _. From)) no, tt)

pub into_box_spec : {M : Type 1} → statement M
into_box_spec 𝓤 𝓛 𝓜 𝓡 wired X A LX LA gh d dd is_alloc is_drop =
    let E : Bx = record { row = X; laws = LX; al = record { row = A; laws = LA; g = gh; d = d; drops = dd } } in
    let 𝓣 = tables 𝓤 𝓛.H 𝓜 𝓡 𝓡.env in let fn = made E in let c = f.clauses X A gh d dd 𝓛 𝓜.mem 𝓡.returns in let W = walk_of 𝓛 (contract E) (stayed E) c in
    let G = triple_of 𝓛 (g.signature X A gh d dd) (g.spec X A gh d dd 𝓛 𝓜.mem 𝓡.returns) in
    proved_at 𝓛 (contract E) (stayed E) c 𝓜 𝓡 (Goes-blank 𝓛 2 (plain (λ _. From E)) no (λ κs x w. tt), tt)
    (f.Key.name (args E)) fn (code.unfolded 𝓤 𝓛.H 𝓜 𝓡 wired (X, (A, tt)) d dd) (λ z are.
    let κs = z.0.0 in let qs = z.0.1 in let parts = z.0.3.0 in let a = parts.alloc in let us = z.0.4.0 in
    let box : D E = record { ptr = parts.ptr; alloc = a; value = parts.value } in
    let Run : List Val → SProp 𝓤 = λ ws. WpFn 𝓤 𝓛.H 𝓣.C 𝓣.Λ fn ws (W.post z) in
    let tokens = ‵ (flft κs.0 qs.0) ⊛ ‵ (flft κs.1.0 qs.1.0) ⊛ ‵ ftrue in
    let lives_X = raw (fact 𝓤 (κs.0 ⊑ X.lives)) in let lives_A = raw (fact 𝓤 (κs.1.0 ⊑ A.lives)) in
    qed 𝓛 ((tokens ⊛ ‵ (fsep ((B E).own_val box us) ftrue)) ∷ (lives_X ⊛ lives_A ⊛ ‵ ftrue) ∷ []) ∵
    split ! $ move ! (1 ∷ []) $ fsplit ! $ box_out E ! box us (λ b o hv at is fits. fjoin ! $
    -- [the right to the block; the allocator; nothing; the tokens; that the types live]
    move ! (4 ∷ []) $ split3 ! $ move ! (2 ∷ []) $ drop ! $ move ! (1 ∷ 2 ∷ []) $ join ! $ move ! (1 ∷ 0 ∷ []) $ join ! $
    -- [what the call requires; the allocator; nothing; the tokens]
    let y : G.Ghost = ((κs, qs, tt, (a, (block_ptr b o, tt)), (hv ∷ [], (vptr b o ∷ [], tt))), parts.value) in
    move ! (2 ∷ []) $ feq_i ! (List Val) (vptr b o ∷ []) (vptr b o ∷ []) refl $ fjoin ! $ move ! (2 ∷ 0 ∷ []) $ fjoin ! $
    move ! (2 ∷ 0 ∷ []) $ join ! $ join ! $ use1 𝓛 (raw (G.pre y)) (id⊢ 𝓤 _) $
    suffices ! (Run (word E hv b o ∷ [])) (subst (λ (ws : List Val). ent 𝓤 (Run (word E hv b o ∷ [])) (Run ws)) (sym (λ i. is i ++ [])) (id⊢ 𝓤 _)) $
    enter ! _ _ _ _ _ $ alloc_all ! (λ l. pass_all ! refl (box_typed E hv b o fits, tt) $
    sets ! (of_opd ! (get_in ! (fld ! refl (stop !)) (sub ! 0 refl (whole !)))) refl (tt, tt) $
    sets ! (of_opd ! (get_in ! (fld ! refl (stop !)) (sub ! 1 refl (whole !)))) refl fits $
    first ! $ blocks ! $ sets ! (of_opd ! (get ! refl)) refl fits $
    calls_at_last ! (framed 𝓤 𝓛.H 𝓜 𝓣) G (met 𝓤 𝓛 𝓜 𝓡 (code.calls-std_alloc::boxed::Box::from_raw 𝓡.env wired) X A LX LA gh d dd is_alloc is_drop) y
    (and_then ! (get ! refl) (and_then ! (get ! refl) (no_more !))) (λ u.
    use1 𝓛 (later (some (λ (r : D E). (tokens ⊛ ‵ ((B E).own_val r (u ∷ []))) ⊛ some (λ (_ : Unit {0} × (Unit {0} × Unit {0})). ‵ (fsep ftrue (fsep ftrue ftrue)) ⊛
    (raw (fact 𝓤 (r.value ≡ parts.value)) ⊛ raw (fact 𝓤 (r.alloc ≡ a))))))) (id⊢ 𝓤 _) $
    await ! tt $ pick ! (λ r. split ! $ move ! (1 ∷ []) $ pick ! (λ _. split3 ! $ drop ! $ heard ! _ (λ same. drop ! $
    -- [the tokens and the box that was passed]
    split ! $ move ! (1 ∷ []) $ box_fits E ! r u (λ typed. lands_last ! refl typed $
    exec ! 𝓣.C 𝓣.Λ (env fn.locals l) (after 3 fn.body) (at_ret _ (W.post z)) $
    sets ! (of_opd ! (get ! refl)) refl typed $ returns ! (look_at ! 0 refl) $ free_all ! refl $
    suffices ! _ (ends_at 𝓛 (contract E) (stayed E) c z u r ((tt, (tt, tt)), tt) (tt, tt)) $ says ! same $
    nothing ! $ nothing ! $ fjoin ! $ join ! $ move ! (1 ∷ 0 ∷ []) $ join ! $ done !))))))))
