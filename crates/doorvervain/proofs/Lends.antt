-- A handle lends the value at its pointer.
use Rattle.doorvervain.proofs.Steps.{◌≡◌, List, [], ◌∷◌, refl, sym, ap, ◌∙◌, full_share, never, fst∗, sep, GName, ftrue, flft, Fn, named, ty_ptr, bare, Val, vptr, fact, tables, Logic, sem, ‵, ◌⊛◌, some, later, at_ret, ◌$◌, ◌∵◌, !, qed, move, keep, drop, use1, split, split3, pick, fsplit, fsplit3, fjoin, join, fpick, await, rewrite, suffices, frame, group, done, whole, sub, look_in, enter, of_opd, addr, load, stop, fld, first, blocks, exec, returns, alloc_all, pass_all, free_all, look_at, get, through, sets, sets_last, env, no, shows, cell_at, lone, RattleType, Ptr, null_ptr, in_a_block, MutRef, mut_vals, mut_Tells, plain, nothing, opens, peeks, Ended, Stays, walk_of, says, stay_dropped, ends_at, Goes-spent_ref, proved, mut_ref_to, box_owns, Struct, Ura, follows, lends_Part, after}
use mir.Syntax.{Local, Body, Callee, ty_ref, erased, mut, local, value_local, place, deref, field, copy, rv_opd, addr_of, assign, seq, block, return}
use base.Logic.{emp}
use prog.Wp.{Closed}
use prog.Model.{Model}
use contract.Running.{Running}
use denote.Signature.{Signature}
use denote.Struct.Owning.{row, shape}
use denote.Memory.{pointee}
use denote.Triple.Clauses.{Clauses, closing}
use denote.Triple.Spec.{Meets}
use Rattle.std.specs.contracts.impls.GlobalAllocator.TheImpl.{ghosts}
use Rattle.doorvervain.specs.Held.{held_at}
use Rattle.doorvervain.proofs.Handles.{Handle, type_of, word, word_is, owns_made}
use Rattle.doorvervain.proofs.Pointers.{Frame, whole_again}

module _ (S : Handle) where
  open S use {X, P}

  abbrev R : RattleType
  R = row (type_of P (held_at X))

  -- the handle once its value is x
  abbrev with : P.D → X.Denot → P.D
  with h x = P.make (P.at h) x

  -- the code: the pointer is read, and lent as a reference
  abbrev locals : List Local
  locals = local (ty_ref (named 0) mut (pointee X.written)) value_local ∷ local (ty_ref (named 0) mut (pointee R.written)) value_local ∷ local ty_ptr value_local ∷ local ty_ptr value_local ∷ local (ty_ref erased mut (pointee X.written)) value_local ∷ []

  abbrev body : Body
  body = seq (assign (place 3 []) (rv_opd (copy (place 1 (deref (lone R.mir) ∷ field 0 ∷ []))))) (seq (assign (place 2 []) (rv_opd (copy (place 3 []))))
      (seq (block (assign (place 4 []) (addr_of (place 2 (deref (lone X.mir) ∷ []))))) (seq (assign (place 0 []) (rv_opd (copy (place 4 [])))) return)))

  abbrev function : Fn
  function = record { lifetimes = 1; outlives = []; ty_params = []; givens = 0; params = 1; locals = locals; body = body }

  -- the contract
  abbrev signature : Signature
  signature = record { lifetimes = 1; outlives = []; params = mut_ref_to (0 ∷ []) tt (plain (λ κs. R)) ∷ []; result = mut_ref_to (0 ∷ []) tt (plain (λ κs. X)) }

  abbrev ended : Ended
  ended = record { signature = signature; kept = (no, tt) }

  module _ {M : Type 1} (𝓤 : Ura M) (𝓛 : Logic 𝓤) where
    abbrev clauses : Clauses 𝓤 ended
    clauses κs a = record {
      ghost = Unit {0};
      requires = λ g. emp 𝓤;
      ensures = λ g r e. sep 𝓤 (sem 𝓛 (follows R X a.0.ghost_name r.ghost_name (with a.0.now))) (fact 𝓤 (r.now ≡ P.held a.0.now));
    }

    abbrev stayed : Stays ended.signature.params ended.kept
    stayed = (stay_dropped (mut_ref_to (0 ∷ []) tt (plain (λ _. R))) no, tt)

    pub lends : (𝓜 : Model 𝓤 𝓛.H) (𝓡 : Running 𝓤 𝓛.H 𝓜) (name : Callee)
        → Closed 𝓤 𝓛.H (tables 𝓤 𝓛.H 𝓜 𝓡 𝓡.env).C (tables 𝓤 𝓛.H 𝓜 𝓡 𝓡.env).Λ name function
        → Meets 𝓛 signature ((tables 𝓤 𝓛.H 𝓜 𝓡 𝓡.env).C name) (closing 𝓛 ended clauses)
    lends 𝓜 𝓡 name closed =
        let 𝓣 = tables 𝓤 𝓛.H 𝓜 𝓡 𝓡.env in
        proved 𝓛 ended stayed clauses 𝓜 𝓡 (Goes-spent_ref 𝓛 1 (0 ∷ []) tt (plain (λ _. R)), tt) name function closed
        (λ κs. (mut_vals, tt)) (λ κs. (mut_Tells (named 0) κs.0 R, tt)) (λ κs qs bounds a _ are.
        let κ = κs.0 in let q = qs.0 in let self = a.0 in let b = self.ref_ptr.0 in let o = self.ref_ptr.1 in let γ = self.ghost_name in let h = self.now in
        let y : (walk_of 𝓛 ended stayed clauses).Ghost = ((κs, qs, bounds, a, (mut_vals self, tt)), tt) in
        qed 𝓛 (((‵ (flft κ q) ⊛ ‵ ftrue) ⊛ ‵ ((MutRef (named 0) κ R).own_val self (mut_vals self)) ⊛ ‵ ftrue) ∷ ‵ ftrue ∷ []) ∵
        split ! $ split ! $ move ! (2 ∷ []) $ split ! $ keep ! (0 ∷ 2 ∷ []) $
        enter ! _ _ _ _ _ $ alloc_all ! (λ l. pass_all ! refl ((tt, tt), tt) $
        fsplit3 ! $ drop ! $ opens ! tt R b o (λ us.
        -- [the handle's cell; what it owns; the borrow that is open, in three entries]
        move ! (1 ∷ []) $ peeks ! R _ (shows 𝓛 R) h us (λ is. fsplit ! $ move ! (1 ∷ []) $ fpick ! (λ alloc.
        in_a_block ! (P.at h) (λ p. box_owns (ghosts.dealloc_token alloc) X p (P.held h)) (fst∗ 𝓤 (never 𝓤) (sem 𝓛 (ghosts.dealloc_token alloc (bare (lone X.mir)) null_ptr))) (λ b' o' e. fsplit ! $
        -- [the value; the right to free it; the handle's pointer; the handle's cell; the open borrow]
        let is_word = word_is P (held_at X) h us is ∙ ap (λ (p : Ptr). word P p ∷ []) e in
        let Cell = λ (vs : List Val). ‵ (cell_at full_share R.mir vs b o) in
        rewrite ! 3 Cell is_word refl $
        sets ! (of_opd ! (load ! (through ! refl (fld ! refl (stop !))) (look_in ! 3 (sub ! 0 refl (whole !))))) refl (tt, tt) $
        sets ! (of_opd ! (get ! refl)) refl (tt, tt) $
        first ! $ blocks ! $ sets_last ! (addr ! (through ! refl (stop !))) refl (tt, tt) $
        exec ! 𝓣.C 𝓣.Λ (env locals l) (after 3 body) (at_ret _ ((walk_of 𝓛 ended stayed clauses).post y)) $
        sets ! (of_opd ! (get ! refl)) refl (tt, tt) $
        rewrite ! 3 Cell (sym is_word) refl $ move ! (2 ∷ 3 ∷ []) $ fjoin ! $ move ! (0 ∷ 2 ∷ []) $ fjoin ! $ move ! (2 ∷ 3 ∷ 4 ∷ 1 ∷ 0 ∷ []) $ group ! 5 $
        let own = (Struct (shape (type_of P (held_at X)))).own_val (P.at h, tt) us in let Rest = sem 𝓛 (Frame R X own us b o b' o' alloc) in
        let back = λ (x : X.Denot). whole_again 𝓛 R X (with h x) x (P.at h) own us b o b' o' alloc e (owns_made P (held_at X) (P.at h) x us) in
        use1 𝓛 (later (some (λ (δ : GName). ‵ ((MutRef (named 0) κ X).own_val (record { ref_ptr = (b', o'); ghost_name = δ; now = P.held h }) (vptr b' o' ∷ [])) ⊛ ‵ (flft κ q) ⊛ ‵ (follows R X γ δ (with h)))))
        (lends_Part 𝓛 R X (with h) (named 0) κ q b o b' o' γ Rest back (R.coded.code h) (R.coded.code h) (P.held h)) $ await ! tt $ pick ! (λ δ. split3 ! $
        returns ! (look_at ! 0 refl) $ free_all ! refl $ keep ! (0 ∷ 1 ∷ 2 ∷ []) $
        suffices ! _ (ends_at 𝓛 ended stayed clauses y (vptr b' o') (record { ref_ptr = (b', o'); ghost_name = δ; now = P.held h }) (tt, tt) (tt, tt)) $
        nothing ! $ nothing ! $ fjoin ! $ join ! $ nothing ! $ move ! (2 ∷ 0 ∷ []) $ join ! $ join ! $ frame ! $ says ! refl $ done !)))))))
