-- Filling an out-parameter with a handle: the pointer is written, and from then on the out-parameter owns the value at
-- the pointer.
use Rattle.doorvervain.proofs.Steps.{◌≡◌, List, [], ◌∷◌, ◌++◌, refl, sym, subst, full_share, SProp, ent, id⊢, never, fst∗, Fml, ftrue, fsep, flft, named, bare, Fn, ty_ptr, Val, vptr, vunit, vstruct, of_list, WpFn, fact, Logic, sem, ‵, ◌⊛◌, ◌$◌, ◌∵◌, !, qed, move, keep, drop, split, join, fsplit, fsplit3, fjoin, fjoin3, feq_i, feq_l, fpick, fpack, rewrite, suffices, use1, done, whole, sub, store_in, enter, stop, fld, of_opd, assigns, unit_lit, returns, alloc_all, pass_all, free_all, look_at, get, get_in, through, sets, tables, yes, shows, cell_at, lone, Valss, within, RattleType, Ptr, RawPtr, block_ptr, null_ptr, ptr_val, in_a_block, MutRef, Slot, plain, mut_ref_to, nothing, opens, closes, peeks, says, Ended, Stays, stay_ref, stay_dropped, walk_of, ends_at, Goes-ref, Goes-dropped, proved_at, Some, box_owns, Global, Ura}
use mir.Syntax.{Local, Body, Callee, ty_unit, ty_ref, mut, local, value_local, place, deref, field, copy, rv_opd, opd_unit, assign, seq, return}
use base.Logic.{emp}
use prog.Wp.{Closed}
use prog.Model.{Model}
use contract.Running.{Running}
use denote.Builtin.{unit}
use denote.Memory.{pointee}
use denote.Signature.{Signature}
use denote.Struct.Owning.{row, shape}
use denote.Triple.Clauses.{Clauses, closing}
use denote.Triple.Spec.{Meets}
use Rattle.std.specs.contracts.alloc.Global.{the_row as Heap}
use Rattle.std.specs.contracts.impls.GlobalAllocator.TheImpl.{ghosts}
use Rattle.std.proofs.alloc.Global.TheLaws as heap
use Rattle.doorvervain.specs.contracts.parts.RawBox as parts
use Rattle.doorvervain.specs.Held.{given_at}
use Rattle.doorvervain.proofs.Handles.{Out, type_of, word_is, owns_made}

module _ (S : Out) where
  open S use {X, P}

  abbrev R : RattleType
  R = row (type_of P (given_at X))

  abbrev From : RattleType
  From = parts.the_row X Heap ghosts

  -- the code: the pointer of the parts is written
  abbrev locals : List Local
  locals = local ty_unit value_local ∷ local (ty_ref (named 0) mut (pointee R.written)) value_local ∷ local (lone From.mir) value_local ∷ local ty_ptr value_local ∷ local ty_ptr value_local ∷ []

  abbrev body : Body
  body = seq (assign (place 3 []) (rv_opd (copy (place 2 (field 0 ∷ []))))) (seq (assign (place 4 []) (rv_opd (copy (place 3 []))))
      (seq (assign (place 1 (deref (lone R.mir) ∷ field 0 ∷ [])) (rv_opd (copy (place 4 [])))) (seq (assign (place 0 []) (rv_opd opd_unit)) return)))

  abbrev function : Fn
  function = record { lifetimes = 1; outlives = []; ty_params = []; givens = 0; params = 2; locals = locals; body = body }

  -- the contract
  abbrev of_place : Slot 1
  of_place = plain (λ _. R)

  abbrev of_parts : Slot 1
  of_parts = plain (λ _. From)

  abbrev signature : Signature
  signature = record { lifetimes = 1; outlives = []; params = mut_ref_to (0 ∷ []) tt of_place ∷ of_parts ∷ []; result = plain (λ _. unit) }

  abbrev ended : Ended
  ended = record { signature = signature; kept = (yes, (yes, tt)) }

  abbrev stayed : Stays ended.signature.params ended.kept
  stayed = (stay_ref (0 ∷ []) tt of_place, (stay_dropped of_parts yes, tt))

  module _ {M : Type 1} (𝓤 : Ura M) (𝓛 : Logic 𝓤) where
    abbrev clauses : Clauses 𝓤 ended
    clauses κs a = record { ghost = Unit {0}; requires = λ g. emp 𝓤; ensures = λ g r e. fact 𝓤 (P.held e.0.now ≡ Some a.1.0.value) }

    pub fills : (𝓜 : Model 𝓤 𝓛.H) (𝓡 : Running 𝓤 𝓛.H 𝓜) (name : Callee)
        → Closed 𝓤 𝓛.H (tables 𝓤 𝓛.H 𝓜 𝓡 𝓡.env).C (tables 𝓤 𝓛.H 𝓜 𝓡 𝓡.env).Λ name function
        → Meets 𝓛 signature ((tables 𝓤 𝓛.H 𝓜 𝓡 𝓡.env).C name) (closing 𝓛 ended clauses)
    fills 𝓜 𝓡 name closed =
        let 𝓣 = tables 𝓤 𝓛.H 𝓜 𝓡 𝓡.env in
        proved_at 𝓛 ended stayed clauses 𝓜 𝓡 (Goes-ref 𝓛 1 0 tt of_place, (Goes-dropped 𝓛 1 of_parts yes (λ κs x f. refl), tt)) name function closed (λ y are.
        let κ = y.0.0.0 in let q = y.0.1.0 in let self = y.0.3.0 in let p = y.0.3.1.0 in let us = y.0.4.0 in let vs = y.0.4.1.0 in
        let b = self.ref_ptr.0 in let o = self.ref_ptr.1 in let h = self.now in
        let Post : Val → SProp 𝓤 = (walk_of 𝓛 ended stayed clauses).post y in let Run : List Val → SProp 𝓤 = λ ws. WpFn 𝓤 𝓛.H 𝓣.C 𝓣.Λ function ws Post in
        qed 𝓛 (((‵ (flft κ q) ⊛ ‵ ftrue) ⊛ ‵ (fsep ((MutRef (named 0) κ R).own_val self us) (fsep (From.own_val p vs) ftrue))) ∷ ‵ ftrue ∷ []) ∵
        split ! $ split ! $ move ! (2 ∷ []) $ fsplit ! $ fsplit3 ! $ feq_l ! (λ at_place.
        -- [the name's value; the borrow; the parts; the token]
        move ! (2 ∷ []) $ fsplit ! $ fsplit ! $ fpick ! (λ vss. fsplit ! $ feq_l ! (λ ev. fsplit ! $ feq_l ! (λ ep. fsplit ! $
        peeks ! Heap _ (shows 𝓛 Heap) p.alloc vss.1.0 (λ is_heap. let eh = heap.lowers.val_is p.alloc vss.1.0 is_heap in move ! (2 ∷ []) $
        in_a_block ! p.ptr (λ at. box_owns (ghosts.dealloc_token p.alloc) X at p.value) (fst∗ 𝓤 (never 𝓤) (sem 𝓛 (ghosts.dealloc_token p.alloc (bare (lone X.mir)) null_ptr))) (λ b' o' e.
        keep ! (0 ∷ 4 ∷ 5 ∷ 6 ∷ []) $
        -- [the value at the pointer; the name's value; the borrow; the token]
        let w : Val = vstruct (of_list (vptr b' o' ∷ heap.lowers.lowered p.alloc ∷ [])) in
        let spelled : vs ≡ w ∷ [] = subst (λ (at : Ptr). vs ≡ vstruct (of_list (ptr_val at ∷ heap.lowers.lowered p.alloc ∷ [])) ∷ []) e
        (subst (λ (ws : List Val). vs ≡ vstruct (of_list (ptr_val p.ptr ∷ (ws ++ []))) ∷ []) eh (subst (λ (ps : List Val). vs ≡ vstruct (of_list (ps ++ (vss.1.0 ++ []))) ∷ []) ep ev)) in
        suffices ! (Run (vptr b o ∷ w ∷ [])) (subst (λ (ws : List Val). ent 𝓤 (Run (vptr b o ∷ w ∷ [])) (Run ws)) (sym (λ i. at_place i ++ (spelled i ++ []))) (id⊢ 𝓤 (Run (vptr b o ∷ w ∷ [])))) $
        enter ! 𝓣.C 𝓣.Λ function (vptr b o ∷ w ∷ []) Post $ alloc_all ! (λ l. pass_all ! refl ((tt, tt), ((tt, (tt, (((tt, tt), tt), tt))), tt)) $
        move ! (1 ∷ 2 ∷ 3 ∷ []) $ opens ! tt R b o (λ ws.
        -- [the out-parameter's cell; what it owned; the open borrow, in three entries; the value at the pointer]
        move ! (1 ∷ []) $ peeks ! R _ (shows 𝓛 R) h ws (λ is. drop ! $ rewrite ! 0 (λ (zs : List Val). ‵ (cell_at full_share R.mir zs b o)) (word_is P (given_at X) h ws is) refl $
        sets ! (of_opd ! (get_in ! (fld ! refl (stop !)) (sub ! 0 refl (whole !)))) refl (tt, tt) $
        sets ! (of_opd ! (get ! refl)) refl (tt, tt) $
        assigns ! (of_opd ! (get ! refl)) (through ! refl (fld ! refl (stop !))) (store_in ! 0 (sub ! 0 refl (whole !)) (tt, tt)) $
        sets ! (of_opd ! (unit_lit !)) refl (tt, tt) $
        let new : Val = vstruct (of_list (vptr b' o' ∷ [])) in let last = P.make (block_ptr b' o') (Some p.value) in
        use1 𝓛 (‵ (cell_at full_share R.mir (new ∷ []) b o)) (id⊢ 𝓤 _) $ move ! (4 ∷ []) $
        fpack ! Global (λ alloc. box_owns (ghosts.dealloc_token alloc) X (block_ptr b' o') p.value) p.alloc $
        nothing ! $ feq_i ! (List Val) (vptr b' o' ∷ []) (vptr b' o' ∷ []) refl $ fjoin ! $ feq_i ! (List Val) (new ∷ []) (new ∷ []) refl $ fjoin ! $
        fpack ! (Valss (RawPtr ∷ [])) (within (shape (type_of P (given_at X))) (block_ptr b' o', tt) (new ∷ [])) (vptr b' o' ∷ [], tt) $ fjoin ! $
        rewrite ! 0 (λ (z : Fml). ‵ z) (sym (owns_made P (given_at X) (block_ptr b' o') (Some p.value) (new ∷ []))) refl $ move ! (1 ∷ 0 ∷ []) $
        closes ! tt R last (new ∷ []) b o $
        returns ! (look_at ! 0 refl) $ free_all ! refl $ feq_i ! (List Val) us (vptr b o ∷ []) at_place $ fjoin3 ! $
        suffices ! _ (ends_at 𝓛 ended stayed clauses y vunit tt (last, (tt, tt)) (tt, (tt, tt))) $ says ! (P.held_is (block_ptr b' o') (Some p.value)) $
        -- [the place; the token]
        nothing ! $ nothing ! $ fjoin ! $ move ! (1 ∷ 0 ∷ []) $ fjoin ! $ feq_i ! (List Val) (vunit ∷ []) (vunit ∷ []) refl $ move ! (1 ∷ 0 ∷ []) $ join ! $
        nothing ! $ move ! (2 ∷ 0 ∷ []) $ join ! $ join ! $ done !))))))))))
