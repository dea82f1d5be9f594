-- Turning a handle into its raw parts: the pointer is kept, together with the value that it owns.
use Rattle.doorvervain.proofs.Steps.{◌≡◌, List, [], ◌∷◌, refl, id⊢, ftrue, fsep, Fn, ty_ptr, Val, vstruct, of_list, has_ty, fact, tables, ‵, ◌⊛◌, ◌$◌, ◌∵◌, !, qed, move, keep, drop, join, split, fsplit, fjoin, fpick, fpack, feq_i, suffices, use1, done, whole, sub, agg, enter, stop, fld, of_opd, and_then, no_more, returns, alloc_all, pass_all, free_all, look_at, get, get_in, sets, yes, lone, Valss, RattleType, RawPtr, ptr_val, Slot, plain, nothing, within, says, Ended, Stays, stay_dropped, walk_of, ends_at, Goes-dropped, proved, Logic, Ura}
use mir.Syntax.{Local, Body, Callee, local, value_local, place, field, copy, rv_opd, aggregate, assign, seq, return}
use base.Logic.{emp}
use prog.Wp.{Closed}
use prog.Model.{Model}
use contract.Running.{Running}
use denote.Signature.{Signature}
use denote.Struct.Owning.{row, shape}
use denote.Triple.Clauses.{Clauses, closing}
use denote.Triple.Spec.{Meets}
use Rattle.std.specs.contracts.alloc.Global.{the_row as Heap}
use Rattle.std.specs.contracts.impls.GlobalAllocator.TheImpl.{ghosts}
use Rattle.std.proofs.alloc.Global.TheLaws as heap
use Rattle.doorvervain.specs.contracts.parts.RawBox as parts
use Rattle.doorvervain.specs.Held.{held_at}
use Rattle.doorvervain.proofs.Handles.{Handle, type_of, word, word_is}
use Rattle.doorvervain.proofs.Pointers.{ptr_good, and_true}

module _ (S : Handle) where
  open S use {X, P}

  abbrev R : RattleType
  R = row (type_of P (held_at X))

  abbrev To : RattleType
  To = parts.the_row X Heap ghosts

  -- the code: the parts are made of the pointer and the allocator
  abbrev locals : List Local
  locals = local (lone To.mir) value_local ∷ local (lone R.mir) value_local ∷ local (lone Heap.mir) value_local ∷ local ty_ptr value_local ∷ local ty_ptr value_local ∷ []

  abbrev body : Body
  body = seq (assign (place 3 []) (rv_opd (copy (place 1 (field 0 ∷ []))))) (seq (assign (place 4 []) (rv_opd (copy (place 3 []))))
      (seq (assign (place 0 []) (aggregate (copy (place 4 []) ∷ copy (place 2 []) ∷ []))) return))

  abbrev function : Fn
  function = record { lifetimes = 0; outlives = []; ty_params = []; givens = 0; params = 2; locals = locals; body = body }

  -- the contract
  abbrev of_handle : Slot 0
  of_handle = plain (λ _. R)

  abbrev of_heap : Slot 0
  of_heap = plain (λ _. Heap)

  abbrev signature : Signature
  signature = record { lifetimes = 0; outlives = []; params = of_handle ∷ of_heap ∷ []; result = plain (λ _. To) }

  abbrev ended : Ended
  ended = record { signature = signature; kept = (yes, (yes, tt)) }

  abbrev stayed : Stays ended.signature.params ended.kept
  stayed = (stay_dropped of_handle yes, (stay_dropped of_heap yes, tt))

  module _ {M : Type 1} (𝓤 : Ura M) (𝓛 : Logic 𝓤) where
    abbrev clauses : Clauses 𝓤 ended
    clauses κs a = record { ghost = Unit {0}; requires = λ g. emp 𝓤; ensures = λ g r e. fact 𝓤 (r.value ≡ P.held a.0) }

    pub gives_parts : (𝓜 : Model 𝓤 𝓛.H) (𝓡 : Running 𝓤 𝓛.H 𝓜) (name : Callee)
        → Closed 𝓤 𝓛.H (tables 𝓤 𝓛.H 𝓜 𝓡 𝓡.env).C (tables 𝓤 𝓛.H 𝓜 𝓡 𝓡.env).Λ name function
        → Meets 𝓛 signature ((tables 𝓤 𝓛.H 𝓜 𝓡 𝓡.env).C name) (closing 𝓛 ended clauses)
    gives_parts 𝓜 𝓡 name closed =
        proved 𝓛 ended stayed clauses 𝓜 𝓡 (Goes-dropped 𝓛 0 of_handle yes (λ κs x f. refl), (Goes-dropped 𝓛 0 of_heap yes (λ κs x f. refl), tt)) name function closed
        (λ κs. ((λ h. word P (P.at h) ∷ []), ((λ alloc. heap.lowers.lowered alloc ∷ []), tt))) (λ κs. (word_is P (held_at X), (heap.lowers.val_is, tt))) (λ κs qs bounds a _ are.
        let h = a.0 in let alloc = a.1.0 in let us = word P (P.at h) ∷ [] in let vs = heap.lowers.lowered alloc ∷ [] in
        let y : (walk_of 𝓛 ended stayed clauses).Ghost = ((κs, qs, bounds, a, (us, (vs, tt))), tt) in
        let made : To.Denot = record { ptr = P.at h; alloc = alloc; value = P.held h } in
        let last : Val = vstruct (of_list (ptr_val (P.at h) ∷ heap.lowers.lowered alloc ∷ [])) in
        qed 𝓛 ((‵ ftrue ⊛ ‵ (fsep (R.own_val h us) (fsep (Heap.own_val alloc vs) ftrue))) ∷ ‵ ftrue ∷ []) ∵
        split ! $ drop ! $ fsplit ! $ fsplit ! $ drop ! $ fpick ! (λ other.
        -- [the value at the pointer; the heap]
        move ! (1 ∷ []) $ fsplit ! $ keep ! (2 ∷ 0 ∷ []) $
        let good = ptr_good (P.at h) in let one = and_true (has_ty ty_ptr (ptr_val (P.at h))) good.0 in
        enter ! _ _ _ _ _ $ alloc_all ! (λ l. pass_all ! refl ((one, (good.1, tt)), ((tt, ((tt, tt), tt)), tt)) $
        sets ! (of_opd ! (get_in ! (fld ! refl (stop !)) (sub ! 0 refl (whole !)))) refl good $ sets ! (of_opd ! (get ! refl)) refl good $
        sets ! (agg ! (and_then ! (get ! refl) (and_then ! (get ! refl) (no_more !)))) refl (one, (good.1, (((tt, tt), tt), tt))) $
        returns ! (look_at ! 0 refl) $ free_all ! refl $
        -- [the value at the pointer; the heap]: the parts own both
        nothing ! $ move ! (2 ∷ 0 ∷ []) $ fjoin ! $ feq_i ! (List Val) (ptr_val (P.at h) ∷ []) (ptr_val (P.at h) ∷ []) refl $ fjoin ! $ feq_i ! (List Val) (last ∷ []) (last ∷ []) refl $ fjoin ! $
        fpack ! (Valss (RawPtr ∷ Heap ∷ [])) (within (shape (parts.the_type X Heap ghosts)) (P.at h, (alloc, tt)) (last ∷ [])) (ptr_val (P.at h) ∷ [], (vs, tt)) $ fjoin ! $
        use1 𝓛 (‵ (To.own_val made (last ∷ []))) (id⊢ 𝓤 _) $
        suffices ! _ (ends_at 𝓛 ended stayed clauses y last made (tt, (tt, tt)) (tt, (tt, tt))) $ says ! refl $
        nothing ! $ nothing ! $ fjoin ! $ nothing ! $ fjoin ! $ join ! $ nothing ! $ join ! $ done !)))
