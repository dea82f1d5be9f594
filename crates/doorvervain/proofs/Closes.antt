-- A place for a handle is closed: null is written, and the place owns nothing from then on.
use Rattle.doorvervain.proofs.Steps.{List, [], ◌∷◌, ◌++◌, refl, sym, subst, lit<, full_share, SProp, ent, id⊢, Fml, ftrue, fsep, flft, named, Fn, Val, vptr, vnull, vunit, vstruct, of_list, WpFn, fact, Logic, ‵, ◌⊛◌, ◌$◌, ◌∵◌, !, qed, move, keep, drop, split, join, fsplit, fsplit3, fjoin, fjoin3, feq_i, feq_l, fpack, rewrite, suffices, use1, done, whole, sub, store_in, enter, stop, fld, lit, of_opd, assigns, unit_lit, returns, alloc_all, pass_all, free_all, look_at, through, sets, tables, yes, shows, cell_at, lone, Valss, within, RattleType, RawPtr, null_ptr, MutRef, Slot, plain, mut_ref_to, nothing, opens, closes, peeks, says, Ended, Stays, stay_ref, walk_of, ends_at, Goes-ref, proved_at, None, Ura}
use mir.Syntax.{Local, Body, Callee, w64, ty_unit, ty_ref, mut, local, value_local, place, deref, field, int, rv_opd, opd_unit, assign, seq, return}
use base.Logic.{emp}
use prog.Wp.{Closed}
use prog.Model.{Model}
use contract.Running.{Running}
use denote.Builtin.{unit}
use denote.Memory.{pointee}
use denote.Signature.{Signature}
use denote.Struct.Owning.{row, shape}
use denote.Triple.Clauses.{Clauses, closing}
use denote.Triple.Spec.{Meets}
use Rattle.doorvervain.specs.Held.{IsClosed, given_at}
use Rattle.doorvervain.proofs.Handles.{Out, type_of, word_is, owns_made, at_is}

module _ (S : Out) where
  open S use {X, P}

  abbrev R : RattleType
  R = row (type_of P (given_at X))

  -- the code: null is written
  abbrev locals : List Local
  locals = local ty_unit value_local ∷ local (ty_ref (named 0) mut (pointee R.written)) value_local ∷ []

  abbrev body : Body
  body = seq (assign (place 1 (deref (lone R.mir) ∷ field 0 ∷ [])) (rv_opd (int w64 0))) (seq (assign (place 0 []) (rv_opd opd_unit)) return)

  abbrev function : Fn
  function = record { lifetimes = 1; outlives = []; ty_params = []; givens = 0; params = 1; locals = locals; body = body }

  -- the contract
  abbrev of_place : Slot 1
  of_place = plain (λ _. R)

  abbrev signature : Signature
  signature = record { lifetimes = 1; outlives = []; params = mut_ref_to (0 ∷ []) tt of_place ∷ []; result = plain (λ _. unit) }

  abbrev ended : Ended
  ended = record { signature = signature; kept = (yes, tt) }

  abbrev stayed : Stays ended.signature.params ended.kept
  stayed = (stay_ref (0 ∷ []) tt of_place, tt)

  module _ {M : Type 1} (𝓤 : Ura M) (𝓛 : Logic 𝓤) where
    abbrev clauses : Clauses 𝓤 ended
    clauses κs a = record { ghost = Unit {0}; requires = λ g. emp 𝓤; ensures = λ g r e. fact 𝓤 (IsClosed (P.at e.0.now) (P.held e.0.now)) }

    pub is_closed : (𝓜 : Model 𝓤 𝓛.H) (𝓡 : Running 𝓤 𝓛.H 𝓜) (name : Callee)
        → Closed 𝓤 𝓛.H (tables 𝓤 𝓛.H 𝓜 𝓡 𝓡.env).C (tables 𝓤 𝓛.H 𝓜 𝓡 𝓡.env).Λ name function
        → Meets 𝓛 signature ((tables 𝓤 𝓛.H 𝓜 𝓡 𝓡.env).C name) (closing 𝓛 ended clauses)
    is_closed 𝓜 𝓡 name closed =
        let 𝓣 = tables 𝓤 𝓛.H 𝓜 𝓡 𝓡.env in
        proved_at 𝓛 ended stayed clauses 𝓜 𝓡 (Goes-ref 𝓛 1 0 tt of_place, tt) name function closed (λ y are.
        let κ = y.0.0.0 in let q = y.0.1.0 in let self = y.0.3.0 in let us = y.0.4.0 in
        let b = self.ref_ptr.0 in let o = self.ref_ptr.1 in let h = self.now in
        let Post : Val → SProp 𝓤 = (walk_of 𝓛 ended stayed clauses).post y in let Run : List Val → SProp 𝓤 = λ ws. WpFn 𝓤 𝓛.H 𝓣.C 𝓣.Λ function ws Post in
        let new : Val = vstruct (of_list (vnull ∷ [])) in let last = P.make null_ptr None in
        qed 𝓛 (((‵ (flft κ q) ⊛ ‵ ftrue) ⊛ ‵ (fsep ((MutRef (named 0) κ R).own_val self us) ftrue)) ∷ ‵ ftrue ∷ []) ∵
        split ! $ split ! $ move ! (2 ∷ []) $ fsplit ! $ fsplit3 ! $ feq_l ! (λ at_place. keep ! (0 ∷ 1 ∷ 3 ∷ []) $
        -- [the name's value; the borrow; the token]
        suffices ! (Run (vptr b o ∷ [])) (subst (λ (ws : List Val). ent 𝓤 (Run (vptr b o ∷ [])) (Run ws)) (sym (λ i. at_place i ++ [])) (id⊢ 𝓤 (Run (vptr b o ∷ [])))) $
        enter ! 𝓣.C 𝓣.Λ function (vptr b o ∷ []) Post $ alloc_all ! (λ l. pass_all ! refl ((tt, tt), tt) $
        opens ! tt R b o (λ ws.
        -- [the place's cell; what it owned; the open borrow, in three entries]
        move ! (1 ∷ []) $ peeks ! R _ (shows 𝓛 R) h ws (λ is. drop ! $ rewrite ! 0 (λ (zs : List Val). ‵ (cell_at full_share R.mir zs b o)) (word_is P (given_at X) h ws is) refl $
        assigns ! (of_opd ! (lit ! tt)) (through ! refl (fld ! refl (stop !))) (store_in ! 0 (sub ! 0 refl (whole !)) (tt, record { fits = lit< tt })) $
        sets ! (of_opd ! (unit_lit !)) refl (tt, tt) $
        use1 𝓛 (‵ (cell_at full_share R.mir (new ∷ []) b o)) (id⊢ 𝓤 _) $
        nothing ! $ nothing ! $ feq_i ! (List Val) (vnull ∷ []) (vnull ∷ []) refl $ fjoin ! $ feq_i ! (List Val) (new ∷ []) (new ∷ []) refl $ fjoin ! $
        fpack ! (Valss (RawPtr ∷ [])) (within (shape (type_of P (given_at X))) (null_ptr, tt) (new ∷ [])) (vnull ∷ [], tt) $ fjoin ! $
        rewrite ! 0 (λ (z : Fml). ‵ z) (sym (owns_made P (given_at X) null_ptr None (new ∷ []))) refl $ move ! (1 ∷ 0 ∷ []) $
        closes ! tt R last (new ∷ []) b o $
        returns ! (look_at ! 0 refl) $ free_all ! refl $ feq_i ! (List Val) us (vptr b o ∷ []) at_place $ fjoin3 ! $
        suffices ! _ (ends_at 𝓛 ended stayed clauses y vunit tt (last, tt) (tt, tt)) $ says ! (at_is P null_ptr None, P.held_is null_ptr None) $
        -- [the place; the token]
        nothing ! $ move ! (1 ∷ 0 ∷ []) $ fjoin ! $ feq_i ! (List Val) (vunit ∷ []) (vunit ∷ []) refl $ move ! (1 ∷ 0 ∷ []) $ join ! $
        nothing ! $ move ! (2 ∷ 0 ∷ []) $ join ! $ join ! $ done !)))))
