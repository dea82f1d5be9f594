-- Facts about the pointer of a handle, and about a handle whose borrow ends.
use Rattle.doorvervain.proofs.Steps.{◌≡◌, ℕ, List, [], ◌∷◌, refl, sym, lit<, T, Bool, true, false, ◌&&◌, ty_ptr, Val, has_ty, WT, Ptr, block_ptr, null_ptr, ptr_val, Ura, Logic, RattleType, Fml, Global, fsep, full_share, cell_at, bare, lone, part_at, mem, box_owns, sem, sep, ent, ‵, ◌$◌, ◌∵◌, !, qed, move, fsplit, fjoin, fpack, rewrite, done}
use denote.Memory.{part_of}
use Rattle.std.specs.contracts.impls.GlobalAllocator.TheImpl.{ghosts}
use Rattle.doorvervain.specs.Held.{held_at}

-- it is a machine value of a pointer's type
pub ptr_good : (p : Ptr) → T (has_ty ty_ptr (ptr_val p)) × WT (ptr_val p)
ptr_good (block_ptr b o) = (tt, tt)
ptr_good null_ptr = (tt, record { fits = lit< tt })

pub and_true : (x : Bool) → T x → T (x && true)
and_true true t = tt
and_true false t = absurd t

-- a handle of the type R but for the value of the type X that it holds: what its fields own, its cell, and the right to free the value's block
abbrev pub Frame : (R X : RattleType) → Fml → List Val → (b o b' o' : ℕ) → Global → Fml
Frame R X own us b o b' o' alloc = fsep (fsep own (cell_at full_share R.mir us b o)) (ghosts.dealloc_token alloc (bare (lone X.mir)) (block_ptr b' o'))

module _ {M : Type 1} {𝓤 : Ura M} (𝓛 : Logic 𝓤) (R X : RattleType) (h : R.Denot) (x : X.Denot) (p : Ptr) (own : Fml) (us : List Val) (b o b' o' : ℕ) (alloc : Global) where
  -- with its value it is whole again
  pub whole_again : p ≡ block_ptr b' o' → R.own_val h us ≡ fsep own (held_at X p x) → ent 𝓤 (sep 𝓤 (sem 𝓛 ((mem X).own_at x b' o')) (sem 𝓛 (Frame R X own us b o b' o' alloc))) (sem 𝓛 ((mem R).own_at h b o))
  unfolding part_of
  whole_again e is =
      qed 𝓛 (‵ (part_at X full_share x b' o') ∷ ‵ (Frame R X own us b o b' o' alloc) ∷ []) ∵ move ! (1 ∷ []) $ fsplit ! $ fsplit ! $
      -- [what the fields own; the cell; the right to free; the value]
      move ! (3 ∷ 2 ∷ []) $ fjoin ! $ rewrite ! 0 (λ (q : Ptr). ‵ (box_owns (ghosts.dealloc_token alloc) X q x)) (sym e) refl $
      fpack ! Global (λ a. box_owns (ghosts.dealloc_token a) X p x) alloc $ move ! (1 ∷ 0 ∷ []) $ fjoin ! $
      rewrite ! 0 (λ (z : Fml). ‵ z) (sym is) refl $ move ! (1 ∷ 0 ∷ []) $ fjoin ! $
      fpack ! (List Val) (λ vs. fsep (cell_at full_share R.mir vs b o) (R.own_val h vs)) us $ done !
