-- The pending operations of one key, as they are stored.
use Rattle.std.specs.Prelude.{◌≡◌, ◌≤◌, ◌<◌, ◌+◌, ℕ, Bool, List, [], ◌∷◌, length, map, Option, Result, OnOk, OnErr, IfOk, IfErr}
use Rattle.std.specs.Bool.{OnTrue, OnFalse}
use Rattle.std.specs.List.{fold}
use Rattle.message.specs.declared.resolution.Resolution.{Resolution}
use Rattle.message.specs.declared.resolution.Resolution.TheVariants as resolution
use Rattle.point_ops.specs.Changes.{KeyOp, Put, Del, Edit, run_effect}
use Rattle.point_ops.specs.declared.key_op_ref.KeyOpRef.{KeyOpRef}
use Rattle.point_ops.specs.declared.key_op_ref.KeyOpRef.TheVariants as op_at
use Rattle.point_ops.specs.declared.key_ops_repr.KeyOpsRepr.{KeyOpsRepr}
use Rattle.point_ops.specs.declared.key_ops_repr.KeyOpsRepr.TheVariants as waits

module _ {U V : Type 0} where
  abbrev pub changes_in : KeyOpsRepr U V → List (KeyOp U V)
  changes_in (waits.Put v) = Put v ∷ []
  changes_in waits.Del = Del ∷ []
  changes_in (waits.Edit u) = Edit u ∷ []
  changes_in (waits.Edits us) = map Edit us.items

  -- the borrowed operation
  abbrev pub borrowed_change : KeyOpRef U V → KeyOp U V
  borrowed_change (op_at.Put v) = Put v.now
  borrowed_change op_at.Del = Del
  borrowed_change (op_at.Edit u) = Edit u.now

  module _ (means : U → Option V → Option V) where
    -- the value after updates, the oldest first
    abbrev pub edits_effect : List U → Option V → Option V
    edits_effect us o = fold (λ w u. means u w) o us

    -- an update was appended to the operations cs, which gave ds; r is how many there were and are, or the update on allocation
    -- failure
    pub record IsInserted (u : U) (cs ds : List (KeyOp U V)) (r : Result (ℕ × ℕ) U) : Type 0 where
      pub meaning : OnOk r ((o : Option V) → run_effect means ds o ≡ means u (run_effect means cs o))
      pub counted : IfOk r (λ n. (n.0 ≡ length cs) × (n.1 ≡ length ds))
      pub bound : length ds ≤ length cs + 1
      pub some : 0 < length ds
      pub unchanged : OnErr r (ds ≡ cs)
      pub back : IfErr r (λ p. p ≡ u)

    -- an update was joined to the only one of the operations cs, which gave ds; or it was not, and they are unchanged
    pub record IsJoined (u : U) (cs ds : List (KeyOp U V)) (did : Bool) : Type 0 where
      pub meaning : OnTrue did ((o : Option V) → run_effect means ds o ≡ means u (run_effect means cs o))
      pub one : OnTrue did (length cs ≡ 1)
      pub len : length ds ≡ length cs
      pub unchanged : OnFalse did (ds ≡ cs)

    -- operations that are one update were appended to the operations cs, which gave ds; n is how many these were and are
    pub record IsAppended (newer cs ds : List (KeyOp U V)) (n : ℕ × ℕ) : Type 0 where
      pub meaning : (o : Option V) → run_effect means ds o ≡ run_effect means newer (run_effect means cs o)
      pub one : length newer ≡ 1
      pub counted : (n.0 ≡ length cs) × (n.1 ≡ length ds)
      pub bound : length ds ≤ length cs + 1
      pub some : 0 < length ds

-- this may be said of the value that f makes of an old one
abbrev pub IsResolvedOf : {V : Type 0} → (Option V → Option V) → Resolution V → Type 0
IsResolvedOf f resolution.Untouched = ⊥
IsResolvedOf {V} f (resolution.Value v) = (o : Option V) → f o ≡ v
IsResolvedOf f resolution.NeedsBase = Unit {0}
