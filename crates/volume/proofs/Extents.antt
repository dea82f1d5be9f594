-- Runs of stored bytes of a file, from the first stored block with a number or a later one.
use Rattle.std.proofs.Common.{◌≡◌, ℕ, ◌+◌, ◌-◌, ◌*◌, ◌/◌, ◌%◌, ◌^◌, ◌<◌, ◌≤◌, min, max, List, length, get_or, refl, sym, ap, ◌∙◌, subst, inl, inr, ⊎_elim, Option, Some, None, arith}
use Rattle.std.specs.Prelude.{IsSome}
use Rattle.std.proofs.Math.Nat.{div-add-mod, mod-lt}
use Rattle.std.proofs.lemmas.Bool.{cases_lt}
use Rattle.pathkey.specs.Keys.{block_key}
use Rattle.block_index.specs.Means.{blocks}
use Rattle.call_compiler.specs.Compiled.{MeanTree}
use Rattle.pathkey.specs.Names.{Path, IsPath}
use Rattle.reference.specs.Indexes.{Blocks, Hold, byte_of}
use Rattle.reference.specs.Reads.{seen}
use Rattle.reference.specs.Tree.{Tree, File, Found, entry_at}
use Rattle.volume.specs.Extents.{AreStored, IsNextStored, IsRun, block_at}
use Rattle.volume.specs.declared.fs_root.FsRoot.{FsRoot}

module _ (d : Blocks) (p : Path) (b : List ℕ) (hold : Hold (λ i. d (block_key p i)) b) (short : length b ≤ 2 ^ 40) (off : ℕ) where
  -- a byte of a block that is not stored
  zero_byte : (x : ℕ) → x < length b → block_at d p x ≡ None → get_or b x 0 ≡ 0
  zero_byte x lt none =
      let at : 4096 * (x / 4096) + x % 4096 ≡ x = div-add-mod x 4096 in
      let small : x % 4096 < 4096 = mod-lt x (omega arith) in
      ap (λ (y : ℕ). get_or b y 0) (sym at) ∙ sym (hold.byte (x / 4096) (x % 4096) (omega (arith, lt, short)) small) ∙ ap (λ (o : Option (List ℕ)). byte_of o (x % 4096)) none

  -- there is no run if no block from off on is stored that has a byte of the file
  no_run : ((x : ℕ) → off ≤ x → x < length b → block_at d p x ≡ None) → IsRun d p b off (length b) (length b)
  no_run hole = record {
    order = omega arith;
    within = omega arith;
    begins = inr refl;
    some = λ _. refl;
    hole = hole;
    zeros = λ x u v. zero_byte x v (hole x u v);
    stored = λ x u v. absurd (omega (arith, u, v));
    ends = λ u. absurd (omega (arith, u));
  }

  pub run_behind : length b ≤ off → IsRun d p b off (length b) (length b)
  run_behind h = no_run (λ x u v. absurd (omega (arith, u, v, h)))

  pub run_of_none : IsNextStored d p (off / 4096) None → IsRun d p b off (length b) (length b)
  run_of_none none = no_run (λ x u v. none (x / 4096) (omega (arith, u)) (omega (arith, v, short)))

  module _ (number : ℕ) (v : List ℕ) (next : IsNextStored d p (off / 4096) (Some (number, v))) where
    pub run_past : off < length b → length b ≤ max off (4096 * number) → IsRun d p b off (length b) (length b)
    run_past low high = no_run (λ x u w. next.1 (x / 4096) (omega (arith, u)) (omega (arith, w, low, high)))

    module _ (end : ℕ) (behind : off / 4096 ≤ number) (low : max off (4096 * number) < length b) (order : number + 1 ≤ end) (high : end ≤ (length b - 1) / 4096 + 1) (next_extent : AreStored d p (number + 1) end) (ended : end < (length b - 1) / 4096 + 1 → d (block_key p end) ≡ None) where
      abbrev from : ℕ
      from = max off (4096 * number)

      abbrev to : ℕ
      to = min (length b) (4096 * end)

      is_allocated : (x : ℕ) → from ≤ x → x < to → IsSome (block_at d p x)
      is_allocated x u w = ⊎_elim
          (λ (g : number < x / 4096). next_extent (x / 4096) (omega (arith, g)) (omega (arith, w)))
          (λ (g : x / 4096 ≤ number). let same : number ≡ x / 4096 = omega (arith, g, u) in subst (λ (i : ℕ). IsSome (d (block_key p i))) same (subst IsSome (sym next.0) refl))
          (cases_lt number (x / 4096))

      hole : (x : ℕ) → off ≤ x → x < from → block_at d p x ≡ None
      hole x u w = next.1 (x / 4096) (omega (arith, u)) (omega (arith, u, w))

      pub run_found : IsRun d p b off from to
      run_found = record {
        order = omega (arith, behind, low, order);
        within = omega arith;
        begins = inl (omega arith);
        some = λ e. absurd (omega (arith, e, behind, low, order));
        hole = hole;
        zeros = λ x u w. zero_byte x (omega (arith, w, low)) (hole x u w);
        stored = is_allocated;
        ends = λ u. let at : end ≡ to / 4096 = omega (arith, u) in ap (λ (i : ℕ). d (block_key p i)) (sym at) ∙ ended (omega (arith, u));
      }

-- the same for the file at a path, in each tree to which the indexes abstract
module _ (r : FsRoot) (p : Path) (is_path : IsPath p) (off len : ℕ) (short : len ≤ 2 ^ 40) where
  abbrev stored_in : Blocks
  stored_in = blocks r.indexes.block

  abbrev RunOf : ℕ → ℕ → Type 0
  RunOf from to = (t : Tree) (date : ℕ) (b : List ℕ) → MeanTree r.indexes t → entry_at t p ≡ Found (File date b) → length b ≡ len → IsRun stored_in p b off from to

  bytes_held : (t : Tree) (date : ℕ) (b : List ℕ) → MeanTree r.indexes t → entry_at t p ≡ Found (File date b) → Hold (λ i. stored_in (block_key p i)) b
  bytes_held t date b means file = means.blocks.blocks p b is_path (ap seen file)

  whole : (t : Tree) (date : ℕ) (b : List ℕ) → length b ≡ len → IsRun stored_in p b off (length b) (length b) → IsRun stored_in p b off len len
  whole t date b long run = subst (λ (n : ℕ). IsRun stored_in p b off n n) long run

  pub reported_behind : len ≤ off → RunOf len len
  reported_behind h t date b means file long = whole t date b long (run_behind stored_in p b (bytes_held t date b means file) (omega (arith, long, short)) off (omega (arith, long, h)))

  pub reported_none : IsNextStored stored_in p (off / 4096) None → RunOf len len
  reported_none none t date b means file long = whole t date b long (run_of_none stored_in p b (bytes_held t date b means file) (omega (arith, long, short)) off none)

  module _ (x : ℕ × List ℕ) (next : IsNextStored stored_in p (off / 4096) (Some x)) where
    pub reported_past : off < len → len ≤ max off (4096 * x.0) → RunOf len len
    reported_past low high t date b means file long = whole t date b long (run_past stored_in p b (bytes_held t date b means file) (omega (arith, long, short)) off x.0 x.1 next (omega (arith, long, low)) (omega (arith, long, high)))

    pub reported_run : (end : ℕ) → off / 4096 ≤ x.0 → max off (4096 * x.0) < len → x.0 + 1 ≤ end → end ≤ (len - 1) / 4096 + 1 → AreStored stored_in p (x.0 + 1) end → (end < (len - 1) / 4096 + 1 → stored_in (block_key p end) ≡ None) → RunOf (max off (4096 * x.0)) (min len (4096 * end))
    reported_run end behind low order high next_extent ended t date b means file long =
        subst (λ (n : ℕ). IsRun stored_in p b off (max off (4096 * x.0)) (min n (4096 * end))) long
        (run_found stored_in p b (bytes_held t date b means file) (omega (arith, long, short)) off x.0 x.1 next end behind (omega (arith, long, low)) order (omega (arith, long, high)) next_extent (λ h. ended (omega (arith, long, h))))
