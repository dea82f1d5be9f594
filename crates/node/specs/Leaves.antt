-- Where a key stands among a leaf's entries, and what messages make of the entries.
use Rattle.std.specs.Prelude.{◌≡◌, ℕ, ◌+◌, ◌<◌, ◌≤◌, Bool, true, false, if◌then◌else◌, List, ◌++◌, length, slice_index_or, Option, Some, None, Result, MatchResult}
use Rattle.pathkey.specs.Keys.{is_below}
use Rattle.message.specs.declared.msg.Msg.{Msg}
use Rattle.message.specs.Ranges.{before, within}
use Rattle.message.specs.Effects.{effects}
use Rattle.node.specs.Lawful.{Rises, TouchOnly}
use Rattle.node.specs.Meaning.{lookup}

module _ {V : Type 0} where
  -- the entries before number i, and no others, stand below the end
  pub record IsCount (es : List (List ℕ × V)) (end : Option (List ℕ)) (i : ℕ) : Type 0 where
    pub bound : i ≤ length es
    pub earlier : (j : ℕ) (d : List ℕ × V) → j < i → is_below (slice_index_or es j d).0 end ≡ true
    pub others : (j : ℕ) (d : List ℕ × V) → i ≤ j → j < length es → is_below (slice_index_or es j d).0 end ≡ false

  -- entry i has the key
  pub record IsEntry (es : List (List ℕ × V)) (k : List ℕ) (i : ℕ) : Type 0 where
    pub count : IsCount es (Some k) i
    pub bound : i < length es
    pub key : (d : List ℕ × V) → (slice_index_or es i d).0 ≡ k
    pub value : (d : List ℕ × V) → lookup es k ≡ Some (slice_index_or es i d).1

  -- no entry has the key, which stands before entry i and behind those before it
  pub record IsGap (es : List (List ℕ × V)) (k : List ℕ) (i : ℕ) : Type 0 where
    pub count : IsCount es (Some k) i
    pub after : (j : ℕ) (d : List ℕ × V) → i ≤ j → j < length es → before k (slice_index_or es j d).0 ≡ true
    pub value : lookup es k ≡ None

  -- the entry that has the key, or the gap where it would stand
  abbrev pub IsPlace : List (List ℕ × V) → List ℕ → Result ℕ ℕ → Type 0
  IsPlace es k place = MatchResult place (IsEntry es k) (IsGap es k)

  -- the keys that the test picks have this value now, or none; the entries still rise, and are at most one more
  pub record IsChanged (picks : List ℕ → Bool) (v : Option V) (old new : List (List ℕ × V)) : Type 0 where
    pub value : (k : List ℕ) → lookup new k ≡ (if picks k then v else lookup old k)
    pub rises : (lo : List ℕ) (hi : Option (List ℕ)) → Rises lo hi old → ((k : List ℕ) → within lo hi k ≡ false → picks k ≡ false) → Rises lo hi new
    pub longer : length new ≤ length old + 1

  -- two parts of entries that rise, both with entries, of which the second begins at the pivot
  pub record IsDivided (old front back : List (List ℕ × V)) (pivot : List ℕ) : Type 0 where
    pub whole : old ≡ front ++ back
    pub front_some : 0 < length front
    pub back_some : 0 < length back
    pub halves : (length front ≤ length back) × (length back ≤ length front + 1)
    pub below : (k : List ℕ) → before k pivot ≡ true → lookup old k ≡ lookup front k
    pub above : (k : List ℕ) → before k pivot ≡ false → lookup old k ≡ lookup back k
    pub rise : (lo : List ℕ) (hi : Option (List ℕ)) → Rises lo hi old → (before lo pivot ≡ true) × (is_below pivot hi ≡ true) × Rises lo (Some pivot) front × Rises pivot hi back

module _ {U V : Type 0} (means : U → Option V → Option V) where
  -- entries after messages, the oldest first: at each key the value is that of before under the messages, entries
  -- and messages of one range leave entries of that range that rise, and each message adds at most one
  pub record Applied (ms : List (Msg U V)) (old new : List (List ℕ × V)) : Type 0 where
    pub value : (k : List ℕ) → lookup new k ≡ effects means ms k (lookup old k)
    pub rises : (lo : List ℕ) (hi : Option (List ℕ)) → Rises lo hi old → TouchOnly lo hi ms → Rises lo hi new
    pub longer : length new ≤ length old + length ms
