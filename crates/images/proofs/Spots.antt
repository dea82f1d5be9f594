-- What is printed from one place of an image to another.
use Rattle.std.proofs.Common.{◌≡◌, inl, inr, ℕ, suc, ◌+◌, ◌-◌, ◌*◌, ◌^◌, ◌<◌, ◌≤◌, true, false, List, [], ◌∷◌, ◌++◌, length, drop, refl, sym, ap, subst, ◌∙◌, append_assoc, append-nil, arith, Option, Some, None}
use Rattle.std.specs.Option.{option_to_list}
use Rattle.pathkey.specs.Keys.{Key, enc, next_key}
use Rattle.pathkey.specs.Names.{Path}
use Rattle.reference.specs.Image.{Text, block_line, trimmed}
use Rattle.reference.specs.Indexes.{meta_of}
use Rattle.reference.specs.Reads.{sighted}
use Rattle.reference.specs.Shape.{IsTree}
use Rattle.reference.specs.Tree.{Tree, Dir, File, At, Found, Missing, Blocked, entry_at}
use Rattle.reference.specs.declared.reply.Meta.{Meta}
use Rattle.reference.specs.declared.reply.Meta.TheVariants.{Dir as DirMeta, File as FileMeta}
use Rattle.images.specs.Image.{blocks_left, entry_text, image_from}
use Rattle.images.specs.Spots.{AreFrom, EndsBy, IsAhead, IsAt, IsNext, IsNextAt, IsPassed, Passes, left_at, size_of}
use Rattle.images.specs.declared.ahead.EntryReadahead.{EntryReadahead}
use Rattle.images.specs.declared.spot.PrintPosition.{PrintPosition}
use Rattle.images.proofs.ImageBlocks.{block_passed, blocks_passed}
use Rattle.images.proofs.ImageEntries.{behind_first, behind_root, entry_starts, first_listed, head_at, none_behind, others}
use Rattle.images.proofs.WholeLines.{block_ends, ends_after, entry_ends}
use Rattle.volume.proofs.Walks.{past_bytes}
use Rattle.volume.specs.Walks.{AreBlocksAt, AreEntries, IsEntry}

-- no line
pub passes_nothing : (t : Tree) (s : PrintPosition) (had : Text) → IsAt t s → Passes t s had s had
passes_nothing t s had at = record { lines = []; added = sym (append-nil had); left = refl; whole = inl refl; at = at }

-- lines after others
pub passes_then : (t : Tree) (a b c : PrintPosition) (x y z : Text) → Passes t a x b y → Passes t b y c z → Passes t a x c z
passes_then t a b c x y z f g = record {
  lines = f.lines ++ g.lines;
  added = g.added ∙ ap (λ (l : Text). l ++ g.lines) f.added ∙ append_assoc x f.lines g.lines;
  left = f.left ∙ ap (λ (l : Text). f.lines ++ l) g.left ∙ sym (append_assoc f.lines g.lines (left_at t c));
  whole = ends_after f.lines g.lines f.whole g.whole;
  at = g.at;
}

-- the line of a block
pub passes_block : (t : Tree) (s : PrintPosition) (number : ℕ) (block had has : List ℕ) → IsAt t s → AreBlocksAt (entry_at t s.last) s.from 1 ((number, block) ∷ [])
    → has ≡ had ++ block_line number (trimmed block) → Passes t s had (record { last = s.last; from = number + 1 }) has
passes_block t s number block had has at are put =
    let line : Text = block_line number (trimmed block) in
    let rest : Text = image_from (next_key (enc s.last)) t in
    record {
      lines = line;
      added = put;
      left = ap (λ (l : Text). l ++ rest) (block_passed (entry_at t s.last) s.from (number, block) are) ∙ append_assoc line (blocks_left (entry_at t s.last) (number + 1)) rest;
      whole = block_ends number (trimmed block);
      at = at;
    }

-- the line of the next entry
pub passes_entry : (t : Tree) (s : PrintPosition) (e : Path × Meta) (had has : Text) → IsPassed t s → IsNextAt t s.last e → has ≡ had ++ entry_text e.0 e.1 → Passes t s had (record { last = e.0; from = 0 }) has
passes_entry t s e had has passed next put = record {
  lines = entry_text e.0 e.1;
  added = put;
  left = ap (λ (l : Text). l ++ image_from (next_key (enc s.last)) t) passed ∙ next.left;
  whole = entry_ends e.0 e.1;
  at = (e.1, next.is);
}

-- ---- the end of the blocks of an entry

ends_at : (a : At) (m : Meta) (i : ℕ) → meta_of (sighted a) ≡ Some m → size_of m ≤ i * 4096 → blocks_left a i ≡ []
ends_at (Found (File date b)) (FileMeta len at) i e le =
    let l : length b ≡ len = cc in
    blocks_passed (Found (File date b)) i (record {
      few = omega arith;
      sound = λ k x lt. absurd (omega (arith, lt));
      rising = λ j k x a lt. absurd (omega (arith, lt));
      complete = λ j ge. inr (inl (past_bytes b j (omega (arith, l, le, ge))));
    })
ends_at (Found (File date b)) (DirMeta at) i e le = absurd (cc)
ends_at (Found (Dir date es)) m i e le = refl
ends_at Missing m i e le = refl
ends_at Blocked m i e le = refl

-- from its metadata
pub ends_by : (t : Tree) (p : Path) (m : Meta) → IsEntry t p m → EndsBy t p (size_of m)
ends_by t p m is = λ i few le. ends_at (entry_at t p) m i is le

-- no block has such a number
pub ends_by_all : (t : Tree) (p : Path) (len : ℕ) → 2 ^ 44 ≤ len → EndsBy t p len
ends_by_all t p len all = λ i few le. absurd (omega (arith, all, few, le))

-- ---- what was taken ahead

nothing_from : (t : Tree) (lo : Key) → AreFrom t lo 0 []
nothing_from t lo = record {
  few = omega arith;
  sound = λ k e lt. absurd (omega (arith, lt));
  rising = λ j k e a lt. absurd (omega (arith, lt));
  complete = λ p m r is. inr (refl, λ k e lt. absurd (omega (arith, lt)));
}

-- nothing
pub ahead_nothing : (t : Tree) (last : Path) (a : EntryReadahead) → a.entries.items ≡ [] → a.all ≡ false → IsAhead t last a
ahead_nothing t last a none not = record {
  count = 0;
  are = subst (AreFrom t (next_key (enc last)) 0) (sym none) (nothing_from t (next_key (enc last)));
  all = λ yes. absurd (cc);
}

-- a piece that begins with the entry itself, without that
pub ahead_piece : (t : Tree) (last : Path) (m : Meta) (n : ℕ) (es : List (Path × Meta)) (a : EntryReadahead) → IsTree t → IsEntry t last m → 0 < n → AreEntries t last n es → a.entries.items ≡ drop 1 es → (a.all ≡ true → length es < n) → IsAhead t last a
ahead_piece t last m n es a is there some are rest all =
    let behind = behind_first t last m n es is are there some in
    record {
      count = n - 1;
      are = subst (AreFrom t (next_key (enc last)) (n - 1)) (sym rest) behind.0;
      all = λ yes. let l : length a.entries.items ≡ length (drop 1 es) = ap length rest in let few = all yes in let one = behind.1 in omega (arith, l, few, one);
    }

-- if no other is left, there is no next one
next_none : (t : Tree) (last : Path) (old new : EntryReadahead) → IsTree t → IsAhead t last old → old.entries.items ≡ [] → old.all ≡ true → new.entries.items ≡ [] → new.all ≡ old.all → IsNext t last None new
next_none t last old new is ahead none all rest same =
    let few = ahead.all all in
    let l : length old.entries.items ≡ 0 = ap length none in (
      none_behind t last ahead.count is (subst (AreFrom t (next_key (enc last)) ahead.count) none ahead.are) (omega (arith, few, l)),
      record {
        count = ahead.count;
        are = subst (AreFrom t (next_key (enc last)) ahead.count) (none ∙ sym rest) ahead.are;
        all = λ yes. let k : length new.entries.items ≡ 0 = ap length rest in omega (arith, few, l, k);
      },
    )

-- and else the first
next_some : (t : Tree) (last : Path) (old new : EntryReadahead) (e : Path × Meta) → IsTree t → IsAhead t last old → old.entries.items ≡ e ∷ new.entries.items → new.all ≡ old.all → IsNext t last (Some e) new
next_some t last old new e is ahead split same =
    let lo = next_key (enc last) in
    let es : List (Path × Meta) = new.entries.items in
    let are = subst (AreFrom t lo ahead.count) split ahead.are in
    let there = head_at t lo ahead.count e es are in
    let rest : Text = image_from (next_key (enc e.0)) t in
    let l : length old.entries.items ≡ suc (length es) = ap length split in (
      record {
        is = there.1;
        left = first_listed t lo ahead.count e es are is (behind_root (enc last))
            ∙ ap (λ (x : Text). x ++ rest) (entry_starts (entry_at t e.0) e.0 e.1 there.1)
            ∙ append_assoc (entry_text e.0 e.1) (blocks_left (entry_at t e.0) 0) rest;
      },
      record {
        count = ahead.count - 1;
        are = others t lo ahead.count e es are;
        all = λ yes. let few = ahead.all (sym same ∙ yes) in omega (arith, few, l);
      },
    )

no_first : {X : Type 0} (xs : List X) → xs ≡ drop 1 xs → xs ≡ []
no_first [] e = refl
no_first (x ∷ xs) e = absurd (let l : length (x ∷ xs) ≡ length xs = ap length e in omega (arith, l))

-- the next entry, from those that were read ahead
pub next_is : (t : Tree) (last : Path) (old new : EntryReadahead) (e : Option (Path × Meta)) → IsTree t → IsAhead t last old → (old.entries.items ≡ [] → old.all ≡ true) → old.entries.items ≡ option_to_list e ++ new.entries.items
    → new.entries.items ≡ drop 1 old.entries.items → new.all ≡ old.all → IsNext t last e new
next_is t last old new None is ahead all split rest same =
    let empty : old.entries.items ≡ [] = no_first old.entries.items (split ∙ rest) in
    next_none t last old new is ahead empty (all empty) (sym split ∙ empty) same
next_is t last old new (Some e) is ahead all split rest same = next_some t last old new e is ahead split same

-- ---- from entry to entry

-- lines up to a position were appended, those of its entry completely unless the text has enough bytes, and these entries follow
pub record Prints (t : Tree) (old : PrintPosition) (had : Text) (new : PrintPosition) (has : Text) (a : EntryReadahead) : Type 0 where
  pub passes : Passes t old had new has
  pub passed : length has < 65536 → IsPassed t new
  pub ahead : IsAhead t new.last a

-- the next entry, and lines of its blocks
pub prints_on : (t : Tree) (a s new : PrintPosition) (x y z : Text) (old ahead : EntryReadahead) (e : Path × Meta) → Prints t a x s y old → length y < 65536 → IsNext t s.last (Some e) ahead
    → (IsPassed t s → IsNextAt t s.last e → Passes t s y new z) → (IsNextAt t s.last e → length z < 65536 → IsPassed t new) → new.last ≡ e.0 → Prints t a x new z ahead
prints_on t a s new x y z old ahead e so_far short next passes passed last = record {
  passes = passes_then t a s new x y z so_far.passes (passes (so_far.passed short) next.0);
  passed = passed next.0;
  ahead = subst (λ (p : Path). IsAhead t p ahead) (sym last) next.1;
}

-- if there is no next entry, no line is left
pub prints_end : (t : Tree) (a s : PrintPosition) (x y : Text) (old ahead : EntryReadahead) → Prints t a x s y old → IsNext t s.last None ahead → length y < 65536 → left_at t s ≡ []
prints_end t a s x y old ahead so_far next short = ap (λ (l : Text). l ++ image_from (next_key (enc s.last)) t) (so_far.passed short) ∙ next.0
