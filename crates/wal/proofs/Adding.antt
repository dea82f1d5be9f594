-- Lines that represent one change after the other.
use Rattle.std.proofs.Common.{◌≡◌, ◌≢◌, inl, inr, ℕ, zero, suc, ◌+◌, ◌<◌, List, [], ◌∷◌, ◌++◌, length, get_or, map, take, drop, true, refl, sym, ap, subst, ◌∙◌, append_assoc, append-nil, arith, take-append-drop}
use Rattle.std.specs.List.{AllByRecursion}
use Rattle.std.proofs.lemmas.Grind.{flat_map-append}
use Rattle.std.proofs.lemmas.List.{take_more}
use Rattle.pathkey.specs.Names.{Path}
use Rattle.reference.specs.Image.{Text}
use Rattle.wal.specs.declared.wal_entry.WalEntry.{WalEntry}
use Rattle.wal.specs.declared.wal_entry.WalEntry.TheVariants.{Write}
use Rattle.wal.specs.Added.{Adds, AddsAll, AddsLine, AddsParts, Fits, script}
use Rattle.wal.specs.Lines.{DumpLine, At, Makes, line}
use Rattle.wal.specs.Dump.{AreParts, HasBytes, HasFar, TellAll, Tells, exceeds_range}

-- ---- lists

all_more : {X : Type 0} (P : X → Type 0) (xs ys : List X) → AllByRecursion P xs → AllByRecursion P ys → AllByRecursion P (xs ++ ys)
all_more P [] ys h k = k
all_more P (x ∷ xs) ys h k = (h.0, all_more P xs ys h.1 k)

tell_more : (cs : List WalEntry) (c : WalEntry) (ts us : List DumpLine) → TellAll cs ts → Tells c us → TellAll (cs ++ c ∷ []) (ts ++ us)
tell_more [] c ts us none one = (us, [], ap (λ (xs : List DumpLine). xs ++ us) none ∙ sym (append-nil us), one, refl)
tell_more (d ∷ cs) c ts us (front, back, split, first, rest) one =
    (front, back ++ us, ap (λ (xs : List DumpLine). xs ++ us) split ∙ append_assoc front back us, first, tell_more cs c back us rest one)

-- ---- a change

-- one line more
added_line : (t : DumpLine) (ts : List DumpLine) (a b c : Text) → b ≡ a ++ script ts → c ≡ b ++ line t → c ≡ a ++ script (ts ++ t ∷ [])
added_line t ts a b c one two =
    two ∙ ap (λ (l : Text). l ++ line t) one ∙ append_assoc a (script ts) (line t)
    ∙ ap (λ (l : Text). a ++ l) (ap (λ (l : Text). script ts ++ l) (sym (append-nil (line t))) ∙ sym (flat_map-append line ts (t ∷ [])))

-- a change that is one line
pub adds_one : (c : WalEntry) (a b : Text) → Tells c (Makes c ∷ []) → AddsLine (Makes c) a b → Adds c a b
adds_one c a b tells one = record {
  lines = Makes c ∷ [];
  tells = tells;
  fit = (one.fits, tt);
  added = one.added ∙ ap (λ (l : Text). a ++ l) (sym (append-nil (line (Makes c))));
}

-- a change that is the line of its timestamp and its own line
pub adds_two : (c : WalEntry) (n : ℕ) (a b d : Text) → Tells c (At n ∷ Makes c ∷ []) → AddsLine (At n) a b → AddsLine (Makes c) b d → Adds c a d
adds_two c n a b d tells one two = record {
  lines = At n ∷ Makes c ∷ [];
  tells = tells;
  fit = (one.fits, (two.fits, tt));
  added = added_line (Makes c) (At n ∷ []) a b d (one.added ∙ ap (λ (l : Text). a ++ l) (sym (append-nil (line (At n))))) two.added;
}

-- a write is the line of its timestamp and the lines of its parts
pub adds_write : (p : Path) (off : ℕ) (w : List ℕ) (n : ℕ) (a b d : Text) → AddsLine (At n) a b → AddsParts p off w n b d → Adds (Write p off w n) a d
adds_write p off w n a b d one parts = record {
  lines = At n ∷ map Makes parts.writes;
  tells = (parts.writes, parts.some, refl, parts.parts, parts.filled);
  fit = (one.fits, parts.fit);
  added = parts.added ∙ ap (λ (l : Text). l ++ script (map Makes parts.writes)) one.added ∙ append_assoc a (line (At n)) (script (map Makes parts.writes));
}

-- ---- parts of a write

-- lines were added for writes of the bytes up to a position; if there are bytes, none of these writes is empty, and the rest is not
-- empty
pub record Partly (p : Path) (off : ℕ) (w : List ℕ) (at : ℕ) (from : ℕ) (rest : List ℕ) (old new : Text) : Type 0 where
  pub writes : List WalEntry
  pub others : (cs : List WalEntry) → AreParts p from rest at cs → AreParts p off w at (writes ++ cs)
  pub filled : w ≢ [] → AllByRecursion HasBytes writes
  pub left : w ≢ [] → rest ≢ []
  pub fit : AllByRecursion Fits (map Makes writes)
  pub added : new ≡ old ++ script (map Makes writes)

pub parts_none : (p : Path) (off : ℕ) (w : List ℕ) (at : ℕ) (a : Text) → Partly p off w at off w a a
parts_none p off w at a = record { writes = []; others = λ cs h. h; filled = λ some. tt; left = λ some. some; fit = tt; added = sym (append-nil a) }

not_nil : (cs : List WalEntry) (c : WalEntry) → cs ++ c ∷ [] ≢ []
not_nil [] c e = cc
not_nil (d ∷ cs) c e = cc

map_more : (cs : List WalEntry) (c : WalEntry) → map Makes (cs ++ c ∷ []) ≡ map Makes cs ++ Makes c ∷ []
map_more [] c = refl
map_more (d ∷ cs) c = ap (λ (ts : List DumpLine). Makes d ∷ ts) (map_more cs c)

-- a part of nonempty bytes is not empty
pub part_some : (rest part : List ℕ) (n : ℕ) → part ≡ take n rest → (length rest ≢ 0 → 0 < n) → rest ≢ [] → part ≢ []
part_some [] part n is some there none = there refl
part_some (x ∷ rest) part zero is some there none = let some_one : length (x ∷ rest) ≢ 0 = omega arith in let h = some some_one in absurd (omega (arith, h))
part_some (x ∷ rest) part (suc n) is some there none = let e : x ∷ take n rest ≡ [] = sym is ∙ none in cc

-- the rest is a part and the bytes after it
pub rest_cut : (rest part behind : List ℕ) (n : ℕ) → part ≡ take n rest → behind ≡ drop n rest → rest ≡ part ++ behind
rest_cut rest part behind n front back = sym (take-append-drop n rest) ∙ ap (λ (x : List ℕ). x ++ drop n rest) (sym front) ∙ ap (λ (x : List ℕ). part ++ x) (sym back)

module _ (p : Path) (off : ℕ) (w : List ℕ) (at from : ℕ) (rest part behind : List ℕ) (a b c : Text) (so_far : Partly p off w at from rest a b) (split : rest ≡ part ++ behind) (one : AddsLine (Makes (Write p from part at)) b c) (cut : rest ≢ [] → part ≢ []) where
  abbrev this : WalEntry
  this = Write p from part at

  more_fit : AllByRecursion Fits (map Makes (so_far.writes ++ this ∷ []))
  more_fit = subst (AllByRecursion Fits) (sym (map_more so_far.writes this)) (all_more Fits (map Makes so_far.writes) (Makes this ∷ []) so_far.fit (one.fits, tt))

  more_filled : w ≢ [] → AllByRecursion HasBytes (so_far.writes ++ this ∷ [])
  more_filled some = all_more HasBytes so_far.writes (this ∷ []) (so_far.filled some) (cut (so_far.left some), tt)

  more_added : c ≡ a ++ script (map Makes (so_far.writes ++ this ∷ []))
  more_added = added_line (Makes this) (map Makes so_far.writes) a b c so_far.added one.added ∙ ap (λ (ts : List DumpLine). a ++ script ts) (sym (map_more so_far.writes this))

  pub parts_more : behind ≢ [] → Partly p off w at (from + length part) behind a c
  parts_more some = record {
    writes = so_far.writes ++ this ∷ [];
    others = λ cs h. subst (AreParts p off w at) (sym (append_assoc so_far.writes (this ∷ []) cs)) (so_far.others (this ∷ cs) (part, behind, split, refl, h));
    filled = more_filled;
    left = λ there. some;
    fit = more_fit;
    added = more_added;
  }

  -- the last part
  pub parts_all : behind ≡ [] → AddsParts p off w at a c
  parts_all none = record {
    writes = so_far.writes ++ this ∷ [];
    some = not_nil so_far.writes this;
    parts = so_far.others (this ∷ []) (part, behind, split, refl, none);
    filled = more_filled;
    fit = more_fit;
    added = more_added;
  }

-- ---- changes

pub adds_none : (a : Text) → AddsAll [] a a
adds_none a = record { lines = []; tells = refl; fit = tt; added = sym (append-nil a) }

pub adds_more : (cs : List WalEntry) (c : WalEntry) (a b d : Text) → AddsAll cs a b → Adds c b d → AddsAll (cs ++ c ∷ []) a d
adds_more cs c a b d all one = record {
  lines = all.lines ++ one.lines;
  tells = tell_more cs c all.lines one.lines all.tells one.tells;
  fit = all_more Fits all.lines one.lines all.fit one.fit;
  added = one.added ∙ ap (λ (l : Text). l ++ script one.lines) all.added ∙ append_assoc a (script all.lines) (script one.lines) ∙ ap (λ (l : Text). a ++ l) (sym (flat_map-append line all.lines one.lines));
}

-- the next of a list
pub adds_next : (cs : List WalEntry) (i : ℕ) (c : WalEntry) (a b d : Text) → i < length cs → c ≡ get_or cs i c → AddsAll (take i cs) a b → Adds c b d → AddsAll (take (i + 1) cs) a d
adds_next cs i c a b d lt is all one = subst (λ (xs : List WalEntry). AddsAll xs a d) (sym (take_more cs i c lt ∙ ap (λ (x : WalEntry). take i cs ++ x ∷ []) (sym is))) (adds_more (take i cs) c a b d all one)

-- a change that ends too far
pub far_there : (cs : List WalEntry) (i : ℕ) (c : WalEntry) → i < length cs → c ≡ get_or cs i c → exceeds_range c ≡ true → HasFar cs
far_there [] i c lt e h = absurd (omega (arith, lt))
far_there (d ∷ cs) zero c lt e h = inl (subst (λ (x : WalEntry). exceeds_range x ≡ true) e h)
far_there (d ∷ cs) (suc i) c lt e h = inr (far_there cs i c (omega (arith, lt)) e h)
