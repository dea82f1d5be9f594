-- A write in two parts.
use Rattle.std.proofs.Common.{◌≡◌, ℕ, ◌+◌, ◌-◌, ◌<◌, ◌≤◌, nat_lt, List, [], ◌∷◌, ◌++◌, length, get_or, Bool, true, false, cond, not, ◌&&◌, refl, sym, ap, subst, ◌∙◌, append-nil, length-append, arith, Option, Some, None, option_map, ⊎_elim}
use Rattle.std.specs.declared.cmp.Ordering.{Ordering}
use Rattle.std.specs.declared.cmp.Ordering.TheVariants.{Less, Equal, Greater}
use Rattle.std.proofs.lemmas.Bool.{cases_lt, le-ltb, ltb-false}
use Rattle.std.proofs.lemmas.List.{ext_get_or, get_or-append_right, get_or_append_left}
use Rattle.pathkey.specs.Names.{Name, Path}
use Rattle.pathkey.specs.Order.{by_bytes}
use Rattle.pathkey.proofs.OrderFacts.{tied}
use Rattle.reference.specs.Calls.{Outcome, changed, does, faults_of_file, greatest_file, is_empty, unless, when, bytes_of}
use Rattle.reference.specs.Tree.{Tree, Dir, File, Entries, nothing, entry, At, Found, Missing, Blocked, by_order, edited, entry_at, named, onward, found, over, put, set_entry, with_entry}
use Rattle.reference.specs.declared.call.Call.TheVariants.{Write}
use Rattle.reference.specs.declared.reply.Reply.{Reply}
use Rattle.reference.specs.declared.reply.Reply.TheVariants.{Count}
use Rattle.pathkey.specs.declared.errno.Errno.TheVariants.{EFBIG, EISDIR}
use Rattle.reference.specs.Shape.{IsTree}
use Rattle.wal.specs.Laws.{SplitLaw}
use Rattle.reference.proofs.Contents.{length-over}
use Rattle.reference.proofs.Edits.{fold-Blocked, fold-Missing, named-set_same}
use Rattle.reference.proofs.FileBlocks.{over_after, over_before, over_inside}
use Rattle.std.specs.Prelude.{fold}

-- ---- an entry that is put twice

put_twice : (n : Name) (x y : Tree) (es : Entries) → put n y (put n x es) ≡ put n y es
put_twice n x y nothing = ap (λ (o : Ordering). by_order o (entry n y (entry n x nothing)) (entry n y nothing) (entry n x (entry n y nothing))) (tied n)
put_twice n x y (entry m z rest) = elim (by_bytes n m) as (λ o. by_bytes n m ≡ o → put n y (by_order o (entry n x (entry m z rest)) (entry n x rest) (entry m z (put n x rest))) ≡ by_order o (entry n y (entry m z rest)) (entry n y rest) (entry m z (put n y rest))) [
  | Less ↦ λ e. ap (λ (o : Ordering). by_order o (entry n y (entry n x (entry m z rest))) (entry n y (entry m z rest)) (entry n x (put n y (entry m z rest)))) (tied n)
  | Equal ↦ λ e. ap (λ (o : Ordering). by_order o (entry n y (entry n x rest)) (entry n y rest) (entry n x (put n y rest))) (tied n)
  | Greater ↦ λ e. ap (λ (o : Ordering). by_order o (entry n y (entry m z (put n x rest))) (entry n y (put n x rest)) (entry m z (put n y (put n x rest)))) e ∙ ap (λ (es : Entries). entry m z es) (put_twice n x y rest)
] refl

missing_stands : (p : Path) (z : Tree) → fold onward Missing p ≡ Found z → ⊥
missing_stands p z e = let clash : Missing ≡ Found z = sym (fold-Missing p) ∙ e in cc

blocked_stands : (p : Path) (z : Tree) → fold onward Blocked p ≡ Found z → ⊥
blocked_stands p z e = let clash : Blocked ≡ Found z = sym (fold-Blocked p) ∙ e in cc

-- putting a subtree at an existing path succeeds, and a second put replaces the first
pub put_there : (t : Tree) (n : Name) (p : Path) (x y z : Tree) → entry_at t (n ∷ p) ≡ Found z
    → (entry_at (edited t (n ∷ p) (Some x)) (n ∷ p) ≡ Found x) × (edited (edited t (n ∷ p) (Some x)) (n ∷ p) (Some y) ≡ edited t (n ∷ p) (Some y))
put_there (File date b) n p x y z e = absurd (blocked_stands p z e)
put_there (Dir date es) n [] x y z e = (ap found (named-set_same n (Some x) es), ap (Dir date) (put_twice n x y es))
put_there (Dir date es) n (m ∷ p) x y z e = elim (named n es) as (λ c. named n es ≡ c → fold onward (found c) (m ∷ p) ≡ Found z
    → (fold onward (found (named n (set_entry n (option_map (λ u. edited u (m ∷ p) (Some x)) c) es))) (m ∷ p) ≡ Found x)
    × (Dir date (set_entry n (option_map (λ u. edited u (m ∷ p) (Some y)) (named n (set_entry n (option_map (λ u. edited u (m ∷ p) (Some x)) c) es))) (set_entry n (option_map (λ u. edited u (m ∷ p) (Some x)) c) es)) ≡ Dir date (set_entry n (option_map (λ u. edited u (m ∷ p) (Some y)) c) es))) [
      | None ↦ λ same there. absurd (missing_stands (m ∷ p) z there)
      | Some u ↦ λ same there.
          let ih = put_there u m p x y z there in
          let v : Tree = edited u (m ∷ p) (Some x) in
          let one : named n (put n v es) ≡ Some v = named-set_same n (Some v) es in (
            ap (λ (o : Option Tree). fold onward (found o) (m ∷ p)) one ∙ ih.0,
            ap (λ (o : Option Tree). Dir date (set_entry n (option_map (λ w. edited w (m ∷ p) (Some y)) o) (put n v es))) one
                ∙ ap (λ (w : Tree). Dir date (put n w (put n v es))) ih.1
                ∙ ap (Dir date) (put_twice n v (edited u (m ∷ p) (Some y)) es),
          )
    ] refl e

-- ---- bytes that are written in two parts

over_join : (b : List ℕ) (off : ℕ) (x y : List ℕ) → over (over b off x) (off + length x) y ≡ over b off (x ++ y)
over_join b off x y =
    let c : List ℕ = over b off x in
    let l1 = length-over b off x in
    let l2 = length-over c (off + length x) y in
    let l3 = length-over b off (x ++ y) in
    let l4 = length-append x y in
    ext_get_or 0 (over c (off + length x) y) (over b off (x ++ y)) (omega (arith, l1, l2, l3, l4)) (λ i lt. ⊎_elim
    (λ (before : i < off). over_before c (off + length x) y i (omega (arith, before)) ∙ over_before b off x i before ∙ sym (over_before b off (x ++ y) i before))
    (λ (at : off ≤ i). ⊎_elim
    (λ (first : i < off + length x).
    over_before c (off + length x) y i first ∙ over_inside b off x i at first
    ∙ sym (over_inside b off (x ++ y) i at (omega (arith, first, l4)) ∙ get_or_append_left x y 0 (i - off) (omega (arith, at, first))))
    (λ (past : off + length x ≤ i). ⊎_elim
    (λ (second : i < off + length x + length y).
    over_inside c (off + length x) y i past second
    ∙ ap (λ (k : ℕ). get_or y k 0) (let k : i - (off + length x) ≡ i - off - length x = omega arith in k)
    ∙ sym (over_inside b off (x ++ y) i at (omega (arith, second, l4)) ∙ get_or-append_right x y (length x) (i - off) 0 refl (omega (arith, past, at))))
    (λ (behind : off + length x + length y ≤ i).
    over_after c (off + length x) y i behind ∙ over_after b off x i past ∙ sym (over_after b off (x ++ y) i (omega (arith, behind, l4))))
    (cases_lt i (off + length x + length y)))
    (cases_lt i (off + length x)))
    (cases_lt i off))

-- ---- what a write does to a file

-- the bytes end after the maximal length of a file
abbrev too_far : ℕ → List ℕ → Bool
too_far off w = not (is_empty w) && nat_lt greatest_file (off + length w)

far_end : (off : ℕ) (w : List ℕ) → too_far off w ≡ false → 0 < length w → off + length w ≤ greatest_file
far_end off [] h some = absurd (omega (arith, some))
far_end off (c ∷ w) h some = ltb-false _ _ h

near_end : (off : ℕ) (w : List ℕ) → (0 < length w → off + length w ≤ greatest_file) → too_far off w ≡ false
near_end off [] h = refl
near_end off (c ∷ w) h = le-ltb _ _ (h (omega arith))

abbrev encoded : ℕ → Tree → Path → ℕ → List ℕ → List ℕ → Outcome
encoded at t p off b w = cond (is_empty w) (t, Count 0) (with_entry t p (File at (over b off w)), Count (length w))

-- the outcome of a write over what is at the path
abbrev made : ℕ → Tree → Path → ℕ → List ℕ → At → Outcome
made at t p off w a = unless t (faults_of_file a EISDIR ++ when (too_far off w) EFBIG ∷ []) (encoded at t p off (bytes_of a) w)

does_write : (at : ℕ) (t : Tree) (p : Path) (off : ℕ) (w : List ℕ) → does at t (Write p off w) ≡ made at t p off w (entry_at t p)
unfolding does changed
does_write at t p off w = refl

record IsDone (t : Tree) (p : Path) (off : ℕ) (w : List ℕ) : Type 0 where
  date : ℕ
  bytes : List ℕ
  there : entry_at t p ≡ Found (File date bytes)
  near : too_far off w ≡ false

is_done : (at : ℕ) (t : Tree) (p : Path) (off : ℕ) (w : List ℕ) (n : ℕ) (a : At) → entry_at t p ≡ a → (made at t p off w a).1 ≡ Count n → IsDone t p off w
is_done at t p off w n (Found (File date b)) there done = record {
  date = date;
  bytes = b;
  there = there;
  near = elim (too_far off w) as (λ c. too_far off w ≡ c → (unless t (when c EFBIG ∷ []) (encoded at t p off b w)).1 ≡ Count n → too_far off w ≡ false) [
    | true ↦ λ e h. absurd (cc)
    | false ↦ λ e h. e
  ] refl done;
}
is_done at t p off w n (Found (Dir date es)) there done = absurd (cc)
is_done at t p off w n Missing there done = absurd (cc)
is_done at t p off w n Blocked there done = absurd (cc)

write_done : (at : ℕ) (t : Tree) (p : Path) (off : ℕ) (w : List ℕ) (date : ℕ) (b : List ℕ) → entry_at t p ≡ Found (File date b) → too_far off w ≡ false → does at t (Write p off w) ≡ encoded at t p off b w
write_done at t p off w date b there near =
    does_write at t p off w ∙ ap (made at t p off w) there ∙ ap (λ (c : Bool). unless t (when c EFBIG ∷ []) (encoded at t p off b w)) near

-- ---- in two parts

file_root : (t : Tree) (date : ℕ) (b : List ℕ) → IsTree t → Found t ≡ Found (File date b) → ⊥
file_root t date b is e = let one : t ≡ File date b = cc in (subst IsTree one is).root

-- a write of both parts has the effect of two writes, of which the second begins where the first ends
abbrev InTwo : ℕ → Tree → Path → ℕ → List ℕ → List ℕ → Type 0
InTwo at t p off x y = ((does at t (Write p off x)).1 ≡ Count (length x)) × (does at (does at t (Write p off x)).0 (Write p (off + length x) y) ≡ ((does at t (Write p off (x ++ y))).0, Count (length y)))

-- the first part is empty
first_empty : (at : ℕ) (t : Tree) (p : Path) (off : ℕ) (y : List ℕ) (date : ℕ) (b : List ℕ) → entry_at t p ≡ Found (File date b) → (does at t (Write p off y)).1 ≡ Count (length y) → InTwo at t p off [] y
first_empty at t p off y date b there done =
    let front : does at t (Write p off []) ≡ (t, Count 0) = write_done at t p off [] date b there refl in (
      ap (λ (o : Outcome). o.1) front,
      ap (λ (o : Outcome). does at o.0 (Write p (off + 0) y)) front
          ∙ ap (λ (k : ℕ). does at t (Write p k y)) (let e : off + 0 ≡ off = omega arith in e)
          ∙ ap (λ (r : Reply). let o : Outcome = ((does at t (Write p off y)).0, r) in o) done,
    )

module _ (at : ℕ) (t : Tree) (n : Name) (q : Path) (off : ℕ) (a : ℕ) (xs : List ℕ) (date : ℕ) (b : List ℕ) (there : entry_at t (n ∷ q) ≡ Found (File date b)) where
  abbrev p : Path
  p = n ∷ q

  abbrev x : List ℕ
  x = a ∷ xs

  abbrev between : Tree
  between = edited t p (Some (File at (over b off x)))

  -- the outcome of the second write
  abbrev second : List ℕ → Outcome
  second y = encoded at between p (off + length x) (over b off x) y

  same_end : (y : List ℕ) → second y ≡ (with_entry t p (File at (over b off (x ++ y))), Count (length y))
  same_end [] = ap (λ (w : List ℕ). let o : Outcome = (with_entry t p (File at (over b off w)), Count 0) in o) (sym (append-nil x))
  same_end (c ∷ y) =
      let twice = (put_there t n q (File at (over b off x)) (File at (over (over b off x) (off + length x) (c ∷ y))) (File date b) there).1 in
      ap (λ (u : Tree). let o : Outcome = (u, Count (length (c ∷ y))) in o) (twice ∙ ap (λ (w : List ℕ). with_entry t p (File at w)) (over_join b off x (c ∷ y)))

  first_some : (y : List ℕ) → too_far off x ≡ false → too_far (off + length x) y ≡ false → too_far off (x ++ y) ≡ false → InTwo at t p off x y
  first_some y near_x near_y near =
      let front : does at t (Write p off x) ≡ (between, Count (length x)) = write_done at t p off x date b there near_x in
      let all : does at t (Write p off (x ++ y)) ≡ (with_entry t p (File at (over b off (x ++ y))), Count (length (x ++ y))) = write_done at t p off (x ++ y) date b there near in
      let stands = (put_there t n q (File at (over b off x)) (File at []) (File date b) there).0 in (
        ap (λ (o : Outcome). o.1) front,
        ap (λ (o : Outcome). does at o.0 (Write p (off + length x) y)) front
            ∙ write_done at between p (off + length x) y at (over b off x) stands near_y
            ∙ same_end y
            ∙ ap (λ (o : Outcome). let r : Outcome = (o.0, Count (length y)) in r) (sym all),
      )

in_two : (at : ℕ) (t : Tree) (p : Path) (off : ℕ) (x y : List ℕ) → IsTree t → IsDone t p off (x ++ y) → (does at t (Write p off (x ++ y))).1 ≡ Count (length (x ++ y)) → InTwo at t p off x y
in_two at t p off [] y is d done = first_empty at t p off y d.date d.bytes d.there done
in_two at t [] off (a ∷ xs) y is d done = absurd (file_root t d.date d.bytes is d.there)
in_two at t (n ∷ q) off (a ∷ xs) y is d done =
    let l = length-append (a ∷ xs) y in
    let end = far_end off ((a ∷ xs) ++ y) d.near (omega (arith, l)) in
    first_some at t n q off a xs d.date d.bytes d.there y (near_end off (a ∷ xs) (λ some. omega (arith, l, end))) (near_end (off + length (a ∷ xs)) y (λ some. omega (arith, l, end))) d.near

pub split_law : SplitLaw
split_law at t p off x y is done = in_two at t p off x y is (is_done at t p off (x ++ y) (length (x ++ y)) (entry_at t p) refl (sym (ap (λ (o : Outcome). o.1) (does_write at t p off (x ++ y))) ∙ done)) done
