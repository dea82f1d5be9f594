-- An image that is printed line by line, and handed out in parts.
use Rattle.std.proofs.Common.{◌≡◌, inr, ℕ, ◌+◌, ◌<◌, ◌≤◌, List, [], ◌++◌, length, take, drop, codes, decimal, refl, sym, ap, subst, ◌∙◌, append_assoc, append-nil, arith, Option, Result, Ok, Err, IfOk, OnErr}
use Rattle.std.specs.Io.KnownBytes.{Appends}
use Rattle.std.proofs.KnownBytes.{Appends-trans}
use Rattle.std.proofs.Math.Seq.{drop-drop, drop-nil}
use Rattle.std.proofs.lemmas.List.{drop_all, length-append, length-drop, length-take-le, take-append-drop}
use Rattle.textio.proofs.Known.{part_after, part_before}
use Rattle.textio.specs.Parts.{AppendsPart}
use Rattle.textio.specs.Texts.{number_line}
use Rattle.pathkey.specs.Keys.{next_key}
use Rattle.reference.specs.Image.{Text, Second, image}
use Rattle.reference.specs.Shape.{IsTree}
use Rattle.reference.specs.Indexes.{meta_of}
use Rattle.reference.specs.Reads.{sight}
use Rattle.reference.specs.Tree.{Path, Tree, Dir, File, moment}
use Rattle.images.specs.Image.{AppendsLines, EndsLine, image_from}
use Rattle.images.specs.Printings.{HandsOut, HandsOver, IsReady, PPrinting, ready_text}
use Rattle.images.specs.Spots.{IsAhead, IsAt, Passes, left_at}
use Rattle.images.specs.declared.ready.PrintedLines.{PrintedLines}
use Rattle.images.specs.declared.spot.PrintPosition.{PrintPosition}
use Rattle.images.proofs.ImageEntries.{image_starts, reported_of}
use Rattle.images.proofs.WholeLines.{ends_after}
use Rattle.volume.specs.Volumes.{MeanRooted}
use Rattle.volume.specs.declared.fs_root.FsRoot.{FsRoot}

-- ---- after the root

abbrev pub IsBehindRoot : PrintPosition → Type 0
IsBehindRoot s = (s.last ≡ []) × (s.from ≡ 0)

is_root : (s : PrintPosition) → IsBehindRoot s → s ≡ record { last = []; from = 0 }
is_root s b = λ i. record { last = b.0 i; from = b.1 i }

left_of_root : (t : Tree) → IsTree t → left_at t (record { last = []; from = 0 }) ≡ image_from (next_key []) t
left_of_root (Dir date es) is = refl
left_of_root (File date b) is = absurd is.root

root_left : (t : Tree) (s : PrintPosition) → IsTree t → IsBehindRoot s → left_at t s ≡ image_from (next_key []) t
root_left t s is behind = ap (left_at t) (is_root s behind) ∙ left_of_root t is

-- the line of the root, and the lines after it
pub root_starts : (t : Tree) (s : PrintPosition) (date : ℕ) → IsTree t → moment t ≡ date → IsBehindRoot s → image Second t ≡ number_line (codes "D / ") date ++ left_at t s
root_starts t s date is same behind = image_starts t date is same ∙ ap (λ (l : Text). number_line (codes "D / ") date ++ l) (sym (root_left t s is behind))

pub at_root : (t : Tree) (s : PrintPosition) → IsBehindRoot s → IsAt t s
at_root t s behind = let reported = reported_of t in (reported.0, ap (λ (p : Path). meta_of (sight t p)) behind.0 ∙ reported.1)

-- ---- to a writer

-- of the image, all is written up to a place
abbrev pub PrintedTo : Option (List ℕ) → Option (List ℕ) → Tree → PrintPosition → Type 0
PrintedTo a c t s = (done : Text) × (image Second t ≡ done ++ left_at t s) × Appends a c done × IsAt t s × EndsLine done

-- the root's line
pub printed_root : (a c : Option (List ℕ)) (t : Tree) (s : PrintPosition) (date : ℕ) → IsTree t → moment t ≡ date → IsBehindRoot s → Appends a c (number_line (codes "D / ") date) → PrintedTo a c t s
printed_root a c t s date is same behind w =
    (number_line (codes "D / ") date, root_starts t s date is same behind, w, at_root t s behind, inr (codes "D / " ++ decimal date, refl))

-- the root's line is the first
pub root_part : (a c : Option (List ℕ)) (t : Tree) (s : PrintPosition) (date : ℕ) → IsTree t → moment t ≡ date → IsBehindRoot s → AppendsPart a c (number_line (codes "D / ") date) → AppendsPart a c (image Second t)
root_part a c t s date is same behind part = subst (AppendsPart a c) (sym (root_starts t s date is same behind)) (part_before a c (number_line (codes "D / ") date) (left_at t s) part)

-- what is printed is whole lines of a beginning
pub printed_lines : (a c : Option (List ℕ)) (t : Tree) (s : PrintPosition) → PrintedTo a c t s → AppendsLines a c (image Second t)
printed_lines a c t s (done, split, w, at, ends) = (done, left_at t s, split, w, ends)

pub printed_part : (a c : Option (List ℕ)) (t : Tree) (s : PrintPosition) → PrintedTo a c t s → AppendsPart a c (image Second t)
printed_part a c t s (done, split, w, at, ends) = (done, left_at t s, split, w)

module _ (a b c : Option (List ℕ)) (t : Tree) (s new : PrintPosition) (text : Text) (so_far : PrintedTo a b t s) (on : Passes t s [] new text) where
  lines_are : on.lines ≡ text
  lines_are = sym on.added

  split : image Second t ≡ so_far.0 ++ (text ++ left_at t new)
  split = so_far.1 ∙ ap (λ (l : Text). so_far.0 ++ l) (on.left ∙ ap (λ (l : Text). l ++ left_at t new) lines_are)

  -- the next lines
  pub printed_more : Appends b c text → PrintedTo a c t new
  printed_more w = (
    so_far.0 ++ text,
    split ∙ sym (append_assoc so_far.0 text (left_at t new)),
    Appends-trans a b c so_far.0 text so_far.2 w,
    on.at,
    ends_after so_far.0 text so_far.4 (subst EndsLine lines_are on.whole),
  )

  -- a beginning of them
  pub printed_more_part : AppendsPart b c text → AppendsPart a c (image Second t)
  printed_more_part part = subst (AppendsPart a c) (sym split) (part_after a b c so_far.0 (text ++ left_at t new) so_far.2 (part_before b c text (left_at t new) part))

-- if no line is left
pub printed_all : (a c : Option (List ℕ)) (t : Tree) (s : PrintPosition) → left_at t s ≡ [] → PrintedTo a c t s → Appends a c (image Second t)
printed_all a c t s none (done, split, w, at, ends) = subst (Appends a c) (sym (split ∙ ap (λ (l : Text). done ++ l) none ∙ append-nil done)) w

-- ---- ahead

-- the root's line is ready
pub ready_root : (i : FsRoot) (r : PrintedLines) → r.done ≡ 0 → r.used ≡ 0 → r.text.items ≡ number_line (codes "D / ") i.modified → IsBehindRoot r.spot → ((t : Tree) (last : Path) → IsAhead t last r.ahead) → IsReady i r
ready_root i r done used text behind ahead = record {
  fits = omega (arith, used);
  for_tree = λ t mean. record {
    front = [];
    count = sym done;
    split = root_starts t r.spot i.modified mean.indexes.tree mean.root behind ∙ ap (λ (l : Text). l ++ left_at t r.spot) (sym text ∙ ap (λ (n : ℕ). drop n r.text.items) (sym used));
    at = at_root t r.spot behind;
    ahead = ahead t r.spot.last;
  };
}

-- all that was ready was handed out
pub ready_none : (i : FsRoot) (r s : PrintedLines) → length r.text.items ≤ r.used → IsReady i r → s.text.items ≡ [] → s.used ≡ 0 → s.spot ≡ r.spot → s.done ≡ r.done → ((t : Tree) (last : Path) → IsAhead t last s.ahead) → IsReady i s
ready_none i r s all is text used spot done ahead = record {
  fits = omega (arith, used);
  for_tree = λ t mean.
      let was = is.for_tree t mean in
      let nothing : ready_text r ≡ [] = drop_all r.used r.text.items all in
      record {
        front = was.front;
        count = was.count ∙ sym done;
        split = was.split ∙ ap (λ (l : Text). was.front ++ (l ++ left_at t r.spot)) (nothing ∙ sym (ap (drop s.used) text ∙ ap (λ (n : ℕ). drop n []) used))
            ∙ ap (λ (p : PrintPosition). was.front ++ (ready_text s ++ left_at t p)) (sym spot);
        at = subst (IsAt t) (sym spot) was.at;
        ahead = ahead t s.spot.last;
      };
}

-- more lines are ready
pub ready_more : (i : FsRoot) (r s : PrintedLines) → length r.text.items ≤ r.used → IsReady i r → s.used ≡ 0 → s.done ≡ r.done
    → ((t : Tree) → MeanRooted i t → IsAt t r.spot → IsAhead t r.spot.last r.ahead → Passes t r.spot [] s.spot s.text.items)
    → ((t : Tree) → MeanRooted i t → IsAt t r.spot → IsAhead t r.spot.last r.ahead → IsAhead t s.spot.last s.ahead) → IsReady i s
ready_more i r s all is used done passes ahead = record {
  fits = omega (arith, used);
  for_tree = λ t mean.
      let was = is.for_tree t mean in
      let on = passes t mean was.at was.ahead in
      let nothing : ready_text r ≡ [] = drop_all r.used r.text.items all in
      record {
        front = was.front;
        count = was.count ∙ sym done;
        split = was.split ∙ ap (λ (l : Text). was.front ++ (l ++ left_at t r.spot)) nothing
            ∙ ap (λ (l : Text). was.front ++ l) (on.left ∙ ap (λ (l : Text). l ++ left_at t s.spot) (sym on.added ∙ ap (λ (n : ℕ). drop n s.text.items) (sym used)));
        at = on.at;
        ahead = ahead t mean was.at was.ahead;
      };
}

-- ---- handed out

-- so many more bytes of what is ready were handed out
pub ready_less : (i : FsRoot) (r : PrintedLines) (n : ℕ) (old new : List ℕ) → IsReady i r → HandsOut n r old new → IsReady i (record r { used = r.used + n; done = r.done + n })
ready_less i r n old new is out = record {
  fits = let l = length-drop r.used r.text.items in omega (arith, l, out.ready, is.fits);
  for_tree = λ t mean.
      let was = is.for_tree t mean in
      record {
        front = was.front ++ take n (ready_text r);
        count = length-append was.front (take n (ready_text r)) ∙ ap (λ (k : ℕ). k + length (take n (ready_text r))) was.count ∙ ap (λ (k : ℕ). r.done + k) (length-take-le n (ready_text r) out.ready);
        split = was.split
            ∙ ap (λ (l : Text). was.front ++ (l ++ left_at t r.spot)) (sym (take-append-drop n (ready_text r)))
            ∙ ap (λ (l : Text). was.front ++ l) (append_assoc (take n (ready_text r)) (drop n (ready_text r)) (left_at t r.spot))
            ∙ sym (append_assoc was.front (take n (ready_text r)) (drop n (ready_text r) ++ left_at t r.spot))
            ∙ ap (λ (l : Text). (was.front ++ take n (ready_text r)) ++ (l ++ left_at t r.spot)) (drop-drop n r.used r.text.items);
        at = was.at;
        ahead = was.ahead;
      };
}

-- they are the next of the image
pub hands_over : (i : FsRoot) (t : Tree) (r : PrintedLines) (n : ℕ) (old new : List ℕ) → IsReady i r → MeanRooted i t → (ready_text r ≡ [] → left_at t r.spot ≡ []) → HandsOut n r old new → HandsOver (image Second t) r.done n old new
hands_over i t r n old new is mean filled out =
    let was = is.for_tree t mean in
    record {
      front = was.front;
      back = drop n (ready_text r) ++ left_at t r.spot;
      split = was.split
          ∙ ap (λ (l : Text). was.front ++ (l ++ left_at t r.spot)) (sym (take-append-drop n (ready_text r)))
          ∙ ap (λ (l : Text). was.front ++ l) (append_assoc (take n (ready_text r)) (drop n (ready_text r)) (left_at t r.spot))
          ∙ ap (λ (l : Text). was.front ++ (l ++ (drop n (ready_text r) ++ left_at t r.spot))) (sym out.front);
      at = was.count;
      fits = out.fits;
      rest = out.rest;
      end = λ none some.
          let empty = out.some none some in
          ap (λ (l : Text). drop n l ++ left_at t r.spot) empty ∙ ap (λ (l : Text). l ++ left_at t r.spot) (drop-nil n) ∙ filled empty;
    }

-- ---- the next piece

-- the lines that are ready after it, whatever the result
pub ready_after : {E : Type 0} (i : FsRoot) (r s : PrintedLines) (reported : Result ℕ E) (old new : List ℕ) → IsReady i r → IfOk reported (λ n. HandsOut n r old new)
    → IfOk reported (λ n. s ≡ record r { used = r.used + n; done = r.done + n }) → OnErr reported ((s ≡ r) × (new ≡ old)) → IsReady i s
ready_after i r s (Ok n) old new is out on refused = subst (IsReady i) (sym on) (ready_less i r n old new is out)
ready_after i r s (Err e) old new is out on refused = subst (IsReady i) (sym refused.0) is

-- and what was handed over
pub next_piece : {E : Type 0} (p : PPrinting) (i : FsRoot) (r : PrintedLines) (reported : Result ℕ E) (old new : List ℕ) → p.tree ≡ i → p.done ≡ r.done → IsReady i r
    → ((t : Tree) → MeanRooted i t → ready_text r ≡ [] → left_at t r.spot ≡ []) → IfOk reported (λ n. HandsOut n r old new)
    → IfOk reported (λ n. (t : Tree) → MeanRooted p.tree t → HandsOver (image Second t) p.done n old new)
next_piece p i r (Ok n) old new tree done is filled out = λ t mean.
    let here = subst (λ (j : FsRoot). MeanRooted j t) tree mean in
    subst (λ (d : ℕ). HandsOver (image Second t) d n old new) (sym done) (hands_over i t r n old new is here (filled t here) out)
next_piece p i r (Err e) old new tree done is filled out = tt

-- ---- more lines

-- if lines are ready
pub still_ready : (i : FsRoot) (r : PrintedLines) → r.used < length r.text.items → (t : Tree) → MeanRooted i t → ready_text r ≡ [] → left_at t r.spot ≡ []
still_ready i r some t mean none =
    let l = length-drop r.used r.text.items in
    let z : length (ready_text r) ≡ 0 = ap length none in
    absurd (omega (arith, l, z, some))

-- if there was no line
pub none_came : (i : FsRoot) (r s : PrintedLines) → IsReady i r → s.used ≡ 0 → ((t : Tree) → MeanRooted i t → IsAt t r.spot → IsAhead t r.spot.last r.ahead → length s.text.items < 65536 → left_at t s.spot ≡ [])
    → (t : Tree) → MeanRooted i t → ready_text s ≡ [] → left_at t s.spot ≡ []
none_came i r s is used rest t mean none =
    let was = is.for_tree t mean in
    let text : s.text.items ≡ [] = sym (ap (λ (n : ℕ). drop n s.text.items) used) ∙ none in
    let z : length s.text.items ≡ 0 = ap length text in
    rest t mean was.at was.ahead (omega (arith, z))
