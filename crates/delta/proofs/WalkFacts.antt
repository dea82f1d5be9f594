-- The lines of an image, as they are read of what is printed.
use Rattle.std.proofs.Common.{◌≡◌, ◌≢◌, ℕ, zero, suc, nat_lt, ◌+◌, ◌-◌, ◌<◌, ◌≤◌, ◌==◌, not, List, [], ◌∷◌, ◌++◌, length, take, drop, refl, sym, ap, subst, ◌∙◌, append_assoc, append-nil, arith, Bool, true, false, cond, length-append}
use Rattle.std.proofs.lemmas.Bool.{eqb-false, eqb-true, false≢true, lt-ltb}
use Rattle.std.proofs.Math.Seq.{drop-append_seam}
use Rattle.std.proofs.lemmas.List.{drop-drop, drop-take, drop_all, length-take-le}
use Rattle.images.specs.Printings.{HandsOver}
use Rattle.textio.specs.Lines.{lines_of}
use Rattle.reference.specs.Image.{Text, Second, image}
use Rattle.reference.specs.Tree.{Tree}
use Rattle.volume.specs.Volumes.{MeanRooted}
use Rattle.volume.specs.declared.fs_root.FsRoot.{FsRoot}
use Rattle.delta.specs.Deltas.{IsLine, Line}
use Rattle.delta.specs.Walks.{IsAtStart, ReadsLine, Refills, SameTree, TakesPart, Walks, left, lines_from, unread}
use Rattle.delta.specs.declared.line_cursor.LineCursor.{LineCursor}
use Rattle.delta.proofs.PatchFacts.{lines_cut, lines_whole}

-- ---- pieces

-- a piece, and what is left after it, were left before it
pub handed_on : (text : Text) (done n : ℕ) (old new : List ℕ) → HandsOver text done n old new → length new ≡ length old → drop done text ≡ take n new ++ drop (done + n) text
handed_on text done n old new h size =
    let from : drop done text ≡ take n new ++ h.back = ap (drop done) h.split ∙ subst (λ (k : ℕ). drop k (h.front ++ (take n new ++ h.back)) ≡ take n new ++ h.back) h.at (drop-append_seam h.front (take n new ++ h.back)) in
    let count : length (take n new) ≡ n = length-take-le n new (let f : n ≤ length old = h.fits in omega arith) in
    let behind : drop (done + n) text ≡ h.back =
    sym (drop-drop n done text)
    ∙ ap (drop n) from
    ∙ subst (λ (k : ℕ). drop k (take n new ++ h.back) ≡ h.back) count (drop-append_seam (take n new) h.back)
    in
    from ∙ ap (λ b. take n new ++ b) (sym behind)

-- after the last piece nothing is left
pub handed_all : (text : Text) (done n : ℕ) (old new : List ℕ) → HandsOver text done n old new → n ≡ 0 → 0 < length old → drop done text ≡ []
handed_all text done n old new h none some =
    let from : drop done text ≡ take n new ++ h.back = ap (drop done) h.split ∙ subst (λ (k : ℕ). drop k (h.front ++ (take n new ++ h.back)) ≡ take n new ++ h.back) h.at (drop-append_seam h.front (take n new ++ h.back)) in
    from ∙ ap (λ (k : ℕ). take k new ++ h.back) none ∙ h.end none some

pub is_none : (n : ℕ) → nat_lt 0 n ≡ false → n ≡ 0
is_none zero e = refl
is_none (suc n) e = absurd (false≢true (sym e ∙ lt-ltb 0 (suc n) (omega arith)))

pub some_items : (n : ℕ) (items : List ℕ) (r : Bool) → r ≡ (n == 0) → n ≡ length items → not r ≡ true → items ≢ []
some_items n items true e size h none = false≢true h
some_items n items false e size h none = eqb-false n 0 (sym e) (size ∙ ap length none)

pub no_items : (n : ℕ) (items : List ℕ) (r : Bool) → r ≡ (n == 0) → n ≡ length items → not r ≡ false → items ≡ []
no_items n [] r e size h = refl
no_items n (x ∷ items) true e size h = absurd (let z : n ≡ 0 = eqb-true n 0 (sym e) in omega arith)
no_items n (x ∷ items) false e size h = absurd (false≢true (sym h))

-- a piece was printed after all before it was read
pub refilled : (old w : LineCursor) (n k : ℕ) (had new : List ℕ) (more : Bool) → ((t : Tree) → MeanRooted old.printing.tree t → HandsOver (image Second t) old.printing.done n had new)
    → w.printing ≡ record old.printing { done = old.printing.done + n } → length new ≡ length had → w.piece.items ≡ new → w.used ≡ 0 → w.filled ≡ k → (n ≤ length new → k ≡ n)
    → w.line.items ≡ old.line.items → 0 < length had → (more ≡ false → n ≡ 0) → Refills more old w
refilled old w n k had new more hands on size items used filled whole line some end = record {
  same = ap (λ p. p.tree) on;
  line = line;
  next = next;
  end = λ t m none. next t m ∙ handed_all (image Second t) old.printing.done n had new (hands t m) (end none) some;
}
  where
    next : (t : Tree) → MeanRooted old.printing.tree t → left t w ≡ drop old.printing.done (image Second t)
    next t m =
        let h = hands t m in
        let fits : n ≤ length new = let f : n ≤ length had = h.fits in omega arith in
        let count : w.filled ≡ n = filled ∙ whole fits in
        let rest : unread w ≡ take n new = ap (λ (u : ℕ). drop u (take w.filled w.piece.items)) used ∙ ap (λ (j : ℕ). take j w.piece.items) count ∙ ap (take n) items in
        ap (λ x. x ++ drop w.printing.done (image Second t)) rest
        ∙ ap (λ p. take n new ++ drop p.done (image Second t)) on
        ∙ sym (handed_on (image Second t) old.printing.done n had new h size)

-- the text between two positions of a piece
pub between : (items : List ℕ) (used filled : ℕ) → used ≤ filled → take (filled - used) (drop used items) ≡ drop used (take filled items)
between items used filled h =
    let whole : used + (filled - used) ≡ filled = omega arith in
    sym (drop-take used (filled - used) items) ∙ ap (λ (k : ℕ). drop used (take k items)) whole

-- what is left of it after a line
pub behind_part : (items part behind : List ℕ) (used filled : ℕ) → used ≤ filled → take (filled - used) (drop used items) ≡ part ++ 10 ∷ behind → drop (used + length part + 1) (take filled items) ≡ behind
behind_part items part behind used filled h cut =
    let here : drop used (take filled items) ≡ (part ++ 10 ∷ []) ++ behind = sym (between items used filled h) ∙ cut ∙ sym (append_assoc part (10 ∷ []) behind) in
    let size : used + length part + 1 ≡ used + length (part ++ 10 ∷ []) = omega (arith, length-append part (10 ∷ [])) in
    ap (λ (k : ℕ). drop k (take filled items)) size
    ∙ sym (drop-drop (length (part ++ 10 ∷ [])) used (take filled items))
    ∙ ap (drop (length (part ++ 10 ∷ []))) here
    ∙ drop-append_seam (part ++ 10 ∷ []) behind

pub none_behind : (items : List ℕ) (filled : ℕ) → filled ≤ length items → drop filled (take filled items) ≡ []
none_behind items filled h = drop_all filled (take filled items) (let e : length (take filled items) ≡ filled = length-take-le filled items h in omega arith)

-- ---- a line

-- of what was left at a start, this line was read so far
pub record InLine (start now : LineCursor) : Type 0 where
  pub same : SameTree start now
  pub so_far : (t : Tree) → MeanRooted start.printing.tree t → left t start ≡ now.line.items ++ left t now

pub line_starts : (start : LineCursor) → start.line.items ≡ [] → InLine start start
line_starts start none = record { same = refl; so_far = λ t m. ap (λ l. l ++ left t start) (sym none) }

pub mean_now : (start now : LineCursor) (t : Tree) → SameTree start now → MeanRooted start.printing.tree t → MeanRooted now.printing.tree t
mean_now start now t same m = subst (λ (r : FsRoot). MeanRooted r t) (sym same) m

pub line_goes_on : (start now mid next : LineCursor) (more : Bool) → InLine start now → TakesPart false now mid → Refills more mid next → InLine start next
line_goes_on start now mid next more l p r =
    let tree : mid.printing.tree ≡ now.printing.tree = ap (λ q. q.tree) p.printing in
    record {
      same = r.same ∙ tree ∙ l.same;
      so_far = λ t m.
          let mean_mid : MeanRooted mid.printing.tree t = subst (λ (r : FsRoot). MeanRooted r t) (sym (tree ∙ l.same)) m in
          let next_left : left t next ≡ drop now.printing.done (image Second t) = r.next t mean_mid ∙ ap (λ q. drop q.done (image Second t)) p.printing in
          let line : next.line.items ≡ now.line.items ++ p.part = r.line ∙ p.line in
          l.so_far t m
          ∙ ap (λ u. now.line.items ++ (u ++ drop now.printing.done (image Second t))) p.cut.0
          ∙ sym (append_assoc now.line.items p.part (drop now.printing.done (image Second t)))
          ∙ ap (λ x. x ++ drop now.printing.done (image Second t)) (sym line)
          ∙ ap (λ x. next.line.items ++ x) (sym next_left);
    }

-- up to its end
pub line_ends : (start now mid w : LineCursor) → InLine start now → TakesPart true now mid → IsLine mid.line.items → w.printing ≡ mid.printing → unread w ≡ unread mid → w.line.items ≡ mid.line.items → w.there ≡ true
    → ReadsLine start w
line_ends start now mid w l p whole printing rest line there = record {
  same = ap (λ q. q.tree) (printing ∙ p.printing) ∙ l.same;
  next = λ t m.
      let behind : Text = drop now.printing.done (image Second t) in
      let left_w : left t w ≡ unread mid ++ behind = ap (λ u. u ++ drop w.printing.done (image Second t)) rest ∙ ap (λ q. unread mid ++ drop q.done (image Second t)) (printing ∙ p.printing) in
      let all : left t start ≡ mid.line.items ++ 10 ∷ (unread mid ++ behind) =
      l.so_far t m
      ∙ ap (λ u. now.line.items ++ (u ++ behind)) p.cut
      ∙ ap (λ x. now.line.items ++ x) (append_assoc p.part (10 ∷ unread mid) behind)
      ∙ sym (append_assoc now.line.items p.part (10 ∷ (unread mid ++ behind)))
      ∙ ap (λ x. x ++ 10 ∷ (unread mid ++ behind)) (sym p.line)
      in
      let from : lines_from t w ≡ w.line.items ∷ lines_of (left t w) = ap (λ b. cond b (w.line.items ∷ lines_of (left t w)) []) there in
      ap lines_of all
      ∙ lines_cut mid.line.items (unread mid ++ behind) whole
      ∙ ap (λ x. mid.line.items ∷ lines_of x) (sym left_w)
      ∙ ap (λ x. x ∷ lines_of (left t w)) (sym line)
      ∙ sym from;
}

-- or up to the end of the image
pub line_is_last : (start now mid next w : LineCursor) → InLine start now → TakesPart false now mid → Refills false mid next → IsLine next.line.items → w.printing ≡ next.printing → unread w ≡ unread next
    → w.line.items ≡ next.line.items → (w.there ≡ true → next.line.items ≢ []) → (w.there ≡ false → next.line.items ≡ []) → ReadsLine start w
line_is_last start now mid next w l p r whole printing rest line some none =
    let on = line_goes_on start now mid next false l p r in
    record {
      same = ap (λ q. q.tree) printing ∙ on.same;
      next = λ t m.
          let tree : mid.printing.tree ≡ start.printing.tree = ap (λ q. q.tree) p.printing ∙ l.same in
          let mean_mid : MeanRooted mid.printing.tree t = subst (λ (r : FsRoot). MeanRooted r t) (sym tree) m in
          let end : left t next ≡ [] = r.end t mean_mid refl in
          let left_w : left t w ≡ [] = ap (λ u. u ++ drop w.printing.done (image Second t)) rest ∙ ap (λ q. unread next ++ drop q.done (image Second t)) printing ∙ end in
          let all : left t start ≡ next.line.items = on.so_far t m ∙ ap (λ x. next.line.items ++ x) end ∙ append-nil next.line.items in
          ap lines_of all ∙ go w.there refl next.line.items refl whole t left_w;
    }
  where
    go : (b : Bool) → w.there ≡ b → (items : Line) → next.line.items ≡ items → IsLine items → (t : Tree) → left t w ≡ [] → lines_of next.line.items ≡ lines_from t w
    go true is [] e free t end = absurd (some is e)
    go true is (x ∷ items) e free t end =
        ap lines_of e ∙ lines_whole x items free ∙ ap (λ l. l ∷ []) (sym e ∙ sym line) ∙ ap (λ x. w.line.items ∷ lines_of x) (sym end)
        ∙ sym (ap (λ b. cond b (w.line.items ∷ lines_of (left t w)) []) is)
    go false is items e free t end = ap lines_of (none is) ∙ sym (ap (λ b. cond b (w.line.items ∷ lines_of (left t w)) []) is)

-- ---- lines

pub walks_none : (w : LineCursor) → Walks [] w w
walks_none w = record { same = refl; over = λ t m. refl }

pub walks_more : (ls : List Line) (l : Line) (a b c : LineCursor) → Walks ls a b → Walks (l ∷ []) b c → Walks (ls ++ l ∷ []) a c
walks_more ls l a b c f g = record {
  same = g.same ∙ f.same;
  over = λ t m. f.over t m ∙ ap (λ x. ls ++ x) (g.over t (mean_now a b t f.same m)) ∙ sym (append_assoc ls (l ∷ []) (lines_from t c));
}

pub walks_one : (a b : LineCursor) → a.there ≡ true → ReadsLine a b → Walks (a.line.items ∷ []) a b
walks_one a b there r = record {
  same = r.same;
  over = λ t m. ap (λ x. cond x (a.line.items ∷ lines_of (left t a)) []) there ∙ ap (λ ls. a.line.items ∷ ls) (r.next t m);
}

-- after the last line
pub none_left : (t : Tree) (w : LineCursor) → w.there ≡ false → lines_from t w ≡ []
none_left t w there = ap (λ x. cond x (w.line.items ∷ lines_of (left t w)) []) there

pub some_left : (t : Tree) (w : LineCursor) → w.there ≡ true → lines_from t w ≡ w.line.items ∷ lines_of (left t w)
some_left t w there = ap (λ x. cond x (w.line.items ∷ lines_of (left t w)) []) there

-- at the first line
pub at_start : (tree : FsRoot) (start w : LineCursor) → start.printing.tree ≡ tree → start.printing.done ≡ 0 → start.used ≡ 0 → start.filled ≡ 0 → ReadsLine start w → IsAtStart tree w
at_start tree start w same fresh used filled r = record {
  same = r.same ∙ same;
  all = λ t m.
      let none : unread start ≡ [] = ap (λ (k : ℕ). drop k (take start.filled start.piece.items)) used ∙ ap (λ (k : ℕ). take k start.piece.items) filled in
      let all : left t start ≡ image Second t = ap (λ u. u ++ drop start.printing.done (image Second t)) none ∙ ap (λ (k : ℕ). drop k (image Second t)) fresh in
      sym (r.next t (subst (λ (x : FsRoot). MeanRooted x t) (sym same) m)) ∙ ap lines_of all;
}

-- a line is read, and the line of its entry is recorded after it
pub read_noted : (start cleared mid w : LineCursor) → cleared.printing ≡ start.printing → unread cleared ≡ unread start → ReadsLine cleared mid → ((t : Tree) → lines_from t w ≡ lines_from t mid) → SameTree mid w → ReadsLine start w
read_noted start cleared mid w printing rest r lines same = record {
  same = same ∙ r.same ∙ ap (λ q. q.tree) printing;
  next = λ t m.
      let here : left t cleared ≡ left t start = ap (λ u. u ++ drop cleared.printing.done (image Second t)) rest ∙ ap (λ q. unread start ++ drop q.done (image Second t)) printing in
      ap lines_of (sym here) ∙ r.next t (subst (λ (x : FsRoot). MeanRooted x t) (sym (ap (λ q. q.tree) printing)) m) ∙ sym (lines t);
}

-- fewer lines are left than so many
pub ended_short : (gone : List Line) (t : Tree) (a b : LineCursor) (counter count : ℕ) → Walks gone a b → length gone ≡ counter → b.there ≡ false → MeanRooted a.printing.tree t → counter < count → length (lines_from t a) < count
ended_short gone t a b counter count f size there m few =
    let all : length (lines_from t a) ≡ length gone = ap length (f.over t m ∙ ap (λ x. gone ++ x) (none_left t b there) ∙ append-nil gone) in
    omega arith
