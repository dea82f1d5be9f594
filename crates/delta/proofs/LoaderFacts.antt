-- What a loader takes of the lines that commands make.
use Rattle.std.proofs.Common.{◌≡◌, ◌≢◌, ℕ, List, [], ◌∷◌, ◌++◌, length, refl, sym, ap, subst, ◌∙◌, append_assoc, Bool, true, false, Some, Err}
use Rattle.std.specs.Bool.{Decides}
use Rattle.std.specs.Prelude.{bytes_eq}
use Rattle.std.proofs.lemmas.Bool.{false≢true}
use Rattle.std.proofs.lemmas.Slice.Eq.{bytes_eq-Decides}
use Rattle.images.specs.Loads.{Loaded, alone}
use Rattle.images.specs.Taken.{LoadedIn, Took, TookBy, answer_of}
use Rattle.images.specs.declared.load.LoadFault.TheVariants.{Bad}
use Rattle.images.specs.declared.loader.FeedOutcome.{FeedOutcome}
use Rattle.images.specs.declared.loader.FeedOutcome.TheVariants.{Open, Starved, Spoiled}
use Rattle.images.specs.declared.loader.ImageLoader.{ImageLoader}
use Rattle.textio.specs.Lines.{lines_of}
use Rattle.node.specs.declared.shape.Shape.{Shape}
use Rattle.reference.specs.Image.{Text, Version, Second, as_reported, image, root_line}
use Rattle.reference.specs.ImageLines.{IsBadAt as IsBadImageAt, IsImage, Lines, image_of_lines, spelled as spelled_line}
use Rattle.reference.specs.Shape.{IsTree}
use Rattle.reference.specs.Tree.{Tree}
use Rattle.reference.proofs.LinesRead.{one_version}
use Rattle.reference.proofs.OneImage.{one_image, reported_law}
use Rattle.reference.proofs.TreeLines.{image_law}
use Rattle.sha2.specs.Sha256.{sha256}
use Rattle.volume.specs.Volumes.{MeanRooted, Means, PVolume}
use Rattle.volume.specs.declared.fs_root.FsRoot.{FsRoot}
use Rattle.delta.specs.Applies.{Applied, DoesAll, DoesCommand, IsOfOther, IsOfTree, LoadsPatched, PatchesNone, RoundTripLaw, SpoilsImage}
use Rattle.delta.specs.Deltas.{Command, Go, IsDelta, Line, Stay, patched, text_of}
use Rattle.delta.specs.Patching.{Does, IsSpoilt, MakesNoImage}
use Rattle.delta.specs.Texts.{ReadsDelta, TellsAll}
use Rattle.delta.specs.Walks.{IsAtStart, lines_from}
use Rattle.delta.specs.declared.line_cursor.LineCursor.{LineCursor}
use Rattle.delta.proofs.PatchFacts.{text_of_lines}
use Rattle.delta.proofs.PatchingFacts.{does_go, does_stay, makes_one}
use Rattle.textio.proofs.LineFacts.{text_append}

-- ---- what is spoilt

pub spoils : (s : Shape) (text : Text) (l : ImageLoader) (n : ℕ) → answer_of l.intake ≡ Err (Bad n) → Took s text l → IsSpoilt text
spoils s text l n = go l.intake
  where
    go : (i : FeedOutcome) → answer_of i ≡ Err (Bad n) → TookBy i s text l → IsSpoilt text
    go Open e took = absurd (cc)
    go Starved e took = absurd (cc)
    go (Spoiled m) e took = (m, took)

pub spoilt_more : (x y : Text) → IsSpoilt x → IsSpoilt (x ++ y)
spoilt_more x y (n, bad) = (n, λ rest. subst (IsBadImageAt n) (sym (append_assoc x y rest)) (bad (y ++ rest)))

pub spoilt_line : (text line : Text) → IsSpoilt (text ++ line) → IsSpoilt (text ++ (line ++ 10 ∷ []))
spoilt_line text line bad = subst IsSpoilt (append_assoc text line (10 ∷ [])) (spoilt_more (text ++ line) (10 ∷ []) bad)

pub spoilt_whole : (text line : Text) → IsSpoilt ((text ++ line) ++ 10 ∷ []) → IsSpoilt (text ++ (line ++ 10 ∷ []))
spoilt_whole text line bad = subst IsSpoilt (append_assoc text line (10 ∷ [])) bad

-- ---- commands

pub kept_line : (text line : Text) (kept : List Line) → (text ++ text_of kept) ++ (line ++ 10 ∷ []) ≡ text ++ text_of (kept ++ line ∷ [])
kept_line text line kept = append_assoc text (text_of kept) (line ++ 10 ∷ []) ∙ ap (λ x. text ++ x) (sym (text_append kept (line ∷ [])))

pub does_lines : (count : ℕ) (kept old left : List Line) (text : Text) (s : Shape) (l : ImageLoader) → length kept ≡ count → old ≡ kept ++ left → Took s (text ++ text_of kept) l → DoesCommand (Stay count) old text left s l
does_lines count kept old left text s l size is took = (text ++ text_of kept, subst (λ x. Does (Stay count ∷ []) x text left (text ++ text_of kept)) (sym is) (does_stay count kept left text size), took)

pub does_pass : (count : ℕ) (gone old left : List Line) (text : Text) (s : Shape) (l : ImageLoader) → length gone ≡ count → old ≡ gone ++ left → Took s text l → DoesCommand (Go count) old text left s l
does_pass count gone old left text s l size is took = (text, subst (λ x. Does (Go count ∷ []) x text left text) (sym is) (does_go count gone left text size), took)

-- ---- the whole

pub spoilt_end : (cs : List Command) (old lines : List Line) (n : ℕ) → patched cs old ≡ Some lines → IsBadImageAt n (text_of lines) → MakesNoImage cs old []
spoilt_end cs old lines n made bad others e =
    let both : Some lines ≡ Some others = sym made ∙ e in
    let same : lines ≡ others = cc in
    (n, subst (λ ls. IsBadImageAt n (text_of ls)) same bad)

pub applied : (text digest commands : Text) (cs : List Command) (t : Tree) (s : Shape) (v : PVolume) → ReadsDelta text digest commands cs → digest ≡ sha256 (image Second t) → LoadsPatched commands t s v → Applied text t s v
applied text digest commands cs t s v r of loads =
    let got = loads cs (record { commands = r.is.commands; is = r.rest }) in
    record {
      lines = got.0;
      makes = record { commands = cs; is = subst (λ d. IsDelta text d cs) of r.is; lines = got.1 };
      loaded = got.2;
    }

pub of_other : (text digest commands : Text) (cs : List Command) (t : Tree) → ReadsDelta text digest commands cs → digest ≢ sha256 (image Second t) → IsOfOther text t
of_other text digest commands cs t r other = (digest, cs, r.is, other)

pub spoils_image : (text digest commands : Text) (cs : List Command) (t : Tree) → ReadsDelta text digest commands cs → digest ≡ sha256 (image Second t) → PatchesNone commands t → SpoilsImage text t
spoils_image text digest commands cs t r of none = (cs, subst (λ d. IsDelta text d cs) of r.is, none cs (record { commands = r.is.commands; is = r.rest }))

-- ---- the law

-- an image ends with a line feed
image_ends : (v : Version) (text : Text) → IsImage v text → (front : Text) × (text ≡ front ++ 10 ∷ [])
image_ends v text is = go is.lines is.is
  where
    go : (ls : Lines) → text ≡ image_of_lines v is.root ls → (front : Text) × (text ≡ front ++ 10 ∷ [])
    go [] e = (root_line v is.root, e)
    go (l ∷ ls) e = (image_of_lines v is.root ls ++ spelled_line v l, e ∙ sym (append_assoc (image_of_lines v is.root ls) (spelled_line v l) (10 ∷ [])))

-- and so it is its lines
pub image_lines : (u : Tree) → IsTree u → text_of (lines_of (image Second u)) ≡ image Second u
image_lines u is =
    let ends = image_ends Second (image Second u) ((image_law Second (image Second u)).1 (u, is, refl)) in
    ap (λ x. text_of (lines_of x)) ends.1 ∙ text_of_lines ends.0 ∙ sym ends.1

pub round_trip : RoundTripLaw
round_trip text t u shape v is_t is_u difference made =
    let same : made.lines ≡ lines_of (image Second u) = makes_one text (image Second t) made.lines (lines_of (image Second u)) made.makes difference in
    let whole : text_of made.lines ≡ image Second u = ap text_of same ∙ image_lines u is_u in
    let got : Loaded (image Second u) v = subst (λ x. Loaded x v) whole made.loaded.0 in
    let is_image : IsImage Second (image Second u) = (image_law Second (image Second u)).1 (u, is_u, refl) in
    let is_loaded : IsImage got.version (image Second u) = (image_law got.version (image Second u)).1 (got.tree, got.is_tree, sym got.image_is) in
    let version : got.version ≡ Second = one_version got.version Second (image Second u) is_loaded is_image in
    let images : image Second got.tree ≡ image Second u = subst (λ w. image w got.tree ≡ image Second u) version got.image_is in
    let one : as_reported Second got.tree ≡ as_reported Second u = one_image Second got.tree u got.is_tree is_u images in
    let tree : got.tree ≡ u = sym (reported_law got.tree) ∙ one ∙ reported_law u in
    subst (λ x. Means v (alone x)) tree got.means

-- ---- from the first line to the end

pub mean_start : (a : FsRoot) (w : LineCursor) (t : Tree) → IsAtStart a w → MeanRooted a t → MeanRooted w.printing.tree t
mean_start a w t at m = subst (λ (r : FsRoot). MeanRooted r t) (sym at.same) m

pub into_ok : (commands : Text) (a : FsRoot) (t : Tree) (s : Shape) (w : LineCursor) (l : ImageLoader) (v : PVolume) → IsAtStart a w → MeanRooted a t → ((cs : List Command) → TellsAll commands cs → DoesAll cs (lines_from t w) s l)
    → ((text : Text) → Took s text l → LoadedIn s text v) → LoadsPatched commands t s v
into_ok commands a t s w l v at m does loads cs tells =
    let did = does cs tells in
    (did.0, ap (patched cs) (sym (at.all t m)) ∙ did.1, loads (text_of did.0) did.2)

pub into_none : (commands : Text) (a : FsRoot) (t : Tree) (w : LineCursor) → IsAtStart a w → MeanRooted a t → ((cs : List Command) → TellsAll commands cs → MakesNoImage cs (lines_from t w) []) → PatchesNone commands t
into_none commands a t w at m none cs tells = subst (λ x. MakesNoImage cs x []) (at.all t m) (none cs tells)

pub into_bad : (commands : Text) (a : FsRoot) (t : Tree) (s : Shape) (w : LineCursor) (l : ImageLoader) (n : ℕ) → IsAtStart a w → MeanRooted a t → ((cs : List Command) → TellsAll commands cs → DoesAll cs (lines_from t w) s l)
    → ((text : Text) → Took s text l → IsBadImageAt n text) → PatchesNone commands t
into_bad commands a t s w l n at m does bad cs tells =
    let did = does cs tells in
    spoilt_end cs (lines_of (image Second t)) did.0 n (ap (patched cs) (sym (at.all t m)) ∙ did.1) (bad (text_of did.0) did.2)

-- ---- the digest

pub is_of_tree : (same : Bool) (digest found wanted : List ℕ) (t : Tree) → found ≡ sha256 (image Second t) → wanted ≡ digest → same ≡ bytes_eq found wanted → IsOfTree same digest t
is_of_tree same digest found wanted t of is e = go same (bytes_eq found wanted) (bytes_eq-Decides found wanted) e
  where
    go : (s b : Bool) → Decides b (found ≡ wanted) → s ≡ b → IsOfTree s digest t
    go true true h e = sym is ∙ sym (h.0 refl) ∙ of
    go false false h e = λ k. false≢true (h.1 (of ∙ sym k ∙ sym is))
    go true false h e = absurd (false≢true (sym e))
    go false true h e = absurd (false≢true e)
