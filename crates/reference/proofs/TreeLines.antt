-- The lines of a directory tree, entry by entry: its image is one of its version.
use Rattle.std.proofs.Common.{◌≡◌, ℕ, zero, suc, ◌+◌, ◌-◌, ◌*◌, ◌/◌, ◌<◌, ◌≤◌, min, List, [], ◌∷◌, ◌++◌, length, take, drop, inl, inr, refl, sym, ap, subst, ◌∙◌, arith, append_assoc, append-nil, Some, decimal}
use Rattle.std.proofs.lemmas.List.{length-take, length-drop}
use Rattle.std.proofs.lemmas.List.Elements.{All-cons, All-drop, All-head, All-same, All-tail, All-take}
use Rattle.std.specs.declared.cmp.Ordering.TheVariants.{Less}
use Rattle.pathkey.specs.Enc.{enc}
use Rattle.pathkey.specs.Names.{parent}
use Rattle.pathkey.proofs.KeyFacts.{enc-append}
use Rattle.reference.specs.Image.{Text, Version, First, Second, directory_letter, file_letter, moment_text, reported_moment, path_text, block_line, block_lines, image, lines, lines_of, trimmed}
use Rattle.reference.specs.ImageLines.{DirectoryLine, FileLine, BlockLine, Lines, spelled, image_of_lines, last_path, last_len, next_block, HasDirectory, IsNewEntry, IsBlock, IsReported, AreLines, IsImage, ImageLaw}
use Rattle.reference.specs.Shape.{AllAbove, AreBytes, IsMoment, IsTree, Rising, RisingEntries}
use Rattle.reference.specs.Tree.{by_bytes, Name, Path, Tree, Dir, File, Entries, nothing, entry}
use Rattle.reference.proofs.ImageBytes.{block, keep, trimmed_is}
use Rattle.reference.proofs.LinesMade.{block_spelled, lines_law}
use Rattle.reference.proofs.PathOrder.{behind_beginning, lesser_name}
use Rattle.reference.proofs.ShownTrees.{Shown, ShownEntries, name_below, tree_shown}

-- ---- the lines of a tree, the last one first

-- a block's line behind those lines, where it holds a byte other than zero
abbrev with_block : ℕ → List ℕ → Lines → Lines
with_block i [] ls = ls
with_block i (x ∷ v) ls = BlockLine i (x ∷ v) ∷ ls

-- those of a file's first n blocks
abbrev with_blocks : List ℕ → ℕ → Lines → Lines
with_blocks b zero ls = ls
with_blocks b (suc i) ls = with_block i (block b i) (with_blocks b i ls)

-- those of a tree that stands at the path p, and of the entries of a directory there
abbrev mutual
  with_lines : Version → Path → Tree → Lines → Lines
  with_lines v p (Dir date es) ls = with_entries v p es (DirectoryLine p (reported_moment v date) ∷ ls)
  with_lines v p (File date b) ls = with_blocks b (length b / 4096 + 1) (FileLine p (length b) (reported_moment v date) ∷ ls)

  with_entries : Version → Path → Entries → Lines → Lines
  with_entries v p nothing ls = ls
  with_entries v p (entry n x rest) ls = with_entries v p rest (with_lines v (p ++ n ∷ []) x ls)

-- ---- moments

-- the moment that the version tells is written as the tree's own
reported_text : (v : Version) (date : ℕ) → moment_text v (reported_moment v date) ≡ moment_text v date
reported_text First date = refl
reported_text Second date = refl

-- and the version may tell it
reported_is : (v : Version) (date : ℕ) → IsMoment date → IsReported v (reported_moment v date)
reported_is First date early = refl
reported_is Second date early = early

-- ---- their text

block_shown : (v : Version) (root : ℕ) (i : ℕ) (b : List ℕ) (ls : Lines) → image_of_lines v root (with_block i b ls) ≡ image_of_lines v root ls ++ block_line i b
block_shown v root i [] ls = sym (append-nil (image_of_lines v root ls))
block_shown v root i (x ∷ b) ls = ap (λ (t : Text). image_of_lines v root ls ++ t) (sym (block_spelled v i (x ∷ b) (omega arith)))

blocks_shown : (v : Version) (root : ℕ) (b : List ℕ) (n : ℕ) (ls : Lines) → image_of_lines v root (with_blocks b n ls) ≡ image_of_lines v root ls ++ block_lines b n
blocks_shown v root b zero ls = sym (append-nil (image_of_lines v root ls))
blocks_shown v root b (suc i) ls =
    block_shown v root i (block b i) (with_blocks b i ls)
    ∙ ap (λ (t : Text). t ++ block_line i (block b i)) (blocks_shown v root b i ls)
    ∙ append_assoc (image_of_lines v root ls) (block_lines b i) (block_line i (block b i))

directory_text : (v : Version) (p : Path) (date : ℕ) (es : Entries) → (spelled v (DirectoryLine p (reported_moment v date)) ++ 10 ∷ []) ++ lines_of v p es ≡ lines v p (Dir date es)
directory_text v p date es = ap (λ (m : Text). ((directory_letter v ∷ 32 ∷ path_text p ++ m) ++ 10 ∷ []) ++ lines_of v p es) (reported_text v date)

file_text : (v : Version) (p : Path) (date : ℕ) (b : List ℕ) → (spelled v (FileLine p (length b) (reported_moment v date)) ++ 10 ∷ []) ++ block_lines b (length b / 4096 + 1) ≡ lines v p (File date b)
file_text v p date b = ap (λ (m : Text). ((file_letter v ∷ 32 ∷ path_text p ++ (32 ∷ decimal (length b) ++ m)) ++ 10 ∷ []) ++ block_lines b (length b / 4096 + 1)) (reported_text v date)

mutual
  lines_shown : (v : Version) (root : ℕ) (p : Path) (x : Tree) (ls : Lines) → image_of_lines v root (with_lines v p x ls) ≡ image_of_lines v root ls ++ lines v p x
  lines_shown v root p (Dir date es) ls =
      let own : Text = spelled v (DirectoryLine p (reported_moment v date)) ++ 10 ∷ [] in
      entries_shown v root p es (DirectoryLine p (reported_moment v date) ∷ ls)
      ∙ append_assoc (image_of_lines v root ls) own (lines_of v p es)
      ∙ ap (λ (t : Text). image_of_lines v root ls ++ t) (directory_text v p date es)
  lines_shown v root p (File date b) ls =
      let own : Text = spelled v (FileLine p (length b) (reported_moment v date)) ++ 10 ∷ [] in
      blocks_shown v root b (length b / 4096 + 1) (FileLine p (length b) (reported_moment v date) ∷ ls)
      ∙ append_assoc (image_of_lines v root ls) own (block_lines b (length b / 4096 + 1))
      ∙ ap (λ (t : Text). image_of_lines v root ls ++ t) (file_text v p date b)

  entries_shown : (v : Version) (root : ℕ) (p : Path) (es : Entries) (ls : Lines) → image_of_lines v root (with_entries v p es ls) ≡ image_of_lines v root ls ++ lines_of v p es
  entries_shown v root p nothing ls = sym (append-nil (image_of_lines v root ls))
  entries_shown v root p (entry n x rest) ls =
      entries_shown v root p rest (with_lines v (p ++ n ∷ []) x ls)
      ∙ ap (λ (t : Text). t ++ lines_of v p rest) (lines_shown v root (p ++ n ∷ []) x ls)
      ∙ append_assoc (image_of_lines v root ls) (lines v (p ++ n ∷ []) x) (lines_of v p rest)

-- ---- what a block's line tells

abbrev IsByte : ℕ → Type 0
IsByte x = x < 256

keep_again : (b : ℕ) (r : List ℕ) → trimmed r ≡ r → trimmed (keep b r) ≡ keep b r
keep_again zero [] e = refl
keep_again zero (x ∷ r) e = trimmed_is 0 (x ∷ r) ∙ ap (keep 0) e
keep_again (suc b) r e = trimmed_is (suc b) r ∙ ap (keep (suc b)) e

-- what is trimmed has no zeros behind it
trimmed_again : (bs : List ℕ) → trimmed (trimmed bs) ≡ trimmed bs
trimmed_again [] = refl
trimmed_again (b ∷ bs) = ap trimmed (trimmed_is b bs) ∙ keep_again b (trimmed bs) (trimmed_again bs) ∙ sym (trimmed_is b bs)

keep_short : (b : ℕ) (r : List ℕ) → length (keep b r) ≤ 1 + length r
keep_short zero [] = omega arith
keep_short zero (x ∷ r) = omega arith
keep_short (suc b) r = omega arith

trimmed_short : (bs : List ℕ) → length (trimmed bs) ≤ length bs
trimmed_short [] = omega arith
trimmed_short (b ∷ bs) =
    let is : length (trimmed (b ∷ bs)) ≡ length (keep b (trimmed bs)) = ap (λ (x : List ℕ). length x) (trimmed_is b bs) in
    let kept : length (keep b (trimmed bs)) ≤ 1 + length (trimmed bs) = keep_short b (trimmed bs) in
    let ih : length (trimmed bs) ≤ length bs = trimmed_short bs in
    omega arith

keep_bytes : (b : ℕ) (r : List ℕ) → b < 256 → AreBytes r → AreBytes (keep b r)
keep_bytes zero [] l h = h
keep_bytes zero (x ∷ r) l h = All-cons IsByte 0 (x ∷ r) l h
keep_bytes (suc b) r l h = All-cons IsByte (suc b) r l h

trimmed_bytes : (bs : List ℕ) → AreBytes bs → AreBytes (trimmed bs)
trimmed_bytes [] h = h
trimmed_bytes (b ∷ bs) h = All-same IsByte (trimmed (b ∷ bs)) (keep b (trimmed bs)) (trimmed_is b bs) (keep_bytes b (trimmed bs) (All-head IsByte b bs h) (trimmed_bytes bs (All-tail IsByte b bs h)))

-- a block is no longer than a block may be, and ends inside the file
block_short : (b : List ℕ) (i : ℕ) → length (block b i) ≤ min 4096 (length b - 4096 * i)
block_short b i =
    let kept : length (block b i) ≤ length (take 4096 (drop (4096 * i) b)) = trimmed_short (take 4096 (drop (4096 * i) b)) in
    let taken : length (take 4096 (drop (4096 * i) b)) ≡ min 4096 (length (drop (4096 * i) b)) = length-take 4096 (drop (4096 * i) b) in
    let left : length (drop (4096 * i) b) ≡ length b - 4096 * i = length-drop (4096 * i) b in
    omega arith

is_block : (b : List ℕ) (i : ℕ) → AreBytes b → 0 < length (block b i) → IsBlock (block b i)
is_block b i h some = record {
  some = some;
  most = let short : length (block b i) ≤ min 4096 (length b - 4096 * i) = block_short b i in omega arith;
  bytes = trimmed_bytes (take 4096 (drop (4096 * i) b)) (All-take IsByte 4096 (drop (4096 * i) b) (All-drop IsByte (4096 * i) b h));
  trims = trimmed_again (take 4096 (drop (4096 * i) b));
}

-- ---- each line may follow those before it

-- lines ks that go on after lines ls with the first n blocks of a file b, whose own line comes last in ls
record GoOnWith (version : Version) (b : List ℕ) (n : ℕ) (ls ks : Lines) : Type 0 where
  are : AreLines version ks
  last : last_path ks ≡ last_path ls
  len : last_len ks ≡ Some (length b)
  next : next_block ks ≤ n
  keeps : (q : Path) → HasDirectory ls q → HasDirectory ks q

block_goes_on : (version : Version) (b : List ℕ) (i : ℕ) (ls ks : Lines) (v : List ℕ) → AreBytes b → v ≡ block b i → GoOnWith version b i ls ks → GoOnWith version b (suc i) ls (with_block i v ks)
block_goes_on version b i ls ks [] bytes e h = record {
  are = h.are;
  last = h.last;
  len = h.len;
  next = let low : next_block ks ≤ i = h.next in omega arith;
  keeps = h.keeps;
}
block_goes_on version b i ls ks (x ∷ v) bytes e h =
    let long : length (x ∷ v) ≡ length (block b i) = ap (λ (w : List ℕ). length w) e in
    let short : length (block b i) ≤ min 4096 (length b - 4096 * i) = block_short b i in
    record {
      are = (
        record {
          len = length b;
          file = h.len;
          rises = h.next;
          block = subst IsBlock (sym e) (is_block b i bytes (omega arith));
          inside = omega arith;
        },
        h.are,
      );
      last = h.last;
      len = h.len;
      next = omega arith;
      keeps = h.keeps;
    }

blocks_go_on : (version : Version) (b : List ℕ) (n : ℕ) (ls : Lines) → AreBytes b → AreLines version ls → last_len ls ≡ Some (length b) → next_block ls ≡ 0 → GoOnWith version b n ls (with_blocks b n ls)
blocks_go_on version b zero ls bytes are len next = record { are = are; last = refl; len = len; next = omega arith; keeps = λ q h. h }
blocks_go_on version b (suc i) ls bytes are len next = block_goes_on version b i ls (with_blocks b i ls) (block b i) bytes refl (blocks_go_on version b i ls bytes are len next)

-- lines ks that go on after lines ls with entries at or below the path p
record GoOn (version : Version) (p : Path) (ls ks : Lines) : Type 0 where
  are : AreLines version ks
  below : Path
  last : last_path ks ≡ p ++ below
  keeps : (q : Path) → HasDirectory ls q → HasDirectory ks q

-- the key of the first entry of the directory p, if there is one, is above that of q
abbrev IsBelowFirst : Path → Path → Entries → Type 0
IsBelowFirst q p nothing = Unit {0}
IsBelowFirst q p (entry n x rest) = by_bytes (enc q) (enc (p ++ n ∷ [])) ≡ Less

parent_below : (p : Path) (n : Name) → parent (p ++ n ∷ []) ≡ p
parent_below [] n = refl
parent_below (m ∷ []) n = refl
parent_below (m ∷ k ∷ p) n = ap (λ (q : Path). m ∷ q) (parent_below (k ∷ p) n)

-- keys below one path are ordered as what they add to it
below_one : (p q r : Path) → by_bytes (enc q) (enc r) ≡ Less → by_bytes (enc (p ++ q)) (enc (p ++ r)) ≡ Less
below_one p q r h =
    ap (λ (k : List ℕ). by_bytes k (enc (p ++ r))) (enc-append p q)
    ∙ ap (λ (k : List ℕ). by_bytes (enc p ++ enc q) k) (enc-append p r)
    ∙ behind_beginning (enc p) (enc q) (enc r)
    ∙ h

-- the root's key is below that of a name
root_first : (n : Name) → by_bytes (enc []) (enc (n ∷ [])) ≡ Less
root_first [] = refl
root_first (b ∷ n) = refl

first_above : (p : Path) (es : Entries) → IsBelowFirst p p es
first_above p nothing = tt
first_above p (entry n x rest) = subst (λ (q : Path). by_bytes (enc q) (enc (p ++ n ∷ [])) ≡ Less) (append-nil p) (below_one p [] (n ∷ []) (root_first n))

next_above : (p : Path) (n : Name) (r q : Path) (rest : Entries) → q ≡ (p ++ n ∷ []) ++ r → AllAbove n rest → ShownEntries p rest → IsBelowFirst q p rest
next_above p n r q nothing e h v = tt
next_above p n r q (entry m x rest) e h v =
    subst (λ (z : Path). by_bytes (enc z) (enc (p ++ m ∷ [])) ≡ Less) (sym (e ∙ append_assoc p (n ∷ []) r)) (below_one p (n ∷ r) (m ∷ []) (lesser_name n m (enc r) [] (name_below p m v.0).bytes h.0))

mutual
  lines_go_on : (version : Version) (p : Path) (x : Tree) (ls : Lines) → AreLines version ls → IsNewEntry p ls → Shown p x → Rising x → GoOn version p ls (with_lines version p x ls)
  lines_go_on version p (Dir date es) ls are new v u =
      let own : Lines = DirectoryLine p (reported_moment version date) ∷ ls in
      let more : GoOn version p own (with_entries version p es own) = entries_go_on version p es own ((new, reported_is version date v.0), are) (inl refl) [] (sym (append-nil p)) (first_above p es) v.1 u in
      record { are = more.are; below = more.below; last = more.last; keeps = λ q h. more.keeps q (inr h) }
  lines_go_on version p (File date b) ls are new v u =
      let own : Lines = FileLine p (length b) (reported_moment version date) ∷ ls in
      let more : GoOnWith version b (length b / 4096 + 1) own (with_lines version p (File date b) ls) = blocks_go_on version b (length b / 4096 + 1) own v.1.bytes ((new, v.1.few, reported_is version date v.0), are) refl refl in
      record { are = more.are; below = []; last = more.last ∙ sym (append-nil p); keeps = more.keeps }

  entries_go_on : (version : Version) (p : Path) (es : Entries) (ls : Lines) → AreLines version ls → HasDirectory ls p → (below : Path) → last_path ls ≡ p ++ below → IsBelowFirst (last_path ls) p es → ShownEntries p es → RisingEntries es → GoOn version p ls (with_entries version p es ls)
  entries_go_on version p nothing ls are there below last first v u = record { are = are; below = below; last = last; keeps = λ q h. h }
  entries_go_on version p (entry n x rest) ls are there below last first v u =
      let q : Path = p ++ n ∷ [] in
      let ks : Lines = with_lines version q x ls in
      let one : GoOn version q ls ks = lines_go_on version q x ls are (record { path = v.0; rises = first; parent = subst (HasDirectory ls) (sym (parent_below p n)) there }) v.1 u.1 in
      let others : GoOn version p ks (with_entries version p rest ks) =
      entries_go_on version p rest ks one.are (one.keeps p there) (n ∷ one.below) (one.last ∙ append_assoc p (n ∷ []) one.below) (next_above p n one.below (last_path ks) rest one.last u.0 v.2) v.2 u.2
      in
      record { are = others.are; below = others.below; last = others.last; keeps = λ d h. others.keeps d (one.keeps d h) }

-- ---- images

tree_image : (version : Version) (t : Tree) → IsTree t → IsImage version (image version t)
tree_image version (File date b) h = absurd h.root
tree_image version (Dir date es) h =
    let root : ℕ = reported_moment version date in
    let all : Shown [] (Dir date es) = tree_shown date es h in
    let go : GoOn version [] [] (with_entries version [] es []) = entries_go_on version [] es [] tt refl [] refl (first_above [] es) all.1 h.rising in
    record {
      root = root;
      reported = reported_is version date all.0;
      lines = with_entries version [] es [];
      are = go.are;
      is = ap (λ (m : Text). ((directory_letter version ∷ 32 ∷ 47 ∷ m) ++ 10 ∷ []) ++ lines_of version [] es) (sym (reported_text version date)) ∙ sym (entries_shown version root [] es []);
    }

pub image_law : ImageLaw
image_law version text = (
  λ h. let made = lines_law version h.root h.lines h.reported h.are in (_, made.0, h.is ∙ sym made.1),
  λ h. subst (IsImage version) (sym h.2) (tree_image version h.0 h.1),
)
