-- Lines of an image make a directory tree whose image they are.
use Rattle.std.proofs.Common.{◌≡◌, ◌≢◌, ◌⊎◌, inl, inr, ⊎_elim, ℕ, ◌+◌, ◌*◌, ◌/◌, ◌^◌, ◌<◌, ◌≤◌, List, [], ◌∷◌, ◌++◌, length, replicate, true, false, refl, sym, ap, subst, ◌∙◌, arith, append_assoc, append-nil, Option, Some, None}
use Rattle.std.specs.declared.cmp.Ordering.TheVariants.{Less}
use Rattle.std.proofs.lemmas.Bool.{cases_lt}
use Rattle.std.proofs.lemmas.List.{get_or-replicate, get_or_past, length-replicate}
use Rattle.std.proofs.lemmas.Cmp.{nat_list_cmp_total}
use Rattle.std.proofs.lemmas.Option.{same_Some}
use Rattle.pathkey.specs.Enc.{enc}
use Rattle.pathkey.specs.Names.{Path, IsPath, parent}
use Rattle.pathkey.proofs.OrderFacts.{same_true, apart}
use Rattle.reference.specs.Calls.{bytes_of, is_found, parent_fault, path_fault}
use Rattle.reference.specs.Image.{Text, Version, First, Second, file_line, root_line, image, lines, block_line, block_lines, path_text}
use Rattle.reference.specs.ImageLines.{DirectoryLine, FileLine, BlockLine, Lines, spelled, image_of_lines, last_path, last_len, next_block, HasDirectory, IsNewEntry, IsNewBlock, IsReported, AreLines, tree_of_lines, AllReported, LinesLaw}
use Rattle.reference.specs.Reads.{Look, Directory, Bytes, look, seen, Sight, Seen, date_of, sighted, sight}
use Rattle.reference.specs.Shape.{IsContent, IsMoment, IsTree}
use Rattle.reference.specs.Tree.{by_bytes, same, Tree, Dir, File, nothing, edited, over, At, Found, Missing, Blocked, entry_at, moment, moment_there}
use Rattle.reference.proofs.Contents.{content-over, zeros as are_zeros}
use Rattle.reference.proofs.Edits.{fold-Missing}
use Rattle.reference.proofs.FreshIndexes.{empty_tree}
use Rattle.reference.proofs.LastBlock.{ZeroFrom, LastBlock, zeros_behind, length_kept, block_end, no_more_lines}
use Rattle.reference.proofs.LastEntry.{image_end}
use Rattle.reference.proofs.PathOrder.{none_below_root, not_below_itself}
use Rattle.reference.proofs.Points.{Bare, bare_none, bare_empty, bare_file, IsPoint, looks_other, looks_itself, point_from_edit}
use Rattle.reference.proofs.PutTwice.{put_twice}
use Rattle.reference.proofs.Standing.{directory_parent, file_sighted, parent_from_found}
use Rattle.reference.proofs.TreeEdits.{put_directory, put_file}

-- ---- texts of lines

pub block_spelled : (v : Version) (i : ℕ) (b : List ℕ) → 0 < length b → block_line i b ≡ spelled v (BlockLine i b) ++ 10 ∷ []
block_spelled v i [] h = absurd (omega arith)
block_spelled v i (x ∷ b) h = simp append_assoc

zeros_end : (n x : ℕ) → n ≤ x → length (replicate {A = ℕ} n 0) ≤ x
zeros_end n x g = let e : length (replicate {A = ℕ} n 0) ≡ n = length-replicate n 0 in omega arith

zeros_from : (n : ℕ) → ZeroFrom 0 (replicate n 0)
zeros_from n x h = ⊎_elim
    (λ (l : x < n). get_or-replicate n x 0 0 l)
    (λ (g : n ≤ x). get_or_past (replicate n 0) x 0 (zeros_end n x g))
    (cases_lt x n)

-- a directory without entries has its own line alone
directory_spelled : (v : Version) (p : Path) (at : ℕ) → lines v p (Dir at nothing) ≡ spelled v (DirectoryLine p at) ++ 10 ∷ []
directory_spelled v p at = append-nil (spelled v (DirectoryLine p at) ++ 10 ∷ [])

-- a file of zeros has the line of its length alone
zeros_spelled : (v : Version) (p : Path) (n at : ℕ) → lines v p (File at (replicate n 0)) ≡ spelled v (FileLine p n at) ++ 10 ∷ []
zeros_spelled v p n at =
    let b : List ℕ = replicate n 0 in
    let len : length b ≡ n = length-replicate n 0 in
    let own : Text = file_line v (path_text p) (length b) at ++ 10 ∷ [] in
    ap (λ (k : ℕ). own ++ block_lines b k) (let e : length b / 4096 + 1 ≡ 0 + (length b / 4096 + 1) = omega arith in e)
    ∙ ap (λ (t : Text). own ++ t) (no_more_lines b 0 (length b / 4096 + 1) (λ x g. zeros_from n x (omega arith)))
    ∙ append-nil own
    ∙ ap (λ (k : ℕ). file_line v (path_text p) k at ++ 10 ∷ []) len

-- a file with one block more
block_shown : (version : Version) (p : Path) (at : ℕ) (b : List ℕ) (i : ℕ) (v : List ℕ) → LastBlock b i v → lines version p (File at (over b (4096 * i) v)) ≡ lines version p (File at b) ++ (spelled version (BlockLine i v) ++ 10 ∷ [])
block_shown version p at b i v h =
    let c : List ℕ = over b (4096 * i) v in
    let own : Text = file_line version (path_text p) (length b) at ++ 10 ∷ [] in
    ap (λ (k : ℕ). (file_line version (path_text p) k at ++ 10 ∷ []) ++ block_lines c (k / 4096 + 1)) (length_kept b i v h)
    ∙ ap (λ (t : Text). own ++ t) (block_end b i v h)
    ∙ sym (append_assoc own (block_lines b (length b / 4096 + 1)) (block_line i v))
    ∙ ap (λ (t : Text). lines version p (File at b) ++ t) (block_spelled version i v h.some)

-- ---- paths

path_cases : (p q : Path) → (q ≡ p) ⊎ (q ≢ p)
path_cases [] [] = inl refl
path_cases [] (m ∷ q) = inr (λ e. cc)
path_cases (n ∷ p) [] = inr (λ e. cc)
path_cases (n ∷ p) (m ∷ q) = elim (same n m) as (λ b. same n m ≡ b → ((m ∷ q) ≡ (n ∷ p)) ⊎ ((m ∷ q) ≢ (n ∷ p))) [
  | false ↦ λ f. inr (λ e. apart n m f (cc))
  | true ↦ λ t. let name : n ≡ m = same_true n m t in ⊎_elim
      (λ (e : q ≡ p). inl (cc (name, e)))
      (λ (ne : q ≢ p). inr (λ e. ne (cc)))
      (path_cases p q)
] refl

-- ---- moments

-- a moment that a version tells is one
pub reported_early : (v : Version) (at : ℕ) → IsReported v at → IsMoment at
reported_early First at h = omega arith
reported_early Second at h = h

-- every moment that is seen is one that the version tells
abbrev AllSeen : Version → Tree → Type 0
AllSeen v t = (p : Path) (s : Sight) → sight t p ≡ Some s → IsReported v (date_of s)

-- ---- what is kept of lines

-- the file whose lines come last: its moment and its bytes so far, and what the image says before it
pub record LastFile (v : Version) (root : ℕ) (ls : Lines) (n : ℕ) : Type 0 where
  pub at : ℕ
  pub bytes : List ℕ
  pub there : entry_at (tree_of_lines root ls) (last_path ls) ≡ Found (File at bytes)
  pub long : length bytes ≡ n
  pub zeros : ZeroFrom (4096 * next_block ls) bytes
  pub some : last_path ls ≢ []
  pub front : Text
  pub now : image_of_lines v root ls ≡ front ++ lines v (last_path ls) (File at bytes)
  pub shown : (c : List ℕ) → image v (edited (tree_of_lines root ls) (last_path ls) (Some (File at c))) ≡ front ++ lines v (last_path ls) (File at c)

pub record Made (v : Version) (root : ℕ) (ls : Lines) : Type 0 where
  pub tree : IsTree (tree_of_lines root ls)
  pub image_is : image v (tree_of_lines root ls) ≡ image_of_lines v root ls
  pub reported : AllSeen v (tree_of_lines root ls)
  pub directory : (q : Path) → HasDirectory ls q → look (tree_of_lines root ls) q ≡ Some Directory
  pub has : (q : Path) → look (tree_of_lines root ls) q ≡ Some Directory → HasDirectory ls q
  pub last : (q : Path) (l : Look) → look (tree_of_lines root ls) q ≡ Some l → (q ≡ last_path ls) ⊎ (by_bytes (enc q) (enc (last_path ls)) ≡ Less)
  pub file : (n : ℕ) → last_len ls ≡ Some n → LastFile v root ls n

-- ---- an entry more

-- what stands ready for an entry
pub record Ready (root : ℕ) (p : Path) (ls : Lines) : Type 0 where
  pub some : p ≢ []
  pub parent_there : parent_fault (tree_of_lines root ls) p ≡ None
  pub free : is_found (entry_at (tree_of_lines root ls) p) ≡ false
  pub before : (q : Path) (l : Look) → look (tree_of_lines root ls) q ≡ Some l → by_bytes (enc q) (enc p) ≡ Less

free_from : (a : At) → ((l : Look) → seen a ≡ Some l → ⊥) → is_found a ≡ false
free_from (Found (Dir date es)) h = absurd (h Directory refl)
free_from (Found (File date b)) h = absurd (h (Bytes b) refl)
free_from Missing h = refl
free_from Blocked h = refl

pub ready : (v : Version) (root : ℕ) (p : Path) (ls : Lines) → Made v root ls → IsNewEntry p ls → Ready root p ls
ready v root p ls m h =
    let t : Tree = tree_of_lines root ls in
    let before : (q : Path) (l : Look) → look t q ≡ Some l → by_bytes (enc q) (enc p) ≡ Less = λ q l e. ⊎_elim
    (λ (s : q ≡ last_path ls). subst (λ (r : Path). by_bytes (enc r) (enc p) ≡ Less) (sym s) h.rises)
    (λ (s : by_bytes (enc q) (enc (last_path ls)) ≡ Less). nat_list_cmp_total.trans (enc q) (enc (last_path ls)) (enc p) s h.rises)
    (m.last q l e)
    in
    record {
      some = λ e. none_below_root (enc (last_path ls)) (subst (λ (r : Path). by_bytes (enc (last_path ls)) (enc r) ≡ Less) e h.rises);
      parent_there = directory_parent t p (m.directory (parent p) h.parent);
      free = free_from (entry_at t p) (λ l e. not_below_itself (enc p) (before p l e));
      before = before;
    }

-- what is seen once an entry was put
point : (root : ℕ) (p : Path) (ls : Lines) (x : Tree) → Ready root p ls → Bare (Found x) → IsPoint (tree_of_lines root ls) (edited (tree_of_lines root ls) p (Some x)) p (sighted (Found x))
point root p ls x r bare = point_from_edit (tree_of_lines root ls) (edited (tree_of_lines root ls) p (Some x)) p (Some x) r.some r.parent_there (bare_none (entry_at (tree_of_lines root ls) p) r.free) bare refl

last_after : (root : ℕ) (p : Path) (ls : Lines) (t : Tree) (k : Option Sight) → Ready root p ls → IsPoint (tree_of_lines root ls) t p k → (q : Path) (l : Look) → look t q ≡ Some l → (q ≡ p) ⊎ (by_bytes (enc q) (enc p) ≡ Less)
last_after root p ls t k r at q l e = ⊎_elim
    (λ (s : q ≡ p). inl s)
    (λ (ne : q ≢ p). inr (r.before q l (sym (looks_other (tree_of_lines root ls) t p k at q ne) ∙ e)))
    (path_cases p q)

-- moments that the version tells, also of what changed
reported_after : (v : Version) (t u : Tree) (p : Path) (l : Look) (date : ℕ) → IsReported v date → AllSeen v t → IsPoint t u p (Some (Seen l date)) → AllSeen v u
reported_after v t u p l date early reported at q s e = ⊎_elim
    (λ (is : q ≡ p).
    let here : Some (Seen l date) ≡ Some s = sym at.itself ∙ ap (sight u) (sym is) ∙ e in
    let same : Seen l date ≡ s = cc in
    subst (λ (z : Sight). IsReported v (date_of z)) same early)
    (λ (ne : q ≢ p). reported q s (sym (at.other q ne) ∙ e))
    (path_cases p q)

entry_image : (v : Version) (root : ℕ) (p : Path) (ls : Lines) (x : Tree) → Made v root ls → IsPath p → Ready root p ls → image v (edited (tree_of_lines root ls) p (Some x)) ≡ image_of_lines v root ls ++ lines v p x
entry_image v root p ls x m path r = image_end v (tree_of_lines root ls) p x m.tree path r.some r.parent_there (λ q l ne e. r.before q l e) ∙ ap (λ (t : Text). t ++ lines v p x) m.image_is

directory_made : (v : Version) (root : ℕ) (p : Path) (date : ℕ) (ls : Lines) → Made v root ls → IsNewEntry p ls → IsReported v date → Made v root (DirectoryLine p date ∷ ls)
directory_made v root p date ls m h early =
    let old_tree : Tree = tree_of_lines root ls in
    let r : Ready root p ls = ready v root p ls m h in
    let t : Tree = edited old_tree p (Some (Dir date nothing)) in
    let at : IsPoint old_tree t p (Some (Seen Directory date)) = point root p ls (Dir date nothing) r (bare_empty date) in
    let here : look t p ≡ Some Directory = looks_itself old_tree t p (Some (Seen Directory date)) at in
    let others : (q : Path) → q ≢ p → look t q ≡ look old_tree q = looks_other old_tree t p (Some (Seen Directory date)) at in
    record {
      tree = put_directory old_tree p date m.tree h.path (reported_early v date early) r.some r.parent_there;
      image_is = entry_image v root p ls (Dir date nothing) m h.path r ∙ ap (λ (s : Text). image_of_lines v root ls ++ s) (directory_spelled v p date);
      reported = reported_after v old_tree t p Directory date early m.reported at;
      directory = λ q d. ⊎_elim
          (λ (e : q ≡ p). subst (λ (k : Path). look t k ≡ Some Directory) (sym e) here)
          (λ (g : HasDirectory ls q). let old : look old_tree q ≡ Some Directory = m.directory q g in
          others q (λ e. not_below_itself (enc p) (subst (λ (k : Path). by_bytes (enc k) (enc p) ≡ Less) e (r.before q Directory old))) ∙ old)
          d;
      has = λ q e. ⊎_elim
          (λ (s : q ≡ p). inl s)
          (λ (ne : q ≢ p). inr (m.has q (sym (others q ne) ∙ e)))
          (path_cases p q);
      last = last_after root p ls t (Some (Seen Directory date)) r at;
      file = λ n e. absurd (cc);
    }

file_made : (v : Version) (root : ℕ) (p : Path) (n date : ℕ) (ls : Lines) → Made v root ls → IsNewEntry p ls → n ≤ 2 ^ 40 → IsReported v date → Made v root (FileLine p n date ∷ ls)
file_made v root p n date ls m h few early =
    let old_tree : Tree = tree_of_lines root ls in
    let r : Ready root p ls = ready v root p ls m h in
    let b : List ℕ = replicate n 0 in
    let t : Tree = edited old_tree p (Some (File date b)) in
    let at : IsPoint old_tree t p (Some (Seen (Bytes b) date)) = point root p ls (File date b) r (bare_file date b) in
    let here : look t p ≡ Some (Bytes b) = looks_itself old_tree t p (Some (Seen (Bytes b) date)) at in
    let others : (q : Path) → q ≢ p → look t q ≡ look old_tree q = looks_other old_tree t p (Some (Seen (Bytes b) date)) at in
    let len : length b ≡ n = length-replicate n 0 in
    record {
      tree = put_file old_tree p date b m.tree h.path (reported_early v date early) (record { few = omega arith; bytes = are_zeros n }) r.some r.parent_there;
      image_is = entry_image v root p ls (File date b) m h.path r ∙ ap (λ (s : Text). image_of_lines v root ls ++ s) (zeros_spelled v p n date);
      reported = reported_after v old_tree t p (Bytes b) date early m.reported at;
      directory = λ q d. let old : look old_tree q ≡ Some Directory = m.directory q d in
          others q (λ e. not_below_itself (enc p) (subst (λ (k : Path). by_bytes (enc k) (enc p) ≡ Less) e (r.before q Directory old))) ∙ old;
      has = λ q e. ⊎_elim
          (λ (s : q ≡ p). absurd (let f : ◌≡◌ {A = Option Look} (Some (Bytes b)) (Some Directory) = sym here ∙ ap (look t) (sym s) ∙ e in cc))
          (λ (ne : q ≢ p). m.has q (sym (others q ne) ∙ e))
          (path_cases p q);
      last = last_after root p ls t (Some (Seen (Bytes b) date)) r at;
      file = λ k e. record {
        at = date;
        bytes = b;
        there = file_sighted (entry_at t p) b date at.itself;
        long = len ∙ (cc);
        zeros = λ x g. zeros_from n x (omega arith);
        some = r.some;
        front = image_of_lines v root ls;
        now = ap (λ (s : Text). image_of_lines v root ls ++ s) (sym (zeros_spelled v p n date));
        shown = λ c. ap (image v) (put_twice old_tree p (File date b) (File date c)) ∙ entry_image v root p ls (File date c) m h.path r;
      };
    }

-- ---- a block more

line_more : (version : Version) (text front : Text) (p : Path) (at : ℕ) (b : List ℕ) (i : ℕ) (v : List ℕ) → text ≡ front ++ lines version p (File at b) → LastBlock b i v → front ++ lines version p (File at (over b (4096 * i) v)) ≡ text ++ (spelled version (BlockLine i v) ++ 10 ∷ [])
line_more version text front p at b i v e h =
    ap (λ (s : Text). front ++ s) (block_shown version p at b i v h)
    ∙ sym (append_assoc front (lines version p (File at b)) (spelled version (BlockLine i v) ++ 10 ∷ []))
    ∙ ap (λ (s : Text). s ++ (spelled version (BlockLine i v) ++ 10 ∷ [])) (sym e)

-- nothing is seen below an empty root
only_root : (date : ℕ) (q : Path) (l : Look) → look (Dir date nothing) q ≡ Some l → q ≡ []
only_root date [] l e = refl
only_root date (n ∷ q) l e = absurd (let f : ◌≡◌ {A = Option Look} None (Some l) = ap seen (sym (fold-Missing q)) ∙ e in cc)

block_made : (version : Version) (root : ℕ) (i : ℕ) (v : List ℕ) (ls : Lines) → Made version root ls → IsNewBlock i v ls → Made version root (BlockLine i v ∷ ls)
block_made version root i v ls m h =
    let f : LastFile version root ls h.len = m.file h.len h.file in
    let p : Path = last_path ls in
    let old : Tree = tree_of_lines root ls in
    let date : ℕ = f.at in
    let b : List ℕ = f.bytes in
    let c : List ℕ = over b (4096 * i) v in
    let t : Tree = edited old p (Some (File date c)) in
    let long : length b ≡ h.len = f.long in
    let inside : 4096 * i + length v ≤ h.len = h.inside in
    let rises : next_block ls ≤ i = h.rises in
    let is_last : LastBlock b i v = record {
      zeros = λ x g. f.zeros x (omega arith);
      inside = omega arith;
      some = h.block.some;
      most = h.block.most;
      trims = h.block.trims;
    } in
    let same : tree_of_lines root (BlockLine i v ∷ ls) ≡ t = ap (λ (a : At). edited old p (Some (File (moment_there a) (over (bytes_of a) (4096 * i) v)))) f.there in
    let parent_there : parent_fault old p ≡ None = parent_from_found p old f.some (ap path_fault f.there) in
    let at : IsPoint old t p (Some (Seen (Bytes c) date)) = point_from_edit old t p (Some (File date c)) f.some parent_there (subst Bare (sym f.there) (bare_file date b)) (bare_file date c) refl in
    let here : look t p ≡ Some (Bytes c) = looks_itself old t p (Some (Seen (Bytes c) date)) at in
    let others : (q : Path) → q ≢ p → look t q ≡ look old q = looks_other old t p (Some (Seen (Bytes c) date)) at in
    let was : look old p ≡ Some (Bytes b) = ap seen f.there in
    let reported : IsReported version date = m.reported p (Seen (Bytes b) date) (ap sighted f.there) in
    let content : IsContent b = m.tree.files p date b f.there in
    let few : length b ≤ 2 ^ 40 = content.few in
    record {
      tree = subst IsTree (sym same) (put_file old p date c m.tree (m.tree.paths p (File date b) f.there) (reported_early version date reported) (content-over b (4096 * i) v content h.block.bytes (omega arith)) f.some parent_there);
      image_is = ap (image version) same ∙ f.shown c ∙ line_more version (image_of_lines version root ls) f.front p date b i v f.now is_last;
      reported = subst (AllSeen version) (sym same) (reported_after version old t p (Bytes c) date reported m.reported at);
      directory = λ q d. let was_there : look old q ≡ Some Directory = m.directory q d in
          ap (λ (u : Tree). look u q) same ∙ others q (λ e. let g : ◌≡◌ {A = Option Look} (Some (Bytes b)) (Some Directory) = sym was ∙ ap (look old) (sym e) ∙ was_there in cc) ∙ was_there;
      has = λ q e. let now : look t q ≡ Some Directory = ap (λ (u : Tree). look u q) (sym same) ∙ e in
          m.has q (sym (others q (λ s. let g : ◌≡◌ {A = Option Look} (Some (Bytes c)) (Some Directory) = sym here ∙ ap (look t) (sym s) ∙ now in cc)) ∙ now);
      last = λ q l e. ⊎_elim
          (λ (s : q ≡ p). inl s)
          (λ (ne : q ≢ p). m.last q l (sym (others q ne) ∙ ap (λ (u : Tree). look u q) (sym same) ∙ e))
          (path_cases p q);
      file = λ k e. record {
        at = date;
        bytes = c;
        there = ap (λ (u : Tree). entry_at u p) same ∙ file_sighted (entry_at t p) c date at.itself;
        long = length_kept b i v is_last ∙ long ∙ same_Some h.len k (sym h.file ∙ e);
        zeros = zeros_behind b i v is_last;
        some = f.some;
        front = f.front;
        now = sym (line_more version (image_of_lines version root ls) f.front p date b i v f.now is_last);
        shown = λ d. ap (λ (u : Tree). image version (edited u p (Some (File date d)))) same ∙ ap (image version) (put_twice old p (File date c) (File date d)) ∙ f.shown d;
      };
    }

-- ---- all lines

root_reported : (v : Version) (root : ℕ) → IsReported v root → AllSeen v (Dir root nothing)
root_reported v root early [] s e = let same : Seen Directory root ≡ s = cc in subst (λ (z : Sight). IsReported v (date_of z)) same early
root_reported v root early (n ∷ q) s e = absurd (let f : None ≡ Some s = sym (ap sighted (fold-Missing q)) ∙ e in cc)

none_made : (v : Version) (root : ℕ) → IsReported v root → Made v root []
none_made v root early = record {
  tree = empty_tree root (reported_early v root early);
  image_is = append-nil (root_line v root ++ 10 ∷ []);
  reported = root_reported v root early;
  directory = λ q d. ap (look (Dir root nothing)) d;
  has = λ q e. only_root root q Directory e;
  last = λ q l e. inl (only_root root q l e);
  file = λ n e. absurd (cc);
}

pub made : (v : Version) (root : ℕ) (ls : Lines) → IsReported v root → AreLines v ls → Made v root ls
made v root [] early h = none_made v root early
made v root (DirectoryLine p at ∷ ls) early h = directory_made v root p at ls (made v root ls early h.1) h.0.0 h.0.1
made v root (FileLine p n at ∷ ls) early h = file_made v root p n at ls (made v root ls early h.1) h.0.0 h.0.1 h.0.2
made v root (BlockLine i b ∷ ls) early h = block_made v root i b ls (made v root ls early h.1) h.0

-- the moments of what stands in a tree are those of what is seen
reported_there : (v : Version) (t : Tree) → AllSeen v t → AllReported v t
reported_there v t seen p x e = at x e
  where
    at : (x : Tree) → entry_at t p ≡ Found x → IsReported v (moment x)
    at (Dir date es) f = seen p (Seen Directory date) (ap sighted f)
    at (File date b) f = seen p (Seen (Bytes b) date) (ap sighted f)

pub lines_law : LinesLaw
lines_law v root ls early h = let m : Made v root ls = made v root ls early h in (m.tree, m.image_is, reported_there v (tree_of_lines root ls) m.reported)
