-- Edits that fit make a tree.
use Rattle.std.proofs.Common.{◌≡◌, ◌≢◌, ℕ, ◌*◌, ◌^◌, ◌<◌, ◌≤◌, List, [], ◌∷◌, ◌++◌, length, replicate, refl, sym, ap, subst, ◌∙◌, arith, Option, Some, None}
use Rattle.std.specs.Prelude.{fold}
use Rattle.std.proofs.lemmas.List.{length-replicate}
use Rattle.pathkey.specs.Names.{IsPath, Name, parent}
use Rattle.reference.specs.Calls.{is_directory, parent_fault, path_fault}
use Rattle.reference.specs.Indexes.{meta_of}
use Rattle.reference.specs.Plant.{modified_of}
use Rattle.reference.specs.Reads.{Bytes, Directory, Seen, Sight, look, redated, sight, sighted}
use Rattle.reference.specs.Shape.{AreBytes, IsContent, IsMoment, IsTree}
use Rattle.reference.specs.Tree.{At, Blocked, Dir, File, Found, Missing, Path, Tree, edited, entry_at, nothing, onward, sized, touched}
use Rattle.reference.specs.declared.reply.Meta.{Meta}
use Rattle.reference.specs.declared.reply.Meta.TheVariants.{Dir as DirMeta, File as FileMeta}
use Rattle.reference.proofs.Contents.{content-over, content-sized, length-sized, zeros}
use Rattle.reference.proofs.Edits.{fold-Blocked, fold-Missing, look_from}
use Rattle.reference.proofs.EntryPaths.{along}
use Rattle.reference.proofs.Points.{Bare, IsPoint, bare_empty, bare_file, bare_none, point_from_edit, point_from_touch}
use Rattle.reference.proofs.Standing.{directory_parent, file_sighted, parent_from_found}
use Rattle.reference.proofs.TreeEdits.{MayBeSeen, looks_may, not_root_there, out_tree, put_directory, put_file, touched_tree}
use Rattle.edits.specs.Edits.{Fits, FitsBlock, IsEdited, altered, block_at, seen_after, with_block}
use Rattle.edits.specs.declared.edit.Change.{Change}
use Rattle.edits.specs.declared.edit.Change.TheVariants.{Remove, Add, Alter, Block}
use Rattle.edits.proofs.BlockFacts.{length-block}
use Rattle.edits.proofs.Removing.{unfound_from}

-- an edit from what it changes at its path alone
pub edited_at : (p : Path) (c : Change) (t u : Tree) (s : Option Sight) → IsTree u → Fits c (sight t p) → IsPoint t u p s → s ≡ seen_after c (sight t p) → IsEdited (record { path = p; change = c }) t u
edited_at p c t u s is fits point e = record { tree = is; fits = fits; itself = point.itself ∙ e; other = point.other }

-- some tree is made
abbrev pub Makes : Path → Change → Tree → Type 0
Makes p c t = (u : Tree) × IsEdited (record { path = p; change = c }) t u

-- what is seen stands
pub seen_there : (t : Tree) (p : Path) (s : Sight) → sight t p ≡ Some s → path_fault (entry_at t p) ≡ None
seen_there t p s e = at (entry_at t p) e
  where
    at : (a : At) → sighted a ≡ Some s → path_fault a ≡ None
    at (Found x) h = refl
    at Missing h = absurd (cc)
    at Blocked h = absurd (cc)

-- nothing is seen below a path with no entry below it
bare_from : (t : Tree) (p : Path) → ((n : Name) → sight t (p ++ n ∷ []) ≡ None) → Bare (entry_at t p)
unfolding Bare
bare_from t p none k r = below (onward (entry_at t p) k) (sym (ap sighted (along t p (k ∷ []))) ∙ none k)
  where
    below : (a : At) → sighted a ≡ None → sighted (fold onward a r) ≡ None
    below (Found (Dir date es)) h = absurd (cc)
    below (Found (File date b)) h = absurd (cc)
    below Missing h = ap sighted (fold-Missing r)
    below Blocked h = ap sighted (fold-Blocked r)

-- ---- entries

pub removed : (t : Tree) (p : Path) (m : Meta) → IsTree t → p ≢ [] → meta_of (sight t p) ≡ Some m → ((n : Name) → sight t (p ++ n ∷ []) ≡ None) → Makes p (Remove m) t
removed t p m is ne there none = go (sight t p) refl
  where
    go : (s : Option Sight) → sight t p ≡ s → Makes p (Remove m) t
    go None e = absurd (let f : None ≡ Some m = sym (ap meta_of e) ∙ there in cc)
    go (Some s) e =
        let parent_is : parent_fault t p ≡ None = parent_from_found p t ne (seen_there t p s e) in
        (edited t p None, edited_at p (Remove m) t (edited t p None) None (out_tree t p is ne parent_is) there (point_from_edit t (edited t p None) p None ne parent_is (bare_from t p none) (bare_none Missing refl) refl) refl)

-- metadata that an entry of a tree may have
pub record MayHave (m : Meta) : Type 0 where
  pub early : IsMoment (modified_of m)
  pub short : (n at : ℕ) → m ≡ FileMeta n at → n ≤ 2 ^ 40

all_zeros : (n : ℕ) → n ≤ 2 ^ 40 → IsContent (replicate n 0)
all_zeros n short = record { few = omega (arith, length-replicate {A = ℕ} n 0, short); bytes = zeros n }

pub put_new : (t : Tree) (p : Path) (m : Meta) → IsTree t → IsPath p → p ≢ [] → sight t p ≡ None → look t (parent p) ≡ Some Directory → MayHave m → Makes p (Add m) t
put_new t p (DirMeta at) is path ne none above may =
    let parent_is : parent_fault t p ≡ None = directory_parent t p above in
    let u : Tree = edited t p (Some (Dir at nothing)) in
    (u, edited_at p (Add (DirMeta at)) t u (Some (Seen Directory at)) (put_directory t p at is path may.early ne parent_is) none (point_from_edit t u p (Some (Dir at nothing)) ne parent_is (bare_none (entry_at t p) (unfound_from (entry_at t p) none)) (bare_empty at) refl) refl)
put_new t p (FileMeta n at) is path ne none above may =
    let parent_is : parent_fault t p ≡ None = directory_parent t p above in
    let u : Tree = edited t p (Some (File at (replicate n 0))) in
    (u, edited_at p (Add (FileMeta n at)) t u (Some (Seen (Bytes (replicate n 0)) at)) (put_file t p at (replicate n 0) is path may.early (all_zeros n (may.short n at refl)) ne parent_is) none (point_from_edit t u p (Some (File at (replicate n 0))) ne parent_is (bare_none (entry_at t p) (unfound_from (entry_at t p) none)) (bare_file at (replicate n 0)) refl) refl)

-- a file with other bytes
other_bytes : (t : Tree) (p : Path) (b c : List ℕ) (date at : ℕ) → IsTree t → sight t p ≡ Some (Seen (Bytes b) date) → IsContent c → IsMoment at → (u : Tree) × IsTree u × IsPoint t u p (Some (Seen (Bytes c) at))
other_bytes t p b c date at is e new early =
    let f : entry_at t p ≡ Found (File date b) = file_sighted (entry_at t p) b date e in
    let may : MayBeSeen p (Bytes b) = looks_may t p (Bytes b) is (look_from t p (Seen (Bytes b) date) e) in
    let ne : p ≢ [] = not_root_there t p is (ap is_directory f) in
    let parent_is : parent_fault t p ≡ None = parent_from_found p t ne (seen_there t p (Seen (Bytes b) date) e) in
    let u : Tree = edited t p (Some (File at c)) in
    (u, put_file t p at c is may.path early new ne parent_is, point_from_edit t u p (Some (File at c)) ne parent_is (subst (λ (x : At). Bare x) (sym f) (bare_file date b)) (bare_file at c) refl)

-- the bytes of a file of a tree
pub content_seen : (t : Tree) (p : Path) (b : List ℕ) (date : ℕ) → IsTree t → sight t p ≡ Some (Seen (Bytes b) date) → IsContent b
content_seen t p b date is e = let may : MayBeSeen p (Bytes b) = looks_may t p (Bytes b) is (look_from t p (Seen (Bytes b) date) e) in may.content b refl

pub touched_directory : (t : Tree) (p : Path) (date at : ℕ) → IsTree t → sight t p ≡ Some (Seen Directory date) → IsMoment at → Makes p (Alter (DirMeta date) (DirMeta at)) t
touched_directory t p date at is e early =
    (touched at t p, edited_at p (Alter (DirMeta date) (DirMeta at)) t (touched at t p) (redated at (sight t p)) (touched_tree at t p early is) (ap meta_of e, tt) (point_from_touch at t p) (ap (redated at) e ∙ sym (ap (altered (DirMeta at)) e)))

pub resized_file : (t : Tree) (p : Path) (b : List ℕ) (date n at : ℕ) → IsTree t → sight t p ≡ Some (Seen (Bytes b) date) → n ≤ 2 ^ 40 → IsMoment at → Makes p (Alter (FileMeta (length b) date) (FileMeta n at)) t
resized_file t p b date n at is e short early =
    let f = other_bytes t p b (sized b n) date at is e (content-sized b n (content_seen t p b date is e) short) early in
    (f.0, edited_at p (Alter (FileMeta (length b) date) (FileMeta n at)) t f.0 (Some (Seen (Bytes (sized b n)) at)) f.1 (ap meta_of e, tt) f.2 (sym (ap (altered (FileMeta n at)) e)))

-- ---- blocks

pub rewritten_block : (t : Tree) (p : Path) (b : List ℕ) (date i : ℕ) (old : Option (List ℕ)) (new : List ℕ) → IsTree t → sight t p ≡ Some (Seen (Bytes b) date) → IsMoment date → AreBytes new → FitsBlock i old new b → Makes p (Block i old new) t
rewritten_block t p b date i old new is e early bytes fits =
    let was : IsContent b = content_seen t p b date is e in
    let w : List ℕ = sized new (length (block_at i b)) in
    let m = length-block i b in
    let size : length w ≡ length (block_at i b) = length-sized new (length (block_at i b)) in
    let inside : 4096 * i < length b = fits.inside in
    let few : length new ≤ length (block_at i b) = fits.few in
    let most : length b ≤ 2 ^ 40 = was.few in
    let held : IsContent w = content-sized new (length (block_at i b)) (record { few = omega (arith, few, m, most); bytes = bytes }) (omega (arith, m, most)) in
    let f = other_bytes t p b (with_block i new b) date date is e (content-over b (4096 * i) w was held.bytes (omega (arith, size, m, inside, most))) early in
    (f.0, edited_at p (Block i old new) t f.0 (Some (Seen (Bytes (with_block i new b)) date)) f.1 (b, date, e, fits) f.2 (sym (ap (seen_after (Block i old new)) e)))
