-- An entry that comes after all others of a tree, in the order of keys: its lines follow those of the tree.
use Rattle.std.proofs.Common.{◌≡◌, ◌≢◌, ◌⊎◌, inl, inr, ⊎_elim, ℕ, List, [], ◌∷◌, ◌++◌, cond, refl, sym, ap, subst, ◌∙◌, append_assoc, append-nil, Option, Some, None, Ordering}
use Rattle.std.specs.Prelude.{fold, option_map}
use Rattle.std.specs.Ordering.{is_eq, ordering_reverse}
use Rattle.std.proofs.lemmas.Cmp.{nat_list_cmp_total}
use Rattle.std.specs.declared.cmp.Ordering.TheVariants.{Less, Equal, Greater}
use Rattle.pathkey.specs.Enc.{enc}
use Rattle.pathkey.specs.Names.{Name, Path, IsPath, EachName as AreNames}
use Rattle.pathkey.proofs.OrderFacts.{tied}
use Rattle.reference.specs.Calls.{parent, no_directory_fault, parent_fault}
use Rattle.reference.specs.Image.{Text, Version, directory_line, root_line, image, lines, lines_of, path_text}
use Rattle.reference.specs.Reads.{Look, Directory, Bytes, look, seen}
use Rattle.reference.specs.Shape.{AllAbove, IsTree, RisingEntries}
use Rattle.reference.specs.Tree.{by_bytes, by_order, Tree, Dir, File, Entries, nothing, entry, named, put, set_entry, edited, At, Found, Missing, Blocked, found, onward, entry_at}
use Rattle.reference.proofs.Edits.{fold-Missing, fold-Blocked}
use Rattle.reference.proofs.PathOrder.{by_first_name, none_below_root, not_below_itself}
use Rattle.reference.proofs.ShownTrees.{first_at, later_at}
use Rattle.reference.proofs.Standing.{rising-found}
use Rattle.reference.proofs.TreeEdits.{looks_may}

-- every entry of the tree has a key below that of p
abbrev pub AllBefore : Tree → Path → Type 0
AllBefore t p = (q : Path) (l : Look) → q ≢ [] → look t q ≡ Some l → by_bytes (enc q) (enc p) ≡ Less

-- the names of each entry are names
abbrev pub AllNamed : Tree → Type 0
AllNamed t = (q : Path) (l : Look) → look t q ≡ Some l → AreNames q

-- P holds of each name of the entries
abbrev EachOf : (Name → Type 0) → Entries → Type 0
EachOf P nothing = Unit {0}
EachOf P (entry n x rest) = P n × EachOf P rest

-- a name behind another is greater
reversed : (n m : Name) → by_bytes m n ≡ Less → by_bytes n m ≡ Greater
reversed n m h = nat_list_cmp_total.antisymm n m ∙ ap ordering_reverse h

-- ---- one directory

-- an entry behind all others
put_end : (version : Version) (base : Path) (n : Name) (x : Tree) (es : Entries) → EachOf (λ m. by_bytes m n ≡ Less) es → lines_of version base (put n x es) ≡ lines_of version base es ++ lines version (base ++ n ∷ []) x
put_end version base n x nothing h = append-nil (lines version (base ++ n ∷ []) x)
put_end version base n x (entry m y rest) h =
    ap (λ (o : Ordering). lines_of version base (by_order o (entry n x (entry m y rest)) (entry n x rest) (entry m y (put n x rest)))) (reversed n m h.0)
    ∙ ap (λ (t : Text). lines version (base ++ m ∷ []) y ++ t) (put_end version base n x rest h.1)
    ∙ sym (append_assoc (lines version (base ++ m ∷ []) y) (lines_of version base rest) (lines version (base ++ n ∷ []) x))

-- nothing stands behind the last name
none_behind : (n : Name) (rest : Entries) → AllAbove n rest → EachOf (λ m. (by_bytes m n ≡ Less) ⊎ (m ≡ n)) rest → rest ≡ nothing
none_behind n nothing h g = refl
none_behind n (entry m x rest) h g = absurd (⊎_elim
    (λ (l : by_bytes m n ≡ Less). not_below_itself n (nat_list_cmp_total.trans n m n h.0 l))
    (λ (e : m ≡ n). not_below_itself n (subst (λ (k : Name). by_bytes n k ≡ Less) e h.0))
    g.0)

-- the last entry becomes one whose lines begin with its own
grown_end : (version : Version) (base : Path) (n : Name) (y z : Tree) (es : Entries) (more : Text) → RisingEntries es → named n es ≡ Some y → EachOf (λ m. (by_bytes m n ≡ Less) ⊎ (m ≡ n)) es
    → lines version (base ++ n ∷ []) z ≡ lines version (base ++ n ∷ []) y ++ more → lines_of version base (put n z es) ≡ lines_of version base es ++ more
grown_end version base n y z nothing more v e h g = absurd (cc)
grown_end version base n y z (entry m w rest) more v e h g = ⊎_elim
    (λ (l : by_bytes m n ≡ Less).
    let apart : by_bytes n m ≡ Greater = reversed n m l in
    let there : named n rest ≡ Some y = sym (ap (λ (o : Ordering). cond (is_eq o) (Some w) (named n rest)) apart) ∙ e in
    ap (λ (o : Ordering). lines_of version base (by_order o (entry n z (entry m w rest)) (entry n z rest) (entry m w (put n z rest)))) apart
    ∙ ap (λ (t : Text). lines version (base ++ m ∷ []) w ++ t) (grown_end version base n y z rest more v.2 there h.1 g)
    ∙ sym (append_assoc (lines version (base ++ m ∷ []) w) (lines_of version base rest) more))
    (λ (s : m ≡ n).
    let tie : by_bytes n m ≡ Equal = subst (λ (k : Name). by_bytes n k ≡ Equal) (sym s) (tied n) in
    let here : w ≡ y = let f : ◌≡◌ {A = Option Tree} (Some w) (Some y) = sym (ap (λ (o : Ordering). cond (is_eq o) (Some w) (named n rest)) tie) ∙ e in cc in
    let alone : rest ≡ nothing = none_behind n rest (subst (λ (k : Name). AllAbove k rest) s v.0) h.1 in
    ap (λ (o : Ordering). lines_of version base (by_order o (entry n z (entry m w rest)) (entry n z rest) (entry m w (put n z rest)))) tie
    ∙ ap (λ (r : Entries). lines version (base ++ n ∷ []) z ++ lines_of version base r) alone
    ∙ append-nil (lines version (base ++ n ∷ []) z)
    ∙ g
    ∙ ap (λ (t : Text). t ++ more) (sym (append-nil (lines version (base ++ n ∷ []) y)) ∙ ap (λ (r : Entries). lines version (base ++ n ∷ []) y ++ lines_of version base r) (sym alone) ∙ ap (λ (k : Name). lines version (base ++ k ∷ []) y ++ lines_of version base rest) (sym s) ∙ ap (λ (u : Tree). lines version (base ++ m ∷ []) u ++ lines_of version base rest) (sym here)))
    h.0

-- P holds of each name that a directory has
each_name : (P : Name → Type 0) (date : ℕ) (es : Entries) → RisingEntries es → ((n : Name) (x : Tree) → entry_at (Dir date es) (n ∷ []) ≡ Found x → P n) → EachOf P es
each_name P date nothing v h = tt
each_name P date (entry n x rest) v h = (h n x (first_at date n x rest []), each_name P date rest v.2 (λ k y e. h k y (later_at date n x rest k [] y v.0 e)))

-- what is seen of a tree
abbrev shape : Tree → Look
shape (Dir date es) = Directory
shape (File date b) = Bytes b

seen_shape : (y : Tree) → seen (Found y) ≡ Some (shape y)
seen_shape (Dir date es) = refl
seen_shape (File date b) = refl

-- ---- the way to the entry

-- a directory with more lines
dir_more : (version : Version) (base : Path) (date : ℕ) (es fs : Entries) (more : Text) → lines_of version base fs ≡ lines_of version base es ++ more → lines version base (Dir date fs) ≡ lines version base (Dir date es) ++ more
dir_more version base date es fs more h =
    let own : Text = directory_line version (path_text base) date ++ 10 ∷ [] in
    ap (λ (s : Text). own ++ s) h ∙ sym (append_assoc own (lines_of version base es) more)

-- a directory whose entries have these lines
record Ends (version : Version) (t : Tree) (date : ℕ) (base : Path) (before : Text) : Type 0 where
  entries : Entries
  is : t ≡ Dir date entries
  shows : lines_of version base entries ≡ before

no_file_on_the_way : (date : ℕ) (b : List ℕ) (p : Path) → parent_fault (File date b) p ≡ None → p ≢ [] → ⊥
no_file_on_the_way date b [] h ne = ne refl
no_file_on_the_way date b (n ∷ []) h ne = cc
no_file_on_the_way date b (n ∷ m ∷ p) h ne =
    let f : no_directory_fault Blocked ≡ None = subst (λ (a : At). no_directory_fault a ≡ None) (fold-Blocked (parent (m ∷ p))) h in cc

no_gap_on_the_way : (p : Path) → no_directory_fault (fold onward Missing p) ≡ None → ⊥
no_gap_on_the_way p h = let f : no_directory_fault Missing ≡ None = subst (λ (a : At). no_directory_fault a ≡ None) (fold-Missing p) h in cc

-- what is seen below a name of a directory
below_name : (date : ℕ) (n : Name) (es : Entries) (y : Tree) (q : Path) → named n es ≡ Some y → look y q ≡ look (Dir date es) (n ∷ q)
below_name date n es y q e = ap (λ (o : Option Tree). seen (fold onward (found o) q)) (sym e)

-- what an entry behind all others asks
record IsLast (date : ℕ) (es : Entries) (p : Path) : Type 0 where
  some : p ≢ []
  names : AreNames p
  rising : RisingEntries es
  named_all : AllNamed (Dir date es)
  parent_there : parent_fault (Dir date es) p ≡ None
  before : AllBefore (Dir date es) p

-- the same one name further
last_below : (date stamp : ℕ) (n m : Name) (p : Path) (es fs : Entries) → named n es ≡ Some (Dir stamp fs) → IsLast date es (n ∷ m ∷ p) → IsLast stamp fs (m ∷ p)
last_below date stamp n m p es fs e h = record {
  some = λ z. cc;
  names = h.names.1;
  rising = rising-found (n ∷ []) (Dir date es) (Dir stamp fs) (ap found e) h.rising;
  named_all = λ q l f. (h.named_all (n ∷ q) l (sym (below_name date n es (Dir stamp fs) q e) ∙ f)).1;
  parent_there = subst (λ (o : Option Tree). no_directory_fault (fold onward (found o) (parent (m ∷ p))) ≡ None) e h.parent_there;
  before = λ q l ns f. ⊎_elim
      (λ (s : by_bytes n n ≡ Less). absurd (not_below_itself n s))
      (λ (s : (n ≡ n) × (by_bytes (enc q) (enc (m ∷ p)) ≡ Less)). s.1)
      (by_first_name n n (enc q) (enc (m ∷ p)) h.names.0.bytes h.names.0.bytes (h.before (n ∷ q) l (λ z. cc) (sym (below_name date n es (Dir stamp fs) q e) ∙ f)));
}

-- the first name of each entry comes before the path's, or is it
first_names : (date : ℕ) (n : Name) (p : Path) (es : Entries) → IsLast date es (n ∷ p) → EachOf (λ k. (by_bytes k n ≡ Less) ⊎ ((k ≡ n) × (by_bytes [] (enc p) ≡ Less))) es
first_names date n p es h = each_name (λ k. (by_bytes k n ≡ Less) ⊎ ((k ≡ n) × (by_bytes [] (enc p) ≡ Less))) date es h.rising (λ k y f.
    let there : look (Dir date es) (k ∷ []) ≡ Some (shape y) = ap seen f ∙ seen_shape y in
    by_first_name k n [] (enc p) (h.named_all (k ∷ []) (shape y) there).0.bytes h.names.0.bytes (h.before (k ∷ []) (shape y) (λ z. cc) there))

each_weaker : (P Q : Name → Type 0) (es : Entries) → ((k : Name) → P k → Q k) → EachOf P es → EachOf Q es
each_weaker P Q nothing f h = tt
each_weaker P Q (entry n x rest) f h = (f n h.0, each_weaker P Q rest f h.1)

-- the entry put one name below the directory or deeper
put_deeper : (version : Version) (date stamp : ℕ) (n m : Name) (p base : Path) (es fs : Entries) (x : Tree) → named n es ≡ Some (Dir stamp fs) → IsLast date es (n ∷ m ∷ p)
    → Ends version (edited (Dir stamp fs) (m ∷ p) (Some x)) stamp (base ++ n ∷ []) (lines_of version (base ++ n ∷ []) fs ++ lines version ((base ++ n ∷ []) ++ m ∷ p) x)
    → Ends version (edited (Dir date es) (n ∷ m ∷ p) (Some x)) date base (lines_of version base es ++ lines version (base ++ n ∷ m ∷ p) x)
put_deeper version date stamp n m p base es fs x e h deeper = record {
  entries = put n (Dir stamp deeper.entries) es;
  is = ap (λ (o : Option Tree). Dir date (set_entry n (option_map (λ y. edited y (m ∷ p) (Some x)) o) es)) e ∙ ap (λ (y : Tree). Dir date (put n y es)) deeper.is;
  shows = grown_end version base n (Dir stamp fs) (Dir stamp deeper.entries) es (lines version (base ++ n ∷ m ∷ p) x) h.rising e
      (each_weaker (λ k. (by_bytes k n ≡ Less) ⊎ ((k ≡ n) × (by_bytes [] (enc (m ∷ p)) ≡ Less))) (λ k. (by_bytes k n ≡ Less) ⊎ (k ≡ n)) es
      (λ k c. ⊎_elim (λ (l : by_bytes k n ≡ Less). inl l) (λ (s : (k ≡ n) × (by_bytes [] (enc (m ∷ p)) ≡ Less)). inr s.0) c)
      (first_names date n (m ∷ p) es h))
      (dir_more version (base ++ n ∷ []) stamp fs deeper.entries (lines version (base ++ n ∷ m ∷ p) x) (deeper.shows ∙ ap (λ (q : Path). lines_of version (base ++ n ∷ []) fs ++ lines version q x) (append_assoc base (n ∷ []) (m ∷ p))));
}

entries_end : (version : Version) (date : ℕ) (p base : Path) (es : Entries) (x : Tree) → IsLast date es p → Ends version (edited (Dir date es) p (Some x)) date base (lines_of version base es ++ lines version (base ++ p) x)
entries_end version date [] base es x h = absurd (h.some refl)
entries_end version date (n ∷ []) base es x h = record {
  entries = put n x es;
  is = refl;
  shows = put_end version base n x es (each_weaker (λ k. (by_bytes k n ≡ Less) ⊎ ((k ≡ n) × (by_bytes [] [] ≡ Less))) (λ k. by_bytes k n ≡ Less) es
      (λ k c. ⊎_elim (λ (l : by_bytes k n ≡ Less). l) (λ (s : (k ≡ n) × (by_bytes [] [] ≡ Less)). absurd (none_below_root [] s.1)) c)
      (first_names date n [] es h));
}
entries_end version date (n ∷ m ∷ p) base es x h =
    elim (named n es) as (λ o. named n es ≡ o → Ends version (edited (Dir date es) (n ∷ m ∷ p) (Some x)) date base (lines_of version base es ++ lines version (base ++ n ∷ m ∷ p) x)) [
      | None ↦ λ e. absurd (no_gap_on_the_way (parent (m ∷ p)) (subst (λ (o : Option Tree). no_directory_fault (fold onward (found o) (parent (m ∷ p))) ≡ None) e h.parent_there))
      | Some y ↦ λ e. elim y as (λ z. named n es ≡ Some z → Ends version (edited (Dir date es) (n ∷ m ∷ p) (Some x)) date base (lines_of version base es ++ lines version (base ++ n ∷ m ∷ p) x)) [
        | File d b ↦ λ f. absurd (no_file_on_the_way d b (m ∷ p) (subst (λ (o : Option Tree). no_directory_fault (fold onward (found o) (parent (m ∷ p))) ≡ None) f h.parent_there) (λ z. cc))
        | Dir stamp fs ↦ λ f. put_deeper version date stamp n m p base es fs x f h (entries_end version stamp (m ∷ p) (base ++ n ∷ []) fs x (last_below date stamp n m p es fs f h))
      ] e
    ] refl

-- the image of a tree with an entry behind all others
pub image_end : (version : Version) (t : Tree) (p : Path) (x : Tree) → IsTree t → IsPath p → p ≢ [] → parent_fault t p ≡ None → AllBefore t p → image version (edited t p (Some x)) ≡ image version t ++ lines version p x
image_end version (File date b) p x h u ne g before = absurd h.root
image_end version (Dir date es) p x h u ne g before =
    let own : Text = root_line version date ++ 10 ∷ [] in
    let ends : Ends version (edited (Dir date es) p (Some x)) date [] (lines_of version [] es ++ lines version p x) = entries_end version date p [] es x (record {
      some = ne;
      names = u.names;
      rising = h.rising;
      named_all = λ q l f. (looks_may (Dir date es) q l h f).path.names;
      parent_there = g;
      before = before;
    }) in
    ap (image version) ends.is ∙ ap (λ (s : Text). own ++ s) ends.shows ∙ sym (append_assoc own (lines_of version [] es) (lines version p x))
