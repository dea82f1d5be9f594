-- The lines of an image from a key on: how they begin with those of the entries that a walk lists.
use Rattle.std.proofs.Common.{◌≡◌, inl, inr, ℕ, zero, suc, List, [], ◌∷◌, ◌++◌, Bool, true, false, cond, refl, sym, ap, subst, ◌∙◌, append_assoc, append-nil, Option, Some, None, length, drop, get_or, ◌+◌, ◌-◌, ◌/◌, ◌<◌, arith}
use Rattle.std.specs.Prelude.{Contains, fold, codes, decimal}
use Rattle.std.specs.declared.cmp.Ordering.TheVariants.{Less}
use Rattle.std.proofs.lemmas.Bool.{and_parts, false_from_ne_true}
use Rattle.pathkey.specs.Order.{by_bytes, same}
use Rattle.pathkey.specs.Names.{Name, Path, EachName}
use Rattle.pathkey.specs.Keys.{Key, enc, next_key}
use Rattle.pathkey.proofs.OrderFacts.{same_true}
use Rattle.pathkey.proofs.KeyOrder.{before_from_not_reaches, from_start, le_le, not_before_from_reaches, reaches-from_before, reaches-refl}
use Rattle.message.specs.Ranges.{before, reaches, within}
use Rattle.message.proofs.NextKey.{by_bool, in_range, not_reaches, reaches-next}
use Rattle.reference.specs.Tree.{Tree, Dir, File, Entries, nothing, entry, entry_at, named, found, onward, At, Found, Missing, Blocked, moment}
use Rattle.reference.specs.Image.{Text, Second, block_lines, directory_line, file_line, image, lines, lines_of, path_text}
use Rattle.reference.specs.Shape.{AllAbove, IsTree, Rising, RisingEntries}
use Rattle.reference.specs.Reads.{sighted}
use Rattle.reference.specs.Indexes.{meta_of}
use Rattle.reference.specs.declared.reply.Meta.{Meta}
use Rattle.reference.specs.declared.reply.Meta.TheVariants.{Dir as DirMeta, File as FileMeta}
use Rattle.reference.proofs.Edits.{fold-Missing, fold-Blocked}
use Rattle.reference.proofs.ShownTrees.{first_at as first_stands, later_at}
use Rattle.meta_index.proofs.BelowPath.{in_below}
use Rattle.meta_index.proofs.ChildOrder.{child_before}
use Rattle.images.specs.Image.{blocks_left, directory_text, entry_lines, entry_text, file_text, image_from, lines_there, text_by, texts_by}
use Rattle.textio.specs.Texts.{number_line}
use Rattle.images.specs.Spots.{AreFrom}
use Rattle.volume.specs.Walks.{AreEntries, IsEntry}
use Rattle.volume.proofs.Walks.{assert_invariant}

-- ---- the entries of a directory

missing_stands : (r : Path) (y : Tree) → fold onward Missing r ≡ Found y → ⊥
missing_stands r y e = let clash : Missing ≡ Found y = sym (fold-Missing r) ∙ e in cc

blocked_stands : (r : Path) (y : Tree) → fold onward Blocked r ≡ Found y → ⊥
blocked_stands r y e = let clash : Blocked ≡ Found y = sym (fold-Blocked r) ∙ e in cc

later_above : (n : Name) (rest : Entries) (k : Name) (r : Path) (y : Tree) → AllAbove n rest → entry_at (Dir 0 rest) (k ∷ r) ≡ Found y → by_bytes n k ≡ Less
later_above n nothing k r y h e = absurd (missing_stands r y e)
later_above n (entry m x rest) k r y h e = by_bool (same k m) (by_bytes n k ≡ Less)
    (λ s. ap (by_bytes n) (same_true k m s) ∙ h.0)
    (λ s. later_above n rest k r y h.1 (sym (ap (λ (b : Bool). fold onward (found (cond b (Some x) (named k rest))) r) s) ∙ e))

-- ---- the lines of the entries that are marked

-- the same entries are marked
mutual
  same_text : (f g : Path → Bool) (p : Path) (x : Tree) → Rising x → ((r : Path) (y : Tree) → entry_at x r ≡ Found y → f (p ++ r) ≡ g (p ++ r)) → text_by f p x ≡ text_by g p x
  same_text f g p (Dir date es) v h =
      let here : f p ≡ g p = subst (λ (q : Path). f q ≡ g q) (append-nil p) (h [] (Dir date es) refl) in
      ap (λ (b : Bool). cond b (entry_lines p (Dir date es)) [] ++ texts_by f p es) here
      ∙ ap (λ (t : Text). cond (g p) (entry_lines p (Dir date es)) [] ++ t) (same_texts f g p es v (λ n r y e. h (n ∷ r) y e))
  same_text f g p (File date b) v h =
      let here : f p ≡ g p = subst (λ (q : Path). f q ≡ g q) (append-nil p) (h [] (File date b) refl) in
      ap (λ (c : Bool). cond c (entry_lines p (File date b)) []) here

  same_texts : (f g : Path → Bool) (p : Path) (es : Entries) → RisingEntries es → ((n : Name) (r : Path) (y : Tree) → entry_at (Dir 0 es) (n ∷ r) ≡ Found y → f (p ++ n ∷ r) ≡ g (p ++ n ∷ r)) → texts_by f p es ≡ texts_by g p es
  same_texts f g p nothing v h = refl
  same_texts f g p (entry n x rest) v h =
      let first : text_by f (p ++ n ∷ []) x ≡ text_by g (p ++ n ∷ []) x =
      same_text f g (p ++ n ∷ []) x v.1 (λ r y e. subst (λ (q : Path). f q ≡ g q) (sym (append_assoc p (n ∷ []) r)) (h n r y (first_stands 0 n x rest r ∙ e)))
      in
      ap (λ (t : Text). t ++ texts_by f p rest) first
      ∙ ap (λ (t : Text). text_by g (p ++ n ∷ []) x ++ t) (same_texts f g p rest v.2 (λ k r y e. h k r y (later_at 0 n x rest k r y v.0 e)))

-- none is marked
mutual
  no_text : (p : Path) (x : Tree) → text_by (λ _. false) p x ≡ []
  no_text p (Dir date es) = no_texts p es
  no_text p (File date b) = refl

  no_texts : (p : Path) (es : Entries) → texts_by (λ _. false) p es ≡ []
  no_texts p nothing = refl
  no_texts p (entry n x rest) = ap (λ (t : Text). t ++ texts_by (λ _. false) p rest) (no_text (p ++ n ∷ []) x) ∙ no_texts p rest

dir_line : (p : Path) (date : ℕ) → directory_text Second p date ≡ directory_line Second (path_text p) date ++ 10 ∷ []
dir_line p date = ap (λ (t : Text). 68 ∷ 32 ∷ t) (sym (append_assoc (path_text p) (32 ∷ decimal date) (10 ∷ [])))

file_lines : (p : Path) (date : ℕ) (b : List ℕ) → entry_lines p (File date b) ≡ lines Second p (File date b)
file_lines p date b =
    let len : Text = decimal (length b) in
    let end : Text = 32 ∷ decimal date in
    let line : file_text Second p (length b) date ≡ file_line Second (path_text p) (length b) date ++ 10 ∷ [] =
    ap (λ (t : Text). 70 ∷ 32 ∷ (path_text p ++ (32 ∷ t))) (sym (append_assoc len end (10 ∷ [])))
    ∙ ap (λ (t : Text). 70 ∷ 32 ∷ t) (sym (append_assoc (path_text p) (32 ∷ (len ++ end)) (10 ∷ []))) in
    ap (λ (t : Text). t ++ block_lines b (length b / 4096 + 1)) line

-- all are marked
mutual
  all_text : (p : Path) (x : Tree) → text_by (λ _. true) p x ≡ lines Second p x
  all_text p (Dir date es) = ap (λ (t : Text). entry_lines p (Dir date es) ++ t) (all_texts p es) ∙ ap (λ (t : Text). t ++ lines_of Second p es) (dir_line p date)
  all_text p (File date b) = file_lines p date b

  all_texts : (p : Path) (es : Entries) → texts_by (λ _. true) p es ≡ lines_of Second p es
  all_texts p nothing = refl
  all_texts p (entry n x rest) = ap (λ (t : Text). t ++ texts_by (λ _. true) p rest) (all_text (p ++ n ∷ []) x) ∙ ap (λ (t : Text). lines Second (p ++ n ∷ []) x ++ t) (all_texts p rest)

-- ---- keys below a path

below_after : (p : Path) (n : Name) (r : Path) → before (enc p) (enc (p ++ n ∷ r)) ≡ true
below_after p n r = sym (reaches-next (enc p) (enc (p ++ n ∷ r))) ∙ (and_parts _ _ (in_below p n r)).0

not_before : (a k : Key) → before a k ≡ true → before k a ≡ false
not_before a k h = not_before_from_reaches a k (reaches-from_before a k h)

abbrev Valid : Tree → Type 0
Valid x = (r : Path) (y : Tree) → entry_at x r ≡ Found y → EachName r

abbrev ValidEntries : Entries → Type 0
ValidEntries es = (n : Name) (r : Path) (y : Tree) → entry_at (Dir 0 es) (n ∷ r) ≡ Found y → EachName (n ∷ r)

-- ---- the first of the entries that are marked by their keys, from k on

module _ (k : Key) where
  abbrev from : Path → Bool
  from p = reaches k (enc p)

  abbrev behind : Path → Bool
  behind p = before k (enc p)

  alike : (p : Path) → before k (enc p) ≡ true → from p ≡ behind p
  alike p h = reaches-from_before k (enc p) h ∙ sym h

  gone : (p : Path) → before (enc p) k ≡ true → (from p ≡ false) × (behind p ≡ false)
  gone p h = (not_reaches (enc p) k h, not_before (enc p) k h)

  here_is : (p : Path) (x : Tree) → Rising x → (from p ≡ true) × (behind p ≡ false) → k ≡ enc p → text_by from p x ≡ entry_lines p x ++ text_by behind p x
  here_is p (Dir date es) v at here =
      ap (λ (b : Bool). cond b (entry_lines p (Dir date es)) [] ++ texts_by from p es) at.0
      ∙ ap (λ (t : Text). entry_lines p (Dir date es) ++ t) (same_texts from behind p es v (λ n r y e. alike (p ++ n ∷ r) (subst (λ (j : Key). before j (enc (p ++ n ∷ r)) ≡ true) (sym here) (below_after p n r))))
      ∙ ap (λ (b : Bool). entry_lines p (Dir date es) ++ (cond b (entry_lines p (Dir date es)) [] ++ texts_by behind p es)) (sym at.1)
  here_is p (File date b) v at here =
      ap (λ (c : Bool). cond c (entry_lines p (File date b)) []) at.0
      ∙ sym (append-nil (entry_lines p (File date b)))
      ∙ ap (λ (c : Bool). entry_lines p (File date b) ++ cond c (entry_lines p (File date b)) []) (sym at.1)

  first_here : (p : Path) (x y : Tree) → Rising x → Found x ≡ Found y → k ≡ enc (p ++ []) → text_by from p x ≡ entry_lines (p ++ []) y ++ text_by behind p x
  first_here p x y v e is =
      let one : x ≡ y = cc in
      let here : k ≡ enc p = is ∙ ap enc (append-nil p) in
      let at : (from p ≡ true) × (behind p ≡ false) = (subst (λ (j : Key). reaches j (enc p) ≡ true) (sym here) (reaches-refl (enc p)), subst (λ (j : Key). before j (enc p) ≡ false) (sym here) (not_before_from_reaches (enc p) (enc p) (reaches-refl (enc p)))) in
      here_is p x v at here ∙ ap (λ (z : Tree). entry_lines p z ++ text_by behind p x) one ∙ ap (λ (q : Path). entry_lines q y ++ text_by behind p x) (sym (append-nil p))

  mutual
    first_line : (p : Path) (x : Tree) (r : Path) (y : Tree) → Rising x → Valid x → entry_at x r ≡ Found y → k ≡ enc (p ++ r) → text_by from p x ≡ entry_lines (p ++ r) y ++ text_by behind p x
    first_line p x [] y v u e is = first_here p x y v e is
    first_line p (Dir date es) (n ∷ r) y v u e is =
        let none : (from p ≡ false) × (behind p ≡ false) = gone p (subst (λ (j : Key). before (enc p) j ≡ true) (sym is) (below_after p n r)) in
        ap (λ (b : Bool). cond b (entry_lines p (Dir date es)) [] ++ texts_by from p es) none.0
        ∙ first_lines p es n r y v (λ m s z f. u (m ∷ s) z f) e is
        ∙ ap (λ (b : Bool). entry_lines (p ++ n ∷ r) y ++ (cond b (entry_lines p (Dir date es)) [] ++ texts_by behind p es)) (sym none.1)
    first_line p (File date b) (n ∷ r) y v u e is = absurd (blocked_stands r y e)

    first_lines : (p : Path) (es : Entries) (n : Name) (r : Path) (y : Tree) → RisingEntries es → ValidEntries es → entry_at (Dir 0 es) (n ∷ r) ≡ Found y → k ≡ enc (p ++ n ∷ r) → texts_by from p es ≡ entry_lines (p ++ n ∷ r) y ++ texts_by behind p es
    first_lines p nothing n r y v u e is = absurd (missing_stands r y e)
    first_lines p (entry m x rest) n r y v u e is = by_bool (same n m) (texts_by from p (entry m x rest) ≡ entry_lines (p ++ n ∷ r) y ++ texts_by behind p (entry m x rest))
        (λ s.
        let one : n ≡ m = same_true n m s in
        let here : entry_at x r ≡ Found y = sym (ap (λ (b : Bool). fold onward (found (cond b (Some x) (named n rest))) r) s) ∙ e in
        let path : p ++ n ∷ r ≡ (p ++ m ∷ []) ++ r = ap (λ (j : Name). p ++ j ∷ r) one ∙ sym (append_assoc p (m ∷ []) r) in
        let key : k ≡ enc (p ++ m ∷ r) = is ∙ ap (λ (j : Name). enc (p ++ j ∷ r)) one in
        let first : text_by from (p ++ m ∷ []) x ≡ entry_lines ((p ++ m ∷ []) ++ r) y ++ text_by behind (p ++ m ∷ []) x =
        first_line (p ++ m ∷ []) x r y v.1 (λ q z f. (u m q z (first_stands 0 m x rest q ∙ f)).1) here (is ∙ ap enc path)
        in
        let others : texts_by from p rest ≡ texts_by behind p rest = same_texts from behind p rest v.2 (λ l q z f.
        alike (p ++ l ∷ q) (subst (λ (j : Key). before j (enc (p ++ l ∷ q)) ≡ true) (sym key) (child_before p m l r q (u l q z (later_at 0 m x rest l q z v.0 f)).0.bytes (later_above m rest l q z v.0 f))))
        in
        ap (λ (t : Text). t ++ texts_by from p rest) first
        ∙ ap (λ (t : Text). (entry_lines ((p ++ m ∷ []) ++ r) y ++ text_by behind (p ++ m ∷ []) x) ++ t) others
        ∙ append_assoc (entry_lines ((p ++ m ∷ []) ++ r) y) (text_by behind (p ++ m ∷ []) x) (texts_by behind p rest)
        ∙ ap (λ (q : Path). entry_lines q y ++ texts_by behind p (entry m x rest)) (sym path))
        (λ s.
        let later : entry_at (Dir 0 rest) (n ∷ r) ≡ Found y = sym (ap (λ (b : Bool). fold onward (found (cond b (Some x) (named n rest))) r) s) ∙ e in
        let less : by_bytes m n ≡ Less = later_above m rest n r y v.0 later in
        let none : (q : Path) → (from ((p ++ m ∷ []) ++ q) ≡ false) × (behind ((p ++ m ∷ []) ++ q) ≡ false) = λ q.
        gone ((p ++ m ∷ []) ++ q) (subst (λ (z : Path). before (enc z) k ≡ true) (sym (append_assoc p (m ∷ []) q)) (subst (λ (j : Key). before (enc (p ++ m ∷ q)) j ≡ true) (sym is) (child_before p m n q r (u n r y e).0.bytes less)))
        in
        let no_from : text_by from (p ++ m ∷ []) x ≡ [] = same_text from (λ _. false) (p ++ m ∷ []) x v.1 (λ q z f. (none q).0) ∙ no_text (p ++ m ∷ []) x in
        let no_behind : text_by behind (p ++ m ∷ []) x ≡ [] = same_text behind (λ _. false) (p ++ m ∷ []) x v.1 (λ q z f. (none q).1) ∙ no_text (p ++ m ∷ []) x in
        ap (λ (t : Text). t ++ texts_by from p rest) no_from
        ∙ first_lines p rest n r y v.2 (λ l q z f. u l q z (later_at 0 m x rest l q z v.0 f)) later is
        ∙ ap (λ (t : Text). entry_lines (p ++ n ∷ r) y ++ (t ++ texts_by behind p rest)) (sym no_behind))

-- ---- the image

pub image_starts : (t : Tree) (date : ℕ) → IsTree t → moment t ≡ date → image Second t ≡ number_line (codes "D / ") date ++ image_from (next_key []) t
image_starts (Dir stamp es) date is same = ap (λ (n : ℕ). image Second (Dir n es)) same ∙ ap (λ (t : Text). number_line (codes "D / ") date ++ t) (sym (same_texts (λ p. reaches (next_key []) (enc p)) (λ _. true) [] es is.rising (λ n r y e. (and_parts _ _ (in_below [] n r)).0) ∙ all_texts [] es))
image_starts (File stamp b) date is same = absurd is.root

-- only the root's key is the empty one
pub behind_root : (k : Key) → reaches (next_key k) [] ≡ false
behind_root k = reaches-next k [] ∙ not_before_from_reaches [] k (from_start k)

-- each entry has metadata
pub reported_of : (x : Tree) → (v : Meta) × (meta_of (sighted (Found x)) ≡ Some v)
reported_of (Dir date es) = (DirMeta date, refl)
reported_of (File date b) = (FileMeta (length b) date, refl)

-- no entry has a key from lo up to and without hi
abbrev NoneBetween : Tree → Key → Option Key → Type 0
NoneBetween t lo hi = (p : Path) (x : Tree) → entry_at t p ≡ Found x → within lo hi (enc p) ≡ false

image_end : (t : Tree) (lo : Key) → IsTree t → NoneBetween t lo None → image_from lo t ≡ []
image_end (Dir date es) lo is none = same_texts (λ p. reaches lo (enc p)) (λ _. false) [] es is.rising
    (λ n r y e. false_from_ne_true (reaches lo (enc (n ∷ r))) (λ h. let in_it : within lo None (enc (n ∷ r)) ≡ true = in_range lo (enc (n ∷ r)) None h refl in let out : within lo None (enc (n ∷ r)) ≡ false = none (n ∷ r) y e in cc))
    ∙ no_texts [] es
image_end (File date b) lo is none = refl

-- the lines from a key on begin with those of the first entry there
first_text : (t : Tree) (lo k : Key) (q : Path) (y : Tree) → IsTree t → reaches lo [] ≡ false → reaches lo k ≡ true → NoneBetween t lo (Some k) → k ≡ enc q → entry_at t q ≡ Found y → image_from lo t ≡ entry_lines q y ++ image_from (next_key k) t
first_text (File date b) lo k q y is low at none key e = absurd is.root
first_text (Dir date es) lo k [] y is low at none key e = absurd (let f : reaches lo [] ≡ true = subst (λ (j : Key). reaches lo j ≡ true) key at in cc)
first_text (Dir date es) lo k (n ∷ r) y is low at none key e =
    same_texts (λ p. reaches lo (enc p)) (from k) [] es is.rising (λ l s z f. marks l s z f)
    ∙ first_lines k [] es n r y is.rising (λ l s z f. (is.paths (l ∷ s) z f).names) e key
    ∙ ap (λ (t : Text). entry_lines (n ∷ r) y ++ t) (same_texts (behind k) (λ p. reaches (next_key k) (enc p)) [] es is.rising (λ l s z f. sym (reaches-next k (enc (l ∷ s)))))
  where
    marks : (l : Name) (s : Path) (z : Tree) → entry_at (Dir date es) (l ∷ s) ≡ Found z → reaches lo (enc (l ∷ s)) ≡ reaches k (enc (l ∷ s))
    marks l s z f = by_bool (reaches k (enc (l ∷ s))) (reaches lo (enc (l ∷ s)) ≡ reaches k (enc (l ∷ s)))
        (λ h. le_le lo k (enc (l ∷ s)) at h ∙ sym h)
        (λ h. false_from_ne_true (reaches lo (enc (l ∷ s))) (λ g.
        let in_it : within lo (Some k) (enc (l ∷ s)) ≡ true = in_range lo (enc (l ∷ s)) (Some k) g (before_from_not_reaches k (enc (l ∷ s)) h) in
        let out : within lo (Some k) (enc (l ∷ s)) ≡ false = none (l ∷ s) z f in
        cc) ∙ sym h)

-- ---- a walk from entry to entry

-- no key is before itself
itself : (k : Key) → before k k ≡ false
itself k = not_before_from_reaches k k (reaches-refl k)

module _ (t : Tree) (lo : Key) (n : ℕ) (e : Path × Meta) (es : List (Path × Meta)) (are : AreFrom t lo n (e ∷ es)) where
  pub head_at : (reaches lo (enc e.0) ≡ true) × IsEntry t e.0 e.1
  head_at = are.sound 0 e (omega arith)

  later : (k : ℕ) (d : Path × Meta) → k < length es → before (enc e.0) (enc (get_or es k d).0) ≡ true
  later k d l = are.rising 0 (suc k) d (omega arith) (omega (arith, l))

  -- a listed entry is the first or after it
  not_before_first : (p : Path) (m : Meta) → Contains (e ∷ es) (p, m) → before (enc p) (enc e.0) ≡ false
  not_before_first p m (zero, l, is) = ap (λ (x : Path × Meta). before (enc p) (enc x.0)) is ∙ itself (enc p)
  not_before_first p m (suc k, l, is) = not_before (enc e.0) (enc p) (subst (λ (x : Path × Meta). before (enc e.0) (enc x.0) ≡ true) is (later k (p, m) (omega (arith, l))))

  none_before : NoneBetween t lo (Some (enc e.0))
  none_before p x at = false_from_ne_true (within lo (Some (enc e.0)) (enc p)) (λ h.
      let parts : (reaches lo (enc p) ≡ true) × (before (enc p) (enc e.0) ≡ true) = and_parts _ _ h in
      let reported : (v : Meta) × (meta_of (sighted (Found x)) ≡ Some v) = reported_of x in
      elim (are.complete p reported.0 parts.0 (ap (λ (a : At). meta_of (sighted a)) at ∙ reported.1)) [
        | inl c ↦ (let not : before (enc p) (enc e.0) ≡ false = not_before_first p reported.0 c in let is : before (enc p) (enc e.0) ≡ true = parts.1 in cc)
        | inr m ↦ (let not : before (enc p) (enc e.0) ≡ false = not_before (enc e.0) (enc p) (m.1 0 e (omega arith)) in let is : before (enc p) (enc e.0) ≡ true = parts.1 in cc)
      ])

  pub first_listed : IsTree t → reaches lo [] ≡ false → image_from lo t ≡ lines_there e.0 (entry_at t e.0) ++ image_from (next_key (enc e.0)) t
  first_listed is low =
      let at : (x : Tree) × (entry_at t e.0 ≡ Found x) = assert_invariant (entry_at t e.0) e.1 head_at.1 in
      first_text t lo (enc e.0) e.0 at.0 is low head_at.0 none_before refl at.1
      ∙ ap (λ (a : At). lines_there e.0 a ++ image_from (next_key (enc e.0)) t) (sym at.1)

  -- the entries after the first are a walk from the next key on
  pub others : AreFrom t (next_key (enc e.0)) (n - 1) es
  others = record {
    few = omega (arith, are.few);
    sound = λ k d l. (reaches-next (enc e.0) (enc (get_or es k d).0) ∙ later k d l, (are.sound (suc k) d (omega (arith, l))).1);
    rising = λ k j d a l. are.rising (suc k) (suc j) d (omega (arith, a)) (omega (arith, l));
    complete = λ p m low is.
        let after : before (enc e.0) (enc p) ≡ true = sym (reaches-next (enc e.0) (enc p)) ∙ low in
        elim (are.complete p m (le_le lo (enc e.0) (enc p) head_at.0 (reaches-from_before (enc e.0) (enc p) after)) is) [
          | inl c ↦ inl (listed p m after c)
          | inr x ↦ inr (omega (arith, x.0), λ k d l. x.1 (suc k) d (omega (arith, l)))
        ];
  }
    where
      listed : (p : Path) (m : Meta) → before (enc e.0) (enc p) ≡ true → Contains (e ∷ es) (p, m) → Contains es (p, m)
      listed p m after (zero, l, is) = absurd (let not : before (enc e.0) (enc p) ≡ false = ap (λ (x : Path × Meta). before (enc x.0) (enc p)) is ∙ itself (enc p) in cc)
      listed p m after (suc k, l, is) = (k, omega (arith, l), is)

-- if none is listed, though some were requested, no line is left
pub none_behind : (t : Tree) (p : Path) (n : ℕ) → IsTree t → AreFrom t (next_key (enc p)) n [] → 0 < n → image_from (next_key (enc p)) t ≡ []
none_behind t p n is are some = image_end t (next_key (enc p)) is (λ q x at. false_from_ne_true (within (next_key (enc p)) None (enc q)) (λ h.
    let reported : (v : Meta) × (meta_of (sighted (Found x)) ≡ Some v) = reported_of x in
    elim (are.complete q reported.0 ((and_parts _ _ h).0) (ap (λ (a : At). meta_of (sighted a)) at ∙ reported.1)) [
      | inl c ↦ (let l = c.1 in omega (arith, l))
      | inr m ↦ omega (arith, m.0, some)
    ]))

-- ---- a piece, which begins with the last entry of the piece before

module _ (t : Tree) (last : Path) (v : Meta) (n : ℕ) (es : List (Path × Meta)) (is : IsTree t) (are : AreEntries t last n es) (there : IsEntry t last v) (some : 0 < n) where
  from_path : AreFrom t (enc last) n es
  from_path = record { few = are.few; sound = are.sound; rising = are.rising; complete = are.complete }

  -- its first entry
  abbrev Begins : List (Path × Meta) → Type 0
  Begins [] = ⊥
  Begins (e ∷ es) = e.0 ≡ last

  begins : (ds : List (Path × Meta)) → AreFrom t (enc last) n ds → Begins ds
  begins [] from = elim (from.complete last v (reaches-refl (enc last)) there) [
    | inl c ↦ (let l = c.1 in omega (arith, l))
    | inr m ↦ omega (arith, m.0, some)
  ]
  begins (d ∷ ds) from = elim (from.complete last v (reaches-refl (enc last)) there) [
    | inl c ↦ head c
    | inr m ↦ absurd (no (m.1 0 d (omega arith)))
  ]
    where
      no : before (enc d.0) (enc last) ≡ true → ⊥
      no h = let not : before (enc d.0) (enc last) ≡ false = not_before_from_reaches (enc last) (enc d.0) (from.sound 0 d (omega arith)).0 in cc

      head : Contains (d ∷ ds) (last, v) → d.0 ≡ last
      head (zero, l, e) = ap (λ (x : Path × Meta). x.0) e
      head (suc k, l, e) = absurd (no (subst (λ (x : Path × Meta). before (enc d.0) (enc x.0) ≡ true) e (from.rising 0 (suc k) (last, v) (omega arith) (omega (arith, l)))))

  past_first : (ds : List (Path × Meta)) → Begins ds → AreFrom t (enc last) n ds → AreFrom t (next_key (enc last)) (n - 1) (drop 1 ds) × (length ds ≡ length (drop 1 ds) + 1)
  past_first [] at from = absurd at
  past_first (d ∷ ds) at from = (subst (λ (p : Path). AreFrom t (next_key (enc p)) (n - 1) ds) at (others t (enc last) n d ds from), omega arith)

  -- the others are a walk from the next key on
  pub behind_first : AreFrom t (next_key (enc last)) (n - 1) (drop 1 es) × (length es ≡ length (drop 1 es) + 1)
  behind_first = past_first es (begins es from_path) from_path

-- ---- one entry

-- a directory's line
directory_there : (a : At) (q : Path) (date : ℕ) → meta_of (sighted a) ≡ Some (DirMeta date) → lines_there q a ≡ directory_text Second q date
directory_there (Found (Dir stamp es)) q date e = let same : stamp ≡ date = cc in ap (directory_text Second q) same
directory_there (Found (File stamp b)) q date e = absurd (cc)
directory_there Missing q date e = absurd (cc)
directory_there Blocked q date e = absurd (cc)

-- the line of an entry, and then those of all its blocks
pub entry_starts : (a : At) (q : Path) (m : Meta) → meta_of (sighted a) ≡ Some m → lines_there q a ≡ entry_text q m ++ blocks_left a 0
entry_starts (Found (Dir stamp es)) q (DirMeta date) e = directory_there (Found (Dir stamp es)) q date e ∙ sym (append-nil (directory_text Second q date))
entry_starts (Found (File stamp b)) q (DirMeta date) e = absurd (cc)
entry_starts (Found (Dir stamp es)) q (FileMeta len date) e = absurd (cc)
entry_starts (Found (File stamp b)) q (FileMeta len date) e =
    let l : length b ≡ len = cc in
    let d : stamp ≡ date = cc in
    let blocks : Text = block_lines b (length b / 4096 + 1) in
    ap (λ (n : ℕ). file_text Second q n stamp ++ blocks) l ∙ ap (λ (n : ℕ). file_text Second q len n ++ blocks) d
entry_starts Missing q m e = absurd (cc)
entry_starts Blocked q m e = absurd (cc)
