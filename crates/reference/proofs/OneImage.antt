-- Two directory trees of one image are one tree, as far as its version tells.
use Rattle.std.proofs.Common.{◌≡◌, ◌≢◌, ◌⊎◌, inl, inr, ⊎_elim, ℕ, ◌+◌, ◌/◌, ◌^◌, ◌<◌, ◌≤◌, List, [], ◌∷◌, ◌++◌, length, refl, sym, ap, subst, ◌∙◌, arith, append_assoc, flat_map, decimal}
use Rattle.std.proofs.lemmas.Fmt.{decimal_injective}
use Rattle.std.proofs.lemmas.List.{append_cancel_left}
use Rattle.reference.specs.Tree.{Name, Path, Tree, Dir, File, Entries, nothing, entry}
use Rattle.reference.specs.Image.{Text, percent, path_text, block_lines, Version, First, Second, directory_letter, file_letter, reported_moment, as_reported, as_reported_of, root_line, lines, lines_of, image}
use Rattle.reference.specs.Shape.{IsMoment, IsTree}
use Rattle.reference.proofs.Images.{path_text_below}
use Rattle.reference.proofs.ImageTexts.{Visible, Slashless, cut, path_visible, decimal_visible, name_injective, name_slashless, no_slash}
use Rattle.reference.proofs.ImageBytes.{NoBlock, one_file}
use Rattle.reference.proofs.ShownTrees.{Shown, ShownEntries, name_below, name_without_slash, tree_shown}

-- ---- the line of an entry

abbrev kind_byte : Version → Tree → ℕ
kind_byte v (Dir date es) = directory_letter v
kind_byte v (File date b) = file_letter v

abbrev stop_byte : Version → Tree → ℕ
stop_byte First (Dir date es) = 10
stop_byte Second (Dir date es) = 32
stop_byte v (File date b) = 32

abbrev after_path : Version → Path → Tree → Text
after_path First p (Dir date es) = lines_of First p es
after_path Second p (Dir date es) = decimal date ++ 10 ∷ lines_of Second p es
after_path First p (File date b) = decimal (length b) ++ 10 ∷ block_lines b (length b / 4096 + 1)
after_path Second p (File date b) = decimal (length b) ++ 32 ∷ (decimal date ++ 10 ∷ block_lines b (length b / 4096 + 1))

lines_start : (v : Version) (p : Path) (x : Tree) (r : Text) → lines v p x ++ r ≡ kind_byte v x ∷ 32 ∷ (path_text p ++ stop_byte v x ∷ (after_path v p x ++ r))
lines_start First p (Dir date es) r = simp append_assoc
lines_start First p (File date b) r = simp append_assoc
lines_start Second p (Dir date es) r = simp append_assoc
lines_start Second p (File date b) r = simp append_assoc

stop_low : (v : Version) (x : Tree) → stop_byte v x < 33
stop_low First (Dir date es) = omega arith
stop_low Second (Dir date es) = omega arith
stop_low First (File date b) = omega arith
stop_low Second (File date b) = omega arith

no_block_kind : (v : Version) (x : Tree) → kind_byte v x ≢ 98
no_block_kind First (Dir date es) = omega arith
no_block_kind Second (Dir date es) = omega arith
no_block_kind First (File date b) = omega arith
no_block_kind Second (File date b) = omega arith

-- a directory's letter is not a file's
pub letters_differ : (v : Version) → directory_letter v ≡ file_letter v → ⊥
letters_differ First e = omega arith
letters_differ Second e = omega arith

-- one text begins with the lines of two trees: their paths are written alike
same_path_text : (v : Version) (p q : Path) (x y : Tree) (r s : Text) → lines v p x ++ r ≡ lines v q y ++ s → (kind_byte v x ≡ kind_byte v y) × (path_text p ≡ path_text q) × (after_path v p x ++ r ≡ after_path v q y ++ s)
same_path_text v p q x y r s e =
    let both : kind_byte v x ∷ 32 ∷ (path_text p ++ stop_byte v x ∷ (after_path v p x ++ r)) ≡ kind_byte v y ∷ 32 ∷ (path_text q ++ stop_byte v y ∷ (after_path v q y ++ s)) = sym (lines_start v p x r) ∙ e ∙ lines_start v q y s in
    let parts : (path_text p ≡ path_text q) × (after_path v p x ++ r ≡ after_path v q y ++ s) =
    cut (path_text p) (path_text q) (stop_byte v x) (stop_byte v y) (after_path v p x ++ r) (after_path v q y ++ s) (path_visible p) (path_visible q) (stop_low v x) (stop_low v y) (cc)
    in
    (cc, parts.0, parts.1)

-- ---- what follows the entries below a path

-- a text that begins with the line of an entry elsewhere
record Other (p : Path) (r : Text) : Type 0 where
  kind : ℕ
  text : Text
  stop : ℕ
  rest : Text
  is : r ≡ kind ∷ 32 ∷ (text ++ stop ∷ rest)
  no_block : kind ≢ 98
  visible : Visible text
  low : stop < 33
  beside : (z : Text) → text ≡ path_text p ++ 47 ∷ z → ⊥

abbrev Behind : Path → Text → Type 0
Behind p r = (r ≡ []) ⊎ Other p r

-- no block begins there
behind_blocks : (p : Path) (r : Text) → Behind p r → NoBlock r
behind_blocks p r h = λ s e. ⊎_elim
    (λ (f : r ≡ []). let clash : [] ≡ 98 ∷ s = sym f ∙ e in cc)
    (λ (o : Other p r). let both : o.kind ∷ 32 ∷ (o.text ++ o.stop ∷ o.rest) ≡ 98 ∷ s = sym o.is ∙ e in o.no_block (cc))
    h

-- no entry below begins there
behind_entries : (v : Version) (p : Path) (r : Text) → Behind p r → (m : Name) (y : Tree) (s : Text) → r ≡ lines v (p ++ m ∷ []) y ++ s → ⊥
behind_entries v p r h m y s e = ⊎_elim
    (λ (f : r ≡ []). let clash : [] ≡ kind_byte v y ∷ 32 ∷ (path_text (p ++ m ∷ []) ++ stop_byte v y ∷ (after_path v (p ++ m ∷ []) y ++ s)) = sym f ∙ e ∙ lines_start v (p ++ m ∷ []) y s in cc)
    (λ (o : Other p r).
    let q : Path = p ++ m ∷ [] in
    let both : o.kind ∷ 32 ∷ (o.text ++ o.stop ∷ o.rest) ≡ kind_byte v y ∷ 32 ∷ (path_text q ++ stop_byte v y ∷ (after_path v q y ++ s)) = sym o.is ∙ e ∙ lines_start v q y s in
    let parts : (o.text ≡ path_text q) × (o.rest ≡ after_path v q y ++ s) = cut o.text (path_text q) o.stop (stop_byte v y) o.rest (after_path v q y ++ s) o.visible (path_visible q) o.low (stop_low v y) (cc) in
    o.beside (flat_map percent m) (parts.0 ∙ path_text_below p m))
    h

-- what follows the entries below a path follows those below each of its entries
behind_deeper : (p : Path) (n : Name) (r : Text) → Behind p r → Behind (p ++ n ∷ []) r
behind_deeper p n r h = ⊎_elim
    (λ (f : r ≡ []). inl f)
    (λ (o : Other p r). inr (record {
      kind = o.kind;
      text = o.text;
      stop = o.stop;
      rest = o.rest;
      is = o.is;
      no_block = o.no_block;
      visible = o.visible;
      low = o.low;
      beside = λ z e. o.beside (flat_map percent n ++ 47 ∷ z) (e ∙ ap (λ (t : Text). t ++ 47 ∷ z) (path_text_below p n) ∙ append_assoc (path_text p) (47 ∷ flat_map percent n) (47 ∷ z));
    }))
    h

-- the next entry stands beside the one before it
next_beside : (p : Path) (n m : Name) (z : Text) → Slashless m → path_text (p ++ m ∷ []) ≡ path_text (p ++ n ∷ []) ++ 47 ∷ z → ⊥
next_beside p n m z h e =
    let both : path_text p ++ 47 ∷ flat_map percent m ≡ path_text p ++ 47 ∷ (flat_map percent n ++ 47 ∷ z) =
    sym (path_text_below p m) ∙ e ∙ ap (λ (t : Text). t ++ 47 ∷ z) (path_text_below p n) ∙ append_assoc (path_text p) (47 ∷ flat_map percent n) (47 ∷ z)
    in
    let names : 47 ∷ flat_map percent m ≡ 47 ∷ (flat_map percent n ++ 47 ∷ z) = append_cancel_left (path_text p) (47 ∷ flat_map percent m) (47 ∷ (flat_map percent n ++ 47 ∷ z)) both in
    no_slash (flat_map percent m) (flat_map percent n) z (name_slashless m h) (cc)

behind_next : (v : Version) (p : Path) (n : Name) (rest : Entries) (r : Text) → ShownEntries p rest → Behind p r → Behind (p ++ n ∷ []) (lines_of v p rest ++ r)
behind_next v p n nothing r w h = behind_deeper p n r h
behind_next v p n (entry m y rest) r w h = inr (record {
  kind = kind_byte v y;
  text = path_text (p ++ m ∷ []);
  stop = stop_byte v y;
  rest = after_path v (p ++ m ∷ []) y ++ (lines_of v p rest ++ r);
  is = append_assoc (lines v (p ++ m ∷ []) y) (lines_of v p rest) r ∙ lines_start v (p ++ m ∷ []) y (lines_of v p rest ++ r);
  no_block = no_block_kind v y;
  visible = path_visible (p ++ m ∷ []);
  low = stop_low v y;
  beside = λ z e. next_beside p n m z (name_without_slash m (name_below p m w.0).bytes) e;
})

-- ---- one text of two trees

-- siblings that are written alike have one name
same_name : (p : Path) (n m : Name) → path_text (p ++ n ∷ []) ≡ path_text (p ++ m ∷ []) → n ≡ m
same_name p n m e =
    let both : path_text p ++ 47 ∷ flat_map percent n ≡ path_text p ++ 47 ∷ flat_map percent m = sym (path_text_below p n) ∙ e ∙ path_text_below p m in
    let names : 47 ∷ flat_map percent n ≡ 47 ∷ flat_map percent m = append_cancel_left (path_text p) (47 ∷ flat_map percent n) (47 ∷ flat_map percent m) both in
    name_injective n m (cc)

-- a number, what ends it, and what follows
same_number : (n m : ℕ) (stop : ℕ) (a b : Text) (r s : Text) → n < 2 ^ 64 → m < 2 ^ 64 → stop < 33 → (decimal n ++ stop ∷ a) ++ r ≡ (decimal m ++ stop ∷ b) ++ s → (n ≡ m) × (a ++ r ≡ b ++ s)
same_number n m stop a b r s few_n few_m low e =
    let both : decimal n ++ stop ∷ (a ++ r) ≡ decimal m ++ stop ∷ (b ++ s) = sym (append_assoc (decimal n) (stop ∷ a) r) ∙ e ∙ append_assoc (decimal m) (stop ∷ b) s in
    let parts : (decimal n ≡ decimal m) × (a ++ r ≡ b ++ s) = cut (decimal n) (decimal m) stop stop (a ++ r) (b ++ s) (decimal_visible n few_n) (decimal_visible m few_m) low low both in
    (decimal_injective n m few_n few_m parts.0, parts.1)

-- the moments of two directories
same_directory : (v : Version) (p : Path) (d e : ℕ) (es fs : Entries) (r s : Text) → IsMoment d → IsMoment e → after_path v p (Dir d es) ++ r ≡ after_path v p (Dir e fs) ++ s
    → (reported_moment v d ≡ reported_moment v e) × (lines_of v p es ++ r ≡ lines_of v p fs ++ s)
same_directory First p d e es fs r s few_d few_e h = (refl, h)
same_directory Second p d e es fs r s few_d few_e h = same_number d e 10 (lines_of Second p es) (lines_of Second p fs) r s few_d few_e (omega arith) h

-- the lengths, the moments and the blocks of two files
same_file : (v : Version) (p : Path) (d e : ℕ) (b c : List ℕ) (r s : Text) → IsMoment d → IsMoment e → length b ≤ 2 ^ 40 → length c ≤ 2 ^ 40 → NoBlock r → NoBlock s → after_path v p (File d b) ++ r ≡ after_path v p (File e c) ++ s
    → (reported_moment v d ≡ reported_moment v e) × (b ≡ c) × (r ≡ s)
same_file First p d e b c r s few_d few_e few_b few_c after_b after_c h =
    let left : Text = block_lines b (length b / 4096 + 1) in
    let right : Text = block_lines c (length c / 4096 + 1) in
    let parts : (length b ≡ length c) × (left ++ r ≡ right ++ s) = same_number (length b) (length c) 10 left right r s (omega arith) (omega arith) (omega arith) h in
    let file : (b ≡ c) × (r ≡ s) = one_file b c r s few_b parts.0 after_b after_c parts.1 in
    (refl, file.0, file.1)
same_file Second p d e b c r s few_d few_e few_b few_c after_b after_c h =
    let left : Text = block_lines b (length b / 4096 + 1) in
    let right : Text = block_lines c (length c / 4096 + 1) in
    let parts : (length b ≡ length c) × ((decimal d ++ 10 ∷ left) ++ r ≡ (decimal e ++ 10 ∷ right) ++ s) = same_number (length b) (length c) 32 (decimal d ++ 10 ∷ left) (decimal e ++ 10 ∷ right) r s (omega arith) (omega arith) (omega arith) h in
    let inner : (d ≡ e) × (left ++ r ≡ right ++ s) = same_number d e 10 left right r s few_d few_e (omega arith) parts.1 in
    let file : (b ≡ c) × (r ≡ s) = one_file b c r s few_b parts.0 after_b after_c inner.1 in
    (inner.0, file.0, file.1)

mutual
  same_subtree : (v : Version) (p : Path) (x y : Tree) (r s : Text) → Shown p x → Shown p y → Behind p r → Behind p s → lines v p x ++ r ≡ lines v p y ++ s → (as_reported v x ≡ as_reported v y) × (r ≡ s)
  same_subtree v p (Dir date es) (Dir stamp fs) r s a b h g e =
      let outer : (reported_moment v date ≡ reported_moment v stamp) × (lines_of v p es ++ r ≡ lines_of v p fs ++ s) = same_directory v p date stamp es fs r s a.0 b.0 (same_path_text v p p (Dir date es) (Dir stamp fs) r s e).2 in
      let inner : (as_reported_of v es ≡ as_reported_of v fs) × (r ≡ s) = same_entries v p es fs r s a.1 b.1 h g outer.1 in
      (cc (outer.0, inner.0), inner.1)
  same_subtree v p (Dir date es) (File stamp c) r s a b h g e = absurd (letters_differ v (same_path_text v p p (Dir date es) (File stamp c) r s e).0)
  same_subtree v p (File date b) (Dir stamp fs) r s a w h g e = absurd (letters_differ v (sym (same_path_text v p p (File date b) (Dir stamp fs) r s e).0))
  same_subtree v p (File date b) (File stamp c) r s a w h g e =
      let inner : (reported_moment v date ≡ reported_moment v stamp) × (b ≡ c) × (r ≡ s) = same_file v p date stamp b c r s a.0 w.0 a.1.few w.1.few (behind_blocks p r h) (behind_blocks p s g) (same_path_text v p p (File date b) (File stamp c) r s e).2 in
      (cc (inner.0, inner.1), inner.2)

  same_entries : (v : Version) (p : Path) (es fs : Entries) (r s : Text) → ShownEntries p es → ShownEntries p fs → Behind p r → Behind p s → lines_of v p es ++ r ≡ lines_of v p fs ++ s → (as_reported_of v es ≡ as_reported_of v fs) × (r ≡ s)
  same_entries v p nothing nothing r s a w h g e = (refl, e)
  same_entries v p nothing (entry m y fs) r s a w h g e = absurd (behind_entries v p r h m y (lines_of v p fs ++ s) (e ∙ append_assoc (lines v (p ++ m ∷ []) y) (lines_of v p fs) s))
  same_entries v p (entry n x es) nothing r s a w h g e = absurd (behind_entries v p s g n x (lines_of v p es ++ r) (sym e ∙ append_assoc (lines v (p ++ n ∷ []) x) (lines_of v p es) r))
  same_entries v p (entry n x es) (entry m y fs) r s a w h g e =
      let both : lines v (p ++ n ∷ []) x ++ (lines_of v p es ++ r) ≡ lines v (p ++ m ∷ []) y ++ (lines_of v p fs ++ s) = sym (append_assoc (lines v (p ++ n ∷ []) x) (lines_of v p es) r) ∙ e ∙ append_assoc (lines v (p ++ m ∷ []) y) (lines_of v p fs) s in
      let name : n ≡ m = same_name p n m (same_path_text v (p ++ n ∷ []) (p ++ m ∷ []) x y (lines_of v p es ++ r) (lines_of v p fs ++ s) both).1 in
      let first : (as_reported v x ≡ as_reported v y) × (lines_of v p es ++ r ≡ lines_of v p fs ++ s) =
      same_subtree v (p ++ n ∷ []) x y (lines_of v p es ++ r) (lines_of v p fs ++ s) a.1 (subst (λ (k : Name). Shown (p ++ k ∷ []) y) (sym name) w.1) (behind_next v p n es r a.2 h) (behind_next v p n fs s w.2 g)
      (both ∙ ap (λ (k : Name). lines v (p ++ k ∷ []) y ++ (lines_of v p fs ++ s)) (sym name))
      in
      let others : (as_reported_of v es ≡ as_reported_of v fs) × (r ≡ s) = same_entries v p es fs r s a.2 w.2 h g first.1 in
      (cc (name, first.0, others.0), others.1)

-- ---- images

-- the root's line, and what follows
same_root : (v : Version) (d e : ℕ) (a b : Text) → IsMoment d → IsMoment e → (root_line v d ++ 10 ∷ []) ++ a ≡ (root_line v e ++ 10 ∷ []) ++ b → (reported_moment v d ≡ reported_moment v e) × (a ≡ b)
same_root First d e a b few_d few_e h = (refl, cc)
same_root Second d e a b few_d few_e h =
    let both : (decimal d ++ 10 ∷ []) ++ a ≡ (decimal e ++ 10 ∷ []) ++ b = cc in
    same_number d e 10 [] [] a b few_d few_e (omega arith) both

pub one_image : (v : Version) (t u : Tree) → IsTree t → IsTree u → image v t ≡ image v u → as_reported v t ≡ as_reported v u
one_image v (File date b) u is_t is_u e = absurd is_t.root
one_image v (Dir date es) (File stamp c) is_t is_u e = absurd is_u.root
one_image v (Dir date es) (Dir stamp fs) is_t is_u e =
    let left : Shown [] (Dir date es) = tree_shown date es is_t in
    let right : Shown [] (Dir stamp fs) = tree_shown stamp fs is_u in
    let outer : (reported_moment v date ≡ reported_moment v stamp) × (lines_of v [] es ≡ lines_of v [] fs) = same_root v date stamp (lines_of v [] es) (lines_of v [] fs) left.0 right.0 e in
    let one : (as_reported_of v es ≡ as_reported_of v fs) × ([] ≡ []) = same_entries v [] es fs [] [] left.1 right.1 (inl refl) (inl refl) (ap (λ (t : Text). t ++ []) outer.1) in
    cc (outer.0, one.0)

-- version 2 tells all
mutual
  pub reported_law : (t : Tree) → as_reported Second t ≡ t
  reported_law (Dir date es) = ap (Dir date) (reported_entries es)
  reported_law (File date b) = refl

  reported_entries : (es : Entries) → as_reported_of Second es ≡ es
  reported_entries nothing = refl
  reported_entries (entry n x rest) =
      let first : as_reported Second x ≡ x = reported_law x in
      let others : as_reported_of Second rest ≡ rest = reported_entries rest in
      cc (first, others)
