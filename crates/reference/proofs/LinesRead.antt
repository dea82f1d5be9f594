-- Lines are known from their text: which line it is, and where a text is cut into lines.
use Rattle.std.proofs.Common.{◌≡◌, ◌≢◌, ℕ, ◌+◌, ◌*◌, ◌^◌, ◌<◌, ◌≤◌, [], ◌∷◌, ◌++◌, length, refl, sym, ap, subst, ◌∙◌, arith, append_assoc, append-nil, Some, decimal, flat_map}
use Rattle.std.proofs.lemmas.Fmt.{decimal_injective}
use Rattle.std.specs.declared.cmp.Ordering.TheVariants.{Less}
use Rattle.pathkey.specs.Enc.{enc}
use Rattle.pathkey.specs.Order.{by_bytes}
use Rattle.pathkey.specs.Names.{Path, EachName}
use Rattle.reference.specs.Image.{Text, path_text, percent, two_digits, Version, First, Second, directory_letter, file_letter, moment_text, root_line}
use Rattle.reference.specs.ImageLines.{Line, DirectoryLine, FileLine, BlockLine, Lines, spelled, image_of_lines, last_path, last_len, IsNewEntry, IsLine, IsReported, MayFollow, AreLines, IsImage, IsSomeImage, OneVersionLaw}
use Rattle.reference.proofs.ImageTexts.{Visible, Slashless, cut, path_visible, decimal_visible, hex_visible, hex_injective, name_injective, name_slashless}
use Rattle.reference.proofs.OneImage.{letters_differ}
use Rattle.reference.proofs.PathOrder.{none_below_root}
use Rattle.reference.proofs.ShownTrees.{name_without_slash}

-- ---- no line feed

abbrev pub NoFeed : Text → Type 0
NoFeed [] = Unit {0}
NoFeed (x ∷ xs) = (x ≢ 10) × NoFeed xs

no_feed-append : (xs ys : Text) → NoFeed xs → NoFeed ys → NoFeed (xs ++ ys)
no_feed-append [] ys v w = w
no_feed-append (x ∷ xs) ys v w = (v.0, no_feed-append xs ys v.1 w)

visible_no_feed : (xs : Text) → Visible xs → NoFeed xs
visible_no_feed [] v = tt
visible_no_feed (x ∷ xs) v = ((λ e. let far : 33 ≤ x = v.0 in omega arith), visible_no_feed xs v.1)

feed_clash : (xs ys : Text) → NoFeed (xs ++ 10 ∷ ys) → ⊥
feed_clash [] ys v = v.0 refl
feed_clash (x ∷ xs) ys v = feed_clash xs ys v.1

-- texts are cut at their last line feed in one way
pub cut_last : (xs ys a b : Text) → NoFeed a → NoFeed b → xs ++ 10 ∷ a ≡ ys ++ 10 ∷ b → (xs ≡ ys) × (a ≡ b)
cut_last [] [] a b v w e = (refl, cc)
cut_last [] (y ∷ ys) a b v w e = absurd (let rest : a ≡ ys ++ 10 ∷ b = cc in feed_clash ys b (subst NoFeed rest v))
cut_last (x ∷ xs) [] a b v w e = absurd (let rest : b ≡ xs ++ 10 ∷ a = cc in feed_clash xs a (subst NoFeed rest w))
cut_last (x ∷ xs) (y ∷ ys) a b v w e =
    let ih : (xs ≡ ys) × (a ≡ b) = cut_last xs ys a b v w (cc) in
    (cc (ih.0), ih.1)

-- ---- lines alone

few_visible : (n : ℕ) → n ≤ 2 ^ 40 → Visible (decimal n)
few_visible n h = decimal_visible n (omega arith)

moment_free : (v : Version) (at : ℕ) → IsReported v at → NoFeed (moment_text v at)
moment_free First at h = tt
moment_free Second at h = ((λ e. omega arith), visible_no_feed (decimal at) (decimal_visible at h))

letter_free : (v : Version) → (directory_letter v ≢ 10) × (file_letter v ≢ 10)
letter_free First = ((λ e. omega arith), (λ e. omega arith))
letter_free Second = ((λ e. omega arith), (λ e. omega arith))

pub spelled_no_feed : (v : Version) (l : Line) → IsLine v l → NoFeed (spelled v l)
spelled_no_feed v (DirectoryLine p at) h = ((letter_free v).0, ((λ e. omega arith), no_feed-append (path_text p) (moment_text v at) (visible_no_feed (path_text p) (path_visible p)) (moment_free v at h.2)))
spelled_no_feed v (FileLine p n at) h = (
  (letter_free v).1,
  (
    (λ e. omega arith),
    no_feed-append (path_text p) (32 ∷ (decimal n ++ moment_text v at)) (visible_no_feed (path_text p) (path_visible p)) ((λ e. omega arith), no_feed-append (decimal n) (moment_text v at) (visible_no_feed (decimal n) (few_visible n h.2)) (moment_free v at h.3)),
  ),
)
spelled_no_feed v (BlockLine i b) h = (
  (λ e. omega arith),
  (
    (λ e. omega arith),
    no_feed-append (decimal i) (32 ∷ flat_map (two_digits 87) b) (visible_no_feed (decimal i) (few_visible i (let lt : i < 2 ^ 28 = h.0 in omega arith))) ((λ e. omega arith), visible_no_feed (flat_map (two_digits 87) b) (hex_visible b)),
  ),
)

-- the root's line has no line feed
pub root_free : (v : Version) (root : ℕ) → IsReported v root → NoFeed (root_line v root)
root_free v root h = ((letter_free v).0, ((λ e. omega arith), ((λ e. omega arith), moment_free v root h)))

-- ---- which path a text tells

slashless_cut : (xs ys : Text) (r s : Text) → Slashless xs → Slashless ys → xs ++ 47 ∷ r ≡ ys ++ 47 ∷ s → (xs ≡ ys) × (47 ∷ r ≡ 47 ∷ s)
slashless_cut [] [] r s v w e = (refl, e)
slashless_cut [] (y ∷ ys) r s v w e = absurd (w.0 (cc))
slashless_cut (x ∷ xs) [] r s v w e = absurd (v.0 (cc))
slashless_cut (x ∷ xs) (y ∷ ys) r s v w e =
    let ih : (xs ≡ ys) × (47 ∷ r ≡ 47 ∷ s) = slashless_cut xs ys r s v.1 w.1 (cc) in
    (cc (ih.0), ih.1)

slash_behind : (xs r : Text) → Slashless (xs ++ 47 ∷ r) → ⊥
slash_behind [] r v = v.0 refl
slash_behind (x ∷ xs) r v = slash_behind xs r v.1

names_cut : (xs ys : Text) (p q : Path) → Slashless xs → Slashless ys → xs ++ path_text p ≡ ys ++ path_text q → (xs ≡ ys) × (path_text p ≡ path_text q)
names_cut xs ys [] [] v w e = (sym (append-nil xs) ∙ e ∙ append-nil ys, refl)
names_cut xs ys [] (m ∷ q) v w e = absurd (slash_behind ys (flat_map percent m ++ path_text q) (subst Slashless (sym (append-nil xs) ∙ e) v))
names_cut xs ys (n ∷ p) [] v w e = absurd (slash_behind xs (flat_map percent n ++ path_text p) (subst Slashless (sym (append-nil ys) ∙ sym e) w))
names_cut xs ys (n ∷ p) (m ∷ q) v w e = slashless_cut xs ys (flat_map percent n ++ path_text p) (flat_map percent m ++ path_text q) v w e

path_text_injective : (p q : Path) → EachName p → EachName q → path_text p ≡ path_text q → p ≡ q
path_text_injective [] [] u v e = refl
path_text_injective [] (m ∷ q) u v e = absurd (cc)
path_text_injective (n ∷ p) [] u v e = absurd (cc)
path_text_injective (n ∷ p) (m ∷ q) u v e =
    let parts : (flat_map percent n ≡ flat_map percent m) × (path_text p ≡ path_text q) =
    names_cut (flat_map percent n) (flat_map percent m) p q (name_slashless n (name_without_slash n u.0.bytes)) (name_slashless m (name_without_slash m v.0.bytes)) (cc)
    in
    cc (name_injective n m parts.0, path_text_injective p q u.1 v.1 parts.1)

-- ---- which line a text tells

-- the first byte
abbrev pub first : Text → ℕ
first [] = 0
first (x ∷ xs) = x

-- a moment is known from the end of its line
moment_injective : (v : Version) (a b : ℕ) → IsReported v a → IsReported v b → moment_text v a ≡ moment_text v b → a ≡ b
moment_injective First a b h g e = h ∙ sym g
moment_injective Second a b h g e = decimal_injective a b h g (cc)

directory_cut : (v : Version) (p q : Path) (a b : ℕ) → IsReported v a → IsReported v b → path_text p ++ moment_text v a ≡ path_text q ++ moment_text v b → (path_text p ≡ path_text q) × (a ≡ b)
directory_cut First p q a b h g e = (sym (append-nil (path_text p)) ∙ e ∙ append-nil (path_text q), h ∙ sym g)
directory_cut Second p q a b h g e =
    let parts : (path_text p ≡ path_text q) × (decimal a ≡ decimal b) = cut (path_text p) (path_text q) 32 32 (decimal a) (decimal b) (path_visible p) (path_visible q) (omega arith) (omega arith) e in
    (parts.0, decimal_injective a b h g parts.1)

length_cut : (v : Version) (n m a b : ℕ) → n ≤ 2 ^ 40 → m ≤ 2 ^ 40 → IsReported v a → IsReported v b → decimal n ++ moment_text v a ≡ decimal m ++ moment_text v b → (n ≡ m) × (a ≡ b)
length_cut First n m a b few_n few_m h g e = (decimal_injective n m (omega arith) (omega arith) (sym (append-nil (decimal n)) ∙ e ∙ append-nil (decimal m)), h ∙ sym g)
length_cut Second n m a b few_n few_m h g e =
    let parts : (decimal n ≡ decimal m) × (decimal a ≡ decimal b) = cut (decimal n) (decimal m) 32 32 (decimal a) (decimal b) (few_visible n few_n) (few_visible m few_m) (omega arith) (omega arith) e in
    (decimal_injective n m (omega arith) (omega arith) parts.0, decimal_injective a b h g parts.1)

-- no line of an entry begins with the letter of a block's line
pub no_block : (v : Version) → (directory_letter v ≢ 98) × (file_letter v ≢ 98)
no_block First = ((λ e. omega arith), (λ e. omega arith))
no_block Second = ((λ e. omega arith), (λ e. omega arith))

pub line_injective : (v : Version) (l k : Line) → IsLine v l → IsLine v k → spelled v l ≡ spelled v k → l ≡ k
line_injective v (DirectoryLine p a) (DirectoryLine q b) u w e =
    let parts : (path_text p ≡ path_text q) × (a ≡ b) = directory_cut v p q a b u.2 w.2 (cc) in
    let path : p ≡ q = path_text_injective p q u.0.names w.0.names parts.0 in
    cc (path, parts.1)
line_injective v (DirectoryLine p a) (FileLine q n b) u w e = absurd (letters_differ v (ap first e))
line_injective v (DirectoryLine p a) (BlockLine i b) u w e = absurd ((no_block v).0 (ap first e))
line_injective v (FileLine p n a) (DirectoryLine q b) u w e = absurd (letters_differ v (sym (ap first e)))
line_injective v (FileLine p n a) (FileLine q m b) u w e =
    let parts : (path_text p ≡ path_text q) × (decimal n ++ moment_text v a ≡ decimal m ++ moment_text v b) =
    cut (path_text p) (path_text q) 32 32 (decimal n ++ moment_text v a) (decimal m ++ moment_text v b) (path_visible p) (path_visible q) (omega arith) (omega arith) (cc)
    in
    let path : p ≡ q = path_text_injective p q u.0.names w.0.names parts.0 in
    let numbers : (n ≡ m) × (a ≡ b) = length_cut v n m a b u.2 w.2 u.3 w.3 parts.1 in
    cc (path, numbers.0, numbers.1)
line_injective v (FileLine p n a) (BlockLine i b) u w e = absurd ((no_block v).1 (ap first e))
line_injective v (BlockLine i b) (DirectoryLine q a) u w e = absurd ((no_block v).0 (sym (ap first e)))
line_injective v (BlockLine i b) (FileLine q m a) u w e = absurd ((no_block v).1 (sym (ap first e)))
line_injective v (BlockLine i b) (BlockLine j c) u w e =
    let few_i : i < 2 ^ 28 = u.0 in
    let few_j : j < 2 ^ 28 = w.0 in
    let parts : (decimal i ≡ decimal j) × (flat_map (two_digits 87) b ≡ flat_map (two_digits 87) c) =
    cut (decimal i) (decimal j) 32 32 (flat_map (two_digits 87) b) (flat_map (two_digits 87) c) (few_visible i (omega arith)) (few_visible j (omega arith)) (omega arith) (omega arith) (cc)
    in
    let number : i ≡ j = decimal_injective i j (omega arith) (omega arith) parts.0 in
    let bytes : b ≡ c = hex_injective b c parts.1 in
    cc (number, bytes)

-- ---- lines one after the other

few_bytes : (v : Version) (ls : Lines) (n : ℕ) → AreLines v ls → last_len ls ≡ Some n → n ≤ 2 ^ 40
few_bytes v [] n h e = absurd (cc)
few_bytes v (DirectoryLine p at ∷ ls) n h e = absurd (cc)
few_bytes v (FileLine p k at ∷ ls) n h e = let few : k ≤ 2 ^ 40 = h.0.1 in let same : k ≡ n = cc in omega arith
few_bytes v (BlockLine i b ∷ ls) n h e = few_bytes v ls n h.1 e

not_the_root : (p : Path) (ls : Lines) → IsNewEntry p ls → p ≢ []
not_the_root p ls h = λ e. none_below_root (enc (last_path ls)) (subst (λ (q : Path). by_bytes (enc (last_path ls)) (enc q) ≡ Less) e h.rises)

-- a line that may follow lines of an image may stand in one
pub line_from_follows : (v : Version) (l : Line) (ls : Lines) → AreLines v ls → MayFollow v l ls → IsLine v l
line_from_follows v (DirectoryLine p at) ls h g = (g.0.path, not_the_root p ls g.0, g.1)
line_from_follows v (FileLine p n at) ls h g = (g.0.path, not_the_root p ls g.0, g.1, g.2)
line_from_follows v (BlockLine i b) ls h g =
    let few : g.len ≤ 2 ^ 40 = few_bytes v ls g.len h g.file in
    let inside : 4096 * i + length b ≤ g.len = g.inside in
    let some : 0 < length b = g.block.some in
    (omega arith, g.block)

-- where the text of lines has its last line feed
ends_with_feed : (v : Version) (root : ℕ) (ls : Lines) → (front : Text) × (image_of_lines v root ls ≡ front ++ 10 ∷ [])
ends_with_feed v root [] = (root_line v root, refl)
ends_with_feed v root (l ∷ ls) = (image_of_lines v root ls ++ spelled v l, sym (append_assoc (image_of_lines v root ls) (spelled v l) (10 ∷ [])))

-- a text that ends with a whole line behind lines
line_behind : (front : Text) (t line : Text) → t ≡ front ++ 10 ∷ [] → t ++ (line ++ 10 ∷ []) ≡ (front ++ 10 ∷ line) ++ 10 ∷ []
line_behind front t line e = ap (λ (s : Text). s ++ (line ++ 10 ∷ [])) e ∙ append_assoc front (10 ∷ []) (line ++ 10 ∷ []) ∙ sym (append_assoc front (10 ∷ line) (10 ∷ []))

cut_lines : (t u a b : Text) (f g : Text) → t ≡ f ++ 10 ∷ [] → u ≡ g ++ 10 ∷ [] → NoFeed a → NoFeed b → t ++ (a ++ 10 ∷ []) ≡ u ++ (b ++ 10 ∷ []) → (t ≡ u) × (a ≡ b)
cut_lines t u a b f g is_t is_u v w e =
    let outer : (f ++ 10 ∷ a ≡ g ++ 10 ∷ b) × ([] ≡ []) = cut_last (f ++ 10 ∷ a) (g ++ 10 ∷ b) [] [] tt tt (sym (line_behind f t a is_t) ∙ e ∙ line_behind g u b is_u) in
    let inner : (f ≡ g) × (a ≡ b) = cut_last f g a b v w outer.0 in
    (is_t ∙ ap (λ (s : Text). s ++ 10 ∷ []) inner.0 ∙ sym is_u, inner.1)

-- a line alone has no other line before it
alone : (line : Text) (t a : Text) (f : Text) → NoFeed line → t ≡ f ++ 10 ∷ [] → t ++ (a ++ 10 ∷ []) ≡ line ++ 10 ∷ [] → ⊥
alone line t a f v is e =
    let outer : (f ++ 10 ∷ a ≡ line) × ([] ≡ []) = cut_last (f ++ 10 ∷ a) line [] [] tt tt (sym (line_behind f t a is) ∙ e) in
    feed_clash f a (subst NoFeed (sym outer.0) v)

-- the root's moment is known from its line
root_injective : (v : Version) (root top : ℕ) → IsReported v root → IsReported v top → root_line v root ++ 10 ∷ [] ≡ root_line v top ++ 10 ∷ [] → root ≡ top
root_injective v root top h g e =
    let outer : (root_line v root ≡ root_line v top) × ([] ≡ []) = cut_last (root_line v root) (root_line v top) [] [] tt tt e in
    moment_injective v root top h g (let same : directory_letter v ∷ 32 ∷ 47 ∷ moment_text v root ≡ directory_letter v ∷ 32 ∷ 47 ∷ moment_text v top = outer.0 in cc)

-- lines and the root's moment are known from their text
pub lines_injective : (v : Version) (root top : ℕ) (ls ks : Lines) → IsReported v root → IsReported v top → AreLines v ls → AreLines v ks → image_of_lines v root ls ≡ image_of_lines v top ks → (root ≡ top) × (ls ≡ ks)
lines_injective v root top [] [] h g u w e = (root_injective v root top h g e, refl)
lines_injective v root top [] (k ∷ ks) h g u w e = absurd (let f = ends_with_feed v top ks in alone (root_line v root) (image_of_lines v top ks) (spelled v k) f.0 (root_free v root h) f.1 (sym e))
lines_injective v root top (l ∷ ls) [] h g u w e = absurd (let f = ends_with_feed v root ls in alone (root_line v top) (image_of_lines v root ls) (spelled v l) f.0 (root_free v top g) f.1 e)
lines_injective v root top (l ∷ ls) (k ∷ ks) h g u w e =
    let f = ends_with_feed v root ls in
    let d = ends_with_feed v top ks in
    let is_l : IsLine v l = line_from_follows v l ls u.1 u.0 in
    let is_k : IsLine v k = line_from_follows v k ks w.1 w.0 in
    let parts : (image_of_lines v root ls ≡ image_of_lines v top ks) × (spelled v l ≡ spelled v k) =
    cut_lines (image_of_lines v root ls) (image_of_lines v top ks) (spelled v l) (spelled v k) f.0 d.0 f.1 d.1 (spelled_no_feed v l is_l) (spelled_no_feed v k is_k) e
    in
    let others : (root ≡ top) × (ls ≡ ks) = lines_injective v root top ls ks h g u.1 w.1 parts.0 in
    let line : l ≡ k = line_injective v l k is_l is_k parts.1 in
    (others.0, cc (line, others.1))

-- ---- the version

-- the first letter of an image
starts : (v : Version) (root : ℕ) (ls : Lines) → (rest : Text) × (image_of_lines v root ls ≡ directory_letter v ∷ rest)
starts v root [] = (_, refl)
starts v root (l ∷ ls) = let s = starts v root ls in (_, ap (λ (t : Text). t ++ (spelled v l ++ 10 ∷ [])) s.1)

one_letter : (v w : Version) → directory_letter v ≡ directory_letter w → v ≡ w
one_letter First First e = refl
one_letter First Second e = absurd (omega arith)
one_letter Second First e = absurd (omega arith)
one_letter Second Second e = refl

-- a text that begins with lines of a version is an image of no other
pub version_behind : (v w : Version) (root : ℕ) (ls : Lines) (more : Text) → IsImage w (image_of_lines v root ls ++ more) → v ≡ w
version_behind v w root ls more h =
    let s = starts v root ls in
    let t = starts w h.root h.lines in
    let both : directory_letter v ∷ (s.0 ++ more) ≡ directory_letter w ∷ t.0 = ap (λ (x : Text). x ++ more) (sym s.1) ∙ h.is ∙ t.1 in
    one_letter v w (ap first both)

pub one_version : OneVersionLaw
one_version v w text h g = version_behind v w h.root h.lines [] (subst (IsImage w) (h.is ∙ sym (append-nil (image_of_lines v h.root h.lines))) g)

-- so it is some image only as one of its version
pub of_version : (v : Version) (root : ℕ) (ls : Lines) (more : Text) → IsSomeImage (image_of_lines v root ls ++ more) → IsImage v (image_of_lines v root ls ++ more)
of_version v root ls more h = subst (λ (w : Version). IsImage w (image_of_lines v root ls ++ more)) (sym (version_behind v h.0 root ls more h.1)) h.1

-- ---- one line more

-- what a line is that follows lines of an image and leaves an image
pub record IsNext (v : Version) (ls : Lines) (line : Text) : Type 0 where
  pub next : Line
  pub follows : MayFollow v next ls
  pub is : line ≡ spelled v next

pub next_line : (v : Version) (root : ℕ) (ls : Lines) (line : Text) → IsReported v root → AreLines v ls → NoFeed line → IsSomeImage (image_of_lines v root ls ++ (line ++ 10 ∷ [])) → IsNext v ls line
next_line v root ls line early u free some = go h.root h.lines h.reported h.are h.is
  where
    h : IsImage v (image_of_lines v root ls ++ (line ++ 10 ∷ []))
    h = of_version v root ls (line ++ 10 ∷ []) some

    go : (top : ℕ) (ks : Lines) → IsReported v top → AreLines v ks → image_of_lines v root ls ++ (line ++ 10 ∷ []) ≡ image_of_lines v top ks → IsNext v ls line
    go top [] g w e = absurd (let f = ends_with_feed v root ls in alone (root_line v top) (image_of_lines v root ls) line f.0 (root_free v top g) f.1 e)
    go top (k ∷ ks) g w e =
        let f = ends_with_feed v root ls in
        let d = ends_with_feed v top ks in
        let is_k : IsLine v k = line_from_follows v k ks w.1 w.0 in
        let parts : (image_of_lines v root ls ≡ image_of_lines v top ks) × (line ≡ spelled v k) =
        cut_lines (image_of_lines v root ls) (image_of_lines v top ks) line (spelled v k) f.0 d.0 f.1 d.1 free (spelled_no_feed v k is_k) e
        in
        let same : (top ≡ root) × (ks ≡ ls) = lines_injective v top root ks ls g early w.1 u (sym parts.0) in
        record { next = k; follows = subst (MayFollow v k) same.1 w.0; is = parts.1 }

-- what the first line of an image tells
pub record IsFirst (line : Text) : Type 0 where
  pub version : Version
  pub root : ℕ
  pub reported : IsReported version root
  pub is : line ≡ root_line version root

-- it is the root's
pub first_line : (line : Text) → NoFeed line → IsSomeImage (line ++ 10 ∷ []) → IsFirst line
first_line line free some = go some.1.lines some.1.is
  where
    go : (ks : Lines) → line ++ 10 ∷ [] ≡ image_of_lines some.0 some.1.root ks → IsFirst line
    go [] e = record { version = some.0; root = some.1.root; reported = some.1.reported; is = (cut_last line (root_line some.0 some.1.root) [] [] tt tt e).0 }
    go (k ∷ ks) e = absurd (
        let g = ends_with_feed some.0 some.1.root ks in
        let outer : (line ≡ g.0 ++ 10 ∷ spelled some.0 k) × ([] ≡ []) = cut_last line (g.0 ++ 10 ∷ spelled some.0 k) [] [] tt tt (e ∙ line_behind g.0 (image_of_lines some.0 some.1.root ks) (spelled some.0 k) g.1) in
        feed_clash g.0 (spelled some.0 k) (subst NoFeed outer.0 free))

-- a text that does not end with a line feed is no image
pub unended : (front : Text) (x : ℕ) (line : Text) → NoFeed (x ∷ line) → IsSomeImage (front ++ x ∷ line) → ⊥
unended front x line v h =
    let f = ends_with_feed h.0 h.1.root h.1.lines in
    no_end front (x ∷ line) f.0 v (λ e. cc) (h.1.is ∙ f.1)
  where
    feed_alone : (g line : Text) → NoFeed line → line ≢ [] → line ≡ g ++ 10 ∷ [] → ⊥
    feed_alone g line v ne e = feed_clash g [] (subst NoFeed e v)

    no_end : (front line g : Text) → NoFeed line → line ≢ [] → front ++ line ≡ g ++ 10 ∷ [] → ⊥
    no_end [] line g v ne e = feed_alone g line v ne e
    no_end (y ∷ front) line [] v ne e = nothing_behind front line ne (cc)
      where
        nothing_behind : (front line : Text) → line ≢ [] → front ++ line ≡ [] → ⊥
        nothing_behind [] line ne e = ne e
        nothing_behind (z ∷ front) line ne e = cc
    no_end (y ∷ front) line (z ∷ g) v ne e = no_end front line g v ne (cc)

-- nothing is no image
pub nothing_is_none : IsSomeImage [] → ⊥
nothing_is_none h = let s = starts h.0 h.1.root h.1.lines in let e : [] ≡ directory_letter h.0 ∷ s.0 = h.1.is ∙ s.1 in cc
