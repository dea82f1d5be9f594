-- Unique parsing: the bytes determine the number or the entry with which they begin.
use Rattle.std.proofs.Common.{◌≡◌, ⊎_elim, ℕ, ◌+◌, ◌<◌, ◌≤◌, List, ◌++◌, length, get_or, take, drop, All, Fits, w8, refl, ap, sym, subst, ◌∙◌, arith, append_assoc, length-append}
use Rattle.std.specs.Int.{w64, from_le_bytes, to_le_bytes}
use Rattle.std.proofs.lemmas.Bool.{cases_lt}
use Rattle.std.proofs.lemmas.List.{take_at, drop_at, get_or_past, take-append-drop}
use Rattle.std.proofs.lemmas.List.Elements.{All-from_recursion, All-get_or, All-take}
use Rattle.std.proofs.lemmas.Nat.{from_le_bytes-to_le_bytes_8, le_bytes_8}
use Rattle.pathkey.proofs.HeadFacts.{are_bytes}
use Rattle.wal.specs.declared.entry.EntryHeader.{EntryHeader}
use Rattle.wal.specs.Entries.{IsHead, IsWord, LacksEntry, entry, entry_front, numbers, word}

-- ---- parts of one length

pub same_split : (n : ℕ) (a b x y : List ℕ) → length a ≡ n → length b ≡ n → a ++ x ≡ b ++ y → (a ≡ b) × (x ≡ y)
same_split n a b x y la lb e =
    (sym (take_at a x n la) ∙ ap (take n) e ∙ take_at b y n lb, sym (drop_at a x n la) ∙ ap (drop n) e ∙ drop_at b y n lb)

pub length-word : (n : ℕ) → length (word n) ≡ 8
unfolding word
length-word n = refl

pub word_same : (a b : ℕ) → IsWord a → IsWord b → word a ≡ word b → a ≡ b
unfolding word
word_same a b p q e = sym (from_le_bytes-to_le_bytes_8 a p) ∙ ap (from_le_bytes w64) e ∙ from_le_bytes-to_le_bytes_8 b q

pub word_once : (a b : ℕ) (x y : List ℕ) → IsWord a → IsWord b → word a ++ x ≡ word b ++ y → (a ≡ b) × (x ≡ y)
word_once a b x y p q e =
    let parts = same_split 8 (word a) (word b) x y (length-word a) (length-word b) e in
    (word_same a b p q parts.0, parts.1)

pub after_word : (n : ℕ) (bytes rest : List ℕ) → bytes ≡ word n ++ rest → length bytes ≡ 8 + length rest
after_word n bytes rest e =
    let size : length bytes ≡ length (word n) + length rest = ap length e ∙ length-append (word n) rest in
    let eight : length (word n) ≡ 8 = length-word n in
    omega arith

pub word_read : (bytes front rest : List ℕ) (n : ℕ) → ((i : ℕ) → Fits w8 (get_or bytes i 0)) → front ≡ take 8 bytes → rest ≡ drop 8 bytes → length front ≡ 8 → n ≡ from_le_bytes w64 front → bytes ≡ word n ++ rest
unfolding word
word_read bytes front rest n fits ef er eight is =
    let back : to_le_bytes w64 n ≡ front = le_bytes_8 front n eight (small_at front (subst (All (λ b. b < 256)) (sym ef) (All-take (λ b. b < 256) 8 bytes (All-from_recursion (λ b. b < 256) bytes (are_bytes bytes fits))))) is in
    sym (take-append-drop 8 bytes) ∙ ap (λ (x : List ℕ). x ++ drop 8 bytes) (sym (back ∙ ef)) ∙ ap (λ (x : List ℕ). to_le_bytes w64 n ++ x) (sym er)
  where
    small_at : (xs : List ℕ) → All (λ b. b < 256) xs → (i : ℕ) → get_or xs i 0 < 256
    small_at xs all i = ⊎_elim
        (λ (h : i < length xs). All-get_or (λ b. b < 256) xs i 0 h all)
        (λ (h : length xs ≤ i). let e = get_or_past xs i 0 h in omega arith)
        (cases_lt i (length xs))

-- ---- the numbers of an entry

four_words : (a b c d r : List ℕ) → (a ++ b ++ c ++ d) ++ r ≡ a ++ (b ++ (c ++ (d ++ r)))
four_words a b c d r = simp append_assoc

pub head_cut : (bytes r s t u : List ℕ) (h : EntryHeader) → bytes ≡ word h.kind ++ r → r ≡ word h.at ++ s → s ≡ word h.offset ++ t → t ≡ word h.count ++ u → bytes ≡ numbers h ++ u
unfolding numbers
head_cut bytes r s t u h a b c d =
    a ∙ ap (λ (x : List ℕ). word h.kind ++ x) (b ∙ ap (λ (x : List ℕ). word h.at ++ x) (c ∙ ap (λ (x : List ℕ). word h.offset ++ x) d))
    ∙ sym (four_words (word h.kind) (word h.at) (word h.offset) (word h.count) u)

pub length-numbers : (h : EntryHeader) → length (numbers h) ≡ 32
unfolding numbers word
length-numbers h = refl

pub after_head : (h : EntryHeader) (bytes rest : List ℕ) → bytes ≡ numbers h ++ rest → length bytes ≡ 32 + length rest
after_head h bytes rest e =
    let size : length bytes ≡ length (numbers h) + length rest = ap length e ∙ length-append (numbers h) rest in
    let all : length (numbers h) ≡ 32 = length-numbers h in
    omega arith

same_head : (h : EntryHeader) (k a o n : ℕ) → k ≡ h.kind → a ≡ h.at → o ≡ h.offset → n ≡ h.count → ◌≡◌ {A = EntryHeader} (record { kind = k; at = a; offset = o; count = n }) h
same_head h k a o n ek ea eo en =
    ap (λ (x : ℕ). let r : EntryHeader = record { kind = x; at = a; offset = o; count = n } in r) ek
    ∙ ap (λ (x : ℕ). let r : EntryHeader = record { kind = h.kind; at = x; offset = o; count = n } in r) ea
    ∙ ap (λ (x : ℕ). let r : EntryHeader = record { kind = h.kind; at = h.at; offset = x; count = n } in r) eo
    ∙ ap (λ (x : ℕ). let r : EntryHeader = record { kind = h.kind; at = h.at; offset = h.offset; count = x } in r) en

numbers_parts : (h : EntryHeader) → numbers h ≡ word h.kind ++ (word h.at ++ (word h.offset ++ word h.count))
unfolding numbers
numbers_parts h = simp append_assoc

numbers_same : (h k : EntryHeader) → IsHead h → IsHead k → numbers h ≡ numbers k → h ≡ k
numbers_same h k p q e =
    let one = word_once h.kind k.kind (word h.at ++ (word h.offset ++ word h.count)) (word k.at ++ (word k.offset ++ word k.count)) p.kind q.kind (sym (numbers_parts h) ∙ e ∙ numbers_parts k) in
    let two = word_once h.at k.at (word h.offset ++ word h.count) (word k.offset ++ word k.count) p.at q.at one.1 in
    let three = word_once h.offset k.offset (word h.count) (word k.count) p.offset q.offset two.1 in
    same_head k h.kind h.at h.offset h.count one.0 two.0 three.0 (word_same h.count k.count p.count q.count three.1)

-- ---- entries

pub grouped : (h : EntryHeader) (f s r : List ℕ) → entry h f s ++ r ≡ numbers h ++ (word (length f) ++ (word (length s) ++ (f ++ (s ++ r))))
unfolding entry entry_front
grouped h f s r = simp append_assoc

pub entry_cut : (bytes a b c d r : List ℕ) (h : EntryHeader) (f s : List ℕ) (m n : ℕ) → bytes ≡ numbers h ++ a → a ≡ word m ++ b → b ≡ word n ++ c → c ≡ f ++ d → length f ≡ m → d ≡ s ++ r → length s ≡ n
    → bytes ≡ entry h f s ++ r
entry_cut bytes a b c d r h f s m n ea eb ec ed lf er ls =
    ea ∙ ap (λ (x : List ℕ). numbers h ++ x)
    (eb ∙ ap (λ (k : ℕ). word k ++ b) (sym lf) ∙ ap (λ (x : List ℕ). word (length f) ++ x)
    (ec ∙ ap (λ (k : ℕ). word k ++ c) (sym ls) ∙ ap (λ (x : List ℕ). word (length s) ++ x)
    (ed ∙ ap (λ (x : List ℕ). f ++ x) er)))
    ∙ sym (grouped h f s r)

after_entry : (h : EntryHeader) (f s bytes rest : List ℕ) → bytes ≡ entry h f s ++ rest → length bytes ≡ 48 + length f + length s + length rest
after_entry h f s bytes rest e =
    let tail : List ℕ = f ++ (s ++ rest) in
    let a = after_head h bytes (word (length f) ++ (word (length s) ++ tail)) (e ∙ grouped h f s rest) in
    let b = after_word (length f) (word (length f) ++ (word (length s) ++ tail)) (word (length s) ++ tail) refl in
    let c = after_word (length s) (word (length s) ++ tail) tail refl in
    let d : length tail ≡ length f + length (s ++ rest) = length-append f (s ++ rest) in
    let g : length (s ++ rest) ≡ length s + length rest = length-append s rest in
    omega arith

pub shorter_behind : (h : EntryHeader) (f s bytes rest : List ℕ) → bytes ≡ entry h f s ++ rest → length rest < length bytes
shorter_behind h f s bytes rest e = let size = after_entry h f s bytes rest e in omega arith

pub too_few : (bytes : List ℕ) → length bytes < 48 → LacksEntry bytes
too_few bytes few = λ h f s rest fits fits2 e. let size = after_entry h f s bytes rest e in omega arith

-- the parts of an entry, if its lengths fit
lengths_once : (h k : EntryHeader) (m n : ℕ) (r f s rest : List ℕ) → IsWord m → IsWord n → IsWord (length f) → IsWord (length s)
    → numbers h ++ (word m ++ (word n ++ r)) ≡ entry k f s ++ rest → (numbers h ≡ numbers k) × (m ≡ length f) × (n ≡ length s) × (r ≡ f ++ (s ++ rest))
lengths_once h k m n r f s rest pm pn pf ps e =
    let one = same_split 32 (numbers h) (numbers k) (word m ++ (word n ++ r)) (word (length f) ++ (word (length s) ++ (f ++ (s ++ rest)))) (length-numbers h) (length-numbers k) (e ∙ grouped k f s rest) in
    let two = word_once m (length f) (word n ++ r) (word (length s) ++ (f ++ (s ++ rest))) pm pf one.1 in
    let three = word_once n (length s) r (f ++ (s ++ rest)) pn ps two.1 in
    (one.0, two.0, three.0, three.1)

pub too_short : (bytes a b r : List ℕ) (h : EntryHeader) (m n : ℕ) → bytes ≡ numbers h ++ a → a ≡ word m ++ b → b ≡ word n ++ r → IsWord m → IsWord n → length r < m + n → LacksEntry bytes
too_short bytes a b r h m n ea eb ec pm pn few = λ k f s rest fits fits2 e.
    let is : numbers h ++ (word m ++ (word n ++ r)) ≡ entry k f s ++ rest = ap (λ (x : List ℕ). numbers h ++ x) (sym (eb ∙ ap (λ (x : List ℕ). word m ++ x) ec)) ∙ sym ea ∙ e in
    let parts = lengths_once h k m n r f s rest pm pn fits fits2 is in
    let whole : length r ≡ length f + length (s ++ rest) = ap length parts.3 ∙ length-append f (s ++ rest) in
    let behind : length (s ++ rest) ≡ length s + length rest = length-append s rest in
    let first : m ≡ length f = parts.1 in
    let second : n ≡ length s = parts.2 in
    omega arith

pub entry_once : (h k : EntryHeader) (f s g t x y : List ℕ) → IsHead h → IsHead k → IsWord (length f) → IsWord (length s) → IsWord (length g) → IsWord (length t)
    → entry h f s ++ x ≡ entry k g t ++ y → (h ≡ k) × (f ≡ g) × (s ≡ t) × (x ≡ y)
entry_once h k f s g t x y ph pk pf ps pg pt e =
    let parts = lengths_once h k (length f) (length s) (f ++ (s ++ x)) g t y pf ps pg pt (sym (grouped h f s x) ∙ e) in
    let one = same_split (length f) f g (s ++ x) (t ++ y) refl (sym parts.1) parts.3 in
    let two = same_split (length s) s t x y refl (sym parts.2) one.1 in
    (numbers_same h k ph pk parts.0, one.0, two.0, two.1)
