-- The bytes of a log determine its valid records, wherever the log is cut.
use Rattle.std.proofs.Common.{◌≡◌, ◌≢◌, ◌⊎◌, ⊎_elim, ℕ, zero, suc, ◌+◌, ◌-◌, ◌<◌, ◌≤◌, ◌*◌, List, [], ◌∷◌, ◌++◌, length, take, drop, true, false, nat_le, cond, refl, ap, ap₂, sym, subst, ◌∙◌, arith, append_assoc, append-nil, length-append, add-zero, length-take}
use Rattle.std.specs.List.{AllByRecursion}
use Rattle.std.proofs.lemmas.List.{append_cancel_left, take-append-drop}
use Rattle.std.proofs.lemmas.Bool.Decides.{nat_tests}
use Rattle.std.proofs.Math.Seq.{take-append-add}
use Rattle.sha2.specs.Sha256.{sha256, digest_bytes, final_hash, initial_hash_256}
use Rattle.wal.specs.Entries.{IsWord, word}
use Rattle.wal.specs.Records.{AreBodies, Counts, LacksRecord, digest, front, magic, record_of, whole, written}
use Rattle.wal.proofs.Cuts.{after_word, length-word, same_split, word_once, word_same}

-- ---- one record

pub length-front : (salt : List ℕ) (n len : ℕ) → length (front salt n len) ≡ 24
unfolding front magic word
length-front [] n len = refl
length-front (x ∷ salt) n len = refl

-- the magic bytes and the number
pub front_begins : (salt : List ℕ) (n len : ℕ) (rest : List ℕ) → take 16 (front salt n len ++ rest) ≡ magic salt ++ word n
unfolding front magic word
front_begins [] n len rest = refl
front_begins (x ∷ salt) n len rest = refl

front_ends : (salt : List ℕ) (n len : ℕ) → drop 16 (front salt n len) ≡ word len
unfolding front magic word
front_ends [] n len = refl
front_ends (x ∷ salt) n len = refl

pub front_same : (salt : List ℕ) (n a b : ℕ) → IsWord a → IsWord b → front salt n a ≡ front salt n b → a ≡ b
front_same salt n a b p q e = word_same a b p q (sym (front_ends salt n a) ∙ ap (drop 16) e ∙ front_ends salt n b)

pub front_once : (salt : List ℕ) (n a b : ℕ) (x y : List ℕ) → IsWord a → IsWord b → front salt n a ++ x ≡ front salt n b ++ y → (a ≡ b) × (x ≡ y)
front_once salt n a b x y p q e =
    let parts = same_split 24 (front salt n a) (front salt n b) x y (length-front salt n a) (length-front salt n b) e in
    (front_same salt n a b p q parts.0, parts.1)

pub parts_of : (salt : List ℕ) (n : ℕ) (b r : List ℕ) → record_of salt n b ++ r ≡ front salt n (length b) ++ (b ++ (digest salt n b ++ r))
unfolding record_of
parts_of salt n b r = simp append_assoc

pub record_once : (salt : List ℕ) (n : ℕ) (b c x y : List ℕ) → IsWord (length b) → IsWord (length c) → record_of salt n b ++ x ≡ record_of salt n c ++ y → (b ≡ c) × (x ≡ y)
record_once salt n b c x y p q e =
    let one = front_once salt n (length b) (length c) (b ++ (digest salt n b ++ x)) (c ++ (digest salt n c ++ y)) p q (sym (parts_of salt n b x) ∙ e ∙ parts_of salt n c y) in
    let two = same_split (length b) b c (digest salt n b ++ x) (digest salt n c ++ y) refl (sym one.0) one.1 in
    (two.0, append_cancel_left (digest salt n b) x y (two.1 ∙ ap (λ (d : List ℕ). digest salt n d ++ y) (sym two.0)))

pub after_record : (salt : List ℕ) (n : ℕ) (b r bytes : List ℕ) → bytes ≡ record_of salt n b ++ r → length bytes ≡ 24 + length (b ++ (digest salt n b ++ r))
after_record salt n b r bytes e =
    let size : length bytes ≡ length (front salt n (length b)) + length (b ++ (digest salt n b ++ r)) = ap length (e ∙ parts_of salt n b r) ∙ length-append (front salt n (length b)) (b ++ (digest salt n b ++ r)) in
    let first = length-front salt n (length b) in
    omega arith

no_record_in_nothing : (salt : List ℕ) (n : ℕ) → LacksRecord salt n []
no_record_in_nothing salt n = λ b r fits e. let size = after_record salt n b r [] e in omega arith

-- ---- which records are valid

lacks_first : (salt : List ℕ) (n : ℕ) (r : List ℕ) → LacksRecord salt (n + 0) r → LacksRecord salt n r
lacks_first salt n r h = subst (λ (k : ℕ). LacksRecord salt k r) (add-zero n) h

lacks_later : (salt : List ℕ) (n m : ℕ) (r : List ℕ) → LacksRecord salt (n + suc m) r → LacksRecord salt (suc n + m) r
lacks_later salt n m r h = let e : n + suc m ≡ suc n + m = omega arith in subst (λ (k : ℕ). LacksRecord salt k r) e h

lacks_earlier : (salt : List ℕ) (n m : ℕ) (r : List ℕ) → LacksRecord salt (suc n + m) r → LacksRecord salt (n + suc m) r
lacks_earlier salt n m r h = let e : suc n + m ≡ n + suc m = omega arith in subst (λ (k : ℕ). LacksRecord salt k r) e h

count_once : (salt : List ℕ) (n : ℕ) (bs cs : List (List ℕ)) (r s : List ℕ) → AreBodies bs → AreBodies cs → LacksRecord salt (n + length bs) r → LacksRecord salt (n + length cs) s → written salt n bs ++ r ≡ written salt n cs ++ s
    → (bs ≡ cs) × (r ≡ s)
count_once salt n [] [] r s hb hc lr ls e = (refl, e)
count_once salt n [] (c ∷ cs) r s hb hc lr ls e = absurd (lacks_first salt n r lr c (written salt (suc n) cs ++ s) hc.0 (e ∙ append_assoc (record_of salt n c) (written salt (suc n) cs) s))
count_once salt n (b ∷ bs) [] r s hb hc lr ls e = absurd (lacks_first salt n s ls b (written salt (suc n) bs ++ r) hb.0 (sym e ∙ append_assoc (record_of salt n b) (written salt (suc n) bs) r))
count_once salt n (b ∷ bs) (c ∷ cs) r s hb hc lr ls e =
    let one = record_once salt n b c (written salt (suc n) bs ++ r) (written salt (suc n) cs ++ s) hb.0 hc.0 (sym (append_assoc (record_of salt n b) (written salt (suc n) bs) r) ∙ e ∙ append_assoc (record_of salt n c) (written salt (suc n) cs) s) in
    let rest = count_once salt (suc n) bs cs r s hb.1 hc.1 (lacks_later salt n (length bs) r lr) (lacks_later salt n (length cs) s ls) one.1 in
    (ap₂ (λ (x : List ℕ) (xs : List (List ℕ)). x ∷ xs) one.0 rest.0, rest.1)

pub one_reading : (salt : List ℕ) (n : ℕ) (log : List ℕ) (bs cs : List (List ℕ)) (r s : List ℕ) → Counts salt n log bs r → Counts salt n log cs s → (bs ≡ cs) × (r ≡ s)
one_reading salt n log bs cs r s p q = count_once salt n bs cs r s p.fit q.fit p.ends q.ends (sym p.is ∙ q.is)

-- ---- a log that is cut

-- a proper prefix of a record is not a record
no_beginning : (salt : List ℕ) (n k : ℕ) (b w : List ℕ) → IsWord (length b) → k < length (record_of salt n b) → LacksRecord salt n (take k (record_of salt n b ++ w))
no_beginning salt n k b w fits short = λ c y fc e.
    let all : List ℕ = record_of salt n b ++ w in
    let joined : record_of salt n b ++ w ≡ record_of salt n c ++ (y ++ drop k all) = sym (take-append-drop k all) ∙ ap (λ (x : List ℕ). x ++ drop k all) e ∙ append_assoc (record_of salt n c) y (drop k all) in
    let parts = record_once salt n b c w (y ++ drop k all) fits fc joined in
    let size : length (take k all) ≡ length (record_of salt n c) + length y = ap length e ∙ length-append (record_of salt n c) y in
    let same : length (record_of salt n b) ≡ length (record_of salt n c) = ap (λ (x : List ℕ). length (record_of salt n x)) parts.0 in
    let most : length (take k all) ≤ k = omega (arith, length-take k all) in
    omega arith

take_past : (k : ℕ) (a w : List ℕ) → length a ≤ k → take k (a ++ w) ≡ a ++ take (k - length a) w
take_past k a w h = let e : k ≡ length a + (k - length a) = omega arith in ap (λ (m : ℕ). take m (a ++ w)) e ∙ take-append-add a w (k - length a)

take_none : (k : ℕ) → take {A = ℕ} k [] ≡ []
take_none zero = refl
take_none (suc k) = refl

pub cut : (salt : List ℕ) (n k : ℕ) (bs : List (List ℕ)) → AreBodies bs → (rest : List ℕ) × Counts salt n (take k (written salt n bs)) (whole salt k n bs) rest
cut salt n k [] h = ([], record { is = take_none k; fit = tt; ends = no_record_in_nothing salt (n + 0) })
cut salt n k (b ∷ bs) h =
    elim (nat_le (length (record_of salt n b)) k) as (λ t. nat_le (length (record_of salt n b)) k ≡ t → (rest : List ℕ) × Counts salt n (take k (written salt n (b ∷ bs))) (cond t (b ∷ whole salt (k - length (record_of salt n b)) (suc n) bs) []) rest) [
      | true ↦ λ t.
          let fits : length (record_of salt n b) ≤ k = grind (arith, nat_tests, t) in
          let below = cut salt (suc n) (k - length (record_of salt n b)) bs h.1 in (
            below.0,
            record {
              is = take_past k (record_of salt n b) (written salt (suc n) bs) fits ∙ ap (λ (x : List ℕ). record_of salt n b ++ x) below.1.is ∙ sym (append_assoc (record_of salt n b) (written salt (suc n) (whole salt (k - length (record_of salt n b)) (suc n) bs)) below.0);
              fit = (h.0, below.1.fit);
              ends = lacks_earlier salt n (length (whole salt (k - length (record_of salt n b)) (suc n) bs)) below.0 below.1.ends;
            },
          )
      | false ↦ λ t.
          let short : k < length (record_of salt n b) = grind (arith, nat_tests, t) in
          let none = no_beginning salt n k b (written salt (suc n) bs) h.0 short in
          (take k (written salt n (b ∷ bs)), record { is = refl; fit = tt; ends = subst (λ (m : ℕ). LacksRecord salt m (take k (written salt n (b ∷ bs)))) (sym (add-zero n)) none })
    ] refl

pub first_ones : (salt : List ℕ) (n k : ℕ) (bs : List (List ℕ)) → (m : ℕ) × (m ≤ length bs) × (whole salt k n bs ≡ take m bs) × ((s : ℕ) → s ≤ length bs → length (written salt n (take s bs)) ≤ k → s ≤ m)
first_ones salt n k [] = (0, omega arith, refl, λ s few h. few)
first_ones salt n k (b ∷ bs) =
    elim (nat_le (length (record_of salt n b)) k) as (λ t. nat_le (length (record_of salt n b)) k ≡ t → (m : ℕ) × (m ≤ length (b ∷ bs)) × (cond t (b ∷ whole salt (k - length (record_of salt n b)) (suc n) bs) [] ≡ take m (b ∷ bs)) × ((s : ℕ) → s ≤ length (b ∷ bs) → length (written salt n (take s (b ∷ bs))) ≤ k → s ≤ m)) [
      | true ↦ λ t. let below = first_ones salt (suc n) (k - length (record_of salt n b)) bs in
          (suc below.0, omega (arith, below.1), ap (λ (xs : List (List ℕ)). b ∷ xs) below.2, longer below.0 below.3)
      | false ↦ λ t. (0, omega arith, refl, none (let short : k < length (record_of salt n b) = grind (arith, nat_tests, t) in short))
    ] refl
  where
    longer : (m : ℕ) → ((s : ℕ) → s ≤ length bs → length (written salt (suc n) (take s bs)) ≤ k - length (record_of salt n b) → s ≤ m) → (s : ℕ) → s ≤ length (b ∷ bs) → length (written salt n (take s (b ∷ bs))) ≤ k → s ≤ suc m
    longer m below zero few h = omega arith
    longer m below (suc s) few h =
        let size = length-append (record_of salt n b) (written salt (suc n) (take s bs)) in
        let least = below s (omega arith) (omega arith) in
        omega arith

    none : k < length (record_of salt n b) → (s : ℕ) → s ≤ length (b ∷ bs) → length (written salt n (take s (b ∷ bs))) ≤ k → s ≤ 0
    none short zero few h = omega arith
    none short (suc s) few h = let size = length-append (record_of salt n b) (written salt (suc n) (take s bs)) in absurd (omega arith)

-- ---- a log that is damaged

tail_from : (salt : List ℕ) (n : ℕ) (bs cs : List (List ℕ)) (tail rest : List ℕ) → AreBodies bs → AreBodies cs → LacksRecord salt (n + length cs) rest → written salt n bs ++ tail ≡ written salt n cs ++ rest → (ds : List (List ℕ)) × (cs ≡ bs ++ ds)
tail_from salt n [] cs tail rest hb hc lacks e = (cs, refl)
tail_from salt n (b ∷ bs) [] tail rest hb hc lacks e = absurd (lacks_first salt n rest lacks b (written salt (suc n) bs ++ tail) hb.0 (sym e ∙ append_assoc (record_of salt n b) (written salt (suc n) bs) tail))
tail_from salt n (b ∷ bs) (c ∷ cs) tail rest hb hc lacks e =
    let one = record_once salt n b c (written salt (suc n) bs ++ tail) (written salt (suc n) cs ++ rest) hb.0 hc.0 (sym (append_assoc (record_of salt n b) (written salt (suc n) bs) tail) ∙ e ∙ append_assoc (record_of salt n c) (written salt (suc n) cs) rest) in
    let more = tail_from salt (suc n) bs cs tail rest hb.1 hc.1 (lacks_later salt n (length cs) rest lacks) one.1 in
    (more.0, ap₂ (λ (x : List ℕ) (xs : List (List ℕ)). x ∷ xs) (sym one.0) more.1)

pub tail_after : (salt : List ℕ) (n : ℕ) (bs cs : List (List ℕ)) (tail rest : List ℕ) → AreBodies bs → Counts salt n (written salt n bs ++ tail) cs rest → (ds : List (List ℕ)) × (cs ≡ bs ++ ds)
tail_after salt n bs cs tail rest fits p = tail_from salt n bs cs tail rest fits p.fit p.ends p.is

length-digest_bytes : (h : List ℕ) (n : ℕ) → length (digest_bytes h n) ≡ 4 * n
unfolding digest_bytes
length-digest_bytes h zero = refl
length-digest_bytes h (suc n) = omega (arith, length-append (digest_bytes h n) (Rattle.std.specs.Int.to_be_bytes Rattle.std.specs.Int.w32 (Rattle.std.specs.Prelude.slice_index h n)), length-digest_bytes h n)

length-digest : (salt : List ℕ) (n : ℕ) (b : List ℕ) → length (digest salt n b) ≡ 32
unfolding digest sha256
length-digest salt n b = length-digest_bytes (final_hash initial_hash_256 (salt ++ front salt n (length b) ++ b)) 8

four_parts : (a b c d : List ℕ) → a ++ b ++ c ++ d ≡ a ++ (b ++ (c ++ d))
four_parts a b c d = simp append_assoc

pub other_digest : (salt : List ℕ) (n : ℕ) (body other rest : List ℕ) → IsWord (length body) → length other ≡ length body → digest salt n other ≢ digest salt n body → LacksRecord salt n (front salt n (length body) ++ other ++ digest salt n body ++ rest)
other_digest salt n body other rest fits same differ = λ c r fc e.
    let one = front_once salt n (length body) (length c) (other ++ (digest salt n body ++ rest)) (c ++ (digest salt n c ++ r)) fits fc (sym (four_parts (front salt n (length body)) other (digest salt n body) rest) ∙ e ∙ parts_of salt n c r) in
    let two = same_split (length body) other c (digest salt n body ++ rest) (digest salt n c ++ r) same (sym one.0) one.1 in
    let three = same_split 32 (digest salt n body) (digest salt n c) rest r (length-digest salt n body) (length-digest salt n c) two.1 in
    differ (ap (digest salt n) two.0 ∙ sym three.0)

pub other_salt : (salt other : List ℕ) (n : ℕ) (body rest : List ℕ) → IsWord (length body) → digest other n body ≢ digest salt n body → LacksRecord salt n (record_of other n body ++ rest)
other_salt salt other n body rest fits differ = λ c r fc e.
    let fronts = same_split 24 (front other n (length body)) (front salt n (length c)) (body ++ (digest other n body ++ rest)) (c ++ (digest salt n c ++ r)) (length-front other n (length body)) (length-front salt n (length c)) (sym (parts_of other n body rest) ∙ e ∙ parts_of salt n c r) in
    let same : length body ≡ length c = word_same (length body) (length c) fits fc (sym (front_ends other n (length body)) ∙ ap (drop 16) fronts.0 ∙ front_ends salt n (length c)) in
    let two = same_split (length body) body c (digest other n body ++ rest) (digest salt n c ++ r) refl (sym same) fronts.1 in
    let three = same_split 32 (digest other n body) (digest salt n c) rest r (length-digest other n body) (length-digest salt n c) two.1 in
    differ (three.0 ∙ ap (digest salt n) (sym two.0))

pub other_number : (salt : List ℕ) (n : ℕ) (bytes : List ℕ) → take 16 bytes ≢ magic salt ++ word n → LacksRecord salt n bytes
other_number salt n bytes differ = λ b r fits e. differ (ap (take 16) (e ∙ parts_of salt n b r) ∙ front_begins salt n (length b) (b ++ (digest salt n b ++ r)))

-- ---- parsing a log

-- the bytes before the body of a record are its header
front_first : (salt : List ℕ) (n : ℕ) (log f behind body rest : List ℕ) → log ≡ f ++ behind → length f ≡ 24 → log ≡ record_of salt n body ++ rest → (f ≡ front salt n (length body)) × (behind ≡ body ++ (digest salt n body ++ rest))
front_first salt n log f behind body rest e size is = same_split 24 f (front salt n (length body)) behind (body ++ (digest salt n body ++ rest)) size (length-front salt n (length body)) (sym e ∙ is ∙ parts_of salt n body rest)

pub lacks_front : (salt : List ℕ) (n : ℕ) (log : List ℕ) → length log < 24 → LacksRecord salt n log
lacks_front salt n log few = λ body rest fits e. let size = after_record salt n body rest log e in omega arith

pub lacks_length : (salt : List ℕ) (n : ℕ) (log f behind : List ℕ) → log ≡ f ++ behind → length f ≡ 24 → ((len : ℕ) → IsWord len → f ≢ front salt n len) → LacksRecord salt n log
lacks_length salt n log f behind e size none = λ body rest fits is. none (length body) fits (front_first salt n log f behind body rest e size is).0

body_first : (salt : List ℕ) (n len : ℕ) (log f behind body rest : List ℕ) → log ≡ f ++ behind → f ≡ front salt n len → IsWord len → IsWord (length body) → log ≡ record_of salt n body ++ rest → (len ≡ length body) × (behind ≡ body ++ (digest salt n body ++ rest))
body_first salt n len log f behind body rest e ef fits fits2 is =
    front_once salt n len (length body) behind (body ++ (digest salt n body ++ rest)) fits fits2 (ap (λ (x : List ℕ). x ++ behind) (sym ef) ∙ sym e ∙ is ∙ parts_of salt n body rest)

pub lacks_body : (salt : List ℕ) (n len : ℕ) (log f behind : List ℕ) → log ≡ f ++ behind → f ≡ front salt n len → IsWord len → length behind < len → LacksRecord salt n log
lacks_body salt n len log f behind e ef fits few = λ body rest fits2 is.
    let parts = body_first salt n len log f behind body rest e ef fits fits2 is in
    let size : length behind ≡ length body + length (digest salt n body ++ rest) = ap length parts.1 ∙ length-append body (digest salt n body ++ rest) in
    let same : len ≡ length body = parts.0 in
    omega arith

pub lacks_digest : (salt : List ℕ) (n len : ℕ) (log f behind body end : List ℕ) → log ≡ f ++ behind → f ≡ front salt n len → IsWord len → behind ≡ body ++ end → length body ≡ len → ((rest : List ℕ) → end ≢ sha256 (salt ++ f ++ body) ++ rest) → LacksRecord salt n log
unfolding digest
lacks_digest salt n len log f behind body end e ef fits eb size none = λ other rest fits2 is.
    let parts = body_first salt n len log f behind other rest e ef fits fits2 is in
    let two = same_split len body other end (sha256 (salt ++ front salt n (length other) ++ other) ++ rest) size (sym parts.0) (sym eb ∙ parts.1) in
    let front_same : front salt n (length other) ≡ f = ap (front salt n) (sym parts.0) ∙ sym ef in
    none rest (two.1 ∙ ap (λ (x : List ℕ). sha256 x ++ rest) (ap (λ (x : List ℕ). salt ++ x ++ other) front_same ∙ ap (λ (x : List ℕ). salt ++ f ++ x) (sym two.0)))

pub has_record : (salt : List ℕ) (n len : ℕ) (log f behind body end rest : List ℕ) → log ≡ f ++ behind → f ≡ front salt n len → behind ≡ body ++ end → length body ≡ len → end ≡ sha256 (salt ++ f ++ body) ++ rest → log ≡ record_of salt n body ++ rest
unfolding digest
has_record salt n len log f behind body end rest e ef eb size es =
    let same : f ≡ front salt n (length body) = ef ∙ ap (front salt n) (sym size) in
    e ∙ ap (λ (x : List ℕ). f ++ x) (eb ∙ ap (λ (x : List ℕ). body ++ x) es)
    ∙ ap (λ (x : List ℕ). x ++ (body ++ (sha256 (salt ++ x ++ body) ++ rest))) same
    ∙ sym (parts_of salt n body rest)

-- ---- parsing what is before a body

pub front_parts : (salt : List ℕ) (n len : ℕ) → front salt n len ≡ magic salt ++ (word n ++ word len)
unfolding front
front_parts salt n len = append_assoc (magic salt) (word n) (word len)

module _ (salt bytes rest : List ℕ) (n : ℕ) (begins : bytes ≡ magic salt ++ rest) where
  behind_magic : (len : ℕ) → bytes ≡ front salt n len → rest ≡ word n ++ word len
  behind_magic len e = append_cancel_left (magic salt) rest (word n ++ word len) (sym begins ∙ e ∙ front_parts salt n len)

  pub no_number : length rest < 8 → (len : ℕ) → IsWord len → bytes ≢ front salt n len
  no_number few len fits e = let size = after_word n rest (word len) (behind_magic len e) in omega arith

  pub no_length : (found : ℕ) (after : List ℕ) → rest ≡ word found ++ after → length after < 8 → (len : ℕ) → IsWord len → bytes ≢ front salt n len
  no_length found after is few len fits e =
      let size = after_word n rest (word len) (behind_magic len e) in
      let size2 = after_word found rest after is in
      let eight = length-word len in
      omega arith

  pub not_so : (found len : ℕ) (after end : List ℕ) → IsWord n → IsWord found → IsWord len → rest ≡ word found ++ after → after ≡ word len ++ end → (found ≢ n) ⊎ (length end ≢ 0) → (other : ℕ) → IsWord other → bytes ≢ front salt n other
  not_so found len after end fn ff fl is is2 wrong other fits e =
      let one = word_once found n after (word other) ff fn (sym is ∙ behind_magic other e) in
      let two = word_once len other end [] fl fits (sym is2 ∙ one.1 ∙ sym (append-nil (word other))) in
      ⊎_elim (λ (w : found ≢ n). w one.0) (λ (w : length end ≢ 0). w (ap length two.1)) wrong

  pub is_front : (found len : ℕ) (after end : List ℕ) → rest ≡ word found ++ after → after ≡ word len ++ end → found ≡ n → length end ≡ 0 → bytes ≡ front salt n len
  is_front found len after [] is is2 same none =
      begins ∙ ap (λ (x : List ℕ). magic salt ++ x) (is ∙ ap (λ (k : ℕ). word k ++ after) same ∙ ap (λ (x : List ℕ). word n ++ x) (is2 ∙ append-nil (word len))) ∙ sym (front_parts salt n len)
  is_front found len after (x ∷ end) is is2 same none = absurd (omega arith)
