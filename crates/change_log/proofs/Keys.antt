-- The keys of a log: one key more, and the key at an index.
use Rattle.std.proofs.Common.{◌≡◌, ℕ, ◌≤◌, ◌<◌, ◌-◌, ◌+◌, List, [], ◌∷◌, ◌++◌, length, take, drop, get_or, zero, suc, arith, refl, sym, ap, ◌∙◌, subst, length-append}
use Rattle.std.proofs.lemmas.List.{append-nil, append_assoc, drop_all, drop_at, drop_more, drop-append-le, length-drop, take_all, take-append-le}
use Rattle.change_log.specs.KeyLogs.{AreEnds, keys_of}

pub rises : (from n : ℕ) (es : List ℕ) → AreEnds from n es → from ≤ n
rises from n [] h = omega (arith, h)
rises from n (e ∷ es) h = omega (arith, h.0, rises e n es h.1)

-- there are as many keys as ends
pub length-keys_of : (from : ℕ) (bytes es : List ℕ) → length (keys_of from bytes es) ≡ length es
length-keys_of from bytes [] = refl
length-keys_of from bytes (e ∷ es) = ap suc (length-keys_of e bytes es)

-- ---- one key more

pub ends_more : (from n m : ℕ) (es : List ℕ) → AreEnds from n es → n ≤ m → AreEnds from m (es ++ m ∷ [])
ends_more from n m [] h le = (omega (arith, h, le), refl)
ends_more from n m (e ∷ es) h le = (h.0, ends_more e n m es h.1 le)

last_key : (from m : ℕ) (bytes k : List ℕ) → from ≡ length bytes → length bytes + length k ≤ m → take (m - from) (drop from (bytes ++ k)) ≡ k
last_key from m bytes k h le = ap (λ (l : List ℕ). take (m - from) l) (drop_at bytes k from (sym h)) ∙ take_all (m - from) k (omega (arith, h, le))

pub keys_more : (from m : ℕ) (bytes k es : List ℕ) → AreEnds from (length bytes) es → length bytes + length k ≤ m → keys_of from (bytes ++ k) (es ++ m ∷ []) ≡ keys_of from bytes es ++ k ∷ []
keys_more from m bytes k [] h le = ap (λ (q : List ℕ). q ∷ []) (last_key from m bytes k h le)
keys_more from m bytes k (e ∷ es) h le =
    let up = rises e (length bytes) es h.1 in
    let long = length-drop from bytes in
    let same : take (e - from) (drop from (bytes ++ k)) ≡ take (e - from) (drop from bytes) =
    ap (λ (l : List ℕ). take (e - from) l) (drop-append-le from bytes k (omega (arith, h.0, up))) ∙ take-append-le (e - from) (drop from bytes) k (omega (arith, long, up))
    in
    (λ i. same i ∷ keys_more e m bytes k es h.1 le i)

-- ---- the key at an index

pub key_is : (from : ℕ) (bytes es : List ℕ) (i : ℕ) (d : List ℕ) → i < length es → get_or (keys_of from bytes es) i d ≡ take (get_or es i 0 - get_or (from ∷ es) i 0) (drop (get_or (from ∷ es) i 0) bytes)
key_is from bytes [] i d lt = absurd (omega (arith, lt))
key_is from bytes (e ∷ es) zero d lt = refl
key_is from bytes (e ∷ es) (suc i) d lt = key_is e bytes es i d (omega (arith, lt))

pub key_within : (from n : ℕ) (es : List ℕ) (i : ℕ) → AreEnds from n es → i < length es → (get_or (from ∷ es) i 0 ≤ get_or es i 0) × (get_or es i 0 ≤ n)
key_within from n [] i h lt = absurd (omega (arith, lt))
key_within from n (e ∷ es) zero h lt = (h.0, rises e n es h.1)
key_within from n (e ∷ es) (suc i) h lt = key_within e n es i h.1 (omega (arith, lt))

-- ---- a copy from an index on

pub copied_more : {X : Type 0} (all xs done : List X) (i : ℕ) (x : X) → i < length xs → done ++ drop i xs ≡ all → x ≡ get_or xs i x → (done ++ x ∷ []) ++ drop (i + 1) xs ≡ all
copied_more all xs done i x lt h is =
    append_assoc done (x ∷ []) (drop (i + 1) xs)
    ∙ ap (λ l. done ++ l) (ap (λ y. y ∷ drop (i + 1) xs) is ∙ sym (drop_more xs i x lt))
    ∙ h

pub copied_all : {X : Type 0} (all xs done : List X) (i : ℕ) → length xs ≤ i → done ++ drop i xs ≡ all → done ≡ all
copied_all all xs done i le h = sym (append-nil done) ∙ ap (λ l. done ++ l) (sym (drop_all i xs le)) ∙ h
