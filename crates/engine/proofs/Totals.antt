-- The calls of all clients are all calls, and a list of no more clients than the engine has, which contains each, contains each
-- once.
use Rattle.std.proofs.Common.{◌≡◌, ◌≢◌, ◌⊎◌, ℕ, ◌+◌, ◌<◌, ◌≤◌, List, [], ◌∷◌, ◌++◌, length, length-append, zero, suc, Bool, ◌==◌, if◌then◌else◌, slice_index_or, refl, sym, ap, ◌∙◌, subst, arith, inl, inr, ⊎_elim, eq-eqb, ne_eqb}
use Rattle.std.proofs.lemmas.List.{get_or_append_left, get_or_push}
use Rattle.std.proofs.lemmas.Bool.{cases_eq}
use Rattle.engine.specs.Histories.{Entry, own, AllBelow}
use Rattle.engine.specs.Clients.{Known, newcomer, fresh}
use Rattle.engine.specs.Ends.{Agrees, AllAgree, times_in, HasEach, EachOnce, Within, made_by_all}

-- the calls of each of them in one history
abbrev weigh : List Entry → List Known → ℕ
weigh h [] = 0
weigh h (k ∷ ks) = own k.client h + weigh h ks

weigh-none : (ks : List Known) → weigh [] ks ≡ 0
weigh-none [] = refl
weigh-none (k ∷ ks) = omega (arith, weigh-none ks)

weigh-more : (e : Entry) (h : List Entry) (ks : List Known) → weigh (e ∷ h) ks ≡ times_in e.by ks + weigh h ks
weigh-more e h [] = refl
weigh-more e h (k ∷ ks) = omega (arith, weigh-more e h ks)

weigh-all : (n : ℕ) (h : List Entry) (ks : List Known) → AllBelow n h → EachOnce n ks → weigh h ks ≡ length h
weigh-all n [] ks below once = weigh-none ks
weigh-all n (e ∷ h) ks below once = omega (arith, weigh-more e h ks, once e.by below.0, weigh-all n h ks below.1 once)

weigh-made : (h : List Entry) (ks : List Known) → AllAgree h ks → weigh h ks ≡ made_by_all ks
weigh-made h [] all = refl
weigh-made h (k ∷ ks) all = omega (arith, all.0.1, weigh-made h ks all.1)

pub all_made : (n : ℕ) (h : List Entry) (ks : List Known) → AllBelow n h → EachOnce n ks → AllAgree h ks → length h ≡ made_by_all ks
all_made n h ks below once all = sym (weigh-all n h ks below once) ∙ weigh-made h ks all

pub agree-snoc : (h : List Entry) (ks : List Known) (k : Known) → AllAgree h ks → Agrees h k → AllAgree h (ks ++ k ∷ [])
agree-snoc h [] k all one = (one, tt)
agree-snoc h (x ∷ xs) k all one = (all.0, agree-snoc h xs k all.1 one)

-- ---- how many of the clients below a number are in a list

pub within-snoc : (n : ℕ) (ks : List Known) (k : Known) → Within n ks → k.client < n → Within n (ks ++ k ∷ [])
within-snoc n [] k w lt = (lt, tt)
within-snoc n (x ∷ xs) k w lt = (w.0, within-snoc n xs k w.1 lt)

-- the clients below n, each as often as it is there
abbrev total : ℕ → List Known → ℕ
total zero ks = 0
total (suc n) ks = times_in n ks + total n ks

total-none : (n : ℕ) → total n [] ≡ 0
total-none zero = refl
total-none (suc n) = omega (arith, total-none n)

abbrev weight : Bool → ℕ
weight b = if b then 1 else 0

-- how often the client is among those below n
abbrev once_below : ℕ → ℕ → ℕ
once_below zero c = 0
once_below (suc n) c = (if n == c then 1 else 0) + once_below n c

total-more : (n : ℕ) (k : Known) (ks : List Known) → total n (k ∷ ks) ≡ once_below n k.client + total n ks
total-more zero k ks = refl
total-more (suc n) k ks = omega (arith, total-more n k ks)

apart : (n c : ℕ) → suc n ≤ c → n ≢ c
apart n c le e = omega (arith, le, e)

none_below : (n c : ℕ) → n ≤ c → once_below n c ≡ 0
none_below zero c le = refl
none_below (suc n) c le =
    let here : (if n == c then 1 else 0) ≡ 0 = ap weight (ne_eqb n c (apart n c le)) in
    let rest : once_below n c ≡ 0 = none_below n c (omega (arith, le)) in
    omega (arith, here, rest)

one_below : (n c : ℕ) → c < n → once_below n c ≡ 1
one_below zero c lt = absurd (omega (arith, lt))
one_below (suc n) c lt =
    ⊎_elim
    (λ (same : n ≡ c).
    let here : (if n == c then 1 else 0) ≡ 1 = ap weight (eq-eqb n c same) in
    let rest : once_below n c ≡ 0 = none_below n c (omega (arith, same)) in
    omega (arith, here, rest))
    (λ (other : n ≢ c).
    let here : (if n == c then 1 else 0) ≡ 0 = ap weight (ne_eqb n c other) in
    let rest : once_below n c ≡ 1 = one_below n c (below-or n c lt other) in
    omega (arith, here, rest))
    (cases_eq n c)
  where
    below-or : (n c : ℕ) → c < suc n → n ≢ c → c < n
    below-or zero zero lt other = absurd (other refl)
    below-or zero (suc c) lt other = omega (arith, lt)
    below-or (suc n) zero lt other = omega arith
    below-or (suc n) (suc c) lt other = let e : c < n = below-or n c (omega (arith, lt)) (λ x. other (ap suc x)) in omega (arith, e)

total-length : (n : ℕ) (ks : List Known) → Within n ks → total n ks ≡ length ks
total-length n [] w = total-none n
total-length n (k ∷ ks) w = omega (arith, total-more n k ks, one_below n k.client w.0, total-length n ks w.1)

total-least : (n : ℕ) (ks : List Known) → HasEach n ks → n ≤ total n ks
total-least zero ks has = omega arith
total-least (suc n) ks has = omega (arith, has n (omega arith), total-least n ks (λ c lt. has c (omega (arith, lt))))

-- a number below the next one is this one or below it
top-or : (n c : ℕ) → c < suc n → (c ≡ n) ⊎ (c < n)
top-or zero zero lt = inl refl
top-or zero (suc c) lt = absurd (omega (arith, lt))
top-or (suc n) zero lt = inr (omega arith)
top-or (suc n) (suc c) lt = ⊎_elim (λ (e : c ≡ n). inl (ap suc e)) (λ (l : c < n). inr (omega (arith, l))) (top-or n c (omega (arith, lt)))

-- ---- clients that have seen nothing

pub fresh-length : (n : ℕ) → length (fresh n) ≡ n
fresh-length zero = refl
fresh-length (suc n) = omega (arith, length-append (fresh n) (newcomer n ∷ []), fresh-length n)

pub fresh-at : (n i : ℕ) (d : Known) → i < n → slice_index_or (fresh n) i d ≡ newcomer i
fresh-at zero i d lt = absurd (omega (arith, lt))
fresh-at (suc n) i d lt =
    ⊎_elim
    (λ (same : i ≡ n). get_or_push (fresh n) (newcomer n) d i (fresh-length n ∙ sym same) ∙ ap newcomer (sym same))
    (λ (less : i < n).
    let there : i < length (fresh n) = subst (λ m. i < m) (sym (fresh-length n)) less in
    get_or_append_left (fresh n) (newcomer n ∷ []) d i there ∙ fresh-at n i d less)
    (top-or n i lt)

-- ---- each client of the engine

pub has-more : (n : ℕ) (ks : List Known) → HasEach n ks → 1 ≤ times_in n ks → HasEach (n + 1) ks
has-more n ks has top c lt = ⊎_elim (λ (same : c ≡ n). subst (λ x. 1 ≤ times_in x ks) (sym same) top) (λ (less : c < n). has c less) (top-or n c (omega (arith, lt)))

-- a list no longer than there are numbers, which contains each number, contains each once
all_there : (n : ℕ) (ks : List Known) → HasEach n ks → total n ks ≤ n → EachOnce n ks
all_there zero ks has few c lt = absurd (omega (arith, lt))
all_there (suc n) ks has few c lt =
    let below : HasEach n ks = λ d l. has d (omega (arith, l)) in
    let some : 1 ≤ times_in n ks = has n (omega arith) in
    let top : times_in n ks ≡ 1 = omega (arith, few, some, total-least n ks below) in
    let rest : total n ks ≤ n = omega (arith, few, top) in
    ⊎_elim
    (λ (same : c ≡ n). ap (λ x. times_in x ks) same ∙ top)
    (λ (less : c < n). all_there n ks below rest c less)
    (top-or n c lt)

pub each_once : (n : ℕ) (ks : List Known) → Within n ks → HasEach n ks → length ks ≤ n → EachOnce n ks
each_once n ks within has few = all_there n ks has (omega (arith, total-length n ks within, few))

-- ---- whether a client is in a list

times-append : (c : ℕ) (ks js : List Known) → times_in c (ks ++ js) ≡ times_in c ks + times_in c js
times-append c [] js = omega arith
times-append c (k ∷ ks) js = omega (arith, times-append c ks js)

-- none in a beginning, nor the next
pub none-snoc : (c : ℕ) (ks : List Known) (k : Known) → times_in c ks ≡ 0 → c ≢ k.client → times_in c (ks ++ k ∷ []) ≡ 0
none-snoc c ks k none other =
    let here : (if c == k.client then 1 else 0) ≡ 0 = ap weight (ne_eqb c k.client other) in
    omega (arith, times-append c ks (k ∷ []), none, here)

-- one after a prefix
pub some-there : (c : ℕ) (all ks js : List Known) (k : Known) → all ≡ (ks ++ k ∷ []) ++ js → c ≡ k.client → 1 ≤ times_in c all
some-there c all ks js k is same =
    let here : (if c == k.client then 1 else 0) ≡ 1 = ap weight (eq-eqb c k.client same) in
    let parts : times_in c all ≡ times_in c (ks ++ k ∷ []) + times_in c js = ap (times_in c) is ∙ times-append c (ks ++ k ∷ []) js in
    omega (arith, parts, times-append c ks (k ∷ []), here)
