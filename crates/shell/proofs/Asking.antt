-- The requests of lines, case by case.
use Rattle.std.proofs.Common.{◌≡◌, ℕ, List, [], ◌∷◌, ◌++◌, length, ◌≤◌, nat_lt, ◌==◌, Bool, true, false, ◌&&◌, cond, codes, arith, refl, ap, sym, ◌∙◌, ◌⊎◌, inl, inr, Option, None, Some, IfSome, Result, Ok, Err}
use Rattle.std.specs.List.{list_all}
use Rattle.std.specs.Char.{is_ascii_digit}
use Rattle.std.proofs.lemmas.Bool.{eqb-true, ne_eqb, le-ltb, true≢false}
use Rattle.pathkey.specs.Texts.{onto_first}
use Rattle.pathkey.specs.declared.errno.Errno.{Errno}
use Rattle.pathkey.specs.declared.errno.Errno.TheVariants.{ENOMEM}
use Rattle.pathkey.specs.SnapNames.{snap_parsed}
use Rattle.shell.specs.declared.request.ReadCall.{ReadCall}
use Rattle.shell.specs.declared.request.Request.{Request}
use Rattle.shell.specs.declared.request.Request.TheVariants.{Malformed, Moment, Past, Refused}
use Rattle.textio.specs.Lines.{words_of}
use Rattle.textio.specs.Values.{is_decimal, number_of}
use Rattle.shell.specs.Requests.{IsAsked, IsReadAs, command_of, past, request_of, short_request, with_named, with_value}

-- no command has four words and then more
pub too_many_words : (a b c d rest : List ℕ) → command_of (a ∷ b ∷ c ∷ d ∷ words_of rest) ≡ Malformed
too_many_words a b c d [] = refl
too_many_words a b c d (x ∷ rest) = elim (x == 32) as (λ t. command_of (a ∷ b ∷ c ∷ d ∷ cond t ([] ∷ words_of rest) (onto_first x (words_of rest))) ≡ Malformed) [
  | true ↦ refl
  | false ↦ go (words_of rest)
]
  where
    go : (l : List (List ℕ)) → command_of (a ∷ b ∷ c ∷ d ∷ onto_first x l) ≡ Malformed
    go [] = refl
    go (n ∷ p) = refl

-- a read of a snapshot is a call, or its error
past_is_asked : (s : List ℕ) (l : Result ReadCall Errno) → IsAsked (past s l)
past_is_asked s l = go (snap_parsed s) l
  where
    go : (n : Result (List ℕ) Errno) (l : Result ReadCall Errno) → IsAsked (with_named (λ name. with_named (Past name) l) n)
    go (Ok name) (Ok look) = tt
    go (Ok name) (Err e) = tt
    go (Err e) l = tt

-- an allocation failed while a read was parsed
abbrev lacking : Result ReadCall Errno
lacking = Err ENOMEM

-- a read fails with the name's error, or its own
past_refused : (s : List ℕ) (wanted : Result ReadCall Errno) → IsReadAs (past s wanted) (past s (Err ENOMEM))
past_refused s wanted = go (snap_parsed s) wanted
  where
    go : (n : Result (List ℕ) Errno) (l : Result ReadCall Errno)
        → IsReadAs (with_named (λ name. with_named (Past name) l) n) (with_named (λ name. with_named (Past name) lacking) n)
    go (Ok name) (Ok look) = inr (refl, tt)
    go (Ok name) (Err e) = inr (refl, tt)
    go (Err e) l = inl refl

-- a look was read, and then the snapshot's name
pub look_read : (s : List ℕ) (wanted l : Result ReadCall Errno) (q : Request) → (l ≡ wanted) ⊎ (l ≡ Err ENOMEM) → (q ≡ past s l) ⊎ (q ≡ Refused ENOMEM) → IsReadAs (past s wanted) q
look_read s wanted l q looked (inr lacks) = inr (lacks, past_is_asked s wanted)
look_read s wanted l q (inl is) (inl read) = inl (read ∙ ap (past s) is)
look_read s wanted l q (inr is) (inl read) = rw (read ∙ ap (past s) is) (past_refused s wanted)

-- ---- timestamps
-- two words or more
abbrev TwoWords : List (List ℕ) → Type 0
TwoWords [] = ⊥
TwoWords (a ∷ []) = ⊥
TwoWords (a ∷ b ∷ ws) = Unit {0}

-- one word and no space, or more words and not all of it digits
abbrev IsOneWord : List ℕ → Type 0
IsOneWord word = (words_of word ≡ word ∷ []) ⊎ (TwoWords (words_of word) × (list_all is_ascii_digit word ≡ false))

behind_space : (word : List ℕ) → IsOneWord word → TwoWords ([] ∷ words_of word)
behind_space word (inl e) = rw e tt
behind_space word (inr two) = go (words_of word) two.0
  where
    go : (ws : List (List ℕ)) → TwoWords ws → TwoWords ([] ∷ ws)
    go [] h = absurd h
    go (a ∷ ws) h = tt

behind_byte : (b : ℕ) (word : List ℕ) → IsOneWord word
    → (onto_first b (words_of word) ≡ (b ∷ word) ∷ []) ⊎ (TwoWords (onto_first b (words_of word)) × (list_all is_ascii_digit (b ∷ word) ≡ false))
behind_byte b word (inl e) = inl (ap (onto_first b) e)
behind_byte b word (inr two) = inr (go (words_of word) two.0, rw two.1 (and_none (is_ascii_digit b)))
  where
    go : (ws : List (List ℕ)) → TwoWords ws → TwoWords (onto_first b ws)
    go [] h = absurd h
    go (a ∷ []) h = absurd h
    go (a ∷ c ∷ ws) h = tt

    and_none : (t : Bool) → (t && false) ≡ false
    and_none true = refl
    and_none false = refl

one_word : (word : List ℕ) → IsOneWord word
one_word [] = inl refl
one_word (b ∷ word) =
    elim (b == 32) as (λ t. (b == 32) ≡ t → (cond t ([] ∷ words_of word) (onto_first b (words_of word)) ≡ (b ∷ word) ∷ [])
    ⊎ (TwoWords (cond t ([] ∷ words_of word) (onto_first b (words_of word))) × (list_all is_ascii_digit (b ∷ word) ≡ false))) [
      | true ↦ λ e. inr (behind_space word (one_word word), ap (λ (c : ℕ). list_all is_ascii_digit (c ∷ word)) (eqb-true b 32 e))
      | false ↦ λ e. behind_byte b word (one_word word)
    ] refl

-- a word with another byte than a digit writes no number
not_decimal : (word : List ℕ) → list_all is_ascii_digit word ≡ false → is_decimal word ≡ false
not_decimal [] h = refl
not_decimal (d ∷ []) h = elim (d == 48) as (λ t. (d == 48) ≡ t → cond t true (list_all is_ascii_digit (d ∷ [])) ≡ false) [
  | true ↦ λ e. absurd (true≢false (sym (ap (λ (c : ℕ). list_all is_ascii_digit (c ∷ [])) (eqb-true d 48 e)) ∙ h))
  | false ↦ λ e. h
] refl
not_decimal (d ∷ c ∷ ds) h = elim (d == 48) as (λ t. cond t (length (d ∷ c ∷ ds) == 1) (list_all is_ascii_digit (d ∷ c ∷ ds)) ≡ false) [
  | true ↦ ne_eqb (length (d ∷ c ∷ ds)) 1 (omega arith)
  | false ↦ h
]

no_number : (word : List ℕ) → list_all is_ascii_digit word ≡ false → number_of word ≡ None
no_number word h = rw (not_decimal word h) refl

-- `at` and more than one word is no command
no_moment : (ws : List (List ℕ)) → TwoWords ws → command_of (codes "at" ∷ ws) ≡ Malformed
no_moment [] h = absurd h
no_moment (a ∷ []) h = absurd h
no_moment (a ∷ b ∷ []) h = refl
no_moment (a ∷ b ∷ c ∷ []) h = refl
no_moment (a ∷ b ∷ c ∷ d ∷ ws) h = refl

-- the word after `at` and a space is the timestamp
pub moment_asked : (word : List ℕ) → command_of (words_of (codes "at " ++ word)) ≡ with_value Moment (number_of word)
moment_asked word = go (one_word word)
  where
    go : IsOneWord word → command_of (codes "at" ∷ words_of word) ≡ with_value Moment (number_of word)
    go (inl e) = rw e refl
    go (inr two) = no_moment (words_of word) two.0 ∙ ap (with_value Moment) (sym (no_number word two.1))

-- a line of `at`, a space and a word, which is not too long
pub moment_line : (line prefix word : List ℕ) → nat_lt 65536 (length line) ≡ false → line ≡ prefix ++ word → prefix ≡ codes "at " → request_of line ≡ with_value Moment (number_of word)
moment_line line prefix word within e p =
    let whole : line ≡ codes "at " ++ word = e ∙ ap (λ (x : List ℕ). x ++ word) p in
    let begins : request_of line ≡ short_request line = rw within refl in
    begins ∙ ap short_request whole ∙ moment_asked word

-- the request of a line with a timestamp
pub timestamp_read : (line : List ℕ) (n : Option ℕ) → request_of line ≡ with_value Moment n → IfSome n (λ at. request_of line ≡ Moment at)
timestamp_read line (Some at) is = is
timestamp_read line None is = tt
