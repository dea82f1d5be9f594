-- What is guessed of the line of an edit is that edit.
use Rattle.std.proofs.Common.{◌≡◌, ◌≢◌, ℕ, ◌^◌, ◌<◌, List, [], ◌∷◌, ◌++◌, refl, sym, ap, ◌∙◌, arith, append_assoc, Option, Some, None, decimal, All}
use Rattle.std.proofs.lemmas.Option.{same_Some}
use Rattle.pathkey.specs.Names.{Path, IsPath}
use Rattle.reference.specs.Image.{Text}
use Rattle.reference.specs.Indexes.{held}
use Rattle.reference.specs.declared.reply.Meta.{Meta}
use Rattle.reference.specs.declared.reply.Meta.TheVariants.{Dir as DirMeta, File as FileMeta}
use Rattle.textio.specs.Texts.{hex_text}
use Rattle.textio.specs.Values.{number_of}
use Rattle.textio.proofs.Written.{number_reported}
use Rattle.edits.specs.Guesses.{CutsHead, CutsNumber, Guesses, GuessesChange, GuessesMeta, head_of, tail_of}
use Rattle.edits.specs.Lines.{IsChange, IsMeta, change_text, entry_letter, numbers, shown, spelled}
use Rattle.edits.specs.declared.edit.Change.{Change}
use Rattle.edits.specs.declared.edit.Change.TheVariants.{Remove, Add, Alter, Block}
use Rattle.edits.specs.declared.edit.Edit.{Edit}
use Rattle.edits.proofs.WordFacts.{IsCut, decimal_free, hex_free, never_cut, same_cut, shown_free}

-- ---- numbers

pub no_space : (words : Text) → All (λ b. b ≢ 32) words → CutsNumber words None
no_space words h n rest few e = absurd (never_cut words (decimal n) rest h e)

pub no_number : (words front back : Text) → IsCut words front back → number_of front ≡ None → CutsNumber words None
no_number words front back h none n rest few e =
    let parts = same_cut words front back (decimal n) rest h (decimal_free n few) e in
    let clash : ◌≡◌ {A = Option ℕ} None (Some n) = sym none ∙ number_reported front n few parts.0 in absurd (cc)

pub a_number : (words front back : Text) (m : ℕ) → IsCut words front back → number_of front ≡ Some m → CutsNumber words (Some (m, back))
a_number words front back m h is n rest few e =
    let parts = same_cut words front back (decimal n) rest h (decimal_free n few) e in
    let same : m ≡ n = same_Some m n (sym is ∙ number_reported front n few parts.0) in
    ap (λ (k : ℕ). Some (k, back)) same ∙ ap (λ (w : Text). Some (n, w)) parts.1

-- what was cut off is what was spelled
pub number_cut : (words rest : Text) (m : ℕ) → CutsNumber words (Some (m, rest)) → (n : ℕ) (behind : Text) → n < 2 ^ 64 → words ≡ decimal n ++ 32 ∷ behind → (m ≡ n) × (rest ≡ behind)
number_cut words rest m h n behind few e =
    let same : (m, rest) ≡ (n, behind) = same_Some {A = ℕ × Text} (m, rest) (n, behind) (h n behind few e) in
    (ap (λ (p : ℕ × Text). p.0) same, ap (λ (p : ℕ × Text). p.1) same)

-- ---- the numbers of an entry

pub no_moment : (kind : ℕ) (words : Text) → kind ≡ 68 → number_of words ≡ None → GuessesMeta kind words None
no_moment kind words letter none = record { valid = tt; complete = go }
  where
    go : (m : Meta) → IsMeta m → kind ≡ entry_letter m → words ≡ numbers m → ◌≡◌ {A = Option Meta} None (Some m)
    go (DirMeta at) is same e = absurd (let clash : ◌≡◌ {A = Option ℕ} None (Some at) = sym none ∙ number_reported words at is e in cc)
    go (FileMeta n at) is same e = absurd (omega (arith, letter, same))

pub a_moment : (kind : ℕ) (words : Text) (a : ℕ) → kind ≡ 68 → number_of words ≡ Some a → a < 2 ^ 64 → GuessesMeta kind words (Some (DirMeta a))
a_moment kind words a letter number few = record { valid = (few, sym letter); complete = go }
  where
    go : (m : Meta) → IsMeta m → kind ≡ entry_letter m → words ≡ numbers m → ◌≡◌ {A = Option Meta} (Some (DirMeta a)) (Some m)
    go (DirMeta at) is same e = ap (λ (k : ℕ). Some (DirMeta k)) (same_Some a at (sym number ∙ number_reported words at is e))
    go (FileMeta n at) is same e = absurd (omega (arith, letter, same))

pub no_mtime : (words rest : Text) (len : ℕ) → CutsNumber words (Some (len, rest)) → number_of rest ≡ None → GuessesMeta 70 words None
no_mtime words rest len h none = record { valid = tt; complete = go }
  where
    go : (m : Meta) → IsMeta m → 70 ≡ entry_letter m → words ≡ numbers m → ◌≡◌ {A = Option Meta} None (Some m)
    go (DirMeta at) is same e = absurd (omega (arith, same))
    go (FileMeta n at) is same e =
        let cut = number_cut words rest len h n (decimal at) is.0 e in
        absurd (let clash : ◌≡◌ {A = Option ℕ} None (Some at) = sym none ∙ number_reported rest at is.1 cut.1 in cc)

pub a_file : (words rest : Text) (len a : ℕ) → CutsNumber words (Some (len, rest)) → number_of rest ≡ Some a → len < 2 ^ 64 → a < 2 ^ 64 → GuessesMeta 70 words (Some (FileMeta len a))
a_file words rest len a h number size few = record { valid = ((size, few), refl); complete = go }
  where
    go : (m : Meta) → IsMeta m → 70 ≡ entry_letter m → words ≡ numbers m → ◌≡◌ {A = Option Meta} (Some (FileMeta len a)) (Some m)
    go (DirMeta at) is same e = absurd (omega (arith, same))
    go (FileMeta n at) is same e =
        let cut = number_cut words rest len h n (decimal at) is.0 e in
        let moment : a ≡ at = same_Some a at (sym number ∙ number_reported rest at is.1 cut.1) in
        let length : len ≡ n = cut.0 in
        cc

-- ---- blocks

pub no_block : (tail : Text) → ((i : ℕ) (old : Option (List ℕ)) (new : List ℕ) → IsChange (Block i old new) → tail ≡ tail_of (Block i old new) → ⊥) → GuessesChange (98 ∷ 32 ∷ []) tail None
no_block tail h = record { valid = tt; complete = go }
  where
    go : (c : Change) → IsChange c → 98 ∷ 32 ∷ [] ≡ head_of c → tail ≡ tail_of c → ◌≡◌ {A = Option Change} None (Some c)
    go (Remove m) is head e = absurd (cc)
    go (Add m) is head e = absurd (cc)
    go (Alter m n) is head e = absurd (cc)
    go (Block i old new) is head e = absurd (h i old new is e)

pub a_block : (tail : Text) (j : ℕ) (d : Option (List ℕ)) (v : List ℕ) → IsChange (Block j d v)
    → ((i : ℕ) (old : Option (List ℕ)) (new : List ℕ) → IsChange (Block i old new) → tail ≡ tail_of (Block i old new) → (j ≡ i) × (d ≡ old) × (v ≡ new)) → GuessesChange (98 ∷ 32 ∷ []) tail (Some (Block j d v))
a_block tail j d v valid h = record { valid = valid; complete = go }
  where
    go : (c : Change) → IsChange c → 98 ∷ 32 ∷ [] ≡ head_of c → tail ≡ tail_of c → ◌≡◌ {A = Option Change} (Some (Block j d v)) (Some c)
    go (Remove m) is head e = absurd (cc)
    go (Add m) is head e = absurd (cc)
    go (Alter m n) is head e = absurd (cc)
    go (Block i old new) is head e = let same : (j ≡ i) × (d ≡ old) × (v ≡ new) = h i old new is e in cc (same.0, same.1, same.2)

-- the words behind the number
pub behind_number : (tail words : Text) (m : ℕ) → CutsNumber tail (Some (m, words)) → (i : ℕ) (old : Option (List ℕ)) (new : List ℕ) → i < 2 ^ 64 → tail ≡ tail_of (Block i old new)
    → (m ≡ i) × (words ≡ hex_text (held old) ++ 32 ∷ hex_text new)
behind_number tail words m h i old new few e = number_cut tail words m h i (hex_text (held old) ++ 32 ∷ hex_text new) few e

-- all three words
pub block_words : (tail words front back : Text) (m : ℕ) → CutsNumber tail (Some (m, words)) → IsCut words front back → (i : ℕ) (old : Option (List ℕ)) (new : List ℕ) → i < 2 ^ 64 → tail ≡ tail_of (Block i old new)
    → (m ≡ i) × (front ≡ hex_text (held old)) × (back ≡ hex_text new)
block_words tail words front back m h cut i old new few e =
    let first = behind_number tail words m h i old new few e in
    let parts = same_cut words front back (hex_text (held old)) (hex_text new) cut (hex_free (held old)) first.1 in
    (first.0, parts.0, parts.1)

-- ---- edits

-- the words of a line
pub spelled_words : (p : Path) (c : Change) → change_text p c ≡ head_of c ++ (shown p ++ 32 ∷ tail_of c)
spelled_words p (Remove m) = refl
spelled_words p (Add m) = refl
spelled_words p (Alter m n) = ap (λ (t : Text). 33 ∷ 32 ∷ entry_letter m ∷ 32 ∷ t) (append_assoc (shown p) (32 ∷ numbers m) (32 ∷ numbers n))
spelled_words p (Block i old new) = refl

-- what was cut off is what was spelled
pub head_cut : (line head words : Text) → CutsHead line (Some (head, words)) → (e : Edit) → line ≡ spelled e → (head ≡ head_of e.change) × (words ≡ shown e.path ++ 32 ∷ tail_of e.change)
head_cut line head words h e is =
    let end : Text = shown e.path ++ 32 ∷ tail_of e.change in
    let same : (head, words) ≡ (head_of e.change, end) = same_Some {A = Text × Text} (head, words) (head_of e.change, end) (h e.change end (is ∙ spelled_words e.path e.change)) in
    (ap (λ (p : Text × Text). p.0) same, ap (λ (p : Text × Text). p.1) same)

pub no_head : (line : Text) → CutsHead line None → Guesses line None
no_head line h = record {
  valid = tt;
  complete = λ e valid is.
      let end : Text = shown e.path ++ 32 ∷ tail_of e.change in
      absurd (let clash : ◌≡◌ {A = Option (Text × Text)} None (Some (head_of e.change, end)) = h e.change end (is ∙ spelled_words e.path e.change) in cc);
}

pub no_path : (line head words : Text) → CutsHead line (Some (head, words)) → All (λ b. b ≢ 32) words → Guesses line None
no_path line head words h free = record { valid = tt; complete = λ e valid is. absurd (never_cut words (shown e.path) (tail_of e.change) free (head_cut line head words h e is).1) }

-- all parts of a line
pub edit_words : (line head words front back : Text) → CutsHead line (Some (head, words)) → IsCut words front back → (e : Edit) → line ≡ spelled e → (head ≡ head_of e.change) × (front ≡ shown e.path) × (back ≡ tail_of e.change)
edit_words line head words front back h cut e is =
    let parts = head_cut line head words h e is in
    let rest = same_cut words front back (shown e.path) (tail_of e.change) cut (shown_free e.path) parts.1 in
    (parts.0, rest.0, rest.1)

pub no_change : (line head words front back : Text) → CutsHead line (Some (head, words)) → IsCut words front back → GuessesChange head back None → Guesses line None
no_change line head words front back h cut none = record {
  valid = tt;
  complete = λ e valid is.
      let parts = edit_words line head words front back h cut e is in
      absurd (let clash : ◌≡◌ {A = Option Change} None (Some e.change) = none.complete e.change valid.change parts.0 parts.2 in cc);
}

pub path_refused : (line head words front back : Text) → CutsHead line (Some (head, words)) → IsCut words front back → ((p : Path) → IsPath p → front ≡ shown p → ◌≡◌ {A = Option Path} None (Some p)) → Guesses line None
path_refused line head words front back h cut none = record {
  valid = tt;
  complete = λ e valid is.
      let parts = edit_words line head words front back h cut e is in
      absurd (let clash : ◌≡◌ {A = Option Path} None (Some e.path) = none e.path valid.path parts.1 in cc);
}

pub an_edit : (line head words front back : Text) (q : Path) (d : Change) → CutsHead line (Some (head, words)) → IsCut words front back → IsPath q → GuessesChange head back (Some d)
    → ((p : Path) → IsPath p → front ≡ shown p → ◌≡◌ {A = Option Path} (Some q) (Some p)) → Guesses line (Some (record { path = q; change = d }))
an_edit line head words front back q d h cut path change same = record {
  valid = record { path = path; change = change.valid };
  complete = λ e valid is.
      let parts = edit_words line head words front back h cut e is in
      let one : q ≡ e.path = same_Some q e.path (same e.path valid.path parts.1) in
      let two : d ≡ e.change = same_Some d e.change (change.complete e.change valid.change parts.0 parts.2) in
      ap Some (λ k. record { path = one k; change = two k });
}
