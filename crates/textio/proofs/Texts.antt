-- Texts that are written piece by piece, for each element of a list.
use Rattle.std.proofs.Common.{◌≡◌, ℕ, ◌+◌, ◌<◌, List, [], ◌∷◌, ◌++◌, Option, length, take, drop, get_or, sym, ap, refl, ◌∙◌, subst, append-nil, append_assoc, take-append-drop, arith}
use Rattle.std.specs.List.{All, flat_map}
use Rattle.std.specs.Io.KnownBytes.{Appends}
use Rattle.std.proofs.KnownBytes.{Appends-trans}
use Rattle.std.proofs.lemmas.List.{take_more}
use Rattle.std.proofs.lemmas.List.Elements.{All-head, All-tail}
use Rattle.std.proofs.lemmas.Grind.{flat_map-append}
use Rattle.reference.specs.Image.{percent, two_digits}
use Rattle.textio.specs.Parts.{AppendsPart}
use Rattle.textio.specs.Texts.{IsPlain, hex_text}
use Rattle.textio.proofs.Known.{part_after, part_before}

module _ {X : Type 0} (f : X → List ℕ) (d : X) where
  -- the text of one element more
  pub taken_more : (xs : List X) (i : ℕ) → i < length xs → flat_map f (take (i + 1) xs) ≡ flat_map f (take i xs) ++ f (get_or xs i d)
  taken_more xs i lt =
      ap (flat_map f) (take_more xs i d lt) ∙ flat_map-append f (take i xs) (get_or xs i d ∷ [])
      ∙ ap (λ t. flat_map f (take i xs) ++ t) (append-nil (f (get_or xs i d)))

  -- the text of the elements before one, of that one, and of those after it
  pub texts_around : (xs : List X) (i : ℕ) → i < length xs → (flat_map f (take i xs) ++ f (get_or xs i d)) ++ flat_map f (drop (i + 1) xs) ≡ flat_map f xs
  texts_around xs i lt =
      ap (λ t. t ++ flat_map f (drop (i + 1) xs)) (sym (taken_more xs i lt))
      ∙ sym (flat_map-append f (take (i + 1) xs) (drop (i + 1) xs)) ∙ ap (flat_map f) (take-append-drop (i + 1) xs)

  -- a part of the text of one element, after the texts of those before it
  pub each_part : (a b c : Option (List ℕ)) (xs : List X) (i : ℕ) → i < length xs → Appends a b (flat_map f (take i xs)) → AppendsPart b c (f (get_or xs i d))
      → AppendsPart a c (flat_map f xs)
  each_part a b c xs i lt first second =
      subst (AppendsPart a c) (texts_around xs i lt) (part_before a c _ (flat_map f (drop (i + 1) xs)) (part_after a b c _ _ first second))

-- some bytes in hexadecimal
pub hex_of_some : (bytes : List ℕ) → 0 < length bytes → hex_text bytes ≡ flat_map (two_digits 87) bytes
hex_of_some [] some = absurd (omega arith)
hex_of_some (b ∷ bytes) some = refl

-- a piece is taken from what is left
pub cut_more : (all done rest piece behind : List ℕ) (n : ℕ) → all ≡ done ++ rest → piece ≡ take n rest → behind ≡ drop n rest → all ≡ (done ++ piece) ++ behind
cut_more all done rest piece behind n split front back =
    split ∙ ap (λ l. done ++ l) (sym (take-append-drop n rest) ∙ ap (λ l. l ++ drop n rest) (sym front) ∙ ap (λ l. piece ++ l) (sym back)) ∙ sym (append_assoc done piece behind)

-- the text of what was done, of a piece, and of the rest
pub text_of_pieces : (f : ℕ → List ℕ) (all done piece behind : List ℕ) → all ≡ (done ++ piece) ++ behind
    → (flat_map f done ++ flat_map f piece) ++ flat_map f behind ≡ flat_map f all
text_of_pieces f all done piece behind cut =
    ap (λ l. l ++ flat_map f behind) (sym (flat_map-append f done piece)) ∙ sym (flat_map-append f (done ++ piece) behind) ∙ ap (flat_map f) (sym cut)

-- a text in which no byte is escaped is its own percent form
pub plain_text : (xs : List ℕ) → All IsPlain xs → flat_map percent xs ≡ xs
plain_text [] all = refl
plain_text (b ∷ xs) all =
    ap (λ t. t ++ flat_map percent xs) (All-head IsPlain b xs all) ∙ ap (λ t. b ∷ t) (plain_text xs (All-tail IsPlain b xs all))

-- bytes were written in percent form, and then bytes that are not escaped
pub plain_more : (a b c : Option (List ℕ)) (done piece rest : List ℕ) (n : ℕ) → Appends a b (flat_map percent done) → piece ≡ take n rest → All IsPlain (take n rest) → Appends b c piece
    → Appends a c (flat_map percent (done ++ piece))
plain_more a b c done piece rest n before front plain written =
    let same = plain_text piece (subst (All IsPlain) (sym front) plain) in
    subst (Appends a c) (sym (flat_map-append percent done piece)) (Appends-trans a b c _ _ before (subst (Appends b c) (sym same) written))
