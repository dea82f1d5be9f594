-- The current line, when bytes are appended to it.
use Rattle.std.proofs.Common.{◌≡◌, ◌≢◌, ℕ, ◌+◌, ◌≤◌, ◌<◌, List, [], ◌∷◌, ◌++◌, length, refl, sym, ap, ◌∙◌, inl, inr, append_assoc, arith, length-append}
use Rattle.std.specs.List.{All}
use Rattle.std.proofs.lemmas.Bool.{cases_lt}
use Rattle.std.proofs.lemmas.List.Elements.{All-head, All-tail}
use Rattle.textio.specs.Held.{Holds, IsFree}

-- no byte that is a line feed
free_of : (l : List ℕ) → All (λ b. b ≢ 10) l → IsFree l
free_of [] all = tt
free_of (x ∷ l) all = (All-head (λ b. b ≢ 10) x l all, free_of l (All-tail (λ b. b ≢ 10) x l all))

-- more bytes without a line feed, after a line
free_more : (l more : List ℕ) → IsFree l → IsFree more → IsFree (l ++ more)
free_more [] more free rest = rest
free_more (x ∷ l) more free rest = (free.0, free_more l more free.1 rest)

-- before its first byte the line is empty
pub holds_nothing : Holds [] []
holds_nothing = record { short = λ _. refl; long = λ h. absurd (omega arith); free = tt }

-- more bytes in the line so far
pub hold_more : (held items new bytes : List ℕ) → Holds held items → All (λ b. b ≢ 10) bytes
    → (length items + length bytes ≤ 65536 → new ≡ items ++ bytes) → (65536 < length items + length bytes → 65536 < length new) → Holds (held ++ bytes) new
hold_more held items new bytes holds free short long = record {
  short = λ few.
      let all : length held + length bytes ≤ 65536 = omega (arith, length-append held bytes) in
      let is : items ≡ held = holds.short (omega arith) in
      let same : length items ≡ length held = ap length is in
      short (omega arith) ∙ ap (λ l. l ++ bytes) is;
  long = λ many.
      let all : 65536 < length held + length bytes = omega (arith, length-append held bytes) in
      elim (cases_lt 65536 (length held)) [
        | inl past ↦
            let more = holds.long past in
            long (omega arith)
        | inr few ↦
            let same : length items ≡ length held = ap length (holds.short few) in
            long (omega arith)
      ];
  free = free_more held bytes holds.free (free_of bytes free);
}

-- if nothing is buffered, the line begins with these bytes
pub hold_first : (held items bytes : List ℕ) → Holds held items → All (λ b. b ≢ 10) bytes → length items ≡ 0 → Holds (held ++ bytes) bytes
hold_first held [] bytes holds free none = hold_more held [] bytes bytes holds free (λ few. refl) (λ many. omega arith)
hold_first held (x ∷ items) bytes holds free none = absurd (omega arith)

-- a text that continues with a line
pub line_cut : (text front rest end after : List ℕ) → text ≡ front ++ rest → rest ≡ end ++ 10 ∷ after → text ≡ (front ++ (end ++ 10 ∷ [])) ++ after
line_cut text front rest end after is cut =
    is ∙ ap (λ t. front ++ t) (cut ∙ sym (append_assoc end (10 ∷ []) after)) ∙ sym (append_assoc front (end ++ 10 ∷ []) after)
