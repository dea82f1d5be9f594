-- Lines of a text, and the lines of commands.
use Rattle.std.proofs.Common.{◌≡◌, ◌≢◌, ℕ, List, [], ◌∷◌, ◌++◌, get_or, codes, decimal, refl, sym, ap, subst, ◌∙◌, append_assoc, arith, rules, true}
use Rattle.std.proofs.lemmas.Bool.{false≢true}
use Rattle.std.proofs.lemmas.Fmt.{decimal_injective}
use Rattle.std.proofs.lemmas.List.{append_cancel_left}
use Rattle.std.proofs.lemmas.List.Elements.{All-nil, All-cons, All-append, All-from_recursion}
use Rattle.hex.specs.Hex.{encode_lower, decode_of, is_hex_digit}
use Rattle.hex.proofs.HexLemmas.{decode_of-encode_lower, decode_of-ok, decode_of-same}
use Rattle.reference.specs.Image.{Text}
use Rattle.textio.proofs.LineFacts.{same_line}
use Rattle.textio.proofs.Spelled.{same_values}
use Rattle.delta.specs.Deltas.{Line, IsLine, text_of, Command, Stay, Go, Come, IsCommand, IsDigest, IsDelta, commands_text, heading, spelled, parsed}
use Rattle.delta.specs.Texts.{end_text}
use Rattle.edits.proofs.TextFacts.{decimal_line}

-- ---- lines

pub commands_append : (cs ds : List Command) → commands_text (cs ++ ds) ≡ commands_text cs ++ commands_text ds
commands_append [] ds = refl
commands_append (c ∷ cs) ds = ap (λ t. spelled c ++ 10 ∷ t) (commands_append cs ds) ∙ sym (append_assoc (spelled c) (10 ∷ commands_text cs) (commands_text ds))

pub reported_text : (cs : List Command) → text_of (parsed cs) ≡ commands_text cs ++ end_text
reported_text [] = refl
reported_text (c ∷ cs) = ap (λ t. spelled c ++ 10 ∷ t) (reported_text cs) ∙ sym (append_assoc (spelled c) (10 ∷ commands_text cs) end_text)

-- ---- spellings

behind_word : (a : ℕ) (l : Line) → a ≢ 10 → IsLine l → IsLine (a ∷ 32 ∷ l)
behind_word a l h whole = All-cons (λ b. b ≢ 10) a (32 ∷ l) h (All-cons (λ b. b ≢ 10) 32 l (omega arith) whole)

pub spelled_line : (c : Command) → IsCommand c → IsLine (spelled c)
spelled_line (Stay n) h = behind_word 61 (decimal n) (omega arith) (decimal_line n h.1)
spelled_line (Go n) h = behind_word 45 (decimal n) (omega arith) (decimal_line n h.1)
spelled_line (Come l) h = behind_word 43 l (omega arith) h

pub end_line : IsLine (codes "end")
end_line = All-cons (λ b. b ≢ 10) 101 (110 ∷ 100 ∷ []) (omega arith) (All-cons (λ b. b ≢ 10) 110 (100 ∷ []) (omega arith) (All-cons (λ b. b ≢ 10) 100 [] (omega arith) (All-nil (λ b. b ≢ 10))))

pub heads : (a b : ℕ) (x y : List ℕ) → a ∷ x ≡ b ∷ y → a ≡ b
heads a b x y e = cc

pub tails : (a b : ℕ) (x y : List ℕ) → a ∷ x ≡ b ∷ y → x ≡ y
tails a b x y e = cc

pub end_is_no_command : (c : Command) → codes "end" ≢ spelled c
end_is_no_command (Stay n) e = let h = heads 101 61 (110 ∷ 100 ∷ []) (32 ∷ decimal n) e in omega arith
end_is_no_command (Go n) e = let h = heads 101 45 (110 ∷ 100 ∷ []) (32 ∷ decimal n) e in omega arith
end_is_no_command (Come l) e = let h = heads 101 43 (110 ∷ 100 ∷ []) (32 ∷ l) e in omega arith

same_words : (a : ℕ) (x y : List ℕ) → a ∷ 32 ∷ x ≡ a ∷ 32 ∷ y → x ≡ y
same_words a x y e = cc

pub same_spelled : (c d : Command) → IsCommand c → IsCommand d → spelled c ≡ spelled d → c ≡ d
same_spelled (Stay m) (Stay n) h k e = ap Stay (decimal_injective m n h.1 k.1 (same_words 61 (decimal m) (decimal n) e))
same_spelled (Stay m) (Go n) h k e = absurd (let h = heads 61 45 (32 ∷ decimal m) (32 ∷ decimal n) e in omega arith)
same_spelled (Stay m) (Come l) h k e = absurd (let h = heads 61 43 (32 ∷ decimal m) (32 ∷ l) e in omega arith)
same_spelled (Go m) (Stay n) h k e = absurd (let h = heads 45 61 (32 ∷ decimal m) (32 ∷ decimal n) e in omega arith)
same_spelled (Go m) (Go n) h k e = ap Go (decimal_injective m n h.1 k.1 (same_words 45 (decimal m) (decimal n) e))
same_spelled (Go m) (Come l) h k e = absurd (let h = heads 45 43 (32 ∷ decimal m) (32 ∷ l) e in omega arith)
same_spelled (Come l) (Stay n) h k e = absurd (let h = heads 43 61 (32 ∷ l) (32 ∷ decimal n) e in omega arith)
same_spelled (Come l) (Go n) h k e = absurd (let h = heads 43 45 (32 ∷ l) (32 ∷ decimal n) e in omega arith)
same_spelled (Come l) (Come m) h k e = ap Come (same_words 43 l m e)

ten_is_no_digit : (c : ℕ) → is_hex_digit c ≡ true → c ≢ 10
ten_is_no_digit c h e = false≢true (subst (λ (k : ℕ). is_hex_digit k ≡ true) e h)

pub digits_line : (digest : List ℕ) → IsDigest digest → IsLine (encode_lower digest)
digits_line digest is =
    let ok = decode_of-ok (encode_lower digest) digest (decode_of-encode_lower digest is.bytes) in
    λ k d lt. ten_is_no_digit (get_or (encode_lower digest) k d) (ok.1 k d lt)

word_line : IsLine (codes "delta 1 ")
word_line = All-from_recursion (λ b. b ≢ 10) (codes "delta 1 ") (search rules)

pub heading_line : (digest : List ℕ) → IsDigest digest → IsLine (heading digest)
heading_line digest is = All-append (λ b. b ≢ 10) (codes "delta 1 ") (encode_lower digest) word_line (digits_line digest is)

pub same_digits : (d e : List ℕ) → IsDigest d → IsDigest e → encode_lower d ≡ encode_lower e → d ≡ e
same_digits d e a b same = decode_of-same (encode_lower d) d e (decode_of-encode_lower d a.bytes) (ap decode_of same ∙ decode_of-encode_lower e b.bytes)

pub same_heading : (d e : List ℕ) → IsDigest d → IsDigest e → heading d ≡ heading e → d ≡ e
same_heading d e a b same = same_digits d e a b (append_cancel_left (codes "delta 1 ") (encode_lower d) (encode_lower e) same)

-- a delta has one digest and one list of commands
pub one_reading : (text : Text) (d e : List ℕ) (cs es : List Command) → IsDelta text d cs → IsDelta text e es → (d ≡ e) × (cs ≡ es)
one_reading text d e cs es a b =
    let both = same_line (heading d) (heading e) (text_of (parsed cs)) (text_of (parsed es)) (heading_line d a.sum) (heading_line e b.sum) (sym a.is ∙ b.is) in
    (same_heading d e a.sum b.sum both.0, same_values Command IsCommand spelled (codes "end") spelled_line end_line end_is_no_command same_spelled cs es a.commands b.commands both.1)
