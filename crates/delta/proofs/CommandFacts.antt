-- The command on a line.
use Rattle.std.proofs.Common.{◌≡◌, ◌≢◌, ℕ, ◌^◌, ◌<◌, ◌∷◌, ◌++◌, drop, codes, decimal, sym, ap, ◌∙◌, arith}
use Rattle.std.proofs.lemmas.List.Elements.{All-drop}
use Rattle.reference.specs.Image.{Text}
use Rattle.delta.specs.Deltas.{IsLine, Stay, Go, Come}
use Rattle.delta.specs.Texts.{Tells, TellsNone}
use Rattle.delta.proofs.TextFacts.{heads, tails}

pub come_reported : (line rest : Text) → IsLine line → line ≡ codes "+ " ++ rest → Tells line (Come (drop 2 line))
come_reported line rest whole e = record {
  command = All-drop (λ b. b ≢ 10) 2 line whole;
  is = e ∙ ap (λ l. codes "+ " ++ l) (sym (ap (drop 2) e));
}

-- a number word that writes none
abbrev pub WritesNone : Text → Type 0
WritesNone word = (n : ℕ) → 0 < n → n < 2 ^ 64 → word ≢ decimal n

pub no_stay : (line word : Text) → line ≡ codes "= " ++ word → WritesNone word → TellsNone line
no_stay line word e none (Stay n) is s = none n is.0 is.1 (tails 32 32 word (decimal n) (tails 61 61 (32 ∷ word) (32 ∷ decimal n) (sym e ∙ s)))
no_stay line word e none (Go n) is s = let h = heads 61 45 (32 ∷ word) (32 ∷ decimal n) (sym e ∙ s) in omega arith
no_stay line word e none (Come l) is s = let h = heads 61 43 (32 ∷ word) (32 ∷ l) (sym e ∙ s) in omega arith

pub no_go : (line word : Text) → line ≡ codes "- " ++ word → WritesNone word → TellsNone line
no_go line word e none (Stay n) is s = let h = heads 45 61 (32 ∷ word) (32 ∷ decimal n) (sym e ∙ s) in omega arith
no_go line word e none (Go n) is s = none n is.0 is.1 (tails 32 32 word (decimal n) (tails 45 45 (32 ∷ word) (32 ∷ decimal n) (sym e ∙ s)))
no_go line word e none (Come l) is s = let h = heads 45 43 (32 ∷ word) (32 ∷ l) (sym e ∙ s) in omega arith

pub no_word : (line : Text) → ((rest : Text) → line ≢ codes "+ " ++ rest) → ((rest : Text) → line ≢ codes "= " ++ rest) → ((rest : Text) → line ≢ codes "- " ++ rest) → TellsNone line
no_word line come stay go (Stay n) is s = stay (decimal n) s
no_word line come stay go (Go n) is s = go (decimal n) s
no_word line come stay go (Come l) is s = come l s
