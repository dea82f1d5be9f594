-- Which replies are faults or errors.
use Rattle.std.specs.Prelude.{◌≡◌, ◌==◌, ◌&&◌, ◌||◌, Bool, true, false, ℕ, List, [], ◌∷◌, Option, codes}
use Rattle.std.specs.Io.KnownBytes.{Appends}
use Rattle.reference.specs.declared.reply.Reply.{Reply}
use Rattle.reference.specs.declared.reply.Reply.TheVariants.{Fault}
use Rattle.shell.specs.declared.verdict.Verdict.{Verdict}
use Rattle.shell.specs.declared.verdict.Verdict.TheVariants.{Done}

-- whether a text begins with these bytes
abbrev pub begins : List ℕ → List ℕ → Bool
begins [] text = true
begins (b ∷ front) [] = false
begins (b ∷ front) (c ∷ text) = (b == c) && begins front text

-- whether the text of a reply is that of a fault or an error
abbrev pub is_fault : List ℕ → Bool
is_fault text = begins (codes "fault ") text || begins (codes "error ") text

-- whether a reply to a call is a fault
abbrev pub is_refusal : Reply → Bool
is_refusal (Fault e) = true
is_refusal _ = false

-- whether a verdict is a fault or an error
abbrev pub fails : Verdict → Bool
fails Done = false
fails _ = true

-- a reply was written, and this is the verdict on it
abbrev pub Judges : Verdict → Option (List ℕ) → Option (List ℕ) → List ℕ → Type 0
Judges v old new text = Appends old new text × (fails v ≡ is_fault text)
