-- The lines of edits as they are read: what is guessed of their words.
use Rattle.std.specs.Prelude.{◌≡◌, ◌<◌, ◌^◌, ℕ, [], ◌∷◌, ◌++◌, codes, decimal, IfSome, Option, Some}
use Rattle.reference.specs.Image.{Text}
use Rattle.reference.specs.Indexes.{held}
use Rattle.reference.specs.declared.reply.Meta.{Meta}
use Rattle.textio.specs.Lines.{Line}
use Rattle.textio.specs.Texts.{hex_text}
use Rattle.edits.specs.Lines.{IsChange, IsEdit, IsMeta, entry_letter, numbers, spelled}
use Rattle.edits.specs.declared.edit.Change.{Change}
use Rattle.edits.specs.declared.edit.Change.TheVariants.{Remove, Add, Alter, Block}
use Rattle.edits.specs.declared.edit.Edit.{Edit}

-- ---- the words of a line

-- before the path: what is changed, and of an entry its kind, with a space behind each
abbrev pub head_of : Change → Text
head_of (Remove m) = 45 ∷ 32 ∷ entry_letter m ∷ 32 ∷ []
head_of (Add m) = 43 ∷ 32 ∷ entry_letter m ∷ 32 ∷ []
head_of (Alter m n) = 33 ∷ 32 ∷ entry_letter m ∷ 32 ∷ []
head_of (Block i old new) = codes "b "

-- after the path and its space
abbrev pub tail_of : Change → Text
tail_of (Remove m) = numbers m
tail_of (Add m) = numbers m
tail_of (Alter m n) = numbers m ++ 32 ∷ numbers n
tail_of (Block i old new) = decimal i ++ 32 ∷ (hex_text (held old) ++ 32 ∷ hex_text new)

-- ---- guesses: what was guessed can be spelled, and it is the right one if the words spell one

-- the words before the path, and the text behind them
abbrev pub CutsHead : Line → Option (Text × Text) → Type 0
CutsHead line cut = (c : Change) (words : Text) → line ≡ head_of c ++ words → cut ≡ Some (head_of c, words)

-- a number with its space, and the text behind them
abbrev pub CutsNumber : Text → Option (ℕ × Text) → Type 0
CutsNumber words cut = (n : ℕ) (rest : Text) → n < 2 ^ 64 → words ≡ decimal n ++ 32 ∷ rest → cut ≡ Some (n, rest)

-- the numbers of an entry of this kind
pub record GuessesMeta (kind : ℕ) (words : Text) (guess : Option Meta) : Type 0 where
  pub valid : IfSome guess (λ m. IsMeta m × (entry_letter m ≡ kind))
  pub complete : (m : Meta) → IsMeta m → kind ≡ entry_letter m → words ≡ numbers m → guess ≡ Some m

-- the numbers of an entry of this kind with their space, and the text behind them
pub record CutsMeta (kind : ℕ) (words : Text) (cut : Option (Meta × Text)) : Type 0 where
  pub valid : IfSome cut (λ c. IsMeta c.0 × (entry_letter c.0 ≡ kind))
  pub complete : (m : Meta) (rest : Text) → IsMeta m → kind ≡ entry_letter m → words ≡ numbers m ++ 32 ∷ rest → cut ≡ Some (m, rest)

-- a change
pub record GuessesChange (head tail : Text) (guess : Option Change) : Type 0 where
  pub valid : IfSome guess IsChange
  pub complete : (c : Change) → IsChange c → head ≡ head_of c → tail ≡ tail_of c → guess ≡ Some c

-- an edit
pub record Guesses (line : Line) (guess : Option Edit) : Type 0 where
  pub valid : IfSome guess IsEdit
  pub complete : (e : Edit) → IsEdit e → line ≡ spelled e → guess ≡ Some e
