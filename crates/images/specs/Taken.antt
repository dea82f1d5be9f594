-- An image that is loaded in pieces: what a loader has read of a text.
use Rattle.std.specs.Prelude.{◌≡◌, ℕ, ⊤, List, [], ◌++◌, Option, Result, Ok, Err}
use Rattle.std.specs.Io.KnownBytes.{Consumes, IsAtEnd}
use Rattle.reference.specs.Image.{Text}
use Rattle.reference.specs.ImageLines.{IsBadAt}
use Rattle.images.specs.Loads.{HasRead, Loaded, form_of, new_form}
use Rattle.images.specs.declared.load.LoadFault.{LoadFault}
use Rattle.images.specs.declared.load.LoadFault.TheVariants.{Memory, Bad}
use Rattle.images.specs.declared.loader.ImageLoader.{ImageLoader}
use Rattle.images.specs.declared.loader.FeedOutcome.{FeedOutcome}
use Rattle.images.specs.declared.loader.FeedOutcome.TheVariants.{Open, Starved, Spoiled}
use Rattle.node.specs.declared.shape.Shape.{Shape}
use Rattle.volume.specs.Volumes.{PVolume}

-- the answer to the last piece, and to each one after a failure
abbrev pub answer_of : FeedOutcome → Result (Unit {0}) LoadFault
answer_of Open = Ok tt
answer_of Starved = Err Memory
answer_of (Spoiled n) = Err (Bad n)

-- the text was loaded into trees of the shape; or an allocation failed; or it is not an image from the line with a number on,
-- whatever follows
abbrev pub TookBy : FeedOutcome → Shape → Text → ImageLoader → Type 0
TookBy Open shape text l = HasRead text l.held.items l.load_state × (form_of l.load_state.volume ≡ new_form shape)
TookBy Starved shape text l = ⊤
TookBy (Spoiled n) shape text l = (rest : Text) → IsBadAt n (text ++ rest)

abbrev pub Took : Shape → Text → ImageLoader → Type 0
Took shape text l = TookBy l.intake shape text l

-- nothing was loaded yet, and nothing failed
abbrev pub IsFresh : Shape → ImageLoader → Type 0
IsFresh shape l = (l.intake ≡ Open) × Took shape [] l

-- the volume abstracts to the tree whose image is the text, in trees of the shape and without marks
abbrev pub LoadedIn : Shape → Text → PVolume → Type 0
LoadedIn shape text v = Loaded text v × (form_of v ≡ new_form shape)

-- the reader gave a text, which was taken
abbrev pub TakesSoFar : Shape → Option (List ℕ) → Option (List ℕ) → ImageLoader → Type 0
TakesSoFar shape had has l = (text : Text) × Consumes had has text × (l.intake ≡ Open) × Took shape text l

-- and it is at its end
abbrev pub TakesAll : Shape → Option (List ℕ) → Option (List ℕ) → ImageLoader → Type 0
TakesAll shape had has l = TakesSoFar shape had has l × IsAtEnd has
