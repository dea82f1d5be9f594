-- The loop over the lines of a piece: what was done up to a place, the next line, and what is left of it.
use Rattle.std.proofs.Common.{◌≡◌, ◌≢◌, ◌+◌, ◌≤◌, ◌<◌, ◌++◌, ◌∷◌, ℕ, List, [], length, refl, sym, subst}
use Rattle.std.specs.List.{All}
use Rattle.std.specs.Prelude.{Bool, Option}
use Rattle.std.specs.Io.KnownBytes.{Appends}
use Rattle.std.proofs.KnownBytes.{Appends-nil, Appends-trans}
use Rattle.shell.specs.Runs.{Halts, Leads, States}
use Rattle.shell.specs.Script.{Cut, Does, Line, Answered}
use Rattle.shell.specs.Progress.{FailedIn, Went}
use Rattle.textio.specs.Held.{Holds}
use Rattle.shell.proofs.Progress.{does_held, failed_line, failed_then, script_of_one, answered_held, went_line, went_nothing, went_on, went_then}
use Rattle.textio.proofs.HeldFacts.{hold_more, holds_nothing, line_cut}

-- the lines that end in a piece were done, and what follows them is held
abbrev pub TakesIn : Line → States → States → Option (List ℕ) → Option (List ℕ) → List ℕ → List ℕ → List ℕ → Type 0
TakesIn D means means' old new piece items now = (held : List ℕ) → Holds held items
    → Leads means means' (λ first out after. (left : List ℕ) × Holds left now × Went D held piece first out left after) (Appends old new)

-- the lines ended early within a piece
abbrev pub FailsIn : Line → Cut → States → States → Option (List ℕ) → Option (List ℕ) → List ℕ → List ℕ → Type 0
FailsIn D H means means' old new piece items = (held : List ℕ) → Holds held items → Leads means means' (FailedIn D H held piece) (Appends old new)

-- at the head of the loop: a beginning of the piece was taken
abbrev pub TakesFront : Line → States → States → Option (List ℕ) → Option (List ℕ) → List ℕ → List ℕ → List ℕ → List ℕ → Type 0
TakesFront D means means' old new piece rest items now = (front : List ℕ) × (piece ≡ front ++ rest) × TakesIn D means means' old new front items now

-- before the first line
pub takes_nothing : (D : Line) (means : States) (old : Option (List ℕ)) (piece items : List ℕ) → TakesFront D means means old old piece piece items items
takes_nothing D means old piece items = ([], refl, λ held holds first m. ([], first, (held, holds, went_nothing D held first), m, Appends-nil old))

-- a piece after another
takes_then : (D : Line) (means mid means' : States) (old now new : Option (List ℕ)) (text piece items between items' : List ℕ) → TakesIn D means mid old now text items between
    → TakesIn D mid means' now new piece between items' → TakesIn D means means' old new (text ++ piece) items items'
takes_then D means mid means' old now new text piece items between items' f g held holds first m =
    let (out, before, (left, holds', went), m', wrote) = f held holds first m in
    let (more, after, (rest, holds'', went'), m'', wrote') = g left holds' before m' in (
      out ++ more,
      after,
      (rest, holds'', went_then D held text piece first before after out left more rest went went'),
      m'',
      Appends-trans old now new out more wrote wrote',
    )

-- one line more
pub takes_line : (D : Line) (means mid means' : States) (old now new : Option (List ℕ)) (piece rest end after items between items' : List ℕ)
    → TakesFront D means mid old now piece rest items between → rest ≡ end ++ 10 ∷ after → TakesIn D mid means' now new (end ++ 10 ∷ []) between items'
    → TakesFront D means means' old new piece after items items'
takes_line D means mid means' old now new piece rest end after items between items' (front, is, f) cut g = (
  front ++ (end ++ 10 ∷ []),
  line_cut piece front rest end after is cut,
  takes_then D means mid means' old now new front (end ++ 10 ∷ []) items between items' f g,
)

-- the lines ended at the next one
pub fails_at_line : (D : Line) (H : Cut) (means mid means' : States) (old now new : Option (List ℕ)) (piece rest end after items between : List ℕ)
    → TakesFront D means mid old now piece rest items between → rest ≡ end ++ 10 ∷ after → FailsIn D H mid means' now new (end ++ 10 ∷ []) between
    → FailsIn D H means means' old new piece items
fails_at_line D H means mid means' old now new piece rest end after items between (front, is, f) cut g held holds first m =
    let (out, before, (left, holds', went), m', wrote) = f held holds first m in
    let (written, last, failed, m'', wrote') = g left holds' before m' in (
      out ++ written,
      last,
      subst (λ (p : List ℕ). FailedIn D H held p first (out ++ written) last) (sym (line_cut piece front rest end after is cut))
          (failed_then D H held front (end ++ 10 ∷ []) after first before last out left written went failed),
      m'',
      Appends-trans old now new out written wrote wrote',
    )

-- what is left has no line feed, and is held
pub takes_rest : (D : Line) (means means' : States) (old new : Option (List ℕ)) (piece rest items between items' : List ℕ)
    → TakesFront D means means' old new piece rest items between → All (λ b. b ≢ 10) rest
    → (length between + length rest ≤ 65536 → items' ≡ between ++ rest) → (65536 < length between + length rest → 65536 < length items')
    → TakesIn D means means' old new piece items items'
takes_rest D means means' old new piece rest items between items' (front, is, f) free short long =
    subst (λ (p : List ℕ). TakesIn D means means' old new p items items') (sym is)
    (takes_then D means means' means' old new new front rest items between items' f
    (λ held holds first m. ([], first, (held ++ rest, hold_more held between items' rest holds free short long, went_on D held rest first), m, Appends-nil new)))

-- the line was done
pub does_line : (strict : Bool) (means means' : States) (old new : Option (List ℕ)) (end items line now : List ℕ)
    → ((held : List ℕ) → Holds held items → Holds (held ++ end) line) → now ≡ [] → Leads means means' (λ first. Answered strict first line) (Appends old new)
    → TakesIn (Answered strict) means means' old new (end ++ 10 ∷ []) items now
does_line strict means means' old new end items line now whole none f held holds first m =
    let (reply, after, does, m', wrote) = f first m in
    let is : Holds (held ++ end) line = whole held holds in (
      reply,
      after,
      (
        [],
        rw none holds_nothing,
        went_line (Answered strict) held end first after reply is.free (answered_held strict (held ++ end) line first after reply is does),
      ),
      m',
      wrote,
    )

-- or the lines ended at its reply
pub fails_line : (D : Line) (H : Cut) (means means' : States) (old new : Option (List ℕ)) (end items line : List ℕ)
    → ((held : List ℕ) → Holds held items → Holds (held ++ end) line) → Leads means means' (Halts H (line ∷ [])) (Appends old new)
    → FailsIn D H means means' old new (end ++ 10 ∷ []) items
fails_line D H means means' old new end items line whole f held holds first m =
    let (part, after, (rest, did, how), m', wrote) = f first m in
    let is : Holds (held ++ end) line = whole held holds in (
      part,
      after,
      failed_line D H held end first after part rest is.free
          (script_of_one Does line (held ++ end) first after (part ++ rest) (λ reply last does. does_held (held ++ end) line first last reply is does) did) how,
      m',
      wrote,
    )
