-- The loop over the pieces of a text: its invariant, and the result of each exit.
use Rattle.std.proofs.Common.{Bool, ◌≡◌, ◌++◌, ℕ, List, [], subst}
use Rattle.std.specs.Prelude.{Option}
use Rattle.std.specs.Io.KnownBytes.{Appends, Consumes, IsAtEnd, Keeps}
use Rattle.std.proofs.KnownBytes.{Appends-kept, Appends-trans, Consumes-kept, Consumes-trans}
use Rattle.shell.specs.Script.{Cut, Does, IsCut, IsHalt, Line, Lines, State, Answered}
use Rattle.shell.specs.Runs.{DoesAll, DoesGiven, DoesUntil, Halts, Leads, States}
use Rattle.shell.specs.declared.verdict.Halt.{Halt}
use Rattle.shell.specs.declared.verdict.Halt.TheVariants as halt
use Rattle.shell.specs.Progress.{FailedIn, Went, last_line}
use Rattle.textio.specs.Held.{Holds}
use Rattle.textio.proofs.Known.{gave_all, known_text, known_whole}
use Rattle.shell.proofs.Progress.{Carries, does_held, lines_weaker, script_at_end, script_held, script_of_whole, stopped_at_end, stopped_between, stopped_in, stopped_weaker, answered_held, went_then}

-- at the head of the loop: what the reader gave was done, up to the line so far
abbrev pub Reads : Line → Option (List ℕ) → Option (List ℕ) → List ℕ → State → List ℕ → State → Type 0
Reads D had has items first out after = (text : List ℕ) × (held : List ℕ) × Consumes had has text × Holds held items × Went D [] text first out held after

-- a read failed
pub read_fails : (D : Line) (meant means : States) (had has now : Option (List ℕ)) (old kept new : Option (List ℕ)) (items : List ℕ)
    → Leads meant means (Reads D had has items) (Appends old kept) → Keeps has now → Keeps kept new → Leads meant means (DoesGiven D had now) (Appends old new)
read_fails D meant means had has now old kept new items so keeps keeps' first m =
    let (out, after, (text, held, read, holds, went), m', wrote) = so first m in
    (out, after, (text, Consumes-kept _ _ _ _ read keeps, script_of_whole D text first after out held went holds.free), m', Appends-kept _ _ _ _ wrote keeps')

-- the writer failed between two reads
pub flush_fails : (D : Line) (meant means : States) (had has : Option (List ℕ)) (old kept new : Option (List ℕ)) (items : List ℕ)
    → Leads meant means (Reads D had has items) (Appends old kept) → Keeps kept new → Leads meant means (DoesUntil D IsCut had) (Appends old new)
flush_fails D meant means had has old kept new items so keeps first m =
    let (out, after, (text, held, read, holds, went), m', wrote) = so first m in
    let (later, is) = known_text had has text read in
    (out, after, (text ++ later, is, stopped_between D text later first after out held went), m', Appends-kept _ _ _ _ wrote keeps)

-- all was read, and the last line done
pub ends : (D : Line) → Carries D → (meant means means' : States) (had has end : Option (List ℕ)) (old now kept new : Option (List ℕ)) (items none : List ℕ)
    → Leads meant means (Reads D had has items) (Appends old now) → Consumes has end none → none ≡ [] → IsAtEnd end → Keeps now kept
    → Leads means means' (λ before. Lines D before (last_line items)) (Appends kept new) → Leads meant means' (DoesAll D had end) (Appends old new)
ends D carries meant means means' had has end old now kept new items none so last empty ended flushed f first m =
    let (out, before, (text, held, read, holds, went), m', wrote) = so first m in
    let (reply, after, did, m'', more) = f before m' in (
      out ++ reply,
      after,
      (
        text,
        gave_all had has end text none read last empty,
        ended,
        script_at_end D text first before after out held reply went holds.free (script_held D carries held items before after reply holds did),
      ),
      m'',
      Appends-trans _ _ _ _ _ (Appends-kept _ _ _ _ wrote flushed) more,
    )

-- all was read, and the lines ended early at the last one
pub end_fails : (D : Line) (H : Cut) (meant means means' : States) (had has end : Option (List ℕ)) (old now kept new : Option (List ℕ)) (items none : List ℕ)
    → Leads meant means (Reads D had has items) (Appends old now) → Consumes has end none → none ≡ [] → IsAtEnd end → Keeps now kept
    → Leads means means' (Halts H (last_line items)) (Appends kept new) → Leads meant means' (DoesUntil D H had) (Appends old new)
end_fails D H meant means means' had has end old now kept new items none so last empty ended flushed f first m =
    let (out, before, (text, held, read, holds, went), m', wrote) = so first m in
    let (part, after, (rest, did, how), m'', more) = f before m' in (
      out ++ part,
      after,
      (
        text,
        known_whole had end text (gave_all had has end text none read last empty) ended,
        stopped_at_end D H text first before after out held part rest went holds.free (script_held Does does_held held items before after (part ++ rest) holds did) how,
      ),
      m'',
      Appends-trans _ _ _ _ _ (Appends-kept _ _ _ _ wrote flushed) more,
    )

-- a piece more was read and done
pub reads_more : (D : Line) (meant means means' : States) (had has now : Option (List ℕ)) (old mid kept new : Option (List ℕ)) (items piece new_items : List ℕ)
    → Leads meant means (Reads D had has items) (Appends old mid) → Consumes has now piece → Keeps mid kept
    → ((held : List ℕ) → Holds held items
    → Leads means means' (λ before out after. (rest : List ℕ) × Holds rest new_items × Went D held piece before out rest after) (Appends kept new))
    → Leads meant means' (Reads D had now new_items) (Appends old new)
reads_more D meant means means' had has now old mid kept new items piece new_items so last flushed f first m =
    let (out, before, (text, held, read, holds, went), m', wrote) = so first m in
    let (more, after, (rest, holds', went'), m'', wrote') = f held holds before m' in (
      out ++ more,
      after,
      (text ++ piece, rest, Consumes-trans _ _ _ _ _ read last, holds', went_then D [] text piece first before after out held more rest went went'),
      m'',
      Appends-trans _ _ _ _ _ (Appends-kept _ _ _ _ wrote flushed) wrote',
    )

-- a piece more was read, and the lines ended early at one that ends in it
pub piece_fails : (D : Line) (H : Cut) (meant means means' : States) (had has now : Option (List ℕ)) (old mid kept new : Option (List ℕ)) (items piece : List ℕ)
    → Leads meant means (Reads D had has items) (Appends old mid) → Consumes has now piece → Keeps mid kept
    → ((held : List ℕ) → Holds held items → Leads means means' (FailedIn D H held piece) (Appends kept new)) → Leads meant means' (DoesUntil D H had) (Appends old new)
piece_fails D H meant means means' had has now old mid kept new items piece so last flushed f first m =
    let (out, before, (text, held, read, holds, went), m', wrote) = so first m in
    let (written, after, failed, m'', wrote') = f held holds before m' in
    let (later, is) = known_text had now (text ++ piece) (Consumes-trans _ _ _ _ _ read last) in (
      out ++ written,
      after,
      ((text ++ piece) ++ later, is, stopped_in D H text piece later first before after out held written went failed),
      m'',
      Appends-trans _ _ _ _ _ (Appends-kept _ _ _ _ wrote flushed) wrote',
    )

-- ---- the result of an early end

-- the writer was flushed at the end, and may have failed
pub cut_at_end : (D : Line) (H : Cut) (meant means : States) (had old kept new : Option (List ℕ))
    → Leads meant means (DoesUntil D H had) (Appends old kept) → Keeps kept new → Leads meant means (DoesUntil D IsCut had) (Appends old new)
cut_at_end D H meant means had old kept new so keeps first m =
    let (out, after, (text, is, stopped), m', wrote) = so first m in (
      out,
      after,
      (text, is, stopped_weaker D D H IsCut (λ a line reply b does. does) (λ part rest how. tt) first text out after stopped),
      m',
      Appends-kept _ _ _ _ wrote keeps,
    )

-- it did not, and the run was strict
pub halts_at_end : (D : Line) (strict : Bool) (h : Halt) (meant means : States) (had old kept new : Option (List ℕ)) → h ≡ halt.Fault
    → Leads meant means (DoesUntil D (IsHalt strict h) had) (Appends old kept) → Keeps kept new
    → Leads meant means (DoesUntil D (IsHalt strict halt.Fault) had) (Appends old new)
halts_at_end D strict h meant means had old kept new is so keeps first m =
    let (out, after, did, m', wrote) = so first m in
    (out, after, subst (λ (k : Halt). DoesUntil D (IsHalt strict k) had first out after) is did, m', Appends-kept _ _ _ _ wrote keeps)

-- ---- what less is said of each line

module _ (strict : Bool) where
  answered_does : (a : State) (line reply : List ℕ) (b : State) → Answered strict a line reply b → Does a line reply b
  answered_does a line reply b answered = answered.0

  pub all_done : (meant means : States) (had has old new : Option (List ℕ)) → Leads meant means (DoesAll (Answered strict) had has) (Appends old new)
      → Leads meant means (DoesAll Does had has) (Appends old new)
  all_done meant means had has old new so first m =
      let (out, after, (text, read, ended, did), m', wrote) = so first m in
      (out, after, (text, read, ended, lines_weaker (Answered strict) Does answered_does _ first after out did), m', wrote)

  pub given_done : (meant means : States) (had has old new : Option (List ℕ)) → Leads meant means (DoesGiven (Answered strict) had has) (Appends old new)
      → Leads meant means (DoesGiven Does had has) (Appends old new)
  given_done meant means had has old new so first m =
      let (out, after, (text, read, did), m', wrote) = so first m in
      (out, after, (text, read, lines_weaker (Answered strict) Does answered_does _ first after out did), m', wrote)

  pub until_done : (H : Cut) (meant means : States) (had old new : Option (List ℕ)) → Leads meant means (DoesUntil (Answered strict) H had) (Appends old new)
      → Leads meant means (DoesUntil Does IsCut had) (Appends old new)
  until_done H meant means had old new so first m =
      let (out, after, (text, is, stopped), m', wrote) = so first m in (
        out,
        after,
        (text, is, stopped_weaker (Answered strict) Does H IsCut answered_does (λ part rest how. tt) first text out after stopped),
        m',
        wrote,
      )
