-- How many pieces messages make.
use Rattle.std.proofs.Common.{◌≡◌, ℕ, ◌+◌, ◌++◌, ◌<◌, List, [], ◌∷◌, length, get_or, take, refl, ap, None, arith, length-append}
use Rattle.std.proofs.lemmas.List.{take_more}
use Rattle.message.specs.declared.msg.Msg.{Msg}
use Rattle.node.specs.Pure.{PSlots, none, more}
use Rattle.message.specs.Cuts.{pieces}
use Rattle.node.specs.Lawful.{next_lo}
use Rattle.node.specs.StepRows.{piece_count}
use Rattle.message.proofs.Parting.{pieces-append}

module _ {U V : Type 0} where
  -- messages end to end make their pieces
  pub piece_count-append : (xs ys : List (Msg U V)) (ss : PSlots U V) → piece_count (xs ++ ys) ss ≡ piece_count xs ss + piece_count ys ss
  piece_count-append xs ys none = refl
  piece_count-append xs ys (more lo ms n ss) = omega (arith, ap length (pieces-append lo (next_lo None ss) xs ys), length-append (pieces lo (next_lo None ss) xs) (pieces lo (next_lo None ss) ys), piece_count-append xs ys ss)

  -- no message makes none
  pub piece_count-none : (ss : PSlots U V) → piece_count [] ss ≡ 0
  piece_count-none none = refl
  piece_count-none (more lo ms n ss) = omega (arith, piece_count-none ss)

  -- it makes its pieces more
  pub piece_count-take : (ms : List (Msg U V)) (i : ℕ) (d : Msg U V) (ss : PSlots U V) → i < length ms → piece_count (take (i + 1) ms) ss ≡ piece_count (take i ms) ss + piece_count (get_or ms i d ∷ []) ss
  piece_count-take ms i d ss h = rw (take_more ms i d h) (piece_count-append (take i ms) (get_or ms i d ∷ []) ss)
