use Rattle.std.proofs.Common.{◌∙◌, sym, true, arith}
use Rattle.pathkey.proofs.PlainFacts.{plain_pieces, stops_there, none_left}
use Rattle.pathkey.proofs.components.are_plain.Goals as goal

pub returns-then-not-is_plain_after : goal.returns-then-not-is_plain_after
returns-then-not-is_plain_after c =
    sym (stops_there c.loop-byte.begins c.args.names.now c.loop-byte.byte-index 0 c.loop-byte-test.true (sym c.is_plain_after.ensures ∙ c.if-not-is_plain_after.true))
    ∙ sym c.loop-byte.invariant ∙ plain_pieces true c.args.names.now

pub returns : goal.returns
returns c =
    sym (none_left c.loop-byte.begins c.args.names.now c.loop-byte.byte-index (omega (arith, c.loop-byte-test.false))) ∙ sym c.loop-byte.invariant ∙ plain_pieces true c.args.names.now
