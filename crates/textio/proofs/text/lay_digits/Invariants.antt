use Rattle.std.proofs.Common.{◌≡◌, ◌*◌, length, take, flat_map}
use Rattle.reference.specs.Image.{two_digits}
use Rattle.textio.proofs.text.lay_digits.Given as goal

-- the front of the buffer has the digits of the bytes so far
abbrev pub invariant-loop-number : goal.invariant-loop-number
invariant-loop-number l = record {
  room : length l.digits ≡ 2 * length l.bytes;
  front : take (2 * l.number) l.digits ≡ flat_map (two_digits 87) (take l.number l.bytes);
}
