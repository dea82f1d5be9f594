use Rattle.std.proofs.Common.{◌≡◌, ℕ, ◌+◌, ◌-◌, ◌/◌, List, length, drop}
use Rattle.ffi_calls.specs.Filling.{HoldFrom}
use Rattle.ffi_calls.proofs.Fronts.{FrontIs}
use Rattle.ffi_calls.proofs.read_into.copy_blocks.Given as goal

abbrev pub invariant-each : goal.invariant-each
invariant-each l = record {
  long : length l.out ≡ length l.initial.out;
  read : (b : List ℕ) → HoldFrom (l.offset / 4096) l.blocks b → FrontIs b l.offset l.end (l.offset / 4096 + l.number) l.out;
  rest : drop (l.end - l.offset) l.out ≡ drop (l.end - l.offset) l.initial.out;
}
