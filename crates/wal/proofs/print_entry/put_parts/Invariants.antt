use Rattle.std.proofs.Common.{◌≡◌, ◌+◌, ℕ, length}
use Rattle.wal.proofs.Adding.{Partly}
use Rattle.wal.proofs.print_entry.put_parts.Given as goal

-- the bytes before the rest have their lines
abbrev pub invariant-loop : goal.invariant-loop
invariant-loop l = record {
  sum : l.from + length l.rest ≡ l.offset + length l.bytes;
  partly : (at : ℕ) → Partly l.path l.offset l.bytes at l.from l.rest l.initial.text.items l.text.items;
}
