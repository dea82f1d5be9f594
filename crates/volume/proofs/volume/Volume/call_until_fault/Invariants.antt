use Rattle.std.proofs.Common.{◌≡◌, ◌≤◌, length, take, vec_len, vec_capacity}
use Rattle.volume.specs.Transactions.{DoesAll}
use Rattle.volume.proofs.volume.Volume.call_until_fault.Given as goal

abbrev pub invariant-loop-timed : goal.invariant-loop-timed
invariant-loop-timed l = record {
  all : DoesAll (take l.timed-index l.calls) l.replies.items l.initial.self l.self;
  count : vec_len l.replies ≡ l.timed-index;
  room : length l.calls ≤ vec_capacity l.replies;
}
