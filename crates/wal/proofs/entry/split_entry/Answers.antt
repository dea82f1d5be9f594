use Rattle.std.proofs.Common.{◌≡◌, ◌+◌, length, ap, arith, ◌∙◌, length-append}
use Rattle.wal.proofs.Cuts.{after_head, after_word, entry_cut, shorter_behind, too_few, too_short}
use Rattle.wal.proofs.entry.split_entry.Goals as goal

pub returns-in_default-clause-is : goal.returns-in_default-clause-is
returns-in_default-clause-is c = too_few c.args.bytes.now (omega (arith, c.in_default.ensures.is))

pub returns-in_default-split_u64-clause-is : goal.returns-in_default-split_u64-clause-is
returns-in_default-split_u64-clause-is c =
    let a = after_head c.in-Some.head c.args.bytes.now c.in-Some.rest.now c.in-Some.ensures.is in
    too_few c.args.bytes.now (omega (arith, a, c.in_default-split_u64.ensures))

pub returns-in_default-split_u64-2-clause-is : goal.returns-in_default-split_u64-2-clause-is
returns-in_default-split_u64-2-clause-is c =
    let a = after_head c.in-Some.head c.args.bytes.now c.in-Some.rest.now c.in-Some.ensures.is in
    let b = after_word c.in-Some-split_u64.first_len c.in-Some.rest.now c.in-Some-split_u64.rest.now c.in-Some-split_u64.ensures.0 in
    too_few c.args.bytes.now (omega (arith, a, b, c.in_default-split_u64-2.ensures))

pub returns-in_default-cut_at-clause-is : goal.returns-in_default-cut_at-clause-is
returns-in_default-cut_at-clause-is c =
    too_short c.args.bytes.now c.in-Some.rest.now c.in-Some-split_u64.rest.now c.in-Some-split_u64-2.rest.now c.in-Some.head c.in-Some-split_u64.first_len c.in-Some-split_u64-2.second_len
    c.in-Some.ensures.is c.in-Some-split_u64.ensures.0 c.in-Some-split_u64-2.ensures.0 c.in-Some-split_u64.ensures.1 c.in-Some-split_u64-2.ensures.1 (omega (arith, c.in_default-cut_at.ensures))

pub returns-in_default-cut_at-2-clause-is : goal.returns-in_default-cut_at-2-clause-is
returns-in_default-cut_at-2-clause-is c =
    let size : length c.in-Some-split_u64-2.rest.now ≡ length c.in-Some-cut_at.first.now + length c.in-Some-cut_at.rest.now = ap length c.in-Some-cut_at.ensures.0 ∙ length-append c.in-Some-cut_at.first.now c.in-Some-cut_at.rest.now in
    too_short c.args.bytes.now c.in-Some.rest.now c.in-Some-split_u64.rest.now c.in-Some-split_u64-2.rest.now c.in-Some.head c.in-Some-split_u64.first_len c.in-Some-split_u64-2.second_len
    c.in-Some.ensures.is c.in-Some-split_u64.ensures.0 c.in-Some-split_u64-2.ensures.0 c.in-Some-split_u64.ensures.1 c.in-Some-split_u64-2.ensures.1 (omega (arith, size, c.in-Some-cut_at.ensures.1, c.in_default-cut_at-2.ensures))

pub returns-clause-is : goal.returns-clause-is
returns-clause-is c =
    entry_cut c.args.bytes.now c.in-Some.rest.now c.in-Some-split_u64.rest.now c.in-Some-split_u64-2.rest.now c.in-Some-cut_at.rest.now c.in-Some-cut_at-2.rest.now
    c.in-Some.head c.in-Some-cut_at.first.now c.in-Some-cut_at-2.second.now c.in-Some-split_u64.first_len c.in-Some-split_u64-2.second_len
    c.in-Some.ensures.is c.in-Some-split_u64.ensures.0 c.in-Some-split_u64-2.ensures.0 c.in-Some-cut_at.ensures.0 c.in-Some-cut_at.ensures.1 c.in-Some-cut_at-2.ensures.0 c.in-Some-cut_at-2.ensures.1

pub returns-clause-shorter : goal.returns-clause-shorter
returns-clause-shorter c =
    shorter_behind c.in-Some.head c.in-Some-cut_at.first.now c.in-Some-cut_at-2.second.now c.args.bytes.now c.in-Some-cut_at-2.rest.now (returns-clause-is c)
