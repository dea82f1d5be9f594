use Rattle.std.proofs.Common.{arith}
use Rattle.wal.proofs.Cuts.{after_word, head_cut}
use Rattle.wal.proofs.entry.split_header.Goals as goal

pub returns-in_default-split_u64-clause-is : goal.returns-in_default-split_u64-clause-is
returns-in_default-split_u64-clause-is c =
    let a = after_word c.in-Some.kind c.args.bytes.now c.in-Some.rest.now c.in-Some.ensures.0 in
    omega (arith, a, c.in_default-split_u64.ensures)

pub returns-in_default-split_u64-2-clause-is : goal.returns-in_default-split_u64-2-clause-is
returns-in_default-split_u64-2-clause-is c =
    let a = after_word c.in-Some.kind c.args.bytes.now c.in-Some.rest.now c.in-Some.ensures.0 in
    let b = after_word c.in-Some-split_u64.at c.in-Some.rest.now c.in-Some-split_u64.rest.now c.in-Some-split_u64.ensures.0 in
    omega (arith, a, b, c.in_default-split_u64-2.ensures)

pub returns-in_default-split_u64-3-clause-is : goal.returns-in_default-split_u64-3-clause-is
returns-in_default-split_u64-3-clause-is c =
    let a = after_word c.in-Some.kind c.args.bytes.now c.in-Some.rest.now c.in-Some.ensures.0 in
    let b = after_word c.in-Some-split_u64.at c.in-Some.rest.now c.in-Some-split_u64.rest.now c.in-Some-split_u64.ensures.0 in
    let d = after_word c.in-Some-split_u64-2.offset c.in-Some-split_u64.rest.now c.in-Some-split_u64-2.rest.now c.in-Some-split_u64-2.ensures.0 in
    omega (arith, a, b, d, c.in_default-split_u64-3.ensures)

pub returns-clause-is : goal.returns-clause-is
returns-clause-is c =
    head_cut c.args.bytes.now c.in-Some.rest.now c.in-Some-split_u64.rest.now c.in-Some-split_u64-2.rest.now c.in-Some-split_u64-3.rest.now
    (record { kind = c.in-Some.kind; at = c.in-Some-split_u64.at; offset = c.in-Some-split_u64-2.offset; count = c.in-Some-split_u64-3.count })
    c.in-Some.ensures.0 c.in-Some-split_u64.ensures.0 c.in-Some-split_u64-2.ensures.0 c.in-Some-split_u64-3.ensures.0
