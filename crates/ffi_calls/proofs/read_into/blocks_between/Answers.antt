use Rattle.std.proofs.Common.{◌≡◌, ℕ, ◌+◌, ◌-◌, ◌/◌, ◌<◌, ◌≤◌, ◌^◌, List, Option, length, ap, ◌∙◌, arith}
use Rattle.reference.specs.Indexes.{byte_of}
use Rattle.ffi_calls.proofs.read_into.blocks_between.Goals as goal

pub returns-clause-holds : goal.returns-clause-holds
returns-clause-holds c = λ t b m lk n j ln lj.
    let many : c.args.offset / 4096 + length c.each.found.items ≡ c.each.number = c.each.invariant.many in
    let short : c.args.end ≤ 2 ^ 40 = c.requires.short in
    let some : c.args.offset < c.args.end = c.requires.some in
    let last : c.each.number ≤ (c.args.end - 1) / 4096 + 1 = c.each.auto.number-end (omega (arith, some)) in
    let few : c.args.offset / 4096 + n < 268435456 = omega (arith, many, short, last, ln) in
    ap (λ (o : Option (List ℕ)). byte_of o j) (c.each.invariant.found n ln) ∙ (m.blocks c.args.path.now b c.key-key.ensures.valid lk).byte (c.args.offset / 4096 + n) j few lj
