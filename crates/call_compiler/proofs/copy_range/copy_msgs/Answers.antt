use Rattle.std.proofs.Common.{◌≤◌, ◌+◌, ◌/◌, length, sym, subst}
use Rattle.block_index.specs.Changed.{Messages}
use Rattle.block_index.specs.Means.{blocks}
use Rattle.call_compiler.specs.Copied.{HoldsOfBytes, Overwrites}
use Rattle.call_compiler.proofs.Copying.{IsWhole, copy_few, copy_overwrites, whole_cases}
use Rattle.call_compiler.proofs.copy_range.copy_msgs.Goals as goal

pub returns-clause-copied : goal.returns-clause-copied
returns-clause-copied c =
    let whole : IsWhole c.args.offset c.args.target c.args.len c.whole_blocks-whole.result = whole_cases c.args.offset c.args.target c.args.len c.whole_blocks-whole.result c.whole_blocks-whole.ensures.value in
    subst (λ (ms : Messages). HoldsOfBytes (blocks c.args.index.now) c.args.from.now c.args.size c.args.offset c.args.len (λ w. Overwrites (blocks c.args.index.now) c.args.to.now c.args.target w ms)) (sym c.in_ok-append.ensures.items)
    (copy_overwrites (blocks c.args.index.now) c.args.from.now c.args.to.now c.key-from_key.ensures.valid c.key-to_key.ensures.valid c.args.size c.args.offset c.args.target c.args.len c.whole_blocks-whole.result
    c.requires.within c.requires.short.0 c.requires.short.1 whole c.in_ok-msgs.msgs.items c.in_ok-rest.rest.items c.in_ok-msgs.ensures.shared c.in_ok-msgs.ensures.none c.in_ok-rest.ensures.copied)

pub returns-clause-few : goal.returns-clause-few
returns-clause-few c =
    let whole : IsWhole c.args.offset c.args.target c.args.len c.whole_blocks-whole.result = whole_cases c.args.offset c.args.target c.args.len c.whole_blocks-whole.result c.whole_blocks-whole.ensures.value in
    subst (λ (ms : Messages). length ms ≤ c.args.len / 4096 + 2) (sym c.in_ok-append.ensures.items)
    (copy_few c.args.offset c.args.target c.args.len c.whole_blocks-whole.result c.in_ok-msgs.msgs.items c.in_ok-rest.rest.items whole c.in_ok-msgs.ensures.few c.in_ok-msgs.ensures.none c.in_ok-rest.ensures.few)
