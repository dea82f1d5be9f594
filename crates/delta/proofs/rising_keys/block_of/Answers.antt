use Rattle.std.proofs.Common.{subst}
use Rattle.pathkey.specs.PathKeys.{IsPathOf}
use Rattle.delta.proofs.RisingFacts.{found_one, found_path}
use Rattle.delta.proofs.rising_keys.block_of.Goals as goal

pub unreachable-requires : goal.unreachable-requires
unreachable-requires c =
    let none : IsPathOf c.in_ok-file.file _ = c.in_ok-path.ensures in
    found_path c.args.key.now c.in_ok-file.file c.requires c.in_ok-file.ensures (subst (IsPathOf c.in_ok-file.file) c.in_default.is none)

pub returns : goal.returns
returns c =
    let read : IsPathOf c.in_ok-file.file _ = c.in_ok-path.ensures in
    found_one c.args.key.now c.in_ok-file.file c.in-Some.path c.block_number.result c.requires c.in_ok-file.ensures (subst (IsPathOf c.in_ok-file.file) c.in-Some.is read) c.block_number.ensures
