use Rattle.std.proofs.Common.{subst}
use Rattle.volume.specs.Differences.{AgreeBeside}
use Rattle.delta.proofs.ChangedFacts.{agree_either}
use Rattle.delta.proofs.differing_keys.differing_keys.Goals as goal

pub keys_within-requires : goal.keys_within-requires
keys_within-requires c =
    let w = c.in-Within-Within in
    agree_either w.meta w.block w.other_meta w.other_block c.args.old.now.indexes c.args.new.now.indexes c.requires.0
    (subst (λ d. AgreeBeside d c.args.old.now.indexes c.requires.0) w.is-0 c.requires.1)
    (subst (λ d. AgreeBeside d c.args.new.now.indexes c.requires.0) w.is-1 c.requires.2)
