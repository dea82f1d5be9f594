use Rattle.std.proofs.Common.{◌∙◌}
use Rattle.attributes.proofs.ReadFacts.{basic_grouped, same_basic}
use Rattle.attributes.proofs.reading.guess_basic.Goals as goal

pub returns : goal.returns
returns c = λ b rest is other e.
    let begun = c.behind.ensures _ (e ∙ basic_grouped b rest) in
    let kind = c.guess_kind-kind.ensures b.kind _ is.number begun in
    let mode = c.guess_mode-mode.ensures b.mode _ is.mode kind.1 in
    let user = c.guess_owner-user.ensures b.user _ is.user mode.1 in
    let group = c.guess_owner-group.ensures b.group _ is.group user.1 in
    let names = c.guess_number-names.ensures b.names _ is.names group.1 in
    let mtime_override = c.guess_time-modified.ensures b.modified rest is.modified other names.1 in
    (same_basic b _ _ _ _ _ _ kind.0 mode.0 user.0 group.0 names.0 mtime_override.0, mtime_override.1)
