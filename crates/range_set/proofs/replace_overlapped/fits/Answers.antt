use Rattle.std.proofs.Common.{false, ◌≡◌}
use Rattle.std.specs.Option.{option_copied}
use Rattle.range_set.proofs.Ends.{not_true}
use Rattle.range_set.proofs.Splicing.{fits_alone}
use Rattle.range_set.proofs.replace_overlapped.fits.Goals as goal

pub returns-then-is_apart : goal.returns-then-is_apart
returns-then-is_apart c h =
    let alone : c.has_inside.result ≡ false = not_true c.has_inside.result h in
    fits_alone c.args.lo.now (option_copied c.args.hi) c.args.rows.now c.requires.apart (c.is_apart.ensures c.if-is_apart.true) (c.has_inside.ensures alone)
