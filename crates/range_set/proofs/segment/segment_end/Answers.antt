use Rattle.std.proofs.Common.{◌≡◌, ◌∙◌, ap}
use Rattle.std.specs.Option.{option_copied}
use Rattle.message.specs.Ranges.{earlier_end}
use Rattle.range_set.specs.Ends.{next_begin, next_end}
use Rattle.range_set.proofs.Stretching.{ranges_stretch}
use Rattle.range_set.proofs.segment.segment_end.Goals as goal

pub returns : goal.returns
returns g c =
    let from = c.args.from.now in
    let rs = c.args.ranges.now in
    let end = option_copied c.args.end in
    let first : option_copied c.earlier.result ≡ earlier_end end (next_begin from rs) = c.earlier.ensures ∙ ap (earlier_end end) c.next_begin.ensures in
    let both : option_copied c.earlier-2.result ≡ earlier_end (earlier_end end (next_begin from rs)) (next_end from rs) = c.earlier-2.ensures ∙ (λ j. earlier_end (first j) (c.next_end.ensures j)) in
    ranges_stretch g.row.U.Denot g.row.U-Value.Denot from end (option_copied c.earlier-2.result) rs c.requires.apart c.requires.some both
