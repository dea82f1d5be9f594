use Rattle.std.proofs.Common.{arith}
use Rattle.cow_map.proofs.Searching.{gap_found}
use Rattle.cow_map.proofs.search.find_among.Goals as goal

pub returns-in-Err-narrow-2 : goal.returns-in-Err-narrow-2
returns-in-Err-narrow-2 g c =
    let r = c.in-Err-narrow-2.none in
    gap_found c.args.key.now c.args.entries.now r.low r.high r.below r.above c.in-Err-narrow-2.ensures.rest (omega (arith, c.in-Err-narrow-2.ensures.short))
