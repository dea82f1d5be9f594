use Rattle.std.proofs.Common.{◌-◌, ◌∙◌, length, arith}
use Rattle.cow_map.proofs.Behind.{behind_last}
use Rattle.cow_map.proofs.neighbours.last_in.Goals as goal

pub returns-in-Some : goal.returns-in-Some
returns-in-Some g c =
    let rs = c.args.rows.now in
    c.last_entry.ensures ∙ behind_last c.args.left (length rs - 1) rs c.in-Some.entries.now c.requires.rows.sized c.requires.left (omega (arith, c.in-Some.ensures.bound)) c.in-Some.ensures.entries
