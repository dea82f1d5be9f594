use Rattle.std.proofs.Common.{◌≡◌, ap, arith, drop}
use Rattle.cow_map.proofs.chunk.drop_first.Goals as goal

pub returns-else-count-gt0 : goal.returns-else-count-gt0
returns-else-count-gt0 g c = (let none : 0 ≡ c.args.count = omega (arith, c.if-count-gt0.false) in ap (λ m. drop m c.args.entries.now.items) none)
