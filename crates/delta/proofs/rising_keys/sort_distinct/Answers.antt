use Rattle.delta.proofs.RisingFacts.{rising_left, same_left}
use Rattle.delta.proofs.rising_keys.sort_distinct.Goals as goal

pub returns-clause-rising : goal.returns-clause-rising
returns-clause-rising c = rising_left c.args.keys.now.items c.sort.new.self.items c.dedup.new.self.items c.in_ok-sort.ensures.permutation c.in_ok-sort.ensures.sorted c.dedup.ensures.filtered

pub returns-clause-same : goal.returns-clause-same
returns-clause-same c = same_left c.args.keys.now.items c.sort.new.self.items c.dedup.new.self.items c.in_ok-sort.ensures.permutation c.in_ok-sort.ensures.sorted c.dedup.ensures.filtered
