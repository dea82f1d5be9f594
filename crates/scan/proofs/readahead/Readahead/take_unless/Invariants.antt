use Rattle.std.proofs.Common.{◌≡◌, ℕ, List, Bool, length}
use denote.Param.Always.{always_mut}
use Rattle.std.specs.Fn.{ComputesKey}
use Rattle.scan.specs.Pairs.{from_unpassed}
use Rattle.scan.specs.Sizes.{size_past}
use Rattle.scan.proofs.readahead.Readahead.take_unless.Given as goal

abbrev pub invariant-passed : goal.invariant-passed
invariant-passed g l = record {
  callable : always_mut g.P.FnMut l.passed;
  all : l.self.all ≡ l.fn.self.all;
  walks : l.self.walks ≡ l.fn.self.walks;
  asked : l.self.asked ≡ l.fn.self.asked;
  left : (test : List ℕ → Bool) → ComputesKey g.P.FnMut test l.initial.passed → ComputesKey g.P.FnMut test l.passed × (from_unpassed test l.fn.self.pairs.items ≡ from_unpassed test l.self.pairs.items) × (size_past test l.fn.self.pairs.items l.fn.self.most ≡ size_past test l.self.pairs.items l.self.most);
}

abbrev pub decreases-passed : goal.decreases-passed
decreases-passed g l = length l.self.pairs.items
