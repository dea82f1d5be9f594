use Rattle.std.proofs.Common.{◌≡◌, ◌+◌, ◌*◌, ◌<◌, inl, inr, arith}
use Rattle.images.proofs.LoadFacts.{block_refused, no_file_refused}
use Rattle.images.proofs.load.LoadState.offset_of.Goals as goal

pub returns-in_default-clause-none : goal.returns-in_default-clause-none
returns-in_default-clause-none c = λ e b is. no_file_refused c.args.self.now c.args.index b c.in_default.is

pub returns-then-index-self-clause-none : goal.returns-then-index-self-clause-none
returns-then-index-self-clause-none c = λ e b is.
    block_refused c.args.self.now c.args.index b c.in-Some.file c.in-Some.is (inl (let same : c.from-index.result ≡ c.args.index = c.from-index.ensures in let low : c.from-index.result < c.args.self.now.next = c.if-index-self.true in omega arith))

pub returns-then-file-end-clause-none : goal.returns-then-file-end-clause-none
returns-then-file-end-clause-none c = λ e b is.
    block_refused c.args.self.now c.args.index b c.in-Some.file c.in-Some.is (inr (let same : c.from-index.result ≡ c.args.index = c.from-index.ensures in let past : c.in-Some.file < 4096 * c.from-index.result + c.args.len = c.if-file-end.true in omega arith))
