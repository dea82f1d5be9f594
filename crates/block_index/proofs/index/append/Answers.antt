use Rattle.std.proofs.Common.{ℕ, ◌+◌, ◌-◌, ◌++◌, take, replicate, ap, ◌∙◌}
use Rattle.block_index.proofs.Reading.{appended_at}
use Rattle.block_index.proofs.index.append.Goals as goal

pub returns-clause-added : goal.returns-clause-added
returns-clause-added c = appended_at c.args.bytes.now.items c.args.block.now c.args.from c.args.to c.min-stop.result c.min-begin.result (c.len.result + (c.args.to - c.args.from))
    c.extend_from_slice.new.self.items c.resize.new.self.items c.requires.order c.min-stop.ensures c.min-begin.ensures
    (ap (λ (n : ℕ). n + (c.args.to - c.args.from)) (c.len.ensures ∙ c.args.bytes.now.ok.0)) c.in_ok-extend_from_slice.ensures.items
    (c.in_ok-resize.ensures.items ∙ ap (λ (n : ℕ). take (c.len.result + (c.args.to - c.args.from)) c.extend_from_slice.new.self.items ++ replicate (c.len.result + (c.args.to - c.args.from) - n) 0) c.extend_from_slice.new.self.ok.0)
