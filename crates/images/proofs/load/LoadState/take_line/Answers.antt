use Rattle.std.proofs.lemmas.Result.{on_ok_weaker}
use Rattle.images.proofs.LoadFacts.{long_refused, read_loaded, read_refused, read_valid, root_loaded, root_refused}
use Rattle.images.proofs.load.LoadState.take_line.Goals as goal

pub returns-then-line-gt-LONGEST_LINE-clause-bad : goal.returns-then-line-gt-LONGEST_LINE-clause-bad
returns-then-line-gt-LONGEST_LINE-clause-bad c = λ n e. (cc, long_refused c.args.line.now c.args.self.now c.if-line-gt-LONGEST_LINE.true)

pub returns-then-self-eq0-clause-bad : goal.returns-then-self-eq0-clause-bad
returns-then-self-eq0-clause-bad c = λ n e.
    let reported = c.take_root.ensures.bad n e in
    (reported.0, root_refused c.args.line.now c.args.self.now c.if-self-eq0.true reported.1)

pub take_read-requires-clause-line : goal.take_read-requires-clause-line
take_read-requires-clause-line c = read_valid _ _ _ c.in-Ok.ensures

pub returns-in-Ok-clause-bad : goal.returns-in-Ok-clause-bad
returns-in-Ok-clause-bad c = λ n e.
    let reported = c.take_read.ensures.bad n e in
    (reported.0, read_refused c.args.line.now _ c.args.self.now (λ z. c.if-self-eq0.false z) c.in-Ok.ensures reported.1)

pub returns-in-Ok-clause-ok : goal.returns-in-Ok-clause-ok
returns-in-Ok-clause-ok c = on_ok_weaker _ (λ loads. read_loaded c.args.line.now _ c.args.self.now _ (λ z. c.if-self-eq0.false z) c.in-Ok.ensures loads) c.take_read.ensures.ok

pub returns-then-self-eq0-clause-ok : goal.returns-then-self-eq0-clause-ok
returns-then-self-eq0-clause-ok c = on_ok_weaker _ (root_loaded c.args.line.now c.args.self.now _ c.if-self-eq0.true) c.take_root.ensures.ok
