use Rattle.std.proofs.Common.{rules}
use Rattle.std.proofs.lemmas.Bool.{iff_false}
use Rattle.attributes.proofs.ReadFacts.{no_time, some_time}
use Rattle.attributes.proofs.reading.guess_time.Goals as goal

pub returns-then-not-begins_with_m : goal.returns-then-not-begins_with_m
returns-then-not-begins_with_m c = λ t rest is other e. no_time c.args.text.now rest t (iff_false c.begins_with_m.ensures (search rules)) e

pub returns : goal.returns
returns c = λ t rest is other e.
    some_time c.args.text.now rest c.guess_number-modified.result.1.now c.guess_number-until.result.1.now c.guess_number-modified.result.0 c.guess_number-until.result.0 t
    (c.begins_with_m.ensures.0 (search rules)) is other e c.guess_number-modified.ensures c.guess_number-until.ensures
