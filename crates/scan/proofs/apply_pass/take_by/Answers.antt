use Rattle.scan.proofs.apply_pass.take_by.Goals as goal

pub returns : goal.returns
returns g c = record { some = (c.in-Some.field-0-0, c.in-Some.ensures.some.0, c.in-Some.ensures.some.1); none = tt }
