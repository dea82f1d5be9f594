use Rattle.std.proofs.Common.{◌∙◌, refl}
use Rattle.images.proofs.LoadCutting.{loads_line, loads_nothing, loads_rest, refused_at_line}
use Rattle.images.proofs.load.LoadState.take_piece.Goals as goal

pub loop-end-init : goal.loop-end-init
loop-end-init c = record {
  room = c.requires.room;
  form = refl;
  loads = loads_nothing _ _ _;
}

pub loop-end-preserved : goal.loop-end-preserved
loop-end-preserved c = record {
  room = c.end_line.ensures.room;
  form = c.in_default-end_line.ensures.form ∙ c.loop-end.invariant.form;
  loads = loads_line _ _ _ _ _ _ _ _ _ _ c.loop-end.invariant.loads c.in-Some.ensures.0 c.in_default-end_line.ensures.ok;
}

pub returns-clause-ok : goal.returns-clause-ok
returns-clause-ok c =
    loads_rest _ _ _ _ _ _ _ c.loop-end.invariant.loads c.in_default.ensures c.push_limited.ensures.short c.push_limited.ensures.long

pub returns-in-Err-clause-bad : goal.returns-in-Err-clause-bad
returns-in-Err-clause-bad c = λ n e.
    refused_at_line _ _ _ _ _ _ n _ _ c.loop-end.invariant.loads c.in-Some.ensures.0 (c.end_line.ensures.bad n (c.in-Err.is ∙ e))
