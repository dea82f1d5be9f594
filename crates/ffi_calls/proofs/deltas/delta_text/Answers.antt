use Rattle.std.proofs.Common.{inl, inr}
use Rattle.ffi_calls.proofs.Differing.{differs_so}
use Rattle.ffi_calls.proofs.deltas.delta_text.Goals as goal

pub returns-in-Ok-clause-text : goal.returns-in-Ok-clause-text
returns-in-Ok-clause-text c = λ w m.
    differs_so (λ v. v.items) c.args.old.now c.args.new.now w c.in_ok-before.before c.in-Ok.after c.in_ok-digest.digest c.text_between.result (c.in_ok-before.ensures.found w m) (c.in-Ok.ensures.found w m)
    (c.in_ok-digest.ensures.digest w m) c.text_between.ensures.text

pub returns-in-Err-clause-refused : goal.returns-in-Err-clause-refused
returns-in-Err-clause-refused c = λ w m.
    let (t, names, mean) = c.in_ok-before.ensures.found w m in
    inr ((t, names), c.in-Err.ensures.refused w m)
