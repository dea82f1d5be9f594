use Rattle.std.proofs.Common.{◌≡◌, ◌∙◌, Err, ap}
use Rattle.delta.specs.declared.fault.DeltaFault.TheVariants.{NoImage}
use Rattle.delta.proofs.LoaderFacts.{into_bad, into_none, into_ok, mean_start}
use Rattle.delta.proofs.patch.patch_into.Goals as goal

pub returns-in-Err-clause-no_image : goal.returns-in-Err-clause-no_image
returns-in-Err-clause-no_image c = λ a t s at m fresh e.
    let same : c.in-Err.fault ≡ NoImage = cc in
    into_none c.args.commands.now a t c.args.walk at m (λ cs tells. c.do_commands-done.ensures.no_image s t cs (mean_start a c.args.walk t at m) tells fresh.1 (c.in-Err.is ∙ ap Err same))

pub returns-in-Ok-clause-ok : goal.returns-in-Ok-clause-ok
returns-in-Ok-clause-ok c = λ a t s at m fresh.
    into_ok c.args.commands.now a t s c.args.walk c.do_commands-done.new.loader c.in-Ok.volume at m
    (λ cs tells. rw c.in_default.is at c.do_commands-done.ensures.ok s t cs (mean_start a c.args.walk t at m) tells fresh.1)
    (λ text took. rw c.in-Ok.is at c.end.ensures.loaded s text took)

pub returns-in-Err-end-clause-no_image : goal.returns-in-Err-end-clause-no_image
returns-in-Err-end-clause-no_image c = λ a t s at m fresh e.
    let none : c.fault_of.result ≡ NoImage = cc in
    let bad = c.fault_of.ensures.bad.0 none in
    into_bad c.args.commands.now a t s c.args.walk c.do_commands-done.new.loader bad.0 at m
    (λ cs tells. rw c.in_default.is at c.do_commands-done.ensures.ok s t cs (mean_start a c.args.walk t at m) tells fresh.1)
    (λ text took. c.end.ensures.bad s text bad.0 took (c.in-Err-end.is ∙ ap Err bad.1))
