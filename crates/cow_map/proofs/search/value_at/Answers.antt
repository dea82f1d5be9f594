use Rattle.std.proofs.Common.{ap, sym, ◌∙◌, Some}
use Rattle.cow_map.proofs.Entries.{none_at, value_held}
use Rattle.cow_map.proofs.search.value_at.Goals as goal

pub returns-in-Ok : goal.returns-in-Ok
returns-in-Ok g c = ap (λ v. Some v) (c.value.ensures ∙ ap (λ e. e.1) c.index-entries-i.is) ∙ value_held c.args.key.now c.args.entries.now c.in-Ok.i c.index-entries-i.result c.in-Ok.ensures

pub returns-in-Err : goal.returns-in-Err
returns-in-Err g c = sym (none_at c.args.key.now c.args.entries.now c.requires c.in-Err.ensures.absent)
