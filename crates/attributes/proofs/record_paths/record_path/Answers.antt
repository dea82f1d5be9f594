use Rattle.std.proofs.Common.{sym, subst, ◌∙◌}
use Rattle.attributes.specs.Places.{IsOrNoMemory, record_path}
use Rattle.attributes.proofs.PlaceFacts.{plain_record, placed_fitting}
use Rattle.attributes.proofs.record_paths.record_path.Goals as goal

pub returns : goal.returns
returns c =
    let p = c.args.path.now in
    let key = c.as_slice.ensures.value ∙ c.in_ok-key.ensures.key in
    subst (IsOrNoMemory c.path_of_key.result) (sym (placed_fitting p (record_path p) (sym c.is_reserved.ensures ∙ c.if-is_reserved.false)))
    (c.path_of_key.ensures (record_path p) (plain_record p c.record_key.ensures.names) key)
