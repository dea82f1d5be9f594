use Rattle.std.proofs.Common.{◌∙◌, arith, ap, Some, sym}
use Rattle.pathkey.proofs.PathFacts.{ParentKey, parent_key, parent_path_none}
use Rattle.pathkey.proofs.path.Path.parent.Goals as goal
use Rattle.pathkey.proofs.path.Path.parent.Goals.{After-as_bytes-bytes}

pub returns-in_default : goal.returns-in_default
returns-in_default c = parent_path_none _ (sym c.in_default.ensures)

at_last : (c : After-as_bytes-bytes) → ParentKey c.args.self.now c.in-Some.last.now c.as_bytes-bytes.result.now
at_last c = parent_key _ _ _ c.key.ensures.valid (c.as_bytes-bytes.ensures ∙ c.key.ensures.value) c.in-Some.ensures

pub overflow_sub-bytes : goal.overflow_sub-bytes
overflow_sub-bytes c = let fits = (at_last (goal.at.overflow_sub-bytes c).After-as_bytes-bytes).fits in omega arith

pub slice_bounds-from_bytes-count : goal.slice_bounds-from_bytes-count
slice_bounds-from_bytes-count c = let fits = (at_last (goal.at.slice_bounds-from_bytes-count c).After-as_bytes-bytes).fits in omega arith

pub of_key-requires : goal.of_key-requires
of_key-requires c = rw c.in_ok-key.ensures (at_last (goal.at.of_key-requires c).After-as_bytes-bytes).is_key

pub returns : goal.returns
returns c = ap Some c.of_key.ensures ∙ rw c.in_ok-key.ensures (at_last (goal.at.returns c).After-as_bytes-bytes).parent
