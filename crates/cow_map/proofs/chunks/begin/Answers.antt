use Rattle.std.proofs.Common.{[], ◌∷◌, ◌++◌, ap, ◌∙◌}
use Rattle.cow_map.proofs.TableFacts.{rows_none, rows_one}
use Rattle.cow_map.proofs.chunks.begin.Goals as goal

pub returns-then-is_err-clause-rows : goal.returns-then-is_err-clause-rows
returns-then-is_err-clause-rows g c = rows_none c.reserve.new.self.items (c.reserve.ensures.items ∙ c.requires)

pub returns-in_err-row-clause-rows : goal.returns-in_err-row-clause-rows
returns-in_err-row-clause-rows g c = rows_none c.reserve.new.self.items (c.reserve.ensures.items ∙ c.requires)

pub returns-clause-rows : goal.returns-clause-rows
returns-clause-rows g c =
    rows_one c.push_reserved.new.self.items (c.args.key, c.args.value)
    (c.push_reserved.ensures.items ∙ ap (λ t. t ++ c.in_ok-row.row ∷ []) (c.reserve.ensures.items ∙ c.requires) ∙ ap (λ r. r ∷ []) c.in_ok-row.ensures.row)
