use Rattle.std.proofs.Common.{◌≡◌, [], get_or, ap, sym, subst, refl, ◌∙◌}
use Rattle.std.proofs.lemmas.List.{get_or_default}
use Rattle.cow_map.specs.CowMap.{AreRows, joined}
use Rattle.cow_map.proofs.Joins.{both_rows, both_same, put_again}
use Rattle.cow_map.proofs.chunks.merge_chunks.Goals as goal

pub returns-in-Some-clause-rows : goal.returns-in-Some-clause-rows
returns-in-Some-clause-rows g c =
    let rs = c.args.rows.now.items in
    let m = c.args.m in
    let row = c.remove-row.result in
    let at : row ≡ get_or rs m [] = c.remove-row.ensures.value ∙ get_or_default rs m row [] c.requires.bound in
    let is = put_again rs c.put_behind.new.rows.items c.put_at.new.rows.items m c.in-Some.row c.requires.bound (c.in-Some.ensures.back ∙ at) (c.in-Some.ensures.same ∙ c.remove-row.ensures.items) c.put_at.ensures in
    subst (λ t. AreRows t) (sym is) c.requires.rows

pub returns-in-Some-clause-same : goal.returns-in-Some-clause-same
returns-in-Some-clause-same g c =
    let rs = c.args.rows.now.items in
    let m = c.args.m in
    let row = c.remove-row.result in
    let at : row ≡ get_or rs m [] = c.remove-row.ensures.value ∙ get_or_default rs m row [] c.requires.bound in
    ap (λ t. joined t) (put_again rs c.put_behind.new.rows.items c.put_at.new.rows.items m c.in-Some.row c.requires.bound (c.in-Some.ensures.back ∙ at) (c.in-Some.ensures.same ∙ c.remove-row.ensures.items) c.put_at.ensures)

pub returns-in_default-clause-rows : goal.returns-in_default-clause-rows
returns-in_default-clause-rows g c =
    let rs = c.args.rows.now.items in
    let m = c.args.m in
    let row = c.remove-row.result in
    let at : row ≡ get_or rs m [] = c.remove-row.ensures.value ∙ get_or_default rs m row [] c.requires.bound in
    both_rows rs c.remove-row.new.self.items c.put_behind.new.rows.items m row _ c.requires.first c.requires.bound at c.remove-row.ensures.items c.in_default.ensures.joined refl c.requires.few c.requires.rows

pub returns-in_default-clause-same : goal.returns-in_default-clause-same
returns-in_default-clause-same g c =
    let rs = c.args.rows.now.items in
    let m = c.args.m in
    let row = c.remove-row.result in
    let at : row ≡ get_or rs m [] = c.remove-row.ensures.value ∙ get_or_default rs m row [] c.requires.bound in
    both_same rs c.remove-row.new.self.items c.put_behind.new.rows.items m row _ c.requires.first c.requires.bound at c.remove-row.ensures.items c.in_default.ensures.joined refl
