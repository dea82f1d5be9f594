use Rattle.std.proofs.Common.{[], ◌<◌, ◌+◌, ◌++◌, ap, sym, ◌∙◌, subst, length, get_or, take, drop}
use Rattle.cow_map.specs.CowMap.{AreRows, joined}
use Rattle.cow_map.proofs.TableFacts.{split_same, split_rows, split_front, split_back}
use Rattle.cow_map.proofs.chunks.split_chunk.Goals as goal

pub returns-clause-same : goal.returns-clause-same
returns-clause-same g c =
    let rs = c.reserve.new.self.items in
    let low : c.args.n < length rs = subst (λ t. c.args.n < length t) (sym c.reserve.ensures.items) c.requires.row in
    split_same rs c.split_tail.new.rows.items c.insert.new.self.items c.args.n c.args.at c.in_ok-back.back low c.in_ok-back.ensures.front c.in_ok-back.ensures.back c.in-Ok.ensures.items
    ∙ ap (λ t. joined t) c.reserve.ensures.items

pub returns-clause-rows : goal.returns-clause-rows
returns-clause-rows g c =
    let rs = c.reserve.new.self.items in
    let low : c.args.n < length rs = subst (λ t. c.args.n < length t) (sym c.reserve.ensures.items) c.requires.row in
    let others : c.args.at < length (get_or rs c.args.n []) = subst (λ t. c.args.at < length (get_or t c.args.n [])) (sym c.reserve.ensures.items) c.requires.others in
    split_rows rs c.split_tail.new.rows.items c.insert.new.self.items c.args.n c.args.at c.in_ok-back.back low c.in_ok-back.ensures.front c.in_ok-back.ensures.back c.in-Ok.ensures.items c.requires.some others (subst (λ t. AreRows t) (sym c.reserve.ensures.items) c.requires.rows)

pub returns-clause-front : goal.returns-clause-front
returns-clause-front g c =
    let rs = c.reserve.new.self.items in
    let low : c.args.n < length rs = subst (λ t. c.args.n < length t) (sym c.reserve.ensures.items) c.requires.row in
    split_front rs c.split_tail.new.rows.items c.insert.new.self.items c.args.n c.args.at c.in_ok-back.back low c.in_ok-back.ensures.front c.in_ok-back.ensures.back c.in-Ok.ensures.items
    ∙ ap (λ t. joined (take c.args.n t) ++ take c.args.at (get_or t c.args.n [])) c.reserve.ensures.items

pub returns-clause-back : goal.returns-clause-back
returns-clause-back g c =
    let rs = c.reserve.new.self.items in
    let low : c.args.n < length rs = subst (λ t. c.args.n < length t) (sym c.reserve.ensures.items) c.requires.row in
    split_back rs c.split_tail.new.rows.items c.insert.new.self.items c.args.n c.args.at c.in_ok-back.back low c.in_ok-back.ensures.front c.in_ok-back.ensures.back c.in-Ok.ensures.items
    ∙ ap (λ t. drop c.args.at (get_or t c.args.n []) ++ joined (drop (c.args.n + 1) t)) c.reserve.ensures.items
