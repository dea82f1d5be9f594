use Rattle.std.proofs.Common.{sym, ◌∙◌}
use Rattle.std.proofs.lemmas.Result.{IfOk-weaker}
use Rattle.meta_index.proofs.Climbing.{found_reported, none_seen}
use Rattle.meta_index.proofs.index.MetaIndex.find.Goals as goal

pub returns-in-Some : goal.returns-in-Some
returns-in-Some c =
    let some = sym c.in-Some.is ∙ c.in_ok-meta.ensures.value in
    record {
      reported = λ t is_meant. found_reported t c.args.self.now c.args.path.now c.in-Some.meta c.in_ok-meta.ensures.valid some is_meant;
      value = some;
    }

pub returns-in-None : goal.returns-in-None
returns-in-None c =
    let none = sym c.in-None.is ∙ c.in_ok-meta.ensures.value in
    record {
      reported = IfOk-weaker c.find_obstacle.result _ _ (λ at tells t is_meant. tells t is_meant (none_seen t c.args.self.now c.args.path.now c.in_ok-meta.ensures.valid none is_meant)) c.find_obstacle.ensures.reported;
      value = IfOk-weaker c.find_obstacle.result _ _ (λ at nothing. nothing ∙ none) c.find_obstacle.ensures.nothing;
    }
