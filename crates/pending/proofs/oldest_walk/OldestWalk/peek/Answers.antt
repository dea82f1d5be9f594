use Rattle.std.proofs.Common.{ap, ◌∙◌}
use Rattle.std.specs.List.{slice_get}
use Rattle.std.specs.Option.{option_map}
use Rattle.pending.specs.OldestWalk.{first_len}
use Rattle.pending.proofs.Walking.{first_length}
use Rattle.pending.proofs.oldest_walk.OldestWalk.peek.Goals as goal

pub returns-in-Some-clause-key : goal.returns-in-Some-clause-key
returns-in-Some-clause-key g c = ap (option_map (λ e. e.0)) c.in-Some.ensures ∙ ap (λ t. option_map (λ e. e.0) (slice_get t 0)) c.self.view_is

pub returns-in-Some-clause-len : goal.returns-in-Some-clause-len
returns-in-Some-clause-len g c = (c.len.ensures.len ∙ first_length c.self.inside.rest c.in-Some.key.now c.in-Some.run'.now c.in-Some.ensures ∙ ap (λ t. first_len t) c.self.view_is, c.len.ensures.some)
