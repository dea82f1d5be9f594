use Rattle.std.proofs.Common.{◌≡◌, true, [], Some, None, ap, sym, ◌∙◌, subst}
use Rattle.std.specs.Prelude.{is_some}
use Rattle.message.specs.Cuts.{cut_to}
use Rattle.pending.specs.BufferedMsg.{msg_at}
use Rattle.message.specs.declared.msg.Msg.TheVariants as msg
use Rattle.message.proofs.Sides.{part_before, part_behind}
use Rattle.pending.proofs.buffered_msg.BufferedMsg.split_msg.Goals as goal

pub returns-in_ok-behind-in-Range-clause-before : goal.returns-in_ok-behind-in-Range-clause-before
returns-in_ok-behind-in-Range-clause-before g c =
    let p = c.args.pivot.now.value in
    let part = c.in-Range.part in
    let whole : msg.DelRange part ≡ c.args.self = sym (ap (λ t. msg_at t) c.in-Range.is) ∙ c.self.view_is in
    let front = subst (λ m. is_some (cut_to [] (Some p) m) ≡ true) (sym whole) c.requires.before in
    let back = subst (λ m. is_some (cut_to p None m) ≡ true) (sym whole) c.requires.behind in
    let shared = c.in_ok-share-in-Range.ensures ∙ c.in-Range.part-is in
    let low = c.in_ok-before-in-Range.ensures.lo ∙ ap (λ r. r.lo) shared in
    ap (λ m. Some m) c.of_part.ensures ∙ part_before p part front back c.in_ok-before-in-Range.before low c.in_ok-before-in-Range.ensures.hi ∙ ap (λ m. cut_to [] (Some p) m) whole

pub returns-in_ok-behind-in-Range-clause-behind : goal.returns-in_ok-behind-in-Range-clause-behind
returns-in_ok-behind-in-Range-clause-behind g c =
    let p = c.args.pivot.now.value in
    let part = c.in-Range.part in
    let whole : msg.DelRange part ≡ c.args.self = sym (ap (λ t. msg_at t) c.in-Range.is) ∙ c.self.view_is in
    let front = subst (λ m. is_some (cut_to [] (Some p) m) ≡ true) (sym whole) c.requires.before in
    let back = subst (λ m. is_some (cut_to p None m) ≡ true) (sym whole) c.requires.behind in
    let high = c.in_ok-behind-in-Range.ensures.hi ∙ ap (λ r. r.hi) c.in-Range.part-is in
    ap (λ m. Some m) c.of_part-in-Range.ensures ∙ part_behind p part front back c.in_ok-behind-in-Range.behind c.in_ok-behind-in-Range.ensures.lo high ∙ ap (λ m. cut_to p None m) whole
