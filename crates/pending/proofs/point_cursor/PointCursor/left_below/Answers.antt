use Rattle.std.proofs.Common.{◌≡◌, ap, ◌∙◌, cond, None}
use Rattle.message.specs.PointKeys.{is_cleared}
use Rattle.pending.proofs.Meeting.{nothing_left}
use Rattle.pending.proofs.point_cursor.PointCursor.left_below.Goals as goal

pub returns-then-is_none : goal.returns-then-is_none
returns-then-is_none g c = nothing_left (is_cleared c.args.self.now.0 c.args.met.now.0) c.is_none.result c.args.old c.is_none.ensures c.if-is_none.true

pub returns : goal.returns
returns g c =
    let ms = c.args.self.now.0 in
    let cleared : c.is_range_deleted.result ≡ is_cleared ms c.args.met.now.0 = c.is_range_deleted.ensures ∙ ap (λ t. is_cleared t c.met.inside.key.now) (ap (λ a. a.0) c.self.view_is) ∙ ap (λ t. is_cleared ms t) (ap (λ m. m.0) c.met.view_is) in
    c.unless.ensures ∙ ap (λ b. cond b None c.args.old) cleared
