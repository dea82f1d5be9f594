use Rattle.std.proofs.Common.{◌≡◌, ◌++◌, ◌||◌, ap, sym, ◌∙◌}
use Rattle.message.specs.PointKeys.{is_cleared}
use Rattle.message.proofs.PointKeys.{is_cleared-append}
use Rattle.pending.proofs.pending.Pending.is_range_deleted.Goals as goal

pub returns-then-is_range_deleted : goal.returns-then-is_range_deleted
returns-then-is_range_deleted g c =
    let k = c.args.key.now in
    let xs = c.self.inside.sorted in
    let ys = c.self.inside.tail_msgs.0 in
    let whole : xs ++ ys ≡ c.args.self.now.0 = ap (λ p. p.0) c.self.view_is in
    let parts : is_cleared c.args.self.now.0 k ≡ (is_cleared xs k || is_cleared ys k) = ap (λ ms. is_cleared ms k) (sym whole) ∙ is_cleared-append xs ys k in
    c.if-is_range_deleted.true ∙ sym (parts ∙ ap (λ b. b || is_cleared ys k) (sym c.is_range_deleted.ensures ∙ c.if-is_range_deleted.true))

pub returns-else-is_range_deleted : goal.returns-else-is_range_deleted
returns-else-is_range_deleted g c =
    let k = c.args.key.now in
    let xs = c.self.inside.sorted in
    let ys = c.self.inside.tail_msgs.0 in
    let whole : xs ++ ys ≡ c.args.self.now.0 = ap (λ p. p.0) c.self.view_is in
    let parts : is_cleared c.args.self.now.0 k ≡ (is_cleared xs k || is_cleared ys k) = ap (λ ms. is_cleared ms k) (sym whole) ∙ is_cleared-append xs ys k in
    c.is_range_deleted-else-is_range_deleted.ensures ∙ sym (parts ∙ ap (λ b. b || is_cleared ys k) (sym c.is_range_deleted.ensures ∙ c.if-is_range_deleted.false))
