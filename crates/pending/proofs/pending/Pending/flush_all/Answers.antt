use Rattle.std.proofs.Common.{◌≡◌, ◌++◌, [], ap, sym, ◌∙◌, subst, arith}
use Rattle.std.proofs.lemmas.List.{append-nil, nil_from_length}
use Rattle.message.specs.Effects.{Takes}
use Rattle.message.proofs.Composing.{takes-then}
use Rattle.message.proofs.Condensing.{takes_whole}
use Rattle.message.proofs.Lists.{takes-append}
use Rattle.message.proofs.SideBySide.{takes_before}
use Rattle.pending.proofs.pending.Pending.flush_all.Goals as goal

pub returns-then-len-eq0-clause-ok : goal.returns-then-len-eq0-clause-ok
returns-then-len-eq0-clause-ok g c =
    let means = g.U.Update.means in
    let from = c.args.self.now.0 in
    let none : c.args.to.now.0 ≡ [] = nil_from_length c.args.to.now.0 (omega (arith, c.len.ensures, c.if-len-eq0.true)) in
    subst (λ t. Takes means t from c.swap.new.y.0) (sym none) (subst (λ t. Takes means [] from t) (sym (ap (λ (t : _). t.0) c.swap.ensures.y_after)) (takes-append means [] from))

pub returns-then-len-eq0-clause-moved : goal.returns-then-len-eq0-clause-moved
returns-then-len-eq0-clause-moved g c = ap (λ (t : _). t.0) c.swap.ensures.x_after ∙ nil_from_length c.args.to.now.0 (omega (arith, c.len.ensures, c.if-len-eq0.true))

pub loop-init : goal.loop-init
loop-init g c =
    let means = g.U.Update.means in
    let new = c.condense.new.sorted ++ c.condense.new.tail_msgs.0 in
    takes_before means c.args.to.now.0 c.args.self.now.0 new (subst (λ xs. Takes means xs [] new) (ap (λ (t : _). t.0) c.to.view_is) c.condense.ensures.same)

pub loop-preserved : goal.loop-preserved
loop-preserved g c = takes-then g.U.Update.means _ [] _ [] _ c.loop.invariant c.in_ok-flush_more.ensures.same

pub returns-clause-ok : goal.returns-clause-ok
returns-clause-ok g c =
    let means = g.U.Update.means in
    let old = c.args.to.now.0 in
    let from = c.args.self.now.0 in
    let new = c.flush_more.new.to.0 in
    let rest = c.flush_more.new.self.0 in
    let all : Takes means (old ++ from) [] (new ++ rest) = takes-then means (old ++ from) [] (c.loop.to.0 ++ c.loop.self.0) [] (new ++ rest) c.loop.invariant c.in_ok-flush_more.ensures.same in
    let none = c.in_ok-flush_more.ensures.all c.if-not-branch.false in
    takes_whole means old from new (subst (λ t. Takes means (old ++ from) [] t) (ap (λ t. new ++ t) none ∙ append-nil new) all)
