use Rattle.std.proofs.Common.{◌≡◌, ◌∙◌, sym, ap, subst, arith, List, ◌∷◌, length}
use Rattle.message.specs.declared.msg.Msg.{Msg}
use Rattle.message.specs.Effects.{Takes}
use Rattle.message.proofs.Composing.{takes-none, takes-next}
use Rattle.pending.proofs.pending.Pending.append_reserved.Goals as goal

pub loop-msg-preserved : goal.loop-msg-preserved
loop-msg-preserved g c =
    let means = g.U.Update.means in
    let rest = c.next.new.self in
    let one : c.loop-msg.taken ≡ c.in-Some.msg ∷ rest = c.in-Some.ensures.moved in
    let all = c.of-taken.result in
    let old = c.args.self.now.0 in
    let kept : (c' : List (Msg g.row.U.Denot g.row.U-Value.Denot)) → Takes means c.loop-msg.self.0 (c.in-Some.msg ∷ rest) c' → Takes means old all c' = λ c' t. c.loop-msg.invariant.takes c' (subst (λ xs. Takes means c.loop-msg.self.0 xs c') (sym one) t) in
    record {
      room = omega (arith, ap length one, c.push_reserved.ensures.room, c.loop-msg.invariant.room);
      left = omega (arith, ap length one, c.push_reserved.ensures.room, c.loop-msg.invariant.left);
      takes = takes-next means c.in-Some.msg rest c.loop-msg.self.0 c.push_reserved.new.self.0 old all c.push_reserved.ensures.takes kept;
    }

pub returns-clause-takes : goal.returns-clause-takes
returns-clause-takes g c =
    let means = g.U.Update.means in
    let to = c.loop-msg.self.0 in
    let done : Takes means c.args.self.now.0 c.of-taken.result to = c.loop-msg.invariant.takes to (subst (λ xs. Takes means to xs to) (sym c.in_default.ensures.end) (takes-none means to)) in
    subst (λ xs. Takes means c.args.self.now.0 xs to) (c.of-taken.ensures ∙ ap (λ v. v.items) c.replace.ensures.value) done
