use Rattle.std.proofs.Common.{◌≡◌}
use Rattle.images.proofs.Printed.{next_piece, ready_after}
use Rattle.images.proofs.printing.ImagePrinter.next.Goals as goal

pub invariant_of-self-2 : goal.invariant_of-self-2
invariant_of-self-2 c = ready_after _ c.fill.new.self _ c.hand_out.result _ _ c.in_ok-fill.ensures.ready c.hand_out.ensures.out c.hand_out.ensures.on c.hand_out.ensures.refused

pub returns-clause-piece : goal.returns-clause-piece
returns-clause-piece c =
    let tree : c.args.self.now.tree ≡ c.self.inside.frozen = cc in
    let done : c.args.self.now.done ≡ c.fill.new.self.done = cc in
    next_piece c.args.self.now c.self.inside.frozen c.fill.new.self c.hand_out.result _ _ tree done c.in_ok-fill.ensures.ready c.in_ok-fill.ensures.filled c.hand_out.ensures.out
