use Rattle.std.proofs.Common.{sym, subst, ap, ◌∙◌, length}
use Rattle.pathkey.specs.declared.range.KeyRange.{KeyRange}
use Rattle.flush.specs.Sunk.{ConsumedInto}
use Rattle.node.specs.Subtrees.{StaysSubtree}
use Rattle.jobs.specs.Job.{IsSubtree, EndsLawfully}
use Rattle.jobs.proofs.Building.{is_subtree, is_built, ends_lawfully}
use Rattle.jobs.proofs.job.Job.built.Goals as goal
use Rattle.jobs.proofs.job.Job.built.Goals.{After-len}

pub flush_below-requires-clause-lawful : goal.flush_below-requires-clause-lawful
flush_below-requires-clause-lawful g c =
    let i = c.self.inside in
    let gone = subst (λ z. ConsumedInto g.U.Update.means i.shape.pending z i.child.value c.in_ok-child.child.value) c.as_slice.ensures.value c.in_ok-child.ensures in
    subst (λ z. EndsLawfully i.shape z c.in_ok-child.child.value) (sym (c.as_ref.ensures.value ∙ ap (λ (r : KeyRange). r.hi) c.in_ok-range.ensures)) (ends_lawfully g.U.Update.means i.shape i.range i.msgs.items i.child.value c.in_ok-child.child.value gone c.self.invariant)

gone : (g : _) (c : After-len g) → ConsumedInto g.U.Update.means c.self.inside.shape.pending c.self.inside.msgs.items c.self.inside.child.value c.in_ok-child.child.value
gone g c = subst (λ z. ConsumedInto g.U.Update.means c.self.inside.shape.pending z c.self.inside.child.value c.in_ok-child.child.value) c.as_slice.ensures.value c.in_ok-child.ensures

stays : (g : _) (c : After-len g) → StaysSubtree g.U.Update.means c.self.inside.shape c.self.inside.range.hi c.in_ok-child.child.value c.flush_below.new.top.value
stays g c = subst (λ z. StaysSubtree g.U.Update.means c.self.inside.shape z c.in_ok-child.child.value c.flush_below.new.top.value) (c.as_ref.ensures.value ∙ ap (λ (r : KeyRange). r.hi) c.in_ok-range.ensures) c.flush_below.ensures

pub invariant_of-result : goal.invariant_of-result
invariant_of-result g c =
    let i = c.self.inside in
    subst (λ (r : KeyRange). IsSubtree i.shape r c.flush_below.new.top.value) (sym c.in_ok-range.ensures) (is_subtree g.U.Update.means i.shape i.range i.msgs.items i.child.value c.in_ok-child.child.value c.flush_below.new.top.value (gone g c) (stays g c) c.self.invariant)

pub returns : goal.returns
returns g c =
    let i = c.self.inside in
    is_built g.U.Update.means c.args.self.now i.ticket i.shape i.range c.in_ok-range.range i.msgs.items i.child.value c.in_ok-child.child.value c.flush_below.new.top.value c.len.result c.self.view_is c.in_ok-range.ensures (c.len.ensures ∙ sym c.as_slice.ensures.len ∙ ap length c.as_slice.ensures.value) (gone g c) (stays g c) c.self.invariant
