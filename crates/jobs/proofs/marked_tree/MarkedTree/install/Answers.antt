use Rattle.std.proofs.Common.{◌≡◌, refl, arith, ap, sym, ◌∙◌, subst}
use Rattle.jobs.specs.Marks.{PMarked, Each, KeepsContent, without}
use Rattle.jobs.specs.Replies.{FitsMark, IfInstalled, IsInstalled, IsPlaced}
use Rattle.jobs.proofs.Fitting.{keeps_fits}
use Rattle.jobs.proofs.Installing.{if_installed, unless_installed, fewer_installed, each_installed}
use Rattle.jobs.proofs.marked_tree.MarkedTree.install.Goals as goal

pub install-requires : goal.install-requires
install-requires g c = subst (λ (x : PMarked g.row.U.Denot g.row.U-Value.Denot). FitsMark g.U.Update.means c.args.done x.tree x.marks) (sym c.self.view_is) c.requires

pub invariant_of-self : goal.invariant_of-self
invariant_of-self g c =
    let i = c.self.inside in
    let e = c.install.ensures in
    ((e.kept i.given c.self.invariant.0).0, c.self.invariant.1, omega (arith, c.self.invariant.2, fewer_installed c.args.done.ticket i.marks c.install.new.self (IsPlaced g.U.Update.means c.args.done i.tree c.install.new.tree) (c.install.new.tree ≡ i.tree) c.install.result e.installed e.unchanged))

pub returns-clause-installed : goal.returns-clause-installed
returns-clause-installed g c =
    let i = c.self.inside in
    let b : PMarked g.row.U.Denot g.row.U-Value.Denot = record { tree = c.install.new.tree; marks = c.install.new.self; given = i.given } in
    subst (λ (x : PMarked g.row.U.Denot g.row.U-Value.Denot). IfInstalled c.install.result (IsInstalled g.U.Update.means c.args.done x b)) c.self.view_is (if_installed c.install.result ((c.install.new.self ≡ without c.args.done.ticket i.marks) × IsPlaced g.U.Update.means c.args.done i.tree c.install.new.tree) (IsInstalled g.U.Update.means c.args.done (record { tree = i.tree; marks = i.marks; given = i.given }) b) (λ h. record { marks = h.0; given = refl; placed = h.1 }) c.install.ensures.installed)

pub returns-clause-unchanged : goal.returns-clause-unchanged
returns-clause-unchanged g c =
    let i = c.self.inside in
    unless_installed c.install.result ((c.install.new.self ≡ i.marks) × (c.install.new.tree ≡ i.tree)) (record { tree = c.install.new.tree; marks = c.install.new.self; given = i.given } ≡ c.args.self.now) (λ h. (λ j. record { tree = h.1 j; marks = h.0 j; given = i.given }) ∙ c.self.view_is) c.install.ensures.unchanged

pub returns-clause-content : goal.returns-clause-content
returns-clause-content g c = subst (λ z. Each (KeepsContent g.U.Update.means z c.install.new.tree) c.install.new.self) (ap (λ x. x.tree) c.self.view_is) (c.install.ensures.kept c.self.inside.given c.self.invariant.0).1

pub returns-clause-fits : goal.returns-clause-fits
returns-clause-fits g c =
    let i = c.self.inside in
    let e = c.install.ensures in
    keeps_fits g.U.Update.means i.tree c.install.new.tree i.marks c.install.new.self i.given i.given c.args.self.now c.self.view_is (λ P h. each_installed c.args.done.ticket i.marks c.install.new.self (IsPlaced g.U.Update.means c.args.done i.tree c.install.new.tree) (c.install.new.tree ≡ i.tree) P c.install.result e.installed e.unchanged h) (e.kept i.given c.self.invariant.0).1
