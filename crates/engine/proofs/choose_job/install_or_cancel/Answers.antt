use Rattle.std.proofs.Common.{ap, ap₂, refl, subst, ◌∙◌}
use Rattle.engine.specs.Takings.{Spares}
use Rattle.volume.specs.Jobs.{done_ticket}
use Rattle.volume.specs.Marked.{PLive, without_mark}
use Rattle.volume.specs.Volumes.{PVolume, live_of}
use Rattle.engine.proofs.Sparing.{installed-spares, means-marks, spares-without}
use Rattle.engine.proofs.Turning.{install_or_cancel-in, install_or_cancel-refused, install_or_cancel-stale}
use Rattle.engine.proofs.choose_job.install_or_cancel.Goals as goal

pub returns-in-Installed-clause-spares : goal.returns-in-Installed-clause-spares
returns-in-Installed-clause-spares c = installed-spares _ _ _ _ c.in-Installed.ensures.answers

pub returns-in-Stale-clause-spares : goal.returns-in-Stale-clause-spares
returns-in-Stale-clause-spares c = installed-spares _ _ _ _ c.in-Stale.ensures.answers

pub returns-in-NoMemory-clause-spares : goal.returns-in-NoMemory-clause-spares
returns-in-NoMemory-clause-spares c =
    subst (λ (l : PLive). Spares l (live_of c.cancel.new.self)) c.in-NoMemory.ensures.answers.unchanged
    (spares-without (live_of c.install.new.self) (live_of c.cancel.new.self) _ c.cancel.ensures.kept (ap (λ (v : PVolume). v.marks) c.cancel.ensures.volume))

pub returns-in-NoMemory-clause-means : goal.returns-in-NoMemory-clause-means
returns-in-NoMemory-clause-means c = λ w m. means-marks c.install.new.self c.cancel.new.self _ c.cancel.ensures.volume w (c.in-NoMemory.ensures.means w m)

pub returns-in-NoMemory-clause-cancelled : goal.returns-in-NoMemory-clause-cancelled
returns-in-NoMemory-clause-cancelled c = λ _.
    ap (λ (v : PVolume). v.marks) c.cancel.ensures.volume
    ∙ ap₂ without_mark
    (c.ticket.ensures ∙ ap done_ticket c.in-NoMemory.ensures.answers.back)
    (ap (λ (l : PLive). l.marks) c.in-NoMemory.ensures.answers.unchanged)

pub returns-in-Installed-clause-puts : goal.returns-in-Installed-clause-puts
returns-in-Installed-clause-puts c = let e = c.in-Installed.ensures in install_or_cancel-in c.args.done c.args.volume.now c.install.new.self e.answers e.root e.snapshots

pub returns-in-Stale-clause-puts : goal.returns-in-Stale-clause-puts
returns-in-Stale-clause-puts c = let e = c.in-Stale.ensures in install_or_cancel-stale c.args.done c.args.volume.now c.install.new.self e.answers e.root e.snapshots

pub returns-in-NoMemory-clause-puts : goal.returns-in-NoMemory-clause-puts
returns-in-NoMemory-clause-puts c =
    let e = c.in-NoMemory.ensures in
    install_or_cancel-refused c.args.done c.in-NoMemory.done c.ticket.result.number c.args.volume.now c.install.new.self c.cancel.new.self e.answers e.root e.snapshots c.ticket.ensures c.cancel.ensures.volume

pub returns-in-Installed-clause-stale : goal.returns-in-Installed-clause-stale
returns-in-Installed-clause-stale c = ((λ q. (cc)), (λ q. let clash = c.in-Installed.ensures.answers.stale.1 q in (cc)))

pub returns-in-Stale-clause-stale : goal.returns-in-Stale-clause-stale
returns-in-Stale-clause-stale c = ((λ q. c.in-Stale.ensures.answers.stale.0 refl), (λ q. refl))

pub returns-in-NoMemory-clause-stale : goal.returns-in-NoMemory-clause-stale
returns-in-NoMemory-clause-stale c = ((λ q. (cc)), (λ q. let clash = c.in-NoMemory.ensures.answers.stale.1 q in (cc)))
