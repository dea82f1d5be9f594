use Rattle.std.proofs.Common.{sym, ◌∙◌, ◌<◌, length, arith, inl, inr, ap}
use Rattle.std.specs.Option.{option_copied}
use Rattle.flush.proofs.LeafFlush.{no_put, room_within, overfull_found, place_found}
use Rattle.flush.proofs.OldestOf.{put_is, put_none}
use Rattle.flush.proofs.leaf.is_overfull.Goals as goal

pub returns-in-None-clause-no : goal.returns-in-None-clause-no
returns-in-None-clause-no g c = λ t m e. no_put g.U.Update.means c.args.most m c.args.entries.now c.requires (put_none m (e ∙ ap option_copied c.in-None.is))

pub returns-then-entries-most-clause-yes : goal.returns-then-entries-most-clause-yes
returns-then-entries-most-clause-yes g c = λ t m e.
    let p = put_is m c.in-Some.key.now (e ∙ ap option_copied c.in-Some.is) in
    overfull_found g.U.Update.means c.args.most m c.in-Some.key.now p.0 c.args.entries.now c.position.result p.1 c.requires c.position.ensures (sym c.is_err.ensures.value ∙ t) (omega arith)

pub returns-then-entries-most-clause-no : goal.returns-then-entries-most-clause-no
returns-then-entries-most-clause-no g c = λ t m e l o.
    let p = put_is m c.in-Some.key.now (e ∙ ap option_copied c.in-Some.is) in
    let none = place_found g.U.Update.means m c.in-Some.key.now p.0 c.args.entries.now c.position.result p.1 c.position.ensures (sym c.is_err.ensures.value ∙ t) in
    absurd (room_within g.U.Update.means c.args.most m c.args.entries.now c.requires (inr none) l o)

pub returns-else-entries-most-clause-no : goal.returns-else-entries-most-clause-no
returns-else-entries-most-clause-no g c = λ t m e l o.
    let few : length c.args.entries.now < c.args.most = omega arith in
    absurd (room_within g.U.Update.means c.args.most m c.args.entries.now c.requires (inl few) l o)
