use Rattle.std.proofs.Common.{rules, ◌≡◌}
use Rattle.std.specs.List.{insert}
use Rattle.flush.proofs.PlaceChanges.{set_new}
use Rattle.flush.proofs.room.insert_at.Goals as goal

pub returns-clause-some : goal.returns-clause-some
returns-clause-some g c =
    let es = c.args.entries.now.items in
    let items : c.insert.new.self.items ≡ insert es c.args.i (c.args.key.now, c.args.value) = search rules in
    set_new c.args.key.now es c.insert.new.self.items c.args.i c.args.value items c.requires.gap c.requires.rising
