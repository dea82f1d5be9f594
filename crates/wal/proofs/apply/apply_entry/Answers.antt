use Rattle.std.proofs.Common.{refl, sym, subst}
use Rattle.wal.specs.declared.wal_entry.WalEntry.{WalEntry}
use Rattle.wal.specs.declared.wal_entry.WalEntry.TheVariants.{OnPath, Rename, Truncate, Write, Punch, CopyRange}
use Rattle.reference.specs.PathCalls.{call_at}
use Rattle.reference.specs.Worlds.{Ask, Replied}
use Rattle.reference.specs.declared.call.Call.TheVariants as ask
use Rattle.reference.specs.declared.reply.Reply.TheVariants.{Count, Done}
use Rattle.volume.specs.Copies.{copy_in}
use Rattle.volume.specs.Holes.{hole_in}
use Rattle.volume.specs.Typed.{replied}
use Rattle.wal.specs.Runs.{Makes}
use Rattle.wal.proofs.Making.{answers_from, called_makes, counted_makes, mtime_makes}
use Rattle.wal.proofs.apply.apply_entry.Goals as goal

pub returns-in-OnPath : goal.returns-in-OnPath
returns-in-OnPath c =
    let this : WalEntry = OnPath c.in-OnPath.what c.in-OnPath.path c.in-OnPath.at in
    subst (λ (x : WalEntry). Makes x c.path_call.result c.args.volume.now c.path_call.new.self) (sym c.in-OnPath.is)
    (called_makes this c.path_call.result c.args.volume.now c.path_call.new.self
    (answers_from this (λ w. Ask (call_at c.in-OnPath.what c.in-OnPath.path) c.in-OnPath.at) (Replied (replied (λ _. Done) c.path_call.result)) c.args.volume.now c.path_call.new.self (λ w. refl) c.path_call.ensures.leads) c.path_call.ensures.refused)

pub returns-in-Rename : goal.returns-in-Rename
returns-in-Rename c =
    let this : WalEntry = Rename c.in-Rename.old c.in-Rename.new c.in-Rename.at in
    subst (λ (x : WalEntry). Makes x c.rename.result c.args.volume.now c.rename.new.self) (sym c.in-Rename.is)
    (called_makes this c.rename.result c.args.volume.now c.rename.new.self
    (answers_from this (λ w. Ask (ask.Rename c.in-Rename.old c.in-Rename.new) c.in-Rename.at) (Replied (replied (λ _. Done) c.rename.result)) c.args.volume.now c.rename.new.self (λ w. refl) c.rename.ensures.leads) c.rename.ensures.refused)

pub returns-in-Truncate : goal.returns-in-Truncate
returns-in-Truncate c =
    let this : WalEntry = Truncate c.in-Truncate.path c.in-Truncate.length c.in-Truncate.at in
    subst (λ (x : WalEntry). Makes x c.truncate.result c.args.volume.now c.truncate.new.self) (sym c.in-Truncate.is)
    (called_makes this c.truncate.result c.args.volume.now c.truncate.new.self
    (answers_from this (λ w. Ask (ask.Truncate c.in-Truncate.path c.in-Truncate.length) c.in-Truncate.at) (Replied (replied (λ _. Done) c.truncate.result)) c.args.volume.now c.truncate.new.self (λ w. refl) c.truncate.ensures.leads) c.truncate.ensures.refused)

pub returns-in-Write : goal.returns-in-Write
returns-in-Write c =
    let this : WalEntry = Write c.in-Write.path c.in-Write.offset c.in-Write.bytes c.in-Write.at in
    subst (λ (x : WalEntry). Makes x c.settled.result c.args.volume.now c.write.new.self) (sym c.in-Write.is)
    (counted_makes this c.write.result c.settled.result c.args.volume.now c.write.new.self c.settled.ensures
    (answers_from this (λ w. Ask (ask.Write c.in-Write.path c.in-Write.offset c.in-Write.bytes) c.in-Write.at) (Replied (replied (λ n. Count n) c.write.result)) c.args.volume.now c.write.new.self (λ w. refl) (rw c.as_slice.ensures at c.write.ensures.leads)) c.write.ensures.refused)

pub returns-in-Punch : goal.returns-in-Punch
returns-in-Punch c =
    let this : WalEntry = Punch c.in-Punch.path c.in-Punch.offset c.in-Punch.count c.in-Punch.at in
    subst (λ (x : WalEntry). Makes x c.settled-in-Punch.result c.args.volume.now c.punch.new.self) (sym c.in-Punch.is)
    (counted_makes this c.punch.result c.settled-in-Punch.result c.args.volume.now c.punch.new.self c.settled-in-Punch.ensures
    (answers_from this (λ w. hole_in c.in-Punch.path c.in-Punch.offset c.in-Punch.count c.in-Punch.at w) (Replied (replied (λ n. Count n) c.punch.result)) c.args.volume.now c.punch.new.self (λ w. refl) c.punch.ensures.leads) c.punch.ensures.refused)

pub returns-in-SetMtime : goal.returns-in-SetMtime
returns-in-SetMtime c =
    subst (λ (x : WalEntry). Makes x c.set_mtime.result c.args.volume.now c.set_mtime.new.self) (sym c.in-SetMtime.is)
    (mtime_makes c.in-SetMtime.path c.in-SetMtime.at c.set_mtime.result c.args.volume.now c.set_mtime.new.self c.set_mtime.ensures)

pub returns-in-CopyRange : goal.returns-in-CopyRange
returns-in-CopyRange c =
    let this : WalEntry = CopyRange c.in-CopyRange.from c.in-CopyRange.offset c.in-CopyRange.to c.in-CopyRange.target c.in-CopyRange.count c.in-CopyRange.at in
    subst (λ (x : WalEntry). Makes x c.settled-in-CopyRange.result c.args.volume.now c.copy_range.new.self) (sym c.in-CopyRange.is)
    (counted_makes this c.copy_range.result c.settled-in-CopyRange.result c.args.volume.now c.copy_range.new.self c.settled-in-CopyRange.ensures
    (answers_from this (λ w. copy_in c.in-CopyRange.from c.in-CopyRange.offset c.in-CopyRange.to c.in-CopyRange.target c.in-CopyRange.count c.in-CopyRange.at w) (Replied (replied (λ n. Count n) c.copy_range.result)) c.args.volume.now c.copy_range.new.self (λ w. refl) c.copy_range.ensures.leads) c.copy_range.ensures.refused)
