use Rattle.std.proofs.Common.{rules, sym, subst}
use Rattle.volume.specs.Plants.{Plants}
use Rattle.images.specs.Loads.{LoadsNext, entry_line, len_of}
use Rattle.images.proofs.LoadFacts.{entry_done, entry_refused, planted_form}
use Rattle.images.proofs.load.LoadState.take_entry.Goals as goal

pub returns-in-Err-clause-bad : goal.returns-in-Err-clause-bad
returns-in-Err-clause-bad c = λ n e.
    let reported = c.entry_fault-refused.ensures.bad n (cc) in (
      reported.0,
      entry_refused c.args.self.now c.plant_entry.new.self c.args.path c.args.meta c.in-Err.fault reported.1
          (subst (λ r. Plants c.args.path c.args.meta r c.args.self.now.volume c.plant_entry.new.self) c.in-Err.is c.plant_entry.ensures),
    )

pub returns-clause-ok : goal.returns-clause-ok
returns-clause-ok c = subst (λ l. LoadsNext (entry_line c.args.path c.args.meta) c.args.self.now (record { volume = c.plant_entry.new.self; version = c.args.self.now.version; lines = c.args.number; last = c.args.path; modified = c.moment_of-self.result; len = l; next = 0 })) (sym c.len_of-self.ensures)
    (subst (λ n. LoadsNext (entry_line c.args.path c.args.meta) c.args.self.now (record { volume = c.plant_entry.new.self; version = c.args.self.now.version; lines = c.args.number; last = c.args.path; modified = n; len = len_of c.args.meta; next = 0 })) (sym c.moment_of-self.ensures)
    (entry_done c.args.self.now c.plant_entry.new.self c.args.path c.args.meta c.args.number c.requires.number c.requires.path c.requires.reported c.key-2.ensures.valid (search rules)
    (subst (λ r. Plants c.args.path c.args.meta r c.args.self.now.volume c.plant_entry.new.self) c.in_default.is c.plant_entry.ensures)))

pub returns-clause-form : goal.returns-clause-form
returns-clause-form c = planted_form c.args.self.now.volume c.plant_entry.new.self c.args.path c.args.meta
    (subst (λ r. Plants c.args.path c.args.meta r c.args.self.now.volume c.plant_entry.new.self) c.in_default.is c.plant_entry.ensures)
