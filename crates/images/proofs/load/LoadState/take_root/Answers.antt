use Rattle.std.proofs.Common.{ap, rules, sym}
use Rattle.std.specs.Prelude.{option_map}
use Rattle.images.specs.Image.{version_of}
use Rattle.images.proofs.ImageLineFacts.{root_read, root_unread}
use Rattle.images.proofs.LoadFacts.{bad_number, planted_form, root_done}
use Rattle.images.proofs.load.LoadState.take_root.Goals as goal

pub returns-in_default-clause-bad : goal.returns-in_default-clause-bad
returns-in_default-clause-bad c = λ n e. (sym (bad_number c.args.number n e), root_unread c.args.line.now _ c.read_root.ensures (ap (option_map _) c.in_default.is))

pub returns-clause-ok : goal.returns-clause-ok
returns-clause-ok c =
    let read = root_read c.args.line.now _ c.read_root.ensures (version_of c.in-Some.version) c.in-Some.modified (ap (option_map _) c.in-Some.is) in
    root_done c.args.self.now c.plant_root.new.volume c.in-Some.version c.in-Some.modified c.args.number c.args.line.now c.requires read.0 read.1 (c.plant_root.ensures (search rules))

pub returns-clause-form : goal.returns-clause-form
returns-clause-form c = planted_form _ _ _ _ (c.plant_root.ensures (search rules))

pub returns-then-not-plant_root-clause-root : goal.returns-then-not-plant_root-clause-root
returns-then-not-plant_root-clause-root c = λ none.
    let read = root_read c.args.line.now _ c.read_root.ensures (version_of c.in-Some.version) c.in-Some.modified (ap (option_map _) c.in-Some.is) in
    absurd (none (version_of c.in-Some.version) c.in-Some.modified read.0 read.1)

pub returns-clause-root : goal.returns-clause-root
returns-clause-root c = λ none.
    let read = root_read c.args.line.now _ c.read_root.ensures (version_of c.in-Some.version) c.in-Some.modified (ap (option_map _) c.in-Some.is) in
    absurd (none (version_of c.in-Some.version) c.in-Some.modified read.0 read.1)
