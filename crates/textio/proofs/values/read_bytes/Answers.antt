use Rattle.std.proofs.Common.{◌≡◌, ◌<◌, length, codes, false, rules, arith, ◌∙◌, ap, Some}
use Rattle.std.specs.Prelude.{bytes_eq}
use Rattle.textio.proofs.ValueFacts.{bytes_decoded, has_bytes, writes}
use Rattle.textio.proofs.values.read_bytes.Goals as goal

pub returns-in_ok-from_vec-in-Ok-clause-read : goal.returns-in_ok-from_vec-in-Ok-clause-read
returns-in_ok-from_vec-in-Ok-clause-read c =
    let other : bytes_eq c.args.word.now (codes "-") ≡ false = search rules in
    let some : 0 < length c.args.word.now = search (rules, arith) in
    ap Some (c.in_ok-from_vec-in-Ok.ensures.ok) ∙ bytes_decoded c.args.word.now c.in-Ok.bytes.items other some c.in-Ok.ensures.ok

pub returns-in_err-from_vec-in-Ok-clause-written : goal.returns-in_err-from_vec-in-Ok-clause-written
returns-in_err-from_vec-in-Ok-clause-written c =
    let other : bytes_eq c.args.word.now (codes "-") ≡ false = search rules in
    let some : 0 < length c.args.word.now = search (rules, arith) in
    let wrote = has_bytes c.args.word.now c.in-Ok.bytes.items (bytes_decoded c.args.word.now c.in-Ok.bytes.items other some c.in-Ok.ensures.ok) in
    search rules

pub returns-in-Err-OutOfMemory-clause-written : goal.returns-in-Err-OutOfMemory-clause-written
returns-in-Err-OutOfMemory-clause-written c =
    let other : bytes_eq c.args.word.now (codes "-") ≡ false = search rules in
    writes c.args.word.now other (search rules)
