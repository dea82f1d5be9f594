use Rattle.std.proofs.Common.{◌++◌, arith, ap, length, length-append, ℕ}
use Rattle.textio.proofs.text.put_number_line.Goals as goal

pub push-requires : goal.push-requires
push-requires g c =
    omega (arith, c.append_number.ensures.short, ap (length {A = ℕ}) c.append.ensures, length-append c.new-line.result.items c.args.word.now, ap (length {A = ℕ}) c.new-line.ensures, c.requires)
