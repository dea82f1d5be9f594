use Rattle.std.proofs.Common.{List, ℕ, OnErr, OnOk, subst, sym}
use Rattle.std.specs.Io.KnownBytes.{Appends}
use Rattle.textio.specs.Parts.{AppendsPart}
use Rattle.textio.proofs.text.put_percent_byte.Goals as goal

pub returns-in-Some-clause-ok : goal.returns-in-Some-clause-ok
returns-in-Some-clause-ok g c =
    subst (λ (t : List ℕ). OnOk c.put.result (Appends (g.W.Write.contents c.args.writer.now) (g.W.Write.contents c.put.new.writer) t)) (sym c.in-Some.ensures) c.put.ensures.ok

pub returns-in-Some-clause-err : goal.returns-in-Some-clause-err
returns-in-Some-clause-err g c =
    subst (λ (t : List ℕ). OnErr c.put.result (AppendsPart (g.W.Write.contents c.args.writer.now) (g.W.Write.contents c.put.new.writer) t)) (sym c.in-Some.ensures) c.put.ensures.err

pub returns-in-None-clause-ok : goal.returns-in-None-clause-ok
returns-in-None-clause-ok g c =
    subst (λ (t : List ℕ). OnOk c.put-in-None.result (Appends (g.W.Write.contents c.args.writer.now) (g.W.Write.contents c.put-in-None.new.writer) t)) (sym c.in-None.ensures) c.put-in-None.ensures.ok

pub returns-in-None-clause-err : goal.returns-in-None-clause-err
returns-in-None-clause-err g c =
    subst (λ (t : List ℕ). OnErr c.put-in-None.result (AppendsPart (g.W.Write.contents c.args.writer.now) (g.W.Write.contents c.put-in-None.new.writer) t)) (sym c.in-None.ensures) c.put-in-None.ensures.err
