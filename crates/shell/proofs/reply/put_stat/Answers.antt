use Rattle.std.proofs.Common.{ℕ, List, [], ◌∷◌, ◌≡◌, ◌++◌, ◌∙◌, ap, append_assoc, codes, decimal, subst}
use Rattle.std.proofs.lemmas.Result.{on_err_weaker}
use Rattle.textio.specs.Parts.{AppendsPart}
use Rattle.textio.specs.Texts.{number_line}
use Rattle.shell.specs.Replies.{stat_word}
use Rattle.shell.proofs.reply.put_stat.Goals as goal

pub returns-clause-err : goal.returns-clause-err
returns-clause-err g c =
    let word = stat_word c.args.kind in
    let len = decimal c.args.len in
    let at = decimal c.args.modified in
    let first : c.append.new.line.items ≡ word = c.append.ensures ∙ ap (λ (t : List ℕ). t ++ c.stat_word.result.now) c.new-line.ensures ∙ c.stat_word.ensures in
    let second : c.append_number.new.line.items ≡ word ++ len = c.append_number.ensures.value ∙ ap (λ (t : List ℕ). t ++ len) first in
    let third : c.push.new.self.items ≡ (word ++ len) ++ codes " " = c.push.ensures.items ∙ ap (λ (t : List ℕ). t ++ codes " ") second in
    let fourth : c.append_number-2.new.line.items ≡ (word ++ len) ++ (codes " " ++ at) = c.append_number-2.ensures.value ∙ ap (λ (t : List ℕ). t ++ at) third ∙ append_assoc (word ++ len) (codes " ") at in
    let line : c.as_slice.result.now ≡ (word ++ len) ++ number_line (codes " ") c.args.modified =
    c.as_slice.ensures.value ∙ c.push-2.ensures.items ∙ ap (λ (t : List ℕ). t ++ codes "\n") fourth ∙ append_assoc (word ++ len) (codes " " ++ at) (codes "\n") in
    on_err_weaker c.put.result (subst (AppendsPart _ _) line) c.put.ensures.err
