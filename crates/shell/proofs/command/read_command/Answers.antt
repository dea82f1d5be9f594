use Rattle.std.proofs.Common.{inl, sym, ap, ◌∙◌, ◌∷◌}
use Rattle.shell.specs.Requests.{command_of}
use Rattle.shell.proofs.Asking.{too_many_words}
use Rattle.shell.proofs.command.read_command.Goals as goal

pub returns-in-Some-split_word-3 : goal.returns-in-Some-split_word-3
returns-in-Some-split_word-3 c =
    let name = c.in-Some.name.now in
    let path = c.in-Some-split_word.path.now in
    let second = c.in-Some-split_word-2.second.now in
    let words = c.in-Some.ensures
    ∙ ap (λ ws. name ∷ ws) (c.in-Some-split_word.ensures ∙ ap (λ ws. path ∷ ws) (c.in-Some-split_word-2.ensures ∙ ap (λ ws. second ∷ ws) c.in-Some-split_word-3.ensures)) in
    inl (sym (ap command_of words ∙ too_many_words name path second c.in-Some-split_word-3.field-0.0.now c.in-Some-split_word-3.field-0.1.now))
