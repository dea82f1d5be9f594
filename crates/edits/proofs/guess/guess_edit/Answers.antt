use Rattle.std.proofs.Common.{sym, ◌∙◌, subst}
use Rattle.std.specs.Prelude.{IfSome}
use Rattle.pathkey.specs.Names.{IsPath}
use Rattle.edits.specs.Guesses.{GuessesChange}
use Rattle.edits.proofs.GuessFacts.{an_edit, no_change, no_head, no_path, path_refused}
use Rattle.edits.proofs.guess.guess_edit.Goals as goal

pub returns-in_default : goal.returns-in_default
returns-in_default c = no_head c.args.line.now c.in_default.ensures

pub returns-in_default-split_space : goal.returns-in_default-split_space
returns-in_default-split_space c = no_path c.args.line.now c.in-Some.head.now c.in-Some.words.now c.in-Some.ensures c.in_default-split_space.ensures

pub returns-in_default-2 : goal.returns-in_default-2
returns-in_default-2 c =
    no_change c.args.line.now c.in-Some.head.now c.in-Some.words.now c.in-Some-split_space.path.now c.in-Some-split_space.tail.now c.in-Some.ensures
    (record { is = c.in-Some-split_space.ensures.0; first = c.in-Some-split_space.ensures.1 })
    (subst (GuessesChange c.in-Some.head.now c.in-Some-split_space.tail.now) c.in_default-2.is c.in_ok-change.ensures)

pub returns-in-Some-3 : goal.returns-in-Some-3
returns-in-Some-3 c =
    an_edit c.args.line.now c.in-Some.head.now c.in-Some.words.now c.in-Some-split_space.path.now c.in-Some-split_space.tail.now c.in-Some-3.path c.in-Some-2.change c.in-Some.ensures
    (record { is = c.in-Some-split_space.ensures.0; first = c.in-Some-split_space.ensures.1 })
    (subst (λ guess. IfSome guess IsPath) c.in-Some-3.is c.in_ok-path.ensures.valid)
    (subst (GuessesChange c.in-Some.head.now c.in-Some-split_space.tail.now) c.in-Some-2.is c.in_ok-change.ensures)
    (λ p is e. sym c.in-Some-3.is ∙ c.in_ok-path.ensures.complete p is e)

pub returns-in-None : goal.returns-in-None
returns-in-None c =
    path_refused c.args.line.now c.in-Some.head.now c.in-Some.words.now c.in-Some-split_space.path.now c.in-Some-split_space.tail.now c.in-Some.ensures
    (record { is = c.in-Some-split_space.ensures.0; first = c.in-Some-split_space.ensures.1 })
    (λ p is e. sym c.in-None.is ∙ c.in_ok-path.ensures.complete p is e)
