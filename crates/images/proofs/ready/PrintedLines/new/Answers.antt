use Rattle.std.proofs.Common.{ℕ, List, ◌++◌, codes, refl, ap, ◌∙◌}
use Rattle.textio.specs.Texts.{number_line}
use Rattle.images.proofs.Printed.{ready_root}
use Rattle.images.proofs.ready.PrintedLines.new.Goals as goal

pub returns : goal.returns
returns c =
    let text = rw c.modified.ensures at c.in-Ok.ensures.ok in
    (refl, ready_root c.args.frozen.now _ refl refl (text ∙ ap (λ (l : List ℕ). l ++ number_line (codes "D / ") c.args.frozen.now.modified) c.new-text.ensures.items) c.behind_root.ensures c.new.ensures)
