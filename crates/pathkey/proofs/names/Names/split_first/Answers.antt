use Rattle.std.proofs.Common.{sym, ◌∙◌}
use Rattle.pathkey.proofs.Pieces.{no_names, cut_at_name}
use Rattle.pathkey.proofs.names.Names.split_first.Goals as goal

pub returns-in_err-name : goal.returns-in_err-name
returns-in_err-name c = rw c.from_residual.ensures (sym c.self.view_is ∙ no_names _ c.self.invariant c.in_err-name.ensures)

pub invariant_of-result : goal.invariant_of-result
invariant_of-result c = (cut_at_name _ _ _ c.self.invariant c.in_ok-name.ensures.0 c.in_ok-name.ensures.1).rest

pub returns : goal.returns
returns c =
    let cut = cut_at_name _ _ _ c.self.invariant c.in_ok-name.ensures.0 c.in_ok-name.ensures.1 in
    (sym c.self.view_is ∙ cut.names, cut.is_name)
