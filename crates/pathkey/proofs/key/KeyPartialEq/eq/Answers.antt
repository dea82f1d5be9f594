use Rattle.std.proofs.Common.{◌∙◌, sym}
use Rattle.std.proofs.lemmas.Map.Text.{is_eq-slice_cmp}
use Rattle.pathkey.proofs.key.KeyPartialEq.eq.Goals as goal

pub returns-then-self-other : goal.returns-then-self-other
returns-then-self-other c = rw (← c.as_bytes.ensures, ← c.as_bytes-then-self-other.ensures)
    (c.eq.ensures ∙ sym (is_eq-slice_cmp c.as_bytes.result.now c.as_bytes-then-self-other.result.now))
