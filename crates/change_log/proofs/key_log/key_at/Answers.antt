use Rattle.std.proofs.Common.{◌≡◌, ◌-◌, [], ℕ, List, arith, ap, drop, get_or, take, length, subst, sym, ◌∙◌}
use Rattle.std.specs.Prelude.{IfOk}
use Rattle.change_log.proofs.Keys.{key_is, key_within}
use Rattle.change_log.proofs.key_log.key_at.Goals as goal

pub slice_bounds-from_bytes-count : goal.slice_bounds-from_bytes-count
slice_bounds-from_bytes-count c = omega (arith, c.begin_of-from.ensures, (key_within 0 (length c.args.bytes.now) c.args.ends.now c.args.index c.requires.ends c.requires.there).0)

pub slice_bounds-from_bytes-start : goal.slice_bounds-from_bytes-start
slice_bounds-from_bytes-start c = omega (arith, c.begin_of-from.ensures, (key_within 0 (length c.args.bytes.now) c.args.ends.now c.args.index c.requires.ends c.requires.there).0)

pub slice_bounds-from_bytes-end : goal.slice_bounds-from_bytes-end
slice_bounds-from_bytes-end c = (key_within 0 (length c.args.bytes.now) c.args.ends.now c.args.index c.requires.ends c.requires.there).1

pub returns : goal.returns
returns c =
    subst (λ (l : List ℕ). IfOk c.from_bytes.result (λ key. key ≡ l))
    (ap (λ (n : ℕ). take (get_or c.args.ends.now c.args.index 0 - n) (drop n c.args.bytes.now)) c.begin_of-from.ensures
    ∙ sym (key_is 0 c.args.bytes.now c.args.ends.now c.args.index [] c.requires.there)) c.from_bytes.ensures
