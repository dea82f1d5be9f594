use Rattle.std.proofs.Common.{◌≡◌, ℕ, ◌+◌, ◌≤◌, nat_lt, length, arith, sym, ap, ◌∙◌}
use Rattle.std.proofs.Math.Bool.{not}
use Rattle.pathkey.specs.Names.{text_len}
use Rattle.pathkey.proofs.TextFacts.{text_len_enc}
use Rattle.reference.specs.Calls.{deepest}
use Rattle.reference.specs.Plain.{tree_of}
use Rattle.reference.proofs.Depth.{room_left}
use Rattle.reference.proofs.plain.moving.is_too_long.Goals as goal

pub overflow_sub-len : goal.overflow_sub-len
overflow_sub-len c =
    let e : length c.as_bytes-len.result.now ≡ text_len c.args.new.now =
    ap length (c.as_bytes-len.ensures ∙ c.key.ensures.value) ∙ sym (text_len_enc c.args.new.now)
    in
    omega (arith, c.key.ensures.valid.fits)

pub returns : goal.returns
returns c =
    let e : length c.as_bytes-len.result.now ≡ text_len c.args.new.now =
    ap length (c.as_bytes-len.ensures ∙ c.key.ensures.value) ∙ sym (text_len_enc c.args.new.now)
    in
    let deep : ℕ = deepest (tree_of c.args.from.now) in
    let fits : length c.as_bytes-len.result.now ≤ 1023 = omega (arith, c.key.ensures.valid.fits) in
    ap not c.is_within.ensures ∙ room_left 1023 (length c.as_bytes-len.result.now) deep fits ∙ ap (λ (l : ℕ). nat_lt 1023 (l + deep)) e
