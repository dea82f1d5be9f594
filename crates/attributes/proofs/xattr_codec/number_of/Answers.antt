use Rattle.std.proofs.Common.{ℕ, List, get_or, ap, arith}
use Rattle.attributes.specs.Packed.{four_bytes}
use Rattle.attributes.proofs.xattr_codec.number_of.Goals as goal

pub returns : goal.returns
unfolding four_bytes
returns c = λ n few e.
    let a = ap (λ (w : List ℕ). get_or w 0 0) e in
    let b = ap (λ (w : List ℕ). get_or w 1 0) e in
    let d = ap (λ (w : List ℕ). get_or w 2 0) e in
    let f = ap (λ (w : List ℕ). get_or w 3 0) e in
    omega (arith, a, b, d, f)
