use Rattle.std.proofs.Common.{◌≡◌, ℕ, ◌/◌, ◌%◌, List, length, get_or, ap, arith}
use Rattle.attributes.specs.Text.{octal}
use Rattle.attributes.proofs.reading.read_octal.Goals as goal

pub returns-then-word-ne4 : goal.returns-then-word-ne4
unfolding octal
returns-then-word-ne4 c = λ mode few e. absurd (let len : length c.args.word.now ≡ 4 = ap length e in omega arith)

pub returns : goal.returns
unfolding octal
returns c = λ mode few e.
    let a = c.digit.ensures.value (mode / 512) (omega arith) (ap (λ (w : List ℕ). get_or w 0 0) e) in
    let b = c.digit-2.ensures.value (mode / 64 % 8) (omega arith) (ap (λ (w : List ℕ). get_or w 1 0) e) in
    let d = c.digit-3.ensures.value (mode / 8 % 8) (omega arith) (ap (λ (w : List ℕ). get_or w 2 0) e) in
    let f = c.digit-4.ensures.value (mode % 8) (omega arith) (ap (λ (w : List ℕ). get_or w 3 0) e) in
    omega (arith, a, b, d, f)
