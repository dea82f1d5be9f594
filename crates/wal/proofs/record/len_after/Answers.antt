use Rattle.std.proofs.Common.{◌≡◌, ◌≢◌, ℕ, List, ◌++◌, eqb, inl, inr, rules, ap, sym, ◌∙◌, arith, length}
use Rattle.std.proofs.lemmas.Slice.Eq.{strip_prefix_is}
use Rattle.std.proofs.lemmas.Option.{MatchOption-at_none, MatchOption-at_some}
use Rattle.std.proofs.lemmas.Bool.Decides.{Decides-eqb}
use Rattle.std.proofs.lemmas.Grind.{common_steps}
use Rattle.wal.specs.Entries.{word}
use Rattle.wal.proofs.Logs.{front_parts, is_front, no_length, no_number, not_so}
use Rattle.wal.proofs.record.len_after.Goals as goal
use Rattle.wal.proofs.record.len_after.Goals.{then-found-number-via-then-found-number, then-found-number-via-else-found-number+then-not-is_empty}

pub returns-in_default-split_u64 : goal.returns-in_default-split_u64
returns-in_default-split_u64 c =
    let begins = MatchOption-at_some _ _ _ c.in-Some.is (strip_prefix_is {E = eqb} Decides-eqb c.args.bytes.now c.magic.result.now c.strip_prefix.result c.strip_prefix.ensures.cases) ∙ ap (λ (m : List ℕ). m ++ c.in-Some.rest.now) c.magic.ensures in
    no_number c.args.salt.now c.args.bytes.now c.in-Some.rest.now c.args.number begins c.in_default-split_u64.ensures

pub returns-in_default-split_u64-2 : goal.returns-in_default-split_u64-2
returns-in_default-split_u64-2 c =
    let begins = MatchOption-at_some _ _ _ c.in-Some.is (strip_prefix_is {E = eqb} Decides-eqb c.args.bytes.now c.magic.result.now c.strip_prefix.result c.strip_prefix.ensures.cases) ∙ ap (λ (m : List ℕ). m ++ c.in-Some.rest.now) c.magic.ensures in
    no_length c.args.salt.now c.args.bytes.now c.in-Some.rest.now c.args.number begins c.in-Some-split_u64.found c.in-Some-split_u64.rest.now c.in-Some-split_u64.ensures.0 c.in_default-split_u64-2.ensures

pub returns-then-found-number : goal.returns-then-found-number
returns-then-found-number c =
    let begins = MatchOption-at_some _ _ _ c.in-Some.is (strip_prefix_is {E = eqb} Decides-eqb c.args.bytes.now c.magic.result.now c.strip_prefix.result c.strip_prefix.ensures.cases) ∙ ap (λ (m : List ℕ). m ++ c.in-Some.rest.now) c.magic.ensures in
    not_so c.args.salt.now c.args.bytes.now c.in-Some.rest.now c.args.number begins c.in-Some-split_u64.found c.in-Some-split_u64-2.len c.in-Some-split_u64.rest.now c.in-Some-split_u64-2.rest.now
    (search rules) c.in-Some-split_u64.ensures.1 c.in-Some-split_u64-2.ensures.1 c.in-Some-split_u64.ensures.0 c.in-Some-split_u64-2.ensures.0
    (elim c.then-found-number.branch [
      | then-found-number-via-then-found-number w ↦ inl (w.if-found-number.true)
      | then-found-number-via-else-found-number+then-not-is_empty w ↦ (let some : length c.in-Some-split_u64-2.rest.now ≢ 0 = grind (arith, common_steps) in inr some)
    ])

pub returns : goal.returns
returns c =
    let begins = MatchOption-at_some _ _ _ c.in-Some.is (strip_prefix_is {E = eqb} Decides-eqb c.args.bytes.now c.magic.result.now c.strip_prefix.result c.strip_prefix.ensures.cases) ∙ ap (λ (m : List ℕ). m ++ c.in-Some.rest.now) c.magic.ensures in (
      is_front c.args.salt.now c.args.bytes.now c.in-Some.rest.now c.args.number begins c.in-Some-split_u64.found c.in-Some-split_u64-2.len c.in-Some-split_u64.rest.now c.in-Some-split_u64-2.rest.now
          c.in-Some-split_u64.ensures.0 c.in-Some-split_u64-2.ensures.0 c.if-found-number.false (let none : length c.in-Some-split_u64-2.rest.now ≡ 0 = search rules in none),
      c.in-Some-split_u64-2.ensures.1,
    )

pub returns-in_default : goal.returns-in_default
returns-in_default c = λ len fits e.
    MatchOption-at_none _ _ c.in_default.is (strip_prefix_is {E = eqb} Decides-eqb c.args.bytes.now c.magic.result.now c.strip_prefix.result c.strip_prefix.ensures.cases)
    (word c.args.number ++ word len) (e ∙ front_parts c.args.salt.now c.args.number len ∙ ap (λ (m : List ℕ). m ++ (word c.args.number ++ word len)) (sym c.magic.ensures))
