use Rattle.std.proofs.Common.{◌≢◌, ℕ, List, length, refl, ap, sym, arith}
use Rattle.std.proofs.lemmas.Bool.{eqb-true}
use Rattle.std.proofs.lemmas.Grind.{common_steps}
use Rattle.std.proofs.lemmas.List.{nil_from_length}
use Rattle.wal.proofs.Adding.{part_some, parts_all, parts_more, parts_none, rest_cut}
use Rattle.wal.proofs.print_entry.put_parts.Goals as goal

pub loop-init : goal.loop-init
loop-init c = record { sum = refl; partly = λ at. parts_none c.args.path.now c.args.offset c.args.bytes.now at c.args.text.now.items }

pub returns-then-is_empty : goal.returns-then-is_empty
returns-then-is_empty c = λ at.
    let part : List ℕ = c.split_at.result.0.now in
    let behind : List ℕ = c.split_at.result.1.now in
    parts_all c.args.path.now c.args.offset c.args.bytes.now at c.loop.from c.loop.rest.now part behind c.args.text.now.items c.loop.text.items c.put_write.new.text.items
    (c.loop.invariant.partly at) (rest_cut c.loop.rest.now part behind _ c.split_at.ensures.front c.split_at.ensures.back) (c.in_ok-put_write.ensures at)
    (part_some c.loop.rest.now part c.min.result c.split_at.ensures.front (λ some. omega (arith, some, c.min.ensures)))
    (nil_from_length behind (eqb-true _ _ (sym c.if-is_empty.ensures)))

pub loop-preserved : goal.loop-preserved
loop-preserved c = record {
  sum = omega (arith, c.loop.invariant.sum, c.split_at.ensures.front_len, c.split_at.ensures.back_len);
  partly = λ at.
      let part : List ℕ = c.split_at.result.0.now in
      let behind : List ℕ = c.split_at.result.1.now in
      parts_more c.args.path.now c.args.offset c.args.bytes.now at c.loop.from c.loop.rest.now part behind c.args.text.now.items c.loop.text.items c.put_write.new.text.items
      (c.loop.invariant.partly at) (rest_cut c.loop.rest.now part behind _ c.split_at.ensures.front c.split_at.ensures.back) (c.in_ok-put_write.ensures at)
      (part_some c.loop.rest.now part c.min.result c.split_at.ensures.front (λ some. omega (arith, some, c.min.ensures)))
      (λ none. let some : length behind ≢ 0 = grind (arith, common_steps, c.if-is_empty.ensures) in some (ap length none));
}
