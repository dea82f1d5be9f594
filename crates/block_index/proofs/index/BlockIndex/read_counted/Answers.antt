use Rattle.std.proofs.Common.{◌≡◌, ℕ, ◌+◌, ◌-◌, ◌*◌, ◌/◌, ◌<◌, ◌≤◌, ◌^◌, min, List, Option, ap, sym, ◌∙◌, arith}
use Rattle.std.proofs.Math.Nat.{mul-div-le}
use Rattle.pathkey.specs.Keys.{Key}
use Rattle.reference.specs.Indexes.{byte_of}
use Rattle.block_index.specs.Means.{blocks}
use Rattle.block_index.proofs.Reading.{read_starts, read_goes_on, read_ends, read_none, counted_to, no_blocks}
use Rattle.block_index.proofs.index.BlockIndex.read_counted.Goals as goal

pub each-init : goal.each-init
each-init c = record {
  read = λ t b m lk e. read_starts b c.args.off c.min-end.result (c.args.off / 4096) c.in_ok-bytes.bytes.items (mul-div-le c.args.off 4096) c.in_ok-bytes.ensures.items;
  counted = omega arith;
}

pub each-preserved : goal.each-preserved
each-preserved c = record {
  counted = omega (arith, c.each.invariant.counted);
  read = λ t b m lk e.
      let a : c.args.off / 4096 ≤ c.each.index = c.each.auto.index in
      let w : c.each.index < (c.min-end.result - 1) / 4096 + 1 = c.each-test.true in
      let g : c.args.off < c.min-end.result = c.if-end-off.false in
      let s : c.args.len ≤ 2 ^ 40 = c.requires.short in
      let k : c.min-end.result ≡ min c.saturating_add.result c.args.len = c.min-end.ensures in
      let from : c.saturating_sub-from.result ≡ c.args.off - c.each.index * 4096 = c.saturating_sub-from.ensures in
      let to : c.min-to.result ≡ min (c.min-end.result - c.each.index * 4096) 4096 = c.min-to.ensures in
      let h2 : 4096 * c.each.index < c.min-end.result = omega (arith, w, g) in
      let few : c.each.index < 268435456 = omega (arith, h2, k, s) in
      read_goes_on b c.args.off c.min-end.result c.each.index c.saturating_sub-from.result c.min-to.result c.in_ok-block.block c.bytes_of.result.now c.each.bytes.items c.append.new.bytes.items c.bytes_of.ensures
      (λ j lj. ap (λ (o : Option (List ℕ)). byte_of o j) (c.in_ok-block.ensures ∙ ap (λ (q : Key). blocks c.args.self.now q) c.in_ok-key.ensures) ∙ (m.blocks c.args.path.now b c.key-key.ensures.valid lk).byte c.each.index j few lj)
      (omega (arith, a)) h2 g (omega (arith, from)) (omega (arith, to))
      c.in_ok-append.ensures.long c.in_ok-append.ensures.before c.in_ok-append.ensures.added (c.each.invariant.read t b m lk e);
}

pub returns-clause-read : goal.returns-clause-read
returns-clause-read c = λ t b m lk e.
    let g : c.args.off < c.min-end.result = c.if-end-off.false in
    let w : (c.min-end.result - 1) / 4096 + 1 ≤ c.each.index = c.each-test.false in
    let k : c.min-end.result ≡ min c.saturating_add.result c.args.len = c.min-end.ensures in
    let s : c.args.len ≤ 2 ^ 40 = c.requires.short in
    let z = c.saturating_add.ensures in
    read_ends b c.args.off c.args.n c.args.len c.min-end.result c.each.index c.each.bytes.items e (omega (arith, k, s, z)) g (omega (arith, w, g)) (c.each.invariant.read t b m lk e)

pub returns-then-end-off-clause-read : goal.returns-then-end-off-clause-read
returns-then-end-off-clause-read c = λ t b m lk e.
    let k : c.min-end.result ≡ min c.saturating_add.result c.args.len = c.min-end.ensures in
    let s : c.args.len ≤ 2 ^ 40 = c.requires.short in
    let z = c.saturating_add.ensures in
    read_none b c.args.off c.args.n c.args.len c.min-end.result c.new.result.items e (omega (arith, k, s, z)) c.if-end-off.true c.new.ensures.items

pub returns-clause-counted : goal.returns-clause-counted
returns-clause-counted c =
    let g : c.args.off < c.min-end.result = c.if-end-off.false in
    let w : (c.min-end.result - 1) / 4096 + 1 ≤ c.each.index = c.each-test.false in
    let v : c.each.index ≤ (c.min-end.result - 1) / 4096 + 1 = c.each.auto.index-end (omega (arith, g)) in
    let k : c.min-end.result ≡ min c.saturating_add.result c.args.len = c.min-end.ensures in
    let end : c.min-end.result ≡ min (c.args.off + c.args.n) c.args.len = omega (arith, k, c.requires.short, c.saturating_add.ensures) in
    counted_to c.args.off c.min-end.result (min (c.args.off + c.args.n) c.args.len) c.each.index c.each.searches g end (omega (arith, w, v)) c.each.invariant.counted

pub returns-clause-few : goal.returns-clause-few
returns-clause-few c = λ small.
    let g : c.args.off < c.min-end.result = c.if-end-off.false in
    let v : c.each.index ≤ (c.min-end.result - 1) / 4096 + 1 = c.each.auto.index-end (omega (arith, g)) in
    let k : c.min-end.result ≡ min c.saturating_add.result c.args.len = c.min-end.ensures in
    let near : c.min-end.result ≤ c.args.off + 1048576 = omega (arith, k, small, c.saturating_add.ensures) in
    omega (arith, g, v, near, c.each.invariant.counted)

pub returns-then-end-off-clause-counted : goal.returns-then-end-off-clause-counted
returns-then-end-off-clause-counted c =
    let k : c.min-end.result ≡ min c.saturating_add.result c.args.len = c.min-end.ensures in
    let past : min (c.args.off + c.args.n) c.args.len ≤ c.args.off = omega (arith, k, c.if-end-off.true, c.requires.short, c.saturating_add.ensures) in
    sym (no_blocks c.args.off (min (c.args.off + c.args.n) c.args.len) past)
