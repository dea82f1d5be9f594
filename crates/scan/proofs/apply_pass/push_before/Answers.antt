use Rattle.std.proofs.Common.{◌∷◌, [], arith, ap, refl, sym, subst, length, length-append}
use Rattle.std.specs.Option.{option_copied}
use Rattle.scan.specs.Merging.{IsMoved}
use Rattle.scan.proofs.Merging.{moving_start, moving_on, moving_full, moving_over}
use Rattle.scan.proofs.apply_pass.push_before.Goals as goal

pub moves-init : goal.moves-init
moves-init g c = record {
  count = refl;
  moving = λ f lo hi s. moving_start f lo hi (option_copied c.args.stop) c.args.limit c.args.pairs.now.items c.args.rest.now.items s;
}

pub moves-preserved : goal.moves-preserved
moves-preserved g c =
    let p = c.in-Some.pair in
    let e = c.in-Some.ensures.some.0 in
    let n = c.in_ok-push.ensures.items in
    record {
      count = omega (arith, c.moves.invariant.count, ap length e, ap length n, length-append c.moves.pairs.items (p ∷ []));
      moving = λ f lo hi s. moving_on f lo hi (option_copied c.args.stop) c.args.limit c.args.pairs.now.items c.moves.pairs.items c.moves.rest.items (c.moves.invariant.moving f lo hi s) p c.push.new.self.items c.pop_before.new.rest.items e c.in-Some.ensures.some.1 (omega (arith, c.len.ensures, c.moves.pairs.ok.0, c.moves-test.true)) n;
    }

pub moves-smaller : goal.moves-smaller
moves-smaller g c = omega (arith, ap length c.in-Some.ensures.some.0)

pub returns-in_default : goal.returns-in_default
returns-in_default g c =
    let e = c.in_default.ensures.none.0 in
    record {
      count = omega (arith, c.moves.invariant.count, ap length e);
      moved = λ f lo hi s inside. subst (λ ps. IsMoved f lo hi (option_copied c.args.stop) c.args.limit c.args.pairs.now.items c.moves.pairs.items ps) (sym e) (moving_over f lo hi (option_copied c.args.stop) c.args.limit c.args.pairs.now.items c.moves.pairs.items c.moves.rest.items (c.moves.invariant.moving f lo hi s) c.in_default.ensures.none.1 inside);
    }

pub returns : goal.returns
returns g c = record {
  count = c.moves.invariant.count;
  moved = λ f lo hi s inside. moving_full f lo hi (option_copied c.args.stop) c.args.limit c.args.pairs.now.items c.moves.pairs.items c.moves.rest.items (c.moves.invariant.moving f lo hi s) (omega (arith, c.len.ensures, c.moves.pairs.ok.0, c.moves-test.false));
}
