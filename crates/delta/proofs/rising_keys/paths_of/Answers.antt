use Rattle.std.proofs.Common.{arith, subst, sym}
use Rattle.std.proofs.lemmas.List.Elements.{Contains-get_or}
use Rattle.std.specs.List.{Contains}
use Rattle.pathkey.specs.Keys.{Key}
use Rattle.pathkey.specs.PathKeys.{IsPathOf}
use Rattle.reference.specs.Indexes.{PathOf}
use Rattle.delta.proofs.rising_keys.paths_of.Goals as goal

pub unreachable-requires : goal.unreachable-requires
unreachable-requires c =
    let ks = c.args.keys.now in
    let i = c.loop-key.key-index in
    let k = c.key-item.result in
    let p : PathOf k = c.requires k (subst (λ (x : Key). Contains ks x) (sym c.key-item.is) (Contains-get_or ks i k (omega arith))) in
    let none : IsPathOf k _ = c.in_ok-path.ensures in
    (subst (IsPathOf k) c.in_default.is none) p.path p.is_path (sym p.key)
