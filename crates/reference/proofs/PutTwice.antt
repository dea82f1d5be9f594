-- What is put twice at a path is there as it was put the second time.
use Rattle.std.proofs.Common.{◌≡◌, [], ◌∷◌, refl, ap, ◌∙◌, Option, Some, None, Ordering}
use Rattle.std.specs.Prelude.{option_map}
use Rattle.std.specs.declared.cmp.Ordering.TheVariants.{Less, Equal, Greater}
use Rattle.pathkey.proofs.OrderFacts.{tied}
use Rattle.reference.specs.Tree.{Name, Path, by_bytes, by_order, Tree, Dir, File, Entries, nothing, entry, named, put, take_out, set_entry, edited}
use Rattle.reference.proofs.Edits.{named-put_same, named-take_out_same, take_out_absent}

one_name : (n : Name) (x y : Tree) (es : Entries) → put n y (put n x es) ≡ put n y es
one_name n x y nothing = ap (λ (o : Ordering). by_order o (entry n y (entry n x nothing)) (entry n y nothing) (entry n x (put n y nothing))) (tied n)
one_name n x y (entry m z rest) =
    elim (by_bytes n m) as (λ o. by_bytes n m ≡ o → put n y (by_order o (entry n x (entry m z rest)) (entry n x rest) (entry m z (put n x rest))) ≡ by_order o (entry n y (entry m z rest)) (entry n y rest) (entry m z (put n y rest))) [
      | Less ↦ λ e. ap (λ (o : Ordering). by_order o (entry n y (entry n x (entry m z rest))) (entry n y (entry m z rest)) (entry n x (put n y (entry m z rest)))) (tied n)
      | Equal ↦ λ e. ap (λ (o : Ordering). by_order o (entry n y (entry n x rest)) (entry n y rest) (entry n x (put n y rest))) (tied n)
      | Greater ↦ λ e. ap (λ (o : Ordering). by_order o (entry n y (entry m z (put n x rest))) (entry n y (put n x rest)) (entry m z (put n y (put n x rest)))) e ∙ ap (λ (es : Entries). entry m z es) (one_name n x y rest)
    ] refl

pub put_twice : (t : Tree) (p : Path) (x y : Tree) → edited (edited t p (Some x)) p (Some y) ≡ edited t p (Some y)
put_twice t [] x y = refl
put_twice (File date b) (n ∷ p) x y = refl
put_twice (Dir date es) (n ∷ []) x y = ap (Dir date) (one_name n x y es)
put_twice (Dir date es) (n ∷ m ∷ p) x y =
    elim (named n es) as (λ o. edited (Dir date (set_entry n (option_map (λ z. edited z (m ∷ p) (Some x)) o) es)) (n ∷ m ∷ p) (Some y) ≡ Dir date (set_entry n (option_map (λ z. edited z (m ∷ p) (Some y)) o) es)) [
      | None ↦
          ap (λ (o : Option Tree). Dir date (set_entry n (option_map (λ w. edited w (m ∷ p) (Some y)) o) (take_out n es))) (named-take_out_same n es)
          ∙ ap (Dir date) (take_out_absent n (take_out n es) (named-take_out_same n es))
      | Some z ↦
          ap (λ (o : Option Tree). Dir date (set_entry n (option_map (λ w. edited w (m ∷ p) (Some y)) o) (put n (edited z (m ∷ p) (Some x)) es))) (named-put_same n (edited z (m ∷ p) (Some x)) es)
          ∙ ap (λ (w : Tree). Dir date (put n w (put n (edited z (m ∷ p) (Some x)) es))) (put_twice z (m ∷ p) x y)
          ∙ ap (Dir date) (one_name n (edited z (m ∷ p) (Some x)) (edited z (m ∷ p) (Some y)) es)
    ]
