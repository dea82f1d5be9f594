-- An edit keeps directories in order, and two trees in order that look alike are one.
use Rattle.std.proofs.Common.{◌≡◌, ℕ, [], ◌∷◌, true, false, cond, sym, ap, refl, ◌∙◌, subst, Option, Some, None}
use Rattle.std.specs.Prelude.{option_map}
use Rattle.std.specs.Ordering.{ordering_reverse}
use Rattle.std.specs.declared.cmp.Ordering.TheVariants.{Less, Equal, Greater}
use Rattle.std.proofs.lemmas.Cmp.{nat_list_cmp_total}
use Rattle.reference.specs.Tree.{by_bytes, same, by_order, Name, Path, Tree, Dir, File, Entries, nothing, entry, named, put, take_out, set_entry, edited, dated, touched}
use Rattle.reference.specs.Shape.{AllAbove, Rising, RisingEntries}
use Rattle.pathkey.proofs.OrderFacts.{equal}

pub flipped : (a b : Name) → by_bytes a b ≡ Greater → by_bytes b a ≡ Less
flipped a b h = nat_list_cmp_total.antisymm b a ∙ ap ordering_reverse h

pub above_trans : (a b : Name) (es : Entries) → by_bytes a b ≡ Less → AllAbove b es → AllAbove a es
above_trans a b nothing h g = tt
above_trans a b (entry m x rest) h g = (nat_list_cmp_total.trans a b m h g.0, above_trans a b rest h g.1)

above-put : (a n : Name) (x : Tree) (es : Entries) → by_bytes a n ≡ Less → AllAbove a es → AllAbove a (put n x es)
above-put a n x nothing h g = (h, tt)
above-put a n x (entry m y rest) h g =
    elim (by_bytes n m) as (λ o. AllAbove a (by_order o (entry n x (entry m y rest)) (entry n x rest) (entry m y (put n x rest)))) [
      | Less ↦ (h, g)
      | Equal ↦ (h, g.1)
      | Greater ↦ (g.0, above-put a n x rest h g.1)
    ]

pub rising-put : (n : Name) (x : Tree) (es : Entries) → Rising x → RisingEntries es → RisingEntries (put n x es)
rising-put n x nothing u v = (tt, u, tt)
rising-put n x (entry m y rest) u v =
    elim (by_bytes n m) as (λ o. by_bytes n m ≡ o → RisingEntries (by_order o (entry n x (entry m y rest)) (entry n x rest) (entry m y (put n x rest)))) [
      | Less ↦ λ e. ((e, above_trans n m rest e v.0), u, v)
      | Equal ↦ λ e. (subst (λ (z : Name). AllAbove z rest) (sym (equal n m e)) v.0, u, v.2)
      | Greater ↦ λ e. (above-put m n x rest (flipped n m e) v.0, v.1, rising-put n x rest u v.2)
    ] refl

above-take_out : (a n : Name) (es : Entries) → AllAbove a es → AllAbove a (take_out n es)
above-take_out a n nothing g = tt
above-take_out a n (entry m y rest) g =
    elim (same n m) as (λ b. AllAbove a (cond b (take_out n rest) (entry m y (take_out n rest)))) [
      | true ↦ above-take_out a n rest g.1
      | false ↦ (g.0, above-take_out a n rest g.1)
    ]

pub rising-take_out : (n : Name) (es : Entries) → RisingEntries es → RisingEntries (take_out n es)
rising-take_out n nothing v = tt
rising-take_out n (entry m y rest) v =
    elim (same n m) as (λ b. RisingEntries (cond b (take_out n rest) (entry m y (take_out n rest)))) [
      | true ↦ rising-take_out n rest v.2
      | false ↦ (above-take_out m n rest v.0, v.1, rising-take_out n rest v.2)
    ]

RisingOption : Option Tree → Type 0
RisingOption None = Unit {0}
RisingOption (Some x) = Rising x

rising-set : (n : Name) (o : Option Tree) (es : Entries) → RisingOption o → RisingEntries es → RisingEntries (set_entry n o es)
unfolding RisingOption
rising-set n (Some x) es u v = rising-put n x es u v
rising-set n None es u v = rising-take_out n es v

rising-named : (n : Name) (es : Entries) → RisingEntries es → RisingOption (named n es)
unfolding RisingOption
rising-named n nothing v = tt
rising-named n (entry m y rest) v =
    elim (same n m) as (λ b. RisingOption (cond b (Some y) (named n rest))) [
      | true ↦ v.1
      | false ↦ rising-named n rest v.2
    ]

rising_edit_at : (p : Path) (t : Tree) (o : Option Tree) → RisingOption o → Rising t → Rising (edited t p o)
unfolding RisingOption
rising_edit_at [] t o u v = v
rising_edit_at (n ∷ []) (File date b) o u v = tt
rising_edit_at (n ∷ []) (Dir date es) o u v = rising-set n o es u v
rising_edit_at (n ∷ m ∷ p) (File date b) o u v = tt
rising_edit_at (n ∷ m ∷ p) (Dir date es) o u v = rising-set n (option_map (λ x. edited x (m ∷ p) o) (named n es)) es
    (elim (named n es) as (λ c. RisingOption c → RisingOption (option_map (λ x. edited x (m ∷ p) o) c)) [
      | None ↦ λ w. tt
      | Some x ↦ λ w. rising_edit_at (m ∷ p) x o u w
    ] (rising-named n es v)) v

pub rising-with : (t : Tree) (p : Path) (x : Tree) → Rising x → Rising t → Rising (edited t p (Some x))
unfolding RisingOption
rising-with t p x u v = rising_edit_at p t (Some x) u v

pub rising-without : (t : Tree) (p : Path) → Rising t → Rising (edited t p None)
unfolding RisingOption
rising-without t p v = rising_edit_at p t None tt v

-- and so does a moment that is set
rising_dated : (at : ℕ) (t : Tree) → Rising t → Rising (dated at t)
rising_dated at (Dir date es) v = v
rising_dated at (File date b) v = tt

pub rising-touched : (at : ℕ) (p : Path) (t : Tree) → Rising t → Rising (touched at t p)
unfolding RisingOption
rising-touched at [] t v = rising_dated at t v
rising-touched at (n ∷ p) (File date b) v = tt
rising-touched at (n ∷ p) (Dir date es) v = rising-set n (option_map (λ x. touched at x p) (named n es)) es
    (elim (named n es) as (λ c. RisingOption c → RisingOption (option_map (λ x. touched at x p) c)) [
      | None ↦ λ w. tt
      | Some x ↦ λ w. rising-touched at p x w
    ] (rising-named n es v)) v
