-- Edits that are handed out.
use Rattle.std.proofs.Common.{◌≡◌, ℕ, ◌+◌, ◌-◌, ◌≤◌, min, List, ◌++◌, length, take, drop, refl, sym, ap, subst, ◌∙◌, arith, Option, Some, length-drop, length-take-le, take-append-drop}
use Rattle.std.proofs.lemmas.List.{drop-append-le, drop_all, take-append-le, take_all}
use Rattle.std.specs.Global.{Vec}
use Rattle.images.specs.Printings.{HandsOver}
use Rattle.volume.specs.declared.fs_root.FsRoot.{FsRoot}
use Rattle.delta.specs.Printers.{HandsOn, IsText, text_items}

-- the next bytes of a text
pub piece_handed : (text : List ℕ) (handed count : ℕ) (old piece : List ℕ) → handed ≤ length text → count ≡ min (length text - handed) (length old) → piece ≡ take count (drop handed text) → HandsOver text handed count old (piece ++ drop count old)
piece_handed text handed count old piece fits few is = record {
  front = take handed text;
  back = drop count (drop handed text);
  split = sym (take-append-drop handed text) ∙ ap (λ (x : List ℕ). take handed text ++ x) (sym (take-append-drop count (drop handed text)) ∙ ap (λ (x : List ℕ). x ++ drop count (drop handed text)) (sym is ∙ sym all));
  at = length-take-le handed text fits;
  fits = omega (arith, few);
  rest = drop-append-le count piece (drop count old) (omega (arith, size)) ∙ ap (λ (x : List ℕ). x ++ drop count old) (drop_all count piece (omega (arith, size)));
  end = λ none some. drop_all count (drop handed text) (omega (arith, length-drop handed text, few, none, some));
}
  where
    size : length piece ≡ count
    size = ap length is ∙ length-take-le count (drop handed text) (omega (arith, length-drop handed text, few))

    all : take count (piece ++ drop count old) ≡ piece
    all = take-append-le count piece (drop count old) (omega (arith, size)) ∙ take_all count piece (omega (arith, size))

-- of the text that was printed
pub handed_on : (from to : FsRoot) (o : Option (Vec ℕ)) (v : Vec ℕ) (handed count : ℕ) (old piece : List ℕ) → o ≡ Some v → IsText from to (text_items o) handed → count ≡ min (length v.items - handed) (length old) → piece ≡ take count (drop handed v.items)
    → HandsOn (record { from = from; to = to; text = text_items o; handed = handed }) count (record { from = from; to = to; text = text_items o; handed = handed + count }) old (piece ++ drop count old)
handed_on from to o v handed count old piece e text few is =
    let told : IsText from to (Some v.items) handed = subst (λ (x : Option (Vec ℕ)). IsText from to (text_items x) handed) e text in
    record {
      text = v.items;
      are = told.1;
      same = subst (λ (x : Option (Vec ℕ)). Rattle.std.specs.Prelude.IfSome (text_items x) (λ y. y ≡ v.items)) (sym e) refl;
      on = ap (λ (x : Option (Vec ℕ)). record { from = from; to = to; text = text_items x; handed = handed + count }) e;
      piece = piece_handed v.items handed count old piece told.0 few is;
    }
