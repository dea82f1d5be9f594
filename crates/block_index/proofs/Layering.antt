-- Layers over a block: the order in which they are applied, the effect of a cut on them, and where their bytes are.
use Rattle.std.proofs.Common.{◌≡◌, ℕ, ◌+◌, ◌-◌, ◌<◌, ◌≤◌, min, max, List, [], ◌∷◌, ◌++◌, length, take, drop, map, get_or, sym, ap, refl, ◌∙◌, Option, None, Some, ◌⊎◌, inl, inr, ⊎_elim, arith, subst, add-one, length-append, length-take, length-drop}
use Rattle.std.proofs.lemmas.List.{ext_get_or, get_or-take, take-take, take-append-le, drop-append-le, drop_at, take_all, map-append}
use Rattle.std.proofs.lemmas.Bool.{cases_lt}
use Prim.Native.Nat.{zero, suc}
use Rattle.reference.specs.Tree.{over}
use Rattle.reference.specs.Indexes.{held, overlaid, shortened}
use Rattle.reference.proofs.Contents.{length-over}
use Rattle.reference.proofs.FileBlocks.{over_before, over_inside, over_after}
use Rattle.block_index.specs.Patches.{Overlay}
use Rattle.block_index.specs.Layers.{AreInside, Follows, Layered, clipped, cut_by, with_layers, layer_in, layered}
use Rattle.block_index.specs.declared.layer_data.Extent.{Extent}

-- ---- bytes over bytes

-- a position is among the n positions from a on, or not
inside_or : (a n x : ℕ) → ((a ≤ x) × (x < a + n)) ⊎ ((x < a) ⊎ (a + n ≤ x))
inside_or a n x = ⊎_elim
    (λ (h : x < a). inr (inl h))
    (λ (h : a ≤ x). ⊎_elim (λ (g : x < a + n). inl (h, g)) (λ (g : a + n ≤ x). inr (inr g)) (cases_lt x (a + n)))
    (cases_lt x a)

-- a byte that no layer overwrites
over_outside : (b : List ℕ) (off : ℕ) (w : List ℕ) (x : ℕ) → (x < off) ⊎ (off + length w ≤ x) → get_or (over b off w) x 0 ≡ get_or b x 0
over_outside b off w x h = ⊎_elim (λ (g : x < off). over_before b off w x g) (λ (g : off + length w ≤ x). over_after b off w x g) h

-- layers that do not touch can be applied in either order
pub over_swap : (b : List ℕ) (a : ℕ) (v : List ℕ) (c : ℕ) (w : List ℕ) → (a + length v < c) ⊎ (c + length w < a) → over (over b a v) c w ≡ over (over b c w) a v
over_swap b a v c w apart =
    let m : length (over b a v) ≡ max (length b) (a + length v) = length-over b a v in
    let l : length (over (over b a v) c w) ≡ max (length (over b a v)) (c + length w) = length-over (over b a v) c w in
    let n : length (over b c w) ≡ max (length b) (c + length w) = length-over b c w in
    let o : length (over (over b c w) a v) ≡ max (length (over b c w)) (a + length v) = length-over (over b c w) a v in
    ext_get_or 0 _ _ (omega arith) (λ x _. ⊎_elim
    (λ (i : (a ≤ x) × (x < a + length v)).
    over_outside (over b a v) c w x (⊎_elim (λ (g : a + length v < c). let r : x < c = omega (arith, i.0, i.1) in inl r) (λ (g : c + length w < a). let r : c + length w ≤ x = omega (arith, i.0, i.1) in inr r) apart)
    ∙ over_inside b a v x i.0 i.1
    ∙ sym (over_inside (over b c w) a v x i.0 i.1))
    (λ (i : (x < a) ⊎ (a + length v ≤ x)). ⊎_elim
    (λ (j : (c ≤ x) × (x < c + length w)). over_inside (over b a v) c w x j.0 j.1 ∙ sym (over_inside b c w x j.0 j.1) ∙ sym (over_outside (over b c w) a v x i))
    (λ (j : (x < c) ⊎ (c + length w ≤ x)). over_outside (over b a v) c w x j ∙ over_outside b a v x i ∙ sym (over_outside b c w x j) ∙ sym (over_outside (over b c w) a v x i))
    (inside_or c (length w) x))
    (inside_or a (length v) x))

-- the effect of a cut on bytes that were overwritten
take_over : (n : ℕ) (b : List ℕ) (off : ℕ) (w : List ℕ) → take n (over b off w) ≡ over (take n b) (min off n) (take (n - off) w)
take_over n b off w =
    let m : length (over b off w) ≡ max (length b) (off + length w) = length-over b off w in
    let l : length (take n (over b off w)) ≡ min n (length (over b off w)) = length-take n (over b off w) in
    let t : length (take n b) ≡ min n (length b) = length-take n b in
    let u : length (take (n - off) w) ≡ min (n - off) (length w) = length-take (n - off) w in
    let r : length (over (take n b) (min off n) (take (n - off) w)) ≡ max (length (take n b)) (min off n + length (take (n - off) w)) = length-over (take n b) (min off n) (take (n - off) w) in
    ext_get_or 0 _ _ (omega arith) (λ x h.
    let below : x < n = omega arith in
    get_or-take n (over b off w) x 0 below ∙ ⊎_elim
    (λ (i : (off ≤ x) × (x < off + length w)).
    let e : x - min off n ≡ x - off = omega (arith, i.0) in
    let from : min off n ≤ x = omega (arith, i.0) in
    let until : x < min off n + length (take (n - off) w) = omega (arith, i.0, i.1) in
    let short : x - off < n - off = omega (arith, i.0) in
    over_inside b off w x i.0 i.1
    ∙ sym (get_or-take (n - off) w (x - off) 0 short)
    ∙ ap (λ (y : ℕ). get_or (take (n - off) w) y 0) (sym e)
    ∙ sym (over_inside (take n b) (min off n) (take (n - off) w) x from until))
    (λ (i : (x < off) ⊎ (off + length w ≤ x)).
    over_outside b off w x i
    ∙ sym (get_or-take n b x 0 below)
    ∙ sym (over_outside (take n b) (min off n) (take (n - off) w) x (⊎_elim (λ (g : x < off). let r : x < min off n = omega arith in inl r) (λ (g : off + length w ≤ x). let r : min off n + length (take (n - off) w) ≤ x = omega arith in inr r) i)))
    (inside_or off (length w) x))

-- ---- layers

-- layers after others
pub with_layers-append : (ps qs : List Overlay) (old : Option (List ℕ)) → with_layers (ps ++ qs) old ≡ with_layers ps (with_layers qs old)
with_layers-append [] qs old = refl
with_layers-append (p ∷ ps) qs old = ap (overlaid p.off p.bytes) (with_layers-append ps qs old)

take_held : (n : ℕ) (o : Option (List ℕ)) → held (shortened n o) ≡ take n (held o)
take_held n None = sym (take_all n [] (omega arith))
take_held n (Some b) = refl

-- a cut after layers is one before the cut layers
pub shortened_applied : (n : ℕ) (ps : List Overlay) (old : Option (List ℕ)) → shortened n (with_layers ps old) ≡ with_layers (map (clipped n) ps) (shortened n old)
shortened_applied n [] old = refl
shortened_applied n (p ∷ ps) old =
    ap (λ (b : List ℕ). Some b) (take_over n (held (with_layers ps old)) p.off p.bytes ∙ ap (λ (b : List ℕ). over b (min p.off n) (take (n - p.off) p.bytes)) (sym (take_held n (with_layers ps old))))
    ∙ ap (overlaid (min p.off n) (take (n - p.off) p.bytes)) (shortened_applied n ps old)

-- the first bytes of the first
take_both : (m n : ℕ) (b : List ℕ) → take n (take m b) ≡ take (min m n) b
take_both m n b = ⊎_elim
    (λ (h : n < m). let e : n ≡ min m n = omega arith in take-take n m b (omega arith) ∙ ap (λ (k : ℕ). take k b) e)
    (λ (h : m ≤ n).
    let l : length (take m b) ≡ min m (length b) = length-take m b in
    let e : m ≡ min m n = omega arith in
    take_all n (take m b) (omega arith) ∙ ap (λ (k : ℕ). take k b) e)
    (cases_lt n m)

-- two cuts are one
pub shortened_twice : (m n : ℕ) (old : Option (List ℕ)) → shortened n (shortened m old) ≡ shortened (min m n) old
shortened_twice m n None = refl
shortened_twice m n (Some b) = ap (λ (c : List ℕ). Some c) (take_both m n b)

-- ---- where their bytes are

-- more bytes change no layer
pub layers_grow : (bs ws : List ℕ) (es : List Extent) → AreInside bs es → map (layer_in (bs ++ ws)) es ≡ map (layer_in bs) es
layers_grow bs ws [] inside = refl
layers_grow bs ws (e ∷ es) inside =
    let l : length (drop e.start bs) ≡ length bs - e.start = length-drop e.start bs in
    let f : e.start + e.len ≤ length bs = inside.0 in
    let one : take e.len (drop e.start (bs ++ ws)) ≡ take e.len (drop e.start bs) =
    ap (take e.len) (drop-append-le e.start bs ws (omega arith)) ∙ take-append-le e.len (drop e.start bs) ws (omega arith) in
    ap (λ (b : List ℕ). record { off = e.off; bytes = b } ∷ map (layer_in (bs ++ ws)) es) one ∙ ap (λ (ps : List Overlay). layer_in bs e ∷ ps) (layers_grow bs ws es inside.2)

pub inside_grow : (bs ws : List ℕ) (es : List Extent) → AreInside bs es → AreInside (bs ++ ws) es
inside_grow bs ws [] inside = tt
inside_grow bs ws (e ∷ es) inside =
    let l : length (bs ++ ws) ≡ length bs + length ws = length-append bs ws in
    let f : e.start + e.len ≤ length bs = inside.0 in
    (omega arith, inside.1, inside_grow bs ws es inside.2)

-- an extent after all others, and one before them
pub inside_push : (bs : List ℕ) (es : List Extent) (e : Extent) → AreInside bs es → e.start + e.len ≤ length bs → e.off + e.len ≤ 4096 → AreInside bs (es ++ e ∷ [])
inside_push bs [] e inside there fits = (there, fits, tt)
inside_push bs (f ∷ es) e inside there fits = (inside.0, inside.1, inside_push bs es e inside.2 there fits)

-- the layer of bytes that were appended to all others
pub layer_behind : (bs ws : List ℕ) (off start len : ℕ) → start ≡ length bs → len ≡ length ws → layer_in (bs ++ ws) (record { off = off; start = start; len = len }) ≡ record { off = off; bytes = ws }
layer_behind bs ws off start len s l = ap (λ (b : List ℕ). record { off = off; bytes = b }) (ap (take len) (drop_at bs ws start (sym s)) ∙ take_all len ws (omega arith))

-- one of them
pub inside_at : (bs : List ℕ) (es : List Extent) (i : ℕ) (d : Extent) → AreInside bs es → i < length es → ((get_or es i d).start + (get_or es i d).len ≤ length bs) × ((get_or es i d).off + (get_or es i d).len ≤ 4096)
inside_at bs [] i d inside h = absurd (omega arith)
inside_at bs (e ∷ es) zero d inside h = (inside.0, inside.1)
inside_at bs (e ∷ es) (suc i) d inside h = inside_at bs es i d inside.2 (omega arith)

-- a layer put below all others
pub pushed_inside : (bs : List ℕ) (es : List Extent) (run : List ℕ) (off start len : ℕ) (bs' : List ℕ) (es' : List Extent) → AreInside bs es → length bs + length run ≤ 4096 → off + length run ≤ 4096 → start ≡ length bs → len ≡ length run
    → bs' ≡ bs ++ run → es' ≡ es ++ record { off = off; start = start; len = len } ∷ [] → AreInside bs' es' × (length bs' ≤ 4096)
pushed_inside bs es run off start len bs' es' inside room fits s l eb ee =
    let m : length (bs ++ run) ≡ length bs + length run = length-append bs run in
    subst (λ (b : List ℕ). AreInside b es' × (length b ≤ 4096)) (sym eb)
    (subst (λ (e : List Extent). AreInside (bs ++ run) e × (length (bs ++ run) ≤ 4096)) (sym ee) (inside_push (bs ++ run) es (record { off = off; start = start; len = len }) (inside_grow bs run es inside) (omega arith) (omega arith), omega arith))

pub pushed_layers : (bs : List ℕ) (es : List Extent) (run : List ℕ) (off start len : ℕ) (bs' : List ℕ) (es' : List Extent) → AreInside bs es → start ≡ length bs → len ≡ length run
    → bs' ≡ bs ++ run → es' ≡ es ++ record { off = off; start = start; len = len } ∷ [] → map (layer_in bs') es' ≡ map (layer_in bs) es ++ record { off = off; bytes = run } ∷ []
pushed_layers bs es run off start len bs' es' inside s l eb ee =
    ap (λ (b : List ℕ). map (layer_in b) es') eb ∙ ap (map (layer_in (bs ++ run))) ee
    ∙ map-append (layer_in (bs ++ run)) es (record { off = off; start = start; len = len } ∷ [])
    ∙ ap (λ (ps : List Overlay). ps ++ layer_in (bs ++ run) (record { off = off; start = start; len = len }) ∷ []) (layers_grow bs run es inside)
    ∙ ap (λ (p : Overlay). map (layer_in bs) es ++ p ∷ []) (layer_behind bs run off start len s l)

-- and one put above them
pub topped_inside : (bs : List ℕ) (es : List Extent) (run : List ℕ) (off start len : ℕ) (bs' : List ℕ) (es' : List Extent) → AreInside bs es → length bs + length run ≤ 4096 → off + length run ≤ 4096 → start ≡ length bs → len ≡ length run
    → bs' ≡ bs ++ run → es' ≡ record { off = off; start = start; len = len } ∷ es → AreInside bs' es' × (length bs' ≤ 4096)
topped_inside bs es run off start len bs' es' inside room fits s l eb ee =
    let m : length (bs ++ run) ≡ length bs + length run = length-append bs run in
    subst (λ (b : List ℕ). AreInside b es' × (length b ≤ 4096)) (sym eb)
    (subst (λ (e : List Extent). AreInside (bs ++ run) e × (length (bs ++ run) ≤ 4096)) (sym ee) ((omega arith, omega arith, inside_grow bs run es inside), omega arith))

pub topped_layers : (bs : List ℕ) (es : List Extent) (run : List ℕ) (off start len : ℕ) (bs' : List ℕ) (es' : List Extent) → AreInside bs es → start ≡ length bs → len ≡ length run
    → bs' ≡ bs ++ run → es' ≡ record { off = off; start = start; len = len } ∷ es → map (layer_in bs') es' ≡ record { off = off; bytes = run } ∷ map (layer_in bs) es
topped_layers bs es run off start len bs' es' inside s l eb ee =
    ap (λ (b : List ℕ). map (layer_in b) es') eb ∙ ap (map (layer_in (bs ++ run))) ee
    ∙ ap (λ (ps : List Overlay). layer_in (bs ++ run) (record { off = off; start = start; len = len }) ∷ ps) (layers_grow bs run es inside)
    ∙ ap (λ (p : Overlay). p ∷ map (layer_in bs) es) (layer_behind bs run off start len s l)

-- one of them, and those below it
pub layer_there : (bs : List ℕ) (es : List Extent) (i : ℕ) (d : Extent) → i < length es → drop i (map (layer_in bs) es) ≡ layer_in bs (get_or es i d) ∷ drop (i + 1) (map (layer_in bs) es)
layer_there bs [] i d h = absurd (omega arith)
layer_there bs (e ∷ es) zero d h = refl
layer_there bs (e ∷ es) (suc i) d h = layer_there bs es i d (omega arith) ∙ ap (λ (n : ℕ). layer_in bs (get_or es i d) ∷ drop n (map (layer_in bs) es)) (add-one i) ∙ ap (λ (n : ℕ). layer_in bs (get_or es i d) ∷ drop n (layer_in bs e ∷ map (layer_in bs) es)) (sym (add-one (suc i)))

-- ---- one that is removed

module _ {A B : Type 0} (f : A → B) where
  -- those before it, and those after it
  before_taken : (xs : List A) (i : ℕ) → i < length xs → take i (map f (take i xs ++ drop (suc i) xs)) ≡ take i (map f xs)
  before_taken [] i h = absurd (omega arith)
  before_taken (x ∷ xs) zero h = refl
  before_taken (x ∷ xs) (suc i) h = ap (λ (ys : List B). f x ∷ ys) (before_taken xs i (omega arith))

  behind_taken : (xs : List A) (i : ℕ) → i < length xs → drop i (map f (take i xs ++ drop (suc i) xs)) ≡ drop (suc i) (map f xs)
  behind_taken [] i h = absurd (omega arith)
  behind_taken (x ∷ xs) zero h = refl
  behind_taken (x ∷ xs) (suc i) h = behind_taken xs i (omega arith)

  pub others_taken : (xs ys : List A) (i : ℕ) → i < length xs → ys ≡ take i xs ++ drop (i + 1) xs → (take i (map f ys) ≡ take i (map f xs)) × (drop i (map f ys) ≡ drop (i + 1) (map f xs))
  others_taken xs ys i h e =
      let is : ys ≡ take i xs ++ drop (suc i) xs = e ∙ ap (λ (n : ℕ). take i xs ++ drop n xs) (add-one i) in
      (ap (λ (zs : List A). take i (map f zs)) is ∙ before_taken xs i h, ap (λ (zs : List A). drop i (map f zs)) is ∙ behind_taken xs i h ∙ ap (λ (n : ℕ). drop n (map f xs)) (sym (add-one i)))

inside_others : (bs : List ℕ) (es : List Extent) (i : ℕ) → AreInside bs es → AreInside bs (take i es ++ drop (suc i) es)
inside_others bs [] zero inside = tt
inside_others bs [] (suc i) inside = tt
inside_others bs (e ∷ es) zero inside = inside.2
inside_others bs (e ∷ es) (suc i) inside = (inside.0, inside.1, inside_others bs es i inside.2)

pub inside_taken : (bs : List ℕ) (es fs : List Extent) (i : ℕ) → AreInside bs es → fs ≡ take i es ++ drop (i + 1) es → AreInside bs fs
inside_taken bs es fs i inside e = subst (AreInside bs) (sym (e ∙ ap (λ (n : ℕ). take i es ++ drop n es) (add-one i))) (inside_others bs es i inside)

-- the first ones and the next
next_one : {A : Type 0} (xs : List A) (i : ℕ) (x : A) (ys : List A) → drop i xs ≡ x ∷ ys → take (suc i) xs ≡ take i xs ++ x ∷ []
next_one [] zero x ys e = absurd (cc)
next_one [] (suc i) x ys e = absurd (cc)
next_one (y ∷ xs) zero x ys e = cc
next_one {A = A} (y ∷ xs) (suc i) x ys e = ap (λ (zs : List A). y ∷ zs) (next_one xs i x ys e)

-- layers below which one is inserted that does not touch the next one
pub applied_past : (ps : List Overlay) (i : ℕ) (p : Overlay) (rest : Option (List ℕ) → Option (List ℕ)) (old : Option (List ℕ)) → drop i ps ≡ p ∷ drop (i + 1) ps
    → with_layers (take (i + 1) ps) (rest old) ≡ with_layers (take i ps) (overlaid p.off p.bytes (rest old))
applied_past ps i p rest old e =
    ap (λ (qs : List Overlay). with_layers qs (rest old)) (ap (λ (n : ℕ). take n ps) (add-one i) ∙ next_one ps i p (drop (i + 1) ps) e) ∙ with_layers-append (take i ps) (p ∷ []) (rest old)

-- ---- several updates as one

-- what a cut makes of no block
cut_none : (cut : Option ℕ) → cut_by cut None ≡ None
cut_none None = refl
cut_none (Some n) = refl

-- layers and then a cut
pub cut_follows : (self l first : Layered) (n k : ℕ) (ps : List Overlay) → ps ≡ self.layers → first ≡ record { cut = Some k; layers = [] } → ((old : Option (List ℕ)) → shortened k old ≡ shortened n (cut_by self.cut old))
    → (l.cut ≡ first.cut) × ((old : Option (List ℕ)) → with_layers l.layers old ≡ with_layers (map (clipped n) ps) (with_layers first.layers old)) → Follows (shortened n) self l
cut_follows self l first n k ps layers empty cuts h old =
    h.1 (cut_by l.cut old)
    ∙ ap (λ (qs : List Overlay). with_layers (map (clipped n) ps) (with_layers qs (cut_by l.cut old))) (ap (λ (f : Layered). f.layers) empty)
    ∙ ap (λ (cut : Option ℕ). with_layers (map (clipped n) ps) (cut_by cut old)) (h.0 ∙ ap (λ (f : Layered). f.cut) empty)
    ∙ ap (with_layers (map (clipped n) ps)) (cuts old)
    ∙ sym (shortened_applied n ps (cut_by self.cut old))
    ∙ ap (λ (qs : List Overlay). shortened n (with_layers qs (cut_by self.cut old))) layers

-- layers within the block are cut only by its end
pub clipped_inside : (bs : List ℕ) (es : List Extent) → AreInside bs es → map (clipped 4096) (map (layer_in bs) es) ≡ map (layer_in bs) es
clipped_inside bs [] inside = refl
clipped_inside bs (e ∷ es) inside =
    let l : length (take e.len (drop e.start bs)) ≡ min e.len (length (drop e.start bs)) = length-take e.len (drop e.start bs) in
    let f : e.off + e.len ≤ 4096 = inside.1 in
    let o : min e.off 4096 ≡ e.off = omega arith in
    ap (λ (n : ℕ). record { off = n; bytes = take (4096 - e.off) (take e.len (drop e.start bs)) } ∷ map (clipped 4096) (map (layer_in bs) es)) o
    ∙ ap (λ (b : List ℕ). record { off = e.off; bytes = b } ∷ map (clipped 4096) (map (layer_in bs) es)) (take_all (4096 - e.off) (take e.len (drop e.start bs)) (omega arith))
    ∙ ap (λ (ps : List Overlay). layer_in bs e ∷ ps) (clipped_inside bs es inside.2)

-- layers and then others
pub applied_follows : (self later l first : Layered) (ps : List Overlay) → ps ≡ later.layers → ((old : Option (List ℕ)) → layered first old ≡ cut_by later.cut (layered self old))
    → (l.cut ≡ first.cut) × ((old : Option (List ℕ)) → with_layers l.layers old ≡ with_layers ps (with_layers first.layers old)) → Follows (layered later) self l
applied_follows self later l first ps layers below h old =
    h.1 (cut_by l.cut old)
    ∙ ap (λ (cut : Option ℕ). with_layers ps (with_layers first.layers (cut_by cut old))) h.0
    ∙ ap (with_layers ps) (below old)
    ∙ ap (λ (qs : List Overlay). with_layers qs (cut_by later.cut (layered self old))) layers

-- the bytes of a block that is there
pub applied_some : (ps : List Overlay) (b : List ℕ) → Some (held (with_layers ps (Some b))) ≡ with_layers ps (Some b)
applied_some [] b = refl
applied_some (p ∷ ps) b = refl

-- and of one that a layer makes
pub applied_made : (bs : List ℕ) (es : List Extent) (o : Option (List ℕ)) → (length es ≡ 0 → ⊥) → Some (held (with_layers (map (layer_in bs) es) o)) ≡ with_layers (map (layer_in bs) es) o
applied_made bs [] o some = absurd (some refl)
applied_made bs (e ∷ es) o some = refl

pub held_none : (cut : Option ℕ) → held (cut_by cut None) ≡ []
held_none cut = ap held (cut_none cut)
