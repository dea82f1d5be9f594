-- The messages of a walk: those of one key, and those of the next keys.
use Rattle.std.proofs.Common.{◌≡◌, ℕ, zero, suc, ◌+◌, ◌<◌, ◌≤◌, true, false, List, [], ◌∷◌, ◌++◌, length, take, drop, slice_get, refl, ap, sym, ◌∙◌, subst, Some, None, arith, length-append}
use Rattle.std.specs.declared.cmp.Ordering.TheVariants.{Less}
use Rattle.std.specs.Prelude.{◌||◌}
use Rattle.std.specs.Map.{keys_of}
use Rattle.std.specs.Option.{option_map}
use Rattle.std.specs.Ordering.{is_lt}
use Rattle.std.proofs.Math.Seq.{drop-append_seam}
use Rattle.std.proofs.lemmas.Bool.{or_parts}
use Rattle.std.proofs.lemmas.List.{drop-drop, length-map, take-append-le}
use Rattle.std.proofs.lemmas.List.Elements.{All-head}
use Rattle.std.proofs.lemmas.Map.Views.{All-after_first}
use Rattle.pathkey.specs.Keys.{is_below}
use Rattle.pathkey.specs.Order.{by_bytes, same}
use Rattle.message.specs.declared.msg.Msg.{Msg}
use Rattle.message.specs.Ranges.{before}
use Rattle.message.specs.Effects.{any_touches, point_key, touches}
use Rattle.cow_map.specs.Places as places
use Rattle.point_ops.specs.Changes.{KeyOp, Put, Del, Edit, msg_at, run_msgs}
use Rattle.point_ops.specs.PointOps.{point_msgs}
use Rattle.pending.specs.OldestWalk.{first_len}
use Rattle.pending.proofs.Runs.{run_untouched}
use Rattle.node.specs.Lawful.{first_key}

module _ {U V : Type 0} where
  -- the messages touch this key alone
  abbrev pub AreAt : List ℕ → List (Msg U V) → Type 0
  AreAt k ms = (q : List ℕ) → same k q ≡ false → any_touches ms q ≡ false

  -- so do the first of them
  at-take : (k : List ℕ) (ms : List (Msg U V)) (n : ℕ) → AreAt k ms → AreAt k (take n ms)
  at-take k [] zero a q d = refl
  at-take k [] (suc n) a q d = refl
  at-take k (m ∷ ms) zero a q d = refl
  at-take k (m ∷ ms) (suc n) a q d = ap (λ b. b || any_touches (take n ms) q) (or_parts (touches m q) (any_touches ms q) (a q d)).0 ∙ at-take k ms n (λ p e. (or_parts (touches m p) (any_touches ms p) (a p e)).1) q d

  -- one message of a key
  pub point-at : (k : List ℕ) (c : KeyOp U V) → point_key (msg_at k c) ≡ Some k
  point-at k (Put v) = refl
  point-at k Del = refl
  point-at k (Edit u) = refl

  -- the operations of a key
  point-run : (k : List ℕ) (cs : List (KeyOp U V)) (ms : List (Msg U V)) (i : ℕ) (m : Msg U V) → i < length cs → slice_get (run_msgs k cs ++ ms) i ≡ Some m → point_key m ≡ Some k
  point-run k [] ms i m l h = absurd (omega arith)
  point-run k (c ∷ cs) ms zero m l h = let e : msg_at k c ≡ m = (cc) in ap point_key (sym e) ∙ point-at k c
  point-run k (c ∷ cs) ms (suc i) m l h = point-run k cs ms i m (omega arith) h

  -- ---- the first key of a walk

  -- as many messages as it has are there
  pub first_within : (es : List (List ℕ × List (KeyOp U V))) → first_len es ≤ length (point_msgs es)
  first_within [] = omega arith
  first_within (e ∷ es) = omega (arith, length-append (run_msgs e.0 e.1) (point_msgs es), length-map e.1 (msg_at e.0))

  -- they touch that key alone
  pub first_at : (k : List ℕ) (es : List (List ℕ × List (KeyOp U V))) (n : ℕ) → first_key None es ≡ Some k → n ≤ first_len es → AreAt k (take n (point_msgs es))
  first_at k [] n f l = (cc)
  first_at k (e ∷ es) n f l =
      let is : e.0 ≡ k = (cc) in
      let few : n ≤ length (run_msgs e.0 e.1) = omega (arith, l, length-map e.1 (msg_at e.0)) in
      subst (λ (ms : List (Msg U V)). AreAt k ms) (sym (take-append-le n (run_msgs e.0 e.1) (point_msgs es) few)) (subst (λ q. AreAt q (take n (run_msgs e.0 e.1))) is (at-take e.0 (run_msgs e.0 e.1) n (λ q. run_untouched e.0 q e.1)))

  pub first_point : (k : List ℕ) (es : List (List ℕ × List (KeyOp U V))) (i : ℕ) (m : Msg U V) → first_key None es ≡ Some k → i < first_len es → slice_get (point_msgs es) i ≡ Some m → point_key m ≡ Some k
  first_point k [] i m f l h = (cc)
  first_point k (e ∷ es) i m f l h = point-run e.0 e.1 (point_msgs es) i m l h ∙ f

  pub first_pointed : (k : List ℕ) (es : List (List ℕ × List (KeyOp U V))) (i : ℕ) (m : Msg U V) → i < first_len es → slice_get (point_msgs es) i ≡ Some m → point_key m ≡ Some k → first_key None es ≡ Some k
  first_pointed k [] i m l h p = absurd (omega arith)
  first_pointed k (e ∷ es) i m l h p = sym (point-run e.0 e.1 (point_msgs es) i m l h) ∙ p

  -- the messages of the next keys
  pub next_msgs : (es : List (List ℕ × List (KeyOp U V))) → drop (first_len es) (point_msgs es) ≡ point_msgs (drop 1 es)
  next_msgs [] = refl
  next_msgs (e ∷ es) = ap (λ n. drop n (run_msgs e.0 e.1 ++ point_msgs es)) (sym (length-map e.1 (msg_at e.0))) ∙ drop-append_seam (run_msgs e.0 e.1) (point_msgs es)

  pub rest_next : (es fs : List (List ℕ × List (KeyOp U V))) (ms : List (Msg U V)) (n more : ℕ) → fs ≡ drop 1 es → point_msgs es ≡ drop n ms → more ≡ first_len es → point_msgs fs ≡ drop (n + more) ms
  rest_next es fs ms n more p r e = ap point_msgs p ∙ sym (next_msgs es) ∙ ap (λ i. drop i (point_msgs es)) (sym e) ∙ ap (drop more) r ∙ drop-drop more n ms

  -- the first key as a cursor shows it
  pub first_shown : (k : List ℕ) (es : List (List ℕ × List (KeyOp U V))) → Some k ≡ option_map (λ e. e.0) (slice_get es 0) → first_key None es ≡ Some k
  first_shown k [] h = (cc)
  first_shown k (e ∷ es) h = sym h

  -- the next key stands behind it
  pub first_rises : (k : List ℕ) (es : List (List ℕ × List (KeyOp U V))) → first_key None es ≡ Some k → places.Rises es → is_below k (first_key None (drop 1 es)) ≡ true
  first_rises k [] f r = (cc)
  first_rises k (e ∷ []) f r = refl
  first_rises k (e ∷ (f ∷ es)) i r =
      let is : e.0 ≡ k = (cc) in
      let less : by_bytes e.0 f.0 ≡ Less = All-head (λ q. by_bytes e.0 q ≡ Less) f.0 (keys_of es) (All-after_first by_bytes e.0 (f.0 ∷ keys_of es) r) in
      subst (λ q. before q f.0 ≡ true) is (ap is_lt less)
