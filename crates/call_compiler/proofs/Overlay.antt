-- Puts of all pairs below a path under their new keys, and their effect on the values: the path is moved.
use Rattle.std.proofs.Common.{◌≡◌, ℕ, zero, suc, ◌<◌, List, [], ◌∷◌, ◌++◌, length, drop, get_or, map, true, false, Bool, cond, refl, sym, ap, ◌∙◌, subst, arith, Option, Some, None}
use Rattle.std.specs.Prelude.{All, Contains}
use Rattle.std.proofs.lemmas.List.{drop_at}
use Rattle.std.proofs.lemmas.List.Elements.{All-head, All-tail, All-weaker}
use Rattle.message.specs.declared.msg.Msg.{Msg}
use Rattle.message.specs.Effects.{effect, effects}
use Rattle.message.proofs.Lists.{effects-append}
use Rattle.pathkey.specs.Keys.{Key, enc, subtree, is_in}
use Rattle.pathkey.specs.Names.{Path}
use Rattle.pathkey.specs.Order.{same}
use Rattle.pathkey.proofs.KeyFacts.{in_subtree, in_subtree_from}
use Rattle.pathkey.proofs.OrderFacts.{same_itself, same_true}
use Rattle.reference.specs.Indexes.{moved}
use Rattle.call_compiler.specs.Moves.{AreBelow, Clears, put_under}

module _ {V : Type 0} (o n : Path) (f : Key → Option V) where
  -- what is moved to the key: for a key below n, the value at the corresponding key below o
  abbrev pub source : Key → Option V
  source k = cond (is_in (subtree n) k) (f (enc o ++ drop (length (enc n)) k)) None

  -- the key under which a pair is put
  abbrev pub under : Key → Key
  under k = enc n ++ drop (length (enc o)) k

  -- the pair is the one that is moved to its new key
  abbrev Belongs : Key × V → Type 0
  Belongs p = (k : Key) → same (under p.0) k ≡ true → source k ≡ Some p.1

  -- a key below n gets the value that was at the corresponding key below o
  pub source_at : (z : Key) → source (enc n ++ z) ≡ f (enc o ++ z)
  source_at z =
      ap (λ (b : Bool). cond b (f (enc o ++ drop (length (enc n)) (enc n ++ z))) None) (in_subtree_from n z)
      ∙ ap (λ (k : Key). f (enc o ++ k)) (drop_at (enc n) z (length (enc n)) refl)

  -- the new key of a key below o
  under_at : (z : Key) → under (enc o ++ z) ≡ enc n ++ z
  under_at z = ap (λ (k : Key). enc n ++ k) (drop_at (enc o) z (length (enc o)) refl)

  -- each pair below o does
  belongs : (p : Key × V) → is_in (subtree o) p.0 ≡ true → f p.0 ≡ Some p.1 → Belongs p
  belongs p inside is k e =
      let z : (z : Key) × (p.0 ≡ enc o ++ z) = in_subtree o p.0 inside in
      let key : enc n ++ z.0 ≡ k = sym (ap under z.1 ∙ under_at z.0) ∙ same_true (under p.0) k e in
      ap source (sym key) ∙ source_at z.0 ∙ ap f (sym z.1) ∙ is

module _ {U V : Type 0} (means : U → Option V → Option V) (o n : Path) (f : Key → Option V) where
  -- a value that was put stays
  put_stays : (ps : List (Key × V)) (k : Key) (v : V) → source o n f k ≡ Some v → All (Belongs o n f) ps → effects means (map (put_under o n) ps) k (Some v) ≡ Some v
  put_stays [] k v is all = refl
  put_stays (p ∷ ps) k v is all =
      elim (same (under o n f p.0) k) as (λ b. same (under o n f p.0) k ≡ b → effects means (map (put_under o n) ps) k (cond b (Some p.1) (Some v)) ≡ Some v) [
        | true ↦ λ e. subst (λ (x : Option V). effects means (map (put_under o n) ps) k x ≡ Some v) (sym is ∙ All-head (Belongs o n f) p ps all k e) (put_stays ps k v is (All-tail (Belongs o n f) p ps all))
        | false ↦ λ e. put_stays ps k v is (All-tail (Belongs o n f) p ps all)
      ] refl

  -- the puts set each value that is moved
  put_comes : (ps : List (Key × V)) (k : Key) (v : V) (x : Option V) (i : ℕ) (d : Key × V) → source o n f k ≡ Some v → All (Belongs o n f) ps → i < length ps → same (under o n f (get_or ps i d).0) k ≡ true → effects means (map (put_under o n) ps) k x ≡ Some v
  put_comes [] k v x i d is all l e = absurd (omega arith)
  put_comes (p ∷ ps) k v x zero d is all l e =
      subst (λ (b : Bool). effects means (map (put_under o n) ps) k (cond b (Some p.1) x) ≡ Some v) (sym e)
      (subst (λ (y : Option V). effects means (map (put_under o n) ps) k y ≡ Some v) (sym is ∙ All-head (Belongs o n f) p ps all k e) (put_stays ps k v is (All-tail (Belongs o n f) p ps all)))
  put_comes (p ∷ ps) k v x (suc i) d is all l e = put_comes ps k v (effect means (put_under o n p) k x) i d is (All-tail (Belongs o n f) p ps all) (omega arith) e

  -- and change no other
  put_elsewhere : (ps : List (Key × V)) (k : Key) (x : Option V) → source o n f k ≡ None → All (Belongs o n f) ps → effects means (map (put_under o n) ps) k x ≡ x
  put_elsewhere [] k x is all = refl
  put_elsewhere (p ∷ ps) k x is all =
      elim (same (under o n f p.0) k) as (λ b. same (under o n f p.0) k ≡ b → effects means (map (put_under o n) ps) k (cond b (Some p.1) x) ≡ x) [
        | true ↦ λ e. absurd (let both : None ≡ Some p.1 = sym is ∙ All-head (Belongs o n f) p ps all k e in cc)
        | false ↦ λ e. put_elsewhere ps k x is (All-tail (Belongs o n f) p ps all)
      ] refl

  module _ (ps : List (Key × V)) (below : AreBelow f o ps) where
    all_belong : All (Belongs o n f) ps
    all_belong = All-weaker (λ p. (is_in (subtree o) p.0 ≡ true) × (f p.0 ≡ Some p.1)) (Belongs o n f) (λ p h. belongs o n f p h.0 h.1) ps below.scan.sound

    -- below n the puts set each value to the moved one, if there was none before
    inside_new : (k : Key) (x : Option V) → is_in (subtree n) k ≡ true → (source o n f k ≡ None → x ≡ None) → effects means (map (put_under o n) ps) k x ≡ source o n f k
    inside_new k x inside none = elim (source o n f k) as (λ s. source o n f k ≡ s → effects means (map (put_under o n) ps) k x ≡ s) [
      | None ↦ λ e. put_elsewhere ps k x e all_belong ∙ none e
      | Some v ↦ λ e.
          let z : (z : Key) × (k ≡ enc n ++ z) = in_subtree n k inside in
          let value : f (enc o ++ z.0) ≡ Some v = sym (source_at o n f z.0) ∙ ap (source o n f) (sym z.1) ∙ e in
          let there : Contains ps (enc o ++ z.0, v) = below.all (enc o ++ z.0) v (in_subtree_from o z.0) value in
          let key : same (under o n f (enc o ++ z.0)) k ≡ true = ap (λ (q : Key). same q k) (under_at o n f z.0 ∙ sym z.1) ∙ same_itself k in
          put_comes ps k v x there.0 (enc o ++ z.0, v) e all_belong there.1 (ap (λ (p : Key × V). same (under o n f p.0) k) there.2 ∙ key)
    ] refl

    outside_new : (k : Key) (x : Option V) → is_in (subtree n) k ≡ false → effects means (map (put_under o n) ps) k x ≡ x
    outside_new k x outside = put_elsewhere ps k x (ap (λ (b : Bool). cond b (f (enc o ++ drop (length (enc n)) k)) None) outside) all_belong

    -- the puts, and then what removes the values at or below o, move the values, if n does not overlap with o and has no value
    -- except those that are replaced
    pub puts_move : (gone : List (Msg U V)) → Clears means f o gone → (x : Key → Option V) → ((k : Key) → is_in (subtree n) k ≡ true → is_in (subtree o) k ≡ false) → ((k : Key) → is_in (subtree n) k ≡ true → source o n f k ≡ None → x k ≡ None) → ((k : Key) → is_in (subtree n) k ≡ false → x k ≡ f k)
        → (k : Key) → effects means (map (put_under o n) ps ++ gone) k (x k) ≡ moved o n f k
    puts_move gone clears x apart inside outside k =
        effects-append means (map (put_under o n) ps) gone k (x k)
        ∙ elim (is_in (subtree n) k) as (λ b. is_in (subtree n) k ≡ b → effects means gone k (effects means (map (put_under o n) ps) k (x k)) ≡ cond b (f (enc o ++ drop (length (enc n)) k)) (cond (is_in (subtree o) k) None (f k))) [
          | true ↦ λ e.
              clears.outside k (effects means (map (put_under o n) ps) k (x k)) (apart k e)
              ∙ inside_new k (x k) e (inside k e)
              ∙ ap (λ (b : Bool). cond b (f (enc o ++ drop (length (enc n)) k)) None) e
          | false ↦ λ e. ap (effects means gone k) (outside_new k (x k) e ∙ outside k e) ∙ elim (is_in (subtree o) k) as (λ b. is_in (subtree o) k ≡ b → effects means gone k (f k) ≡ cond b None (f k)) [
            | true ↦ λ h. clears.inside k h
            | false ↦ λ h. clears.outside k (f k) h
          ] refl
        ] refl
