-- A slot with messages that a walk names can be flushed there.
use Rattle.std.proofs.Common.{◌≡◌, ℕ, suc, ◌+◌, ◌++◌, ◌<◌, true, List, [], ◌∷◌, length, refl, ap, sym, ◌∙◌, subst, Option, None, arith}
use Rattle.std.specs.List.{All}
use Rattle.std.proofs.lemmas.List.{append_assoc, append-nil}
use Rattle.std.proofs.lemmas.List.Elements.{All-nil, All-cons, All-head, All-tail, All-append, All-same, All-weaker}
use Rattle.message.specs.declared.msg.Msg.{Msg}
use Rattle.flush.specs.Heaviest.{Load, flush_into, own_loads, loads, loads_below, IsFirstHeaviest}
use Rattle.node.specs.Lawful.{next_lo}
use Rattle.node.specs.Pure.{PNode, leaf, inner, PSlots, none, more}
use Rattle.node.specs.Site.{slots_from}
use Rattle.node.specs.Steps.{applies, there}

-- a number counted from 0 on
number : (x j : ℕ) → x ≡ 0 + j → x ≡ j
number x j e = omega (arith, e)

-- the first of those that are numbered from k on
here : (k : ℕ) → k ≡ k + 0
here k = omega arith

-- and a later one
next : (k j : ℕ) → k + 1 + j ≡ k + suc j
next k j = omega arith

-- what is said of all is said of those behind one
pub all-after : {X : Type 0} (P : X → Type 0) (xs ys : List X) (x : X) → All P (xs ++ x ∷ ys) → All P ys
all-after P [] ys x h = All-tail P x ys h
all-after P (y ∷ xs) ys x h = all-after P xs ys x (All-tail P y (xs ++ x ∷ ys) h)

-- what is said of all is said of one in the middle
pub all-middle : {X : Type 0} (P : X → Type 0) (xs ys : List X) (x : X) → All P (xs ++ x ∷ ys) → P x
all-middle P [] ys x h = All-head P x ys h
all-middle P (y ∷ xs) ys x h = all-middle P xs ys x (All-tail P y (xs ++ x ∷ ys) h)

module _ {U V : Type 0} where
  -- the load's flush can be done at slot j of these, which are numbered from k on
  abbrev IsOwn : List ℕ → ℕ → PSlots U V → Load → Type 0
  IsOwn at k ss l = 0 < l.count → (j : ℕ) × (l.at ≡ at) × (l.slot ≡ k + j) × ((hi : Option (List ℕ)) → applies l.kind hi (slots_from j ss) ≡ true)

  -- it can be done at its place below or at the node, which is at this place
  abbrev IsAt : List ℕ → PNode U V → Load → Type 0
  IsAt at n l = 0 < l.count → (p : List ℕ) × (l.at ≡ at ++ p) × ((hi : Option (List ℕ)) → there l.kind l.slot p hi n ≡ true)

  -- it can be done below slot j of these, which are numbered from k on
  abbrev IsBelow : List ℕ → ℕ → PSlots U V → Load → Type 0
  IsBelow at k ss l = 0 < l.count → (j : ℕ) × (p : List ℕ) × (l.at ≡ at ++ (k + j) ∷ p) × ((hi : Option (List ℕ)) → there l.kind l.slot (j ∷ p) hi (inner ss) ≡ true)

  -- a slot with messages can be flushed
  applies-flush : (lo : List ℕ) (ms : List (Msg U V)) (n : PNode U V) (ss : PSlots U V) (hi : Option (List ℕ)) → 0 < length ms → applies (flush_into n) hi (more lo ms n ss) ≡ true
  applies-flush lo [] n ss hi h = absurd (omega arith)
  applies-flush lo (m ∷ ms) (leaf es) ss hi h = refl
  applies-flush lo (m ∷ ms) (inner cs) ss hi h = refl

  -- the loads of a node's own slots
  own : (at : List ℕ) (k : ℕ) (ss : PSlots U V) → All (IsOwn at k ss) (own_loads at k ss)
  own at k none = All-nil (IsOwn at k none)
  own at k (more lo ms n ss) =
      let l : Load = record { at = at; slot = k; kind = flush_into n; count = length ms } in
      let first : IsOwn at k (more lo ms n ss) l = λ h. (0, refl, omega arith, λ hi. applies-flush lo ms n ss hi h) in
      let later = All-weaker (IsOwn at (k + 1) ss) (IsOwn at k (more lo ms n ss)) (λ m w h. (suc (w h).0, (w h).1, omega (arith, (w h).2), (w h).3)) (own_loads at (k + 1) ss) (own at (k + 1) ss) in
      All-cons (IsOwn at k (more lo ms n ss)) l (own_loads at (k + 1) ss) first later

  mutual
    -- all loads of a node
    all : (at : List ℕ) (n : PNode U V) → All (IsAt at n) (loads at n)
    all at (leaf es) = All-nil (IsAt at (leaf es))
    all at (inner ss) =
        let mine = All-weaker (IsOwn at 0 ss) (IsAt at (inner ss)) (λ l w h. let o = w h in ([], o.1 ∙ sym (append-nil at), λ hi. ap (λ i. applies l.kind hi (slots_from i ss)) (number l.slot o.0 o.2) ∙ o.3 hi)) (own_loads at 0 ss) (own at 0 ss) in
        let deeper = All-weaker (IsBelow at 0 ss) (IsAt at (inner ss)) (λ l w h. let b = w h in (b.0 ∷ b.1, b.2 ∙ ap (λ i. at ++ i ∷ b.1) (number (0 + b.0) b.0 refl), b.3)) (loads_below at 0 ss) (below at 0 ss) in
        All-append (IsAt at (inner ss)) (own_loads at 0 ss) (loads_below at 0 ss) mine deeper

    -- all loads below slots
    below : (at : List ℕ) (k : ℕ) (ss : PSlots U V) → All (IsBelow at k ss) (loads_below at k ss)
    below at k none = All-nil (IsBelow at k none)
    below at k (more lo ms n ss) =
        let first = All-weaker (IsAt (at ++ k ∷ []) n) (IsBelow at k (more lo ms n ss)) (λ l w h. let a = w h in (0, a.0, a.1 ∙ append_assoc at (k ∷ []) a.0 ∙ ap (λ i. at ++ i ∷ a.0) (here k), λ hi. a.2 (next_lo hi ss))) (loads (at ++ k ∷ []) n) (all (at ++ k ∷ []) n) in
        let later = All-weaker (IsBelow at (k + 1) ss) (IsBelow at k (more lo ms n ss)) (λ l w h. let b = w h in (suc b.0, b.1, b.2 ∙ ap (λ i. at ++ i ∷ b.1) (next k b.0), b.3)) (loads_below at (k + 1) ss) (below at (k + 1) ss) in
        All-append (IsBelow at k (more lo ms n ss)) (loads (at ++ k ∷ []) n) (loads_below at (k + 1) ss) first later

  -- the flush of the first heaviest can be done
  pub heaviest_is_there : (l : Load) (n : PNode U V) → IsFirstHeaviest l (loads [] n) → there l.kind l.slot l.at None n ≡ true
  heaviest_is_there l n h =
      let found = all-middle (IsAt [] n) h.before h.after l (All-same (IsAt [] n) (h.before ++ l ∷ h.after) (loads [] n) (sym h.is) (all [] n)) h.some in
      subst (λ p. there l.kind l.slot p None n ≡ true) (sym found.1) (found.2 None)
