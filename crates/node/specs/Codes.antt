-- The codes of messages and trees: each maps one to one into trees of numbers.
use Rattle.std.specs.Prelude.{◌≡◌, ℕ, List, Option, refl, ◌⊎◌}
use Rattle.std.proofs.Common.{zero, suc, ap, sym, subst, inl, inr}
use Rattle.std.specs.Coded.{Coded, coded_ℕ, coded_list, coded×, coded⊎, code_by, coded_option}
use base.Stored.{Gv, gnil, gnum, gcons, code_l, inj_l}
use Rattle.message.specs.declared.msg.Msg.{Msg}
use Rattle.message.specs.declared.msg.Msg.TheVariants.{Put, Del, DelRange, Edit}
use Rattle.node.specs.declared.shape.Shape.{Shape}
use Rattle.node.specs.Pure.{PNode, leaf, inner, PSlots, none, more, PTree}

abbrev coded_key : Coded (List ℕ)
coded_key = coded_list coded_ℕ

abbrev Parts : Type 0 → Type 0 → Type 0
Parts U V = (List ℕ × V) ⊎ (List ℕ ⊎ ((List ℕ × Option (List ℕ)) ⊎ (List ℕ × U)))

module _ {U V : Type 0} where
  abbrev parts : Msg U V → Parts U V
  parts (Put k v) = inl (k, v)
  parts (Del k) = inr (inl k)
  parts (DelRange r) = inr (inr (inl (r.lo, r.hi)))
  parts (Edit k u) = inr (inr (inr (k, u)))

  abbrev whole : Parts U V → Msg U V
  whole (inl p) = Put p.0 p.1
  whole (inr (inl k)) = Del k
  whole (inr (inr (inl p))) = DelRange (record { lo = p.0; hi = p.1 })
  whole (inr (inr (inr p))) = Edit p.0 p.1

  pub whole-parts : (m : Msg U V) → whole (parts m) ≡ m
  whole-parts (Put k v) = refl
  whole-parts (Del k) = refl
  whole-parts (DelRange r) = refl
  whole-parts (Edit k u) = refl

  abbrev pub coded_msg : Coded U → Coded V → Coded (Msg U V)
  coded_msg u v = code_by (Parts U V) (coded⊎ (coded× coded_key v) (coded⊎ coded_key (coded⊎ (coded× coded_key (coded_option coded_key)) (coded× coded_key u)))) parts whole whole-parts

abbrev tag : Gv → ℕ
tag gnil = 0
tag (gnum n) = n
tag (gcons a b) = 0

abbrev head : Gv → Gv
head gnil = gnil
head (gnum n) = gnil
head (gcons a b) = a

abbrev tail : Gv → Gv
tail gnil = gnil
tail (gnum n) = gnil
tail (gcons a b) = b

abbrev IsCons : Gv → Type 0
IsCons gnil = ⊥
IsCons (gnum n) = ⊥
IsCons (gcons a b) = Unit {0}

abbrev IsOne : ℕ → Type 0
IsOne zero = ⊥
IsOne (suc n) = Unit {0}

module _ {U V : Type 0} (e : Coded (List ℕ × V)) (m : Coded (Msg U V)) where
  abbrev mutual
    code_node : PNode U V → Gv
    code_node (leaf es) = gcons (gnum 0) (code_l e.code es)
    code_node (inner ss) = gcons (gnum 1) (code_slots ss)

    code_slots : PSlots U V → Gv
    code_slots none = gnil
    code_slots (more lo ms n ss) = gcons (gcons (coded_key.code lo) (gcons (code_l m.code ms) (code_node n))) (code_slots ss)

  mutual
    pub node_inj : (x y : PNode U V) → code_node x ≡ code_node y → x ≡ y
    node_inj (leaf es) (leaf fs) p = ap leaf (inj_l e es fs (ap tail p))
    node_inj (leaf es) (inner ss) p = absurd (subst (λ g. IsOne (tag (head g))) (sym p) tt)
    node_inj (inner ss) (leaf es) p = absurd (subst (λ g. IsOne (tag (head g))) p tt)
    node_inj (inner ss) (inner rs) p = ap inner (slots_inj ss rs (ap tail p))

    pub slots_inj : (x y : PSlots U V) → code_slots x ≡ code_slots y → x ≡ y
    slots_inj none none p = refl
    slots_inj none (more lo ms n ss) p = absurd (subst IsCons (sym p) tt)
    slots_inj (more lo ms n ss) none p = absurd (subst IsCons p tt)
    slots_inj (more lo ms n ss) (more lp mt o rs) p = λ i. more (coded_key.inj lo lp (ap (λ g. head (head g)) p) i) (inj_l m ms mt (ap (λ g. head (tail (head g))) p) i) (node_inj n o (ap (λ g. tail (tail (head g))) p) i) (slots_inj ss rs (ap tail p) i)

  abbrev coded_node : Coded (PNode U V)
  coded_node = record { code = code_node; inj = node_inj }

abbrev pub coded_tree : {U V : Type 0} → Coded U → Coded V → Coded (PNode U V)
coded_tree u v = coded_node (coded× coded_key v) (coded_msg u v)

abbrev coded_shape : Coded Shape
coded_shape = code_by (ℕ × (ℕ × ℕ)) (coded× coded_ℕ (coded× coded_ℕ coded_ℕ)) (λ s. (s.fanout, (s.pending, s.leaf))) (λ p. record { fanout = p.0; pending = p.1.0; leaf = p.1.1 }) (λ _. refl)

abbrev pub coded_whole : {U V : Type 0} → Coded U → Coded V → Coded (PTree U V)
coded_whole {U} {V} u v = code_by (Shape × PNode U V) (coded× coded_shape (coded_tree u v)) (λ t. (t.shape, t.root)) (λ p. record { shape = p.0; root = p.1 }) (λ _. refl)
