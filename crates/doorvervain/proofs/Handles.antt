-- A struct of one pointer and one ghost field for the value at the pointer: the C form of a handle or an out-parameter.
use Rattle.doorvervain.proofs.Steps.{◌≡◌, List, [], ◌∷◌, ap, Ptr, Val, vstruct, of_list, ptr_val, RattleType, Fml, fsep, Struct}
use Rattle.std.specs.Prelude.{Option}
use base.Stored.{Coded}
use mir.Syntax.{Sym}
use denote.Laws.{Is, Tells}
use denote.Struct.Field.{RawPtr-field}
use denote.Struct.Laws.{RawPtr-laws}
use denote.Struct.Owning.{Owning, owning, row, shape}
use denote.Struct.OwningLaws.{Tells-lowered}
use denote.Struct.Record.{Record, Also, Done}

-- the struct, and its values by their two fields, the second of type G
pub record Pointing (G : Type 0) : Type 2 where
  pub name : Sym
  pub D : Type 0
  pub at : D → Ptr
  pub held : D → G
  pub make : Ptr → G → D
  pub eta : (d : D) → make (at d) (held d) ≡ d
  pub beta : (v : Ptr × Unit {0}) (g : Also G (λ _. Done)) → (at (make v.0 g.0), tt) ≡ v
  pub held_is : (p : Ptr) (g : G) → held (make p g) ≡ g
  pub codes : (v : Ptr × Unit {0}) → Coded (Also G (λ _. Done))

module _ {G : Type 0} (P : Pointing G) where
  abbrev pub struct : Record
  struct = record {
    name = P.name;
    args = [];
    types = [];
    parts = RawPtr-field ∷ [];
    D = P.D;
    as_values = λ d. (P.at d, tt);
    Ghost = λ v. Also G (λ _. Done);
    ghosts = λ d. (P.held d, tt);
    make = λ v g. P.make v.0 g.0;
    eta = P.eta;
    beta = P.beta;
  }

  -- the struct if it owns what `heap` says of its fields
  abbrev pub type_of : (Ptr → G → Fml) → Owning
  type_of heap = owning struct P.codes (λ d. heap (P.at d) (P.held d))

  -- its machine value is a struct of the pointer
  abbrev pub word : Ptr → Val
  word p = vstruct (of_list (ptr_val p ∷ []))

  pub word_is : (heap : Ptr → G → Fml) → Tells (row (type_of heap)) (Is (row (type_of heap))) (λ d. word (P.at d) ∷ [])
  word_is heap = Tells-lowered (type_of heap) (RawPtr-laws, tt)

  pub at_is : (p : Ptr) (g : G) → P.at (P.make p g) ≡ p
  at_is p g = ap (λ (v : Ptr × Unit {0}). v.0) (P.beta (p, tt) (g, tt))

  -- what one owns whose fields these are
  pub owns_made : (heap : Ptr → G → Fml) (p : Ptr) (g : G) (ws : List Val)
      → (row (type_of heap)).own_val (P.make p g) ws ≡ fsep ((Struct (shape (type_of heap))).own_val (p, tt) ws) (heap p g)
  owns_made heap p g ws = λ i. fsep ((Struct (shape (type_of heap))).own_val (at_is p g i, tt) ws) (heap (at_is p g i) (P.held_is p g i))

-- a handle of a value of the type X
pub record Handle : Type 2 where
  pub X : RattleType
  pub P : Pointing X.Denot

-- a place for the handle of a value of the type X, or for none
pub record Out : Type 2 where
  pub X : RattleType
  pub P : Pointing (Option X.Denot)
