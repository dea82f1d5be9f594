-- A rename on the two indexes: the keys at and below the old path move to the new one.
use Rattle.std.proofs.Common.{◌≡◌, ℕ, List, ◌∷◌, ◌++◌, length, drop, Bool, true, false, cond, sym, ap, refl, ◌∙◌, subst, Option, Some, None, append_assoc}
use Rattle.std.specs.Int.{w32, to_be_bytes}
use Rattle.std.proofs.lemmas.Bool.{false_from_ne_true}
use Rattle.std.proofs.lemmas.List.{drop_at, append_cancel_left}
use Rattle.reference.specs.Tree.{Path, Tree}
use Rattle.reference.specs.Shape.{IsTree}
use Rattle.reference.specs.Reads.{Look, Bytes, look, Sight, look_of, sight}
use Rattle.pathkey.specs.Names.{EachName, IsPath}
use Rattle.pathkey.specs.Keys.{Key, enc, block_key, subtree, is_in}
use Rattle.reference.specs.Indexes.{Metadata, Blocks, meta_of, PathOf, MetaMeans, Hold, BlockOf, BlocksMean, moved}
use Rattle.reference.specs.declared.reply.Meta.{Meta}
use Rattle.pathkey.proofs.KeyFacts.{enc_law, enc-append, under_from_key, under_from_zero, in_subtree, in_subtree_from, path_in_subtree, path_in_subtree_from, block_in_subtree, block_in_subtree_from}
use Rattle.reference.proofs.Edits.{alike, look_from, unseen}
use Rattle.reference.proofs.EntryPaths.{each-append, each_rest, path_moved}
use Rattle.reference.proofs.TreeEdits.{MayBeSeen, looks_may}
use Rattle.reference.proofs.PointIndexes.{hold_alike}
use Rattle.reference.proofs.RenameLooks.{IsMoved}

-- a block key below a path begins with the path's key
block_key-append : (p r : Path) (i : ℕ) → block_key (p ++ r) i ≡ enc p ++ block_key r i
unfolding block_key
block_key-append p r i = ap (λ (k : Key). k ++ 0 ∷ to_be_bytes w32 i) (enc-append p r) ∙ append_assoc (enc p) (enc r) (0 ∷ to_be_bytes w32 i)

-- a block key that begins with enc p is one of a path at or below p
under_block : (p q : Path) (z : Key) (i : ℕ) → EachName p → EachName q → enc p ++ z ≡ block_key q i → (r : Path) × (q ≡ p ++ r)
unfolding block_key
under_block p q z i u v e = under_from_zero p q z (to_be_bytes w32 i) u v e

-- ---- the moved keys
-- at and below n stands what stood at and below o
moved_at : {V : Type 0} (o n : Path) (m : Key → Option V) (z : Key) → moved o n m (enc n ++ z) ≡ m (enc o ++ z)
moved_at {V} o n m z =
    ap (λ (b : Bool). cond b (m (enc o ++ drop (length (enc n)) (enc n ++ z))) (cond (is_in (subtree o) (enc n ++ z)) None (m (enc n ++ z)))) (in_subtree_from n z)
    ∙ ap (λ (k : Key). m (enc o ++ k)) (drop_at (enc n) z (length (enc n)) refl)

-- outside n nothing is left in the subtree of o, and all else is as it was
moved_outside : {V : Type 0} (o n : Path) (m : Key → Option V) (k : Key) → is_in (subtree n) k ≡ false → (b : Bool) → is_in (subtree o) k ≡ b → moved o n m k ≡ cond b None (m k)
moved_outside o n m k h b g =
    ap (λ (b : Bool). cond b (m (enc o ++ drop (length (enc n)) k)) (cond (is_in (subtree o) k) None (m k))) h
    ∙ ap (λ (b : Bool). cond b None (m k)) g

-- where a value after the move came from
data Origin {V : Type 0} (o n : Path) (m : Key → Option V) (k : Key) (v : V) : Type 0 where
  came : (z : Key) → k ≡ enc n ++ z → m (enc o ++ z) ≡ Some v → Origin o n m k v
  stayed : is_in (subtree n) k ≡ false → is_in (subtree o) k ≡ false → m k ≡ Some v → Origin o n m k v

-- each value after the move came from o or stayed
origin : {V : Type 0} (o n : Path) (m : Key → Option V) (k : Key) (v : V) → moved o n m k ≡ Some v → Origin o n m k v
origin {V} o n m k v e =
    elim (is_in (subtree n) k) as (λ b. is_in (subtree n) k ≡ b → Origin o n m k v) [
      | true ↦ λ h. let f : (z : Key) × (k ≡ enc n ++ z) = in_subtree n k h in came f.0 f.1 (sym (moved_at o n m f.0) ∙ ap (moved o n m) (sym f.1) ∙ e)
      | false ↦ λ h. elim (is_in (subtree o) k) as (λ b. is_in (subtree o) k ≡ b → Origin o n m k v) [
        | true ↦ λ g. absurd (let f : None ≡ Some v = sym (moved_outside o n m k h true g) ∙ e in cc)
        | false ↦ λ g. stayed h g (sym (moved_outside o n m k h false g) ∙ e)
      ] refl
    ] refl

-- metadata tells that something is seen
pub looked : (l : Option Sight) (v : Meta) → meta_of l ≡ Some v → (k : Sight) × (l ≡ Some k)
looked None v h = absurd (cc)
looked (Some k) v h = (k, refl)

module _ (t t' : Tree) (o n : Path) (tree : IsTree t) (old : IsPath o) (new : IsPath n) (is : IsMoved t t' o n) where
  -- where something is seen below o, its path below n is short enough
  new_path : (r : Path) (l : Look) → look t (o ++ r) ≡ Some l → IsPath (n ++ r)
  new_path r l h = let may : MayBeSeen (o ++ r) l = looks_may t (o ++ r) l tree h in path_moved o n r new may.path (is.fits r l h)

  -- a path whose key is outside a subtree is not below its path
  outside_path : (p q : Path) → is_in (subtree p) (enc q) ≡ false → (r : Path) → q ≡ p ++ r → ⊥
  outside_path p q h r e = let both : true ≡ false = sym (path_in_subtree_from p q r e) ∙ h in cc

  -- nor is the path of a block whose key is outside
  outside_block : (p q : Path) (i : ℕ) (k : Key) → k ≡ block_key q i → is_in (subtree p) k ≡ false → (r : Path) → q ≡ p ++ r → ⊥
  outside_block p q i k at h r e = let both : true ≡ false = sym (ap (is_in (subtree p)) at ∙ block_in_subtree_from p q r i e) ∙ h in cc

  -- the blocks of a path that is not below p are outside the subtree of p
  block_outside : (p q : Path) (i : ℕ) → IsPath p → IsPath q → ((r : Path) → q ≡ p ++ r → ⊥) → is_in (subtree p) (block_key q i) ≡ false
  block_outside p q i u v off = false_from_ne_true (is_in (subtree p) (block_key q i)) (λ g. let r : (r : Path) × (q ≡ p ++ r) = block_in_subtree p q i u.names v.names g in off r.0 r.1)

  module _ (m : Metadata) (means : MetaMeans t m) where
    -- the index at any path of good names
    meta_at : (s : Path) → EachName s → m (enc s) ≡ meta_of (sight t s)
    meta_at s u =
        elim (sight t s) as (λ c. sight t s ≡ c → m (enc s) ≡ meta_of c) [
          | Some l ↦ λ h. let may : MayBeSeen s (look_of l) = looks_may t s (look_of l) tree (look_from t s l h) in means.paths s may.path ∙ ap meta_of h
          | None ↦ λ h. elim (m (enc s)) as (λ c. m (enc s) ≡ c → c ≡ None) [
            | None ↦ λ g. refl
            | Some v ↦ λ g.
                let k : PathOf (enc s) = means.only_paths (enc s) v g in
                let e : s ≡ k.path = enc_law s k.path u k.is_path.names k.key in
                sym g ∙ means.paths s (subst IsPath (sym e) k.is_path) ∙ ap meta_of h
          ] refl
        ] refl

    -- after the move each path has the metadata of what is seen there
    moved_paths : (q : Path) → IsPath q → moved o n m (enc q) ≡ meta_of (sight t' q)
    moved_paths q u =
        elim (is_in (subtree n) (enc q)) as (λ b. is_in (subtree n) (enc q) ≡ b → moved o n m (enc q) ≡ meta_of (sight t' q)) [
          | true ↦ λ h.
              let f : (r : Path) × (q ≡ n ++ r) = path_in_subtree n q new.names u.names h in
              let names : EachName f.0 = each_rest n f.0 (subst EachName f.1 u.names) in
              ap (moved o n m) (ap enc f.1 ∙ enc-append n f.0)
              ∙ moved_at o n m (enc f.0)
              ∙ ap m (sym (enc-append o f.0))
              ∙ meta_at (o ++ f.0) (each-append o f.0 old.names names)
              ∙ ap meta_of (sym (is.moved f.0))
              ∙ ap (λ (x : Path). meta_of (sight t' x)) (sym f.1)
          | false ↦ λ h. elim (is_in (subtree o) (enc q)) as (λ b. is_in (subtree o) (enc q) ≡ b → moved o n m (enc q) ≡ meta_of (sight t' q)) [
            | true ↦ λ g.
                let f : (r : Path) × (q ≡ o ++ r) = path_in_subtree o q old.names u.names g in
                moved_outside o n m (enc q) h true g ∙ ap meta_of (sym (ap (sight t') f.1 ∙ is.gone f.0))
            | false ↦ λ g. moved_outside o n m (enc q) h false g ∙ means.paths q u ∙ ap meta_of (sym (is.kept q (outside_path o q g) (outside_path n q h)))
          ] refl
        ] refl

    -- and every key is a path's
    moved_only_paths : (k : Key) (v : Meta) → Origin o n m k v → PathOf k
    moved_only_paths k v (stayed h g f) = means.only_paths k v f
    moved_only_paths k v (came z e f) =
        let c : PathOf (enc o ++ z) = means.only_paths (enc o ++ z) v f in
        let a : (r : Path) × (c.path ≡ o ++ r) × (z ≡ enc r) = under_from_key o c.path z old.names c.is_path.names c.key in
        let l : (l : Sight) × (sight t c.path ≡ Some l) = looked (sight t c.path) v (sym (means.paths c.path c.is_path) ∙ ap m (sym c.key) ∙ f) in
        record {
          path = n ++ a.0;
          is_path = new_path a.0 (look_of l.0) (ap (look t) (sym a.1) ∙ look_from t c.path l.0 l.1);
          key = e ∙ ap (λ (x : Key). enc n ++ x) a.2 ∙ sym (enc-append n a.0);
        }

    -- the moved metadata mean the tree after the move
    pub moved_meta : MetaMeans t' (moved o n m)
    moved_meta = record { paths = moved_paths; only_paths = λ k v e. moved_only_paths k v (origin o n m k v e) }

  module _ (d : Blocks) (means : BlocksMean t d) where
    look_moved : (r : Path) → look t' (n ++ r) ≡ look t (o ++ r)
    look_moved r = alike t' t (n ++ r) (o ++ r) (is.moved r)

    look_kept : (q : Path) → ((r : Path) → q ≡ o ++ r → ⊥) → ((r : Path) → q ≡ n ++ r → ⊥) → look t' q ≡ look t q
    look_kept q v w = alike t' t q q (is.kept q v w)

    -- the blocks of a file at or below n are those it had below o
    blocks_came : (q : Path) (b : List ℕ) (r : Path) → q ≡ n ++ r → look t' q ≡ Some (Bytes b) → Hold (λ i. moved o n d (block_key q i)) b
    blocks_came q b r at f =
        let file : look t (o ++ r) ≡ Some (Bytes b) = sym (look_moved r) ∙ ap (look t') (sym at) ∙ f in
        let may : MayBeSeen (o ++ r) (Bytes b) = looks_may t (o ++ r) (Bytes b) tree file in
        hold_alike (λ i. d (block_key (o ++ r) i)) (λ i. moved o n d (block_key q i)) b
        (λ i li. ap d (block_key-append o r i) ∙ sym (moved_at o n d (block_key r i)) ∙ ap (moved o n d) (sym (ap (λ (x : Path). block_key x i) at ∙ block_key-append n r i)))
        (means.blocks (o ++ r) b may.path file)

    -- all other files keep theirs
    blocks_stayed : (q : Path) (b : List ℕ) → IsPath q → ((r : Path) → q ≡ n ++ r → ⊥) → look t' q ≡ Some (Bytes b) → Hold (λ i. moved o n d (block_key q i)) b
    blocks_stayed q b u off_new f =
        let off_old : (r : Path) → q ≡ o ++ r → ⊥ = λ r e. (let x : None ≡ Some (Bytes b) = sym (ap (look t') e ∙ unseen t' (o ++ r) (is.gone r)) ∙ f in cc) in
        hold_alike (λ i. d (block_key q i)) (λ i. moved o n d (block_key q i)) b
        (λ i li. sym (moved_outside o n d (block_key q i) (block_outside n q i new u off_new) false (block_outside o q i old u off_old)))
        (means.blocks q b u (sym (look_kept q off_old off_new) ∙ f))

    -- and every key is that of a block of a file
    moved_only_blocks : (k : Key) (v : List ℕ) → Origin o n d k v → BlockOf t' k
    moved_only_blocks k v (stayed h g f) =
        let c : BlockOf t k = means.only_blocks k v f in
        record { path = c.path; index = c.index; bytes = c.bytes; is_path = c.is_path; few = c.few; key = c.key; file = look_kept c.path (outside_block o c.path c.index k c.key g) (outside_block n c.path c.index k c.key h) ∙ c.file }
    moved_only_blocks k v (came z e f) =
        let c : BlockOf t (enc o ++ z) = means.only_blocks (enc o ++ z) v f in
        let a : (r : Path) × (c.path ≡ o ++ r) = under_block o c.path z c.index old.names c.is_path.names c.key in
        let file : look t (o ++ a.0) ≡ Some (Bytes c.bytes) = ap (look t) (sym a.1) ∙ c.file in
        let rest : z ≡ block_key a.0 c.index = append_cancel_left (enc o) z (block_key a.0 c.index) (c.key ∙ ap (λ (x : Path). block_key x c.index) a.1 ∙ block_key-append o a.0 c.index) in
        record {
          path = n ++ a.0;
          index = c.index;
          bytes = c.bytes;
          few = c.few;
          is_path = new_path a.0 (Bytes c.bytes) file;
          key = e ∙ ap (λ (x : Key). enc n ++ x) rest ∙ sym (block_key-append n a.0 c.index);
          file = look_moved a.0 ∙ file;
        }

    -- and so do the moved blocks
    pub moved_blocks : BlocksMean t' (moved o n d)
    moved_blocks = record {
      blocks = λ q b u f. elim (is_in (subtree n) (enc q)) as (λ x. is_in (subtree n) (enc q) ≡ x → Hold (λ i. moved o n d (block_key q i)) b) [
        | true ↦ λ h. let a : (r : Path) × (q ≡ n ++ r) = path_in_subtree n q new.names u.names h in blocks_came q b a.0 a.1 f
        | false ↦ λ h. blocks_stayed q b u (outside_path n q h) f
      ] refl;
      only_blocks = λ k v e. moved_only_blocks k v (origin o n d k v e);
    }
