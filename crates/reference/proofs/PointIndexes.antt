-- Where a tree changes at one path, the metadata index changes at that path's key, and the block index at its blocks.
use Rattle.std.proofs.Common.{◌≡◌, ◌≢◌, ◌<◌, ℕ, List, [], true, false, cond, sym, ap, refl, ◌∙◌, arith, Option, Some, None, ◌⊎◌, inl, inr, ⊎_elim}
use Rattle.std.specs.Prelude.{option_map}
use Rattle.reference.specs.Tree.{same, Path, Tree}
use Rattle.pathkey.specs.Names.{EachName, IsPath}
use Rattle.pathkey.specs.Keys.{Key, enc, block_key}
use Rattle.reference.specs.Reads.{Look, Bytes, look, Sight, look_of, sight}
use Rattle.reference.specs.Indexes.{Metadata, Blocks, meta_of, PathOf, MetaMeans, most_blocks, byte_of, Hold, BlockOf, BlocksMean, edit_at, BlocksChange}
use Rattle.reference.specs.declared.reply.Meta.{Meta}
use Rattle.pathkey.proofs.OrderFacts.{same_true, apart}
use Rattle.pathkey.proofs.KeyFacts.{enc_law, block_key_injective}
use Rattle.reference.proofs.Points.{IsPoint, looks_other, looks_itself}

-- two paths are one or not
path_cases : (p q : Path) → EachName p → EachName q → (q ≡ p) ⊎ (q ≢ p)
path_cases p q u v = elim (same (enc p) (enc q)) as (λ b. same (enc p) (enc q) ≡ b → (q ≡ p) ⊎ (q ≢ p)) [
  | true ↦ λ e. inl (sym (enc_law p q u v (same_true (enc p) (enc q) e)))
  | false ↦ λ e. inr (λ is. apart (enc p) (enc q) e (ap enc (sym is)))
] refl

-- the metadata index follows a change of f at the path's key that makes of what was there what is there
pub meta_at_point : (t t' : Tree) (p : Path) (l : Option Sight) (f : Option Meta → Option Meta) (m : Metadata) → IsPath p → IsPoint t t' p l → f (meta_of (sight t p)) ≡ meta_of l → MetaMeans t m → MetaMeans t' (edit_at (enc p) f m)
meta_at_point t t' p l f m is_path n fits old = record {
  paths = λ q u. elim (same (enc p) (enc q)) as (λ x. same (enc p) (enc q) ≡ x → cond x (f (m (enc q))) (m (enc q)) ≡ meta_of (sight t' q)) [
    | true ↦ λ g.
        let is : p ≡ q = enc_law p q is_path.names u.names (same_true (enc p) (enc q) g) in
        ap f (old.paths q u) ∙ ap (λ (x : Path). f (meta_of (sight t x))) (sym is) ∙ fits ∙ ap meta_of (sym n.itself) ∙ ap (λ (x : Path). meta_of (sight t' x)) is
    | false ↦ λ g. old.paths q u ∙ ap meta_of (sym (n.other q (λ (is : q ≡ p). apart (enc p) (enc q) g (ap enc (sym is)))))
  ] refl;
  only_paths = λ k v. elim (same (enc p) k) as (λ x. same (enc p) k ≡ x → cond x (f (m k)) (m k) ≡ Some v → PathOf k) [
    | true ↦ λ g e. record { path = p; is_path = is_path; key = sym (same_true (enc p) k g) }
    | false ↦ λ g e. old.only_paths k v e
  ] refl;
}

-- the blocks of the path after the change fit what is seen there: they hold its bytes, and there are none but of a file
pub record BlocksFit (block : ℕ → Option (List ℕ)) (l : Option Look) : Type 0 where
  pub hold : (b : List ℕ) → l ≡ Some (Bytes b) → Hold block b
  pub file : (i : ℕ) (v : List ℕ) → i < most_blocks → block i ≡ Some v → (b : List ℕ) × (l ≡ Some (Bytes b))

-- blocks that are equal hold the same bytes
pub hold_alike : (f g : ℕ → Option (List ℕ)) (b : List ℕ) → ((i : ℕ) → i < most_blocks → f i ≡ g i) → Hold f b → Hold g b
hold_alike f g b alike hold = record {
  byte = λ i j li lj. ap (λ (o : Option (List ℕ)). byte_of o j) (sym (alike i li)) ∙ hold.byte i j li lj;
  within = λ i v j li h. hold.within i v j li (alike i li ∙ h);
}

-- no blocks hold no bytes
pub no_bytes : (block : ℕ → Option (List ℕ)) → ((i : ℕ) → i < most_blocks → block i ≡ None) → Hold block []
no_bytes block none = record {
  byte = λ i j li lj. ap (λ (o : Option (List ℕ)). byte_of o j) (none i li);
  within = λ i v j li h lj. absurd (let f : None ≡ Some v = sym (none i li) ∙ h in cc);
}

-- a block key tells its path
pub one_path : (p q : Path) (i j : ℕ) → EachName p → EachName q → i < most_blocks → j < most_blocks → block_key p i ≡ block_key q j → p ≡ q
one_path p q i j u v li lj e = (block_key_injective p q i j u v (omega arith) (omega arith) e).0

-- the block index follows a change of the path's blocks
pub blocks_at_point : (t t' : Tree) (p : Path) (l : Option Sight) (change : ℕ → Option (List ℕ) → Option (List ℕ)) (d d' : Blocks) → IsPath p → IsPoint t t' p l → BlocksChange change p d d' → BlocksFit (λ i. change i (d (block_key p i))) (option_map look_of l) → BlocksMean t d → BlocksMean t' d'
blocks_at_point t t' p l change d d' is_path n new fit old = record {
  blocks = λ q b u f. ⊎_elim
      (λ (is : q ≡ p).
      hold_alike (λ i. change i (d (block_key p i))) (λ i. d' (block_key q i)) b
      (λ i li. sym (new.block i li) ∙ ap (λ (y : Path). d' (block_key y i)) (sym is))
      (fit.hold b (sym (looks_itself t t' p l n) ∙ ap (look t') (sym is) ∙ f)))
      (λ (other : q ≢ p).
      hold_alike (λ i. d (block_key q i)) (λ i. d' (block_key q i)) b
      (λ i li. sym (new.elsewhere (block_key q i) (λ j lj g. other (one_path q p i j u.names is_path.names li lj g))))
      (old.blocks q b u (sym (looks_other t t' p l n q other) ∙ f)))
      (path_cases p q is_path.names u.names);
  only_blocks = λ k v f. ⊎_elim
      (λ (g : (u : List ℕ) × (d k ≡ Some u)).
      let o : BlockOf t k = old.only_blocks k g.0 g.1 in
      ⊎_elim
      (λ (is : o.path ≡ p). own k v f o.index o.few (o.key ∙ ap (λ (y : Path). block_key y o.index) is))
      (λ (other : o.path ≢ p). record { path = o.path; index = o.index; bytes = o.bytes; is_path = o.is_path; few = o.few; key = o.key; file = looks_other t t' p l n o.path other ∙ o.file })
      (path_cases p o.path is_path.names o.is_path.names))
      (λ (g : (i : ℕ) × (i < most_blocks) × (k ≡ block_key p i)). own k v f g.0 g.1 g.2)
      (new.only k v f);
}
  where
    own : (k : Key) (v : List ℕ) → d' k ≡ Some v → (i : ℕ) → i < most_blocks → k ≡ block_key p i → BlockOf t' k
    own k v f i li e =
        let c : (b : List ℕ) × (option_map look_of l ≡ Some (Bytes b)) = fit.file i v li (sym (new.block i li) ∙ ap d' (sym e) ∙ f) in
        record { path = p; index = i; bytes = c.0; is_path = is_path; few = li; key = e; file = looks_itself t t' p l n ∙ c.1 }

-- where the path is no file, it has no blocks
pub no_blocks : (t : Tree) (p : Path) (d : Blocks) → IsPath p → ((b : List ℕ) → look t p ≡ Some (Bytes b) → ⊥) → BlocksMean t d → (i : ℕ) (v : List ℕ) → i < most_blocks → d (block_key p i) ≡ Some v → ⊥
no_blocks t p d is_path plain old i v li e =
    let o : BlockOf t (block_key p i) = old.only_blocks (block_key p i) v e in
    plain o.bytes (ap (look t) (one_path p o.path i o.index is_path.names o.is_path.names li o.few o.key) ∙ o.file)

-- an index that is left as it was
pub unchanged : (p : Path) (d : Blocks) → BlocksChange (λ i o. o) p d d
unchanged p d = record { block = λ i li. refl; elsewhere = λ k off. refl; only = λ k v e. inl (v, e) }

-- where the same is seen but for moments, the same blocks are meant
pub blocks_alike : (t u : Tree) (d : Blocks) → ((p : Path) → look u p ≡ look t p) → BlocksMean t d → BlocksMean u d
blocks_alike t u d alike means = record {
  blocks = λ p b v f. means.blocks p b v (sym (alike p) ∙ f);
  only_blocks = λ k v f.
      let o : BlockOf t k = means.only_blocks k v f in
      record { path = o.path; index = o.index; bytes = o.bytes; is_path = o.is_path; few = o.few; key = o.key; file = alike o.path ∙ o.file };
}
