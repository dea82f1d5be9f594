-- The two indexes of an empty tree: the root's metadata, and no block.
use Rattle.std.proofs.Common.{◌≡◌, ℕ, List, [], ◌∷◌, ◌++◌, sym, ap, refl, ◌∙◌, subst, arith, Some, None}
use Rattle.pathkey.specs.Names.{Name, Path, IsPath}
use Rattle.pathkey.specs.Keys.{Key, enc}
use Rattle.reference.specs.Tree.{Dir, nothing}
use Rattle.reference.specs.Reads.{Look, Directory, Bytes, look, Sight, Seen, date_of, sighted, sight}
use Rattle.reference.specs.Shape.{IsMoment, IsTree}
use Rattle.reference.specs.Indexes.{meta_of, PathOf, IndexesMean, put_at}
use Rattle.reference.specs.declared.reply.Meta.{Meta}
use Rattle.reference.specs.declared.reply.Meta.TheVariants.{Dir as DirMeta}
use Rattle.reference.proofs.Edits.{unseen, fold-Missing}
use Rattle.reference.proofs.TreeEdits.{MayBeSeen, tree_from_looks}

-- the root is a path
root_path : IsPath []
root_path = record { names = tt; fits = omega arith }

-- below the root of an empty tree nothing is seen
none_sighted : (date : ℕ) (n : Name) (p : Path) → sight (Dir date nothing) (n ∷ p) ≡ None
none_sighted date n p = ap sighted (fold-Missing p)

-- all that is seen in an empty tree is its root
root_seen : (date : ℕ) (p : Path) (l : Look) → look (Dir date nothing) p ≡ Some l → MayBeSeen p l
root_seen date [] l e = record { path = root_path; content = λ b f. absurd (let g : Directory ≡ Bytes b = (let h : Directory ≡ l = cc in h) ∙ f in cc) }
root_seen date (n ∷ p) l e = absurd (let f : None ≡ Some l = sym (unseen (Dir date nothing) (n ∷ p) (none_sighted date n p)) ∙ e in cc)

root_date : (date : ℕ) (p : Path) (s : Sight) → IsMoment date → sight (Dir date nothing) p ≡ Some s → IsMoment (date_of s)
root_date date [] s early e = let same : Seen Directory date ≡ s = cc in subst (λ (z : Sight). IsMoment (date_of z)) same early
root_date date (n ∷ p) s early e = absurd (let f : None ≡ Some s = sym (none_sighted date n p) ∙ e in cc)

-- an empty directory is a directory tree
pub empty_tree : (date : ℕ) → IsMoment date → IsTree (Dir date nothing)
empty_tree date early = tree_from_looks (Dir date nothing) tt tt (root_seen date) (λ p s e. root_date date p s early e)

-- no file is seen in it
no_file : (p : Path) (b : List ℕ) → look (Dir 0 nothing) p ≡ Some (Bytes b) → ⊥
no_file [] b e = cc
no_file (n ∷ p) b e = let f : None ≡ Some (Bytes b) = sym (unseen (Dir 0 nothing) (n ∷ p) (none_sighted 0 n p)) ∙ e in cc

-- the index has no other key than the root's
none_below_root : (n : Name) (k : Key) → put_at [] (DirMeta 0) (λ j. None) (n ++ 0 ∷ k) ≡ None
none_below_root [] k = refl
none_below_root (b ∷ n) k = refl

-- and so the metadata of what is seen at each path
root_meta : (p : Path) → put_at [] (DirMeta 0) (λ j. None) (enc p) ≡ meta_of (sight (Dir 0 nothing) p)
root_meta [] = refl
root_meta (n ∷ p) = none_below_root n (enc p) ∙ ap meta_of (sym (none_sighted 0 n p))

-- the only key is the root's
root_alone : (k : Key) (v : Meta) → put_at [] (DirMeta 0) (λ j. None) k ≡ Some v → PathOf k
root_alone [] v e = record { path = []; is_path = root_path; key = refl }
root_alone (b ∷ k) v e = absurd (cc)

-- the indexes of the empty tree
pub fresh_law : IndexesMean (Dir 0 nothing) (put_at (enc []) (DirMeta 0) (λ k. None)) (λ k. None)
fresh_law = record {
  tree = empty_tree 0 (omega arith);
  meta = record { paths = λ p u. root_meta p; only_paths = root_alone };
  blocks = record { blocks = λ p b u e. absurd (no_file p b e); only_blocks = λ k v e. absurd (cc) };
}
