-- The digest of an image, as it is printed.
use Rattle.std.proofs.Common.{◌≡◌, ℕ, ◌+◌, ◌<◌, ◌≤◌, arith, List, [], ◌++◌, length, take, drop, refl, sym, ap, ◌∙◌, append_assoc, append-nil, subst}
use Rattle.images.specs.Printings.{HandsOver, PPrinting}
use Rattle.reference.specs.Image.{Second, image}
use Rattle.reference.specs.Tree.{Tree}
use Rattle.sha2.specs.Hashers.{Holds256}
use Rattle.sha2.specs.declared.Sha256.{Sha256}
use Rattle.volume.specs.Volumes.{MeanRooted}
use Rattle.volume.specs.declared.fs_root.FsRoot.{FsRoot}
use Rattle.delta.proofs.WalkFacts.{handed_all, handed_on}

-- the hasher holds what was printed of an image so far
pub record Hashed (tree : FsRoot) (p : PPrinting) (h : Sha256) : Type 0 where
  pub same : p.tree ≡ tree
  pub message : List ℕ
  pub holds : Holds256 h message
  pub so_far : (t : Tree) → MeanRooted tree t → image Second t ≡ message ++ drop p.done (image Second t)

pub hashed_none : (p : PPrinting) (h : Sha256) → p.done ≡ 0 → Holds256 h [] → Hashed p.tree p h
hashed_none p h fresh holds = record { same = refl; message = []; holds = holds; so_far = λ t m. sym (ap (λ (k : ℕ). drop k (image Second t)) fresh) }

pub hashed_more : (tree : FsRoot) (p q : PPrinting) (h k : Sha256) (n j : ℕ) (old new : List ℕ) → Hashed tree p h → ((t : Tree) → MeanRooted p.tree t → HandsOver (image Second t) p.done n old new)
    → q ≡ record p { done = p.done + n } → length new ≡ length old → (n ≤ length new → j ≡ n) → ((m : List ℕ) → Holds256 h m → Holds256 k (m ++ take j new)) → Hashed tree q k
hashed_more tree p q h k n j old new f hands on size whole updates = record {
  same = ap (λ x. x.tree) on ∙ f.same;
  message = f.message ++ take j new;
  holds = updates f.message f.holds;
  so_far = λ t m.
      let h = hands t (subst (λ (x : FsRoot). MeanRooted x t) (sym f.same) m) in
      let fits : n ≤ length new = let f : n ≤ length old = h.fits in omega arith in
      let piece = handed_on (image Second t) p.done n old new h size in
      f.so_far t m
      ∙ ap (λ x. f.message ++ x) (piece ∙ ap (λ x. take n new ++ drop x.done (image Second t)) (sym on) ∙ ap (λ (i : ℕ). take i new ++ drop q.done (image Second t)) (sym (whole fits)))
      ∙ sym (append_assoc f.message (take j new) (drop q.done (image Second t)));
}

pub hashed_all : (tree : FsRoot) (p : PPrinting) (h : Sha256) (n : ℕ) (old new : List ℕ) (f : Hashed tree p h) → ((t : Tree) → MeanRooted p.tree t → HandsOver (image Second t) p.done n old new) → n ≡ 0 → 0 < length old
    → (t : Tree) → MeanRooted tree t → image Second t ≡ f.message
hashed_all tree p h n old new f hands none some t m =
    let end = handed_all (image Second t) p.done n old new (hands t (subst (λ (x : FsRoot). MeanRooted x t) (sym f.same) m)) none some in
    f.so_far t m ∙ ap (λ x. f.message ++ x) end ∙ append-nil f.message
