-- The edits between two trees have lines.
use Rattle.std.proofs.Common.{◌≡◌, ◌++◌, ◌∷◌, [], List, All, ℕ, zero, suc, ◌<◌, ◌*◌, ◌/◌, ◌%◌, length, refl, sym, ap, subst, arith, Bool, true, false, cond, Option, Some, None}
use Rattle.std.specs.Prelude.{IfSome, nat_lt, slice_index}
use Rattle.std.specs.Int.{to_be_bytes, w32}
use Rattle.std.specs.List.{Contains}
use Rattle.std.proofs.lemmas.List.Elements.{All-append, All-cons, All-nil}
use Rattle.pathkey.specs.Names.{IsPath}
use Rattle.reference.specs.Image.{trimmed}
use Rattle.reference.specs.Indexes.{meta_of, most_blocks}
use Rattle.reference.specs.Reads.{Bytes, Directory, Seen, Sight, sight}
use Rattle.reference.specs.Shape.{AreBytes, IsContent, IsTree}
use Rattle.reference.specs.Tree.{Path, Tree}
use Rattle.reference.specs.declared.reply.Meta.{Meta}
use Rattle.reference.specs.declared.reply.Meta.TheVariants.{Dir as DirMeta, File as FileMeta}
use Rattle.sha2.specs.Sha256.{digest_bytes, sha256}
use Rattle.sha2.proofs.Facts256.{length-sha256}
use Rattle.edits.specs.Between.{AreBlocksBetween, AreEntriesBetween, arrival, arrivals, block_change, edit_of, edits_between, removal, removals, resized, rewrite, rewrites}
use Rattle.edits.specs.Edits.{block_at, digest}
use Rattle.edits.specs.Lines.{IsChange, IsDigest, IsEdit, IsMeta}
use Rattle.edits.specs.declared.edit.Change.{Change}
use Rattle.edits.proofs.Arrivals.{Arrives, Comes, Resized, Touched, arrives, may_have}
use Rattle.edits.proofs.BlockFacts.{bytes-block, bytes-trimmed}
use Rattle.edits.proofs.EditTrees.{MayHave, content_seen}
use Rattle.edits.proofs.Ordered.{contains_first, contains_more}
use Rattle.edits.proofs.Removals.{IsRemoval, left_of, removal_is}

meta_valid : (m : Meta) → MayHave m → IsMeta m
meta_valid (DirMeta at) may = may.early
meta_valid (FileMeta n at) may = (omega (arith, may.short n at refl), may.early)

-- the metadata at a path of a tree
pub seen_meta : (t : Tree) (p : Path) (m : Meta) → IsTree t → meta_of (sight t p) ≡ Some m → IsMeta m
seen_meta t p m is e = meta_valid m (may_have t p m is e)

bytes_of_digest : (h : List ℕ) (n : ℕ) → AreBytes (digest_bytes h n)
unfolding digest_bytes
bytes_of_digest h zero = All-nil (λ x. x < 256)
bytes_of_digest h (suc n) = All-append (λ x. x < 256) (digest_bytes h n) (to_be_bytes w32 (slice_index h n)) (bytes_of_digest h n) (four (slice_index h n))
  where
    four : (x : ℕ) → AreBytes (to_be_bytes w32 x)
    four x =
        let one : x / 16777216 % 256 < 256 = omega arith in
        let two : x / 65536 % 256 < 256 = omega arith in
        let three : x / 256 % 256 < 256 = omega arith in
        let last : x % 256 < 256 = omega arith in
        All-cons (λ y. y < 256) (x / 16777216 % 256) (x / 65536 % 256 ∷ x / 256 % 256 ∷ x % 256 ∷ []) one
        (All-cons (λ y. y < 256) (x / 65536 % 256) (x / 256 % 256 ∷ x % 256 ∷ []) two
        (All-cons (λ y. y < 256) (x / 256 % 256) (x % 256 ∷ []) three
        (All-cons (λ y. y < 256) (x % 256) [] last (All-nil (λ y. y < 256)))))

pub is_digest : (b : List ℕ) → IsDigest (sha256 b)
unfolding sha256
is_digest b = record { size = length-sha256 b; bytes = bytes_of_digest _ 8 }

pub some_digest : (b : List ℕ) → IfSome (digest b) IsDigest
some_digest [] = tt
some_digest (x ∷ xs) = is_digest (x ∷ xs)

-- ---- each change

pub removal_valid : (t u : Tree) (p : Path) (c : Change) → IsTree t → removal (meta_of (sight t p)) (meta_of (sight u p)) ≡ Some c → IsChange c
removal_valid t u p c is e =
    let r : IsRemoval (sight t p) (sight u p) c = removal_is (sight t p) (sight u p) c e in
    subst IsChange (sym r.change) (seen_meta t p r.meta is r.there)

pub arrival_valid : (t u : Tree) (p : Path) (c : Change) → IsTree t → IsTree u → arrival (meta_of (sight t p)) (meta_of (sight u p)) ≡ Some c → IsChange c
arrival_valid t u p c is_t is_u e = go (arrives (sight t p) (sight u p) c e)
  where
    go : Arrives (sight t p) (sight u p) c → IsChange c
    go (Comes m is none new after) = subst IsChange (sym is) (seen_meta u p m is_u new)
    go (Touched at date is there new) = subst IsChange (sym is) (old at (sight t p) (sight u p) refl there, seen_meta u p (DirMeta date) is_u (ap meta_of new), tt)
      where
        old : (d : ℕ) (s r : Option Sight) → sight t p ≡ s → left_of s r ≡ Some (Seen Directory d) → IsMeta (DirMeta d)
        old d None r f h = absurd (cc)
        old d (Some (Seen Directory x)) None f h = absurd (cc)
        old d (Some (Seen Directory x)) (Some (Seen Directory y)) f h = let same : x ≡ d = cc in subst (λ (z : ℕ). IsMeta (DirMeta z)) same (seen_meta t p (DirMeta x) is_t (ap meta_of f))
        old d (Some (Seen Directory x)) (Some (Seen (Bytes b) y)) f h = absurd (cc)
        old d (Some (Seen (Bytes b) x)) None f h = absurd (cc)
        old d (Some (Seen (Bytes b) x)) (Some (Seen Directory y)) f h = absurd (cc)
        old d (Some (Seen (Bytes b) x)) (Some (Seen (Bytes e) y)) f h = absurd (cc)
    go (Resized b d at date is there old new) = subst IsChange (sym is) (seen_meta t p (FileMeta (length b) at) is_t (ap meta_of old), seen_meta u p (FileMeta (length d) date) is_u (ap meta_of new), tt)

pub rewrite_valid : (s : Option Sight) (u : Tree) (p : Path) (i : ℕ) (c : Change) → IsTree u → i < most_blocks → block_change s (sight u p) i ≡ Some c → IsChange c
rewrite_valid s u p i c is few e = go (sight u p) refl e
  where
    some : (b : Bool) (new : List ℕ) → IsChange (rewrite s i new) → cond b (Some (rewrite s i new)) None ≡ Some c → IsChange c
    some true new valid h = let same : rewrite s i new ≡ c = cc in subst IsChange same valid
    some false new valid h = absurd (cc)

    go : (r : Option Sight) → sight u p ≡ r → block_change s r i ≡ Some c → IsChange c
    go None f h = absurd (cc)
    go (Some (Seen Directory at)) f h = absurd (cc)
    go (Some (Seen (Bytes new) at)) f h =
        let content : IsContent new = content_seen u p new at is f in
        some (nat_lt (4096 * i) (length new)) new (omega (arith, few), some_digest (trimmed (block_at i (resized s (length new)))), bytes-trimmed (block_at i new) (bytes-block i new content.bytes)) h

-- ---- all of them

edit_valid : (p : Path) (o : Option Change) → IsPath p → IfSome o IsChange → All IsEdit (edit_of p o)
edit_valid p None v valid = All-nil IsEdit
edit_valid p (Some c) v valid = All-cons IsEdit (record { path = p; change = c }) [] (record { path = v; change = valid }) (All-nil IsEdit)

if_some : (o : Option Change) → ((c : Change) → o ≡ Some c → IsChange c) → IfSome o IsChange
if_some None f = tt
if_some (Some c) f = f c refl

module _ (t u : Tree) (is_t : IsTree t) (is_u : IsTree u) where
  removals_valid : (ps : List Path) → ((p : Path) → Contains ps p → IsPath p) → All IsEdit (removals t u ps)
  removals_valid [] v = All-nil IsEdit
  removals_valid (p ∷ ps) v = All-append IsEdit (removals t u ps) (edit_of p (removal (meta_of (sight t p)) (meta_of (sight u p)))) (removals_valid ps (λ q c. v q (contains_more p ps q c)))
      (edit_valid p (removal (meta_of (sight t p)) (meta_of (sight u p))) (v p (contains_first p ps)) (if_some _ (λ c e. removal_valid t u p c is_t e)))

  arrivals_valid : (ps : List Path) → ((p : Path) → Contains ps p → IsPath p) → All IsEdit (arrivals t u ps)
  arrivals_valid [] v = All-nil IsEdit
  arrivals_valid (p ∷ ps) v = All-append IsEdit (edit_of p (arrival (meta_of (sight t p)) (meta_of (sight u p)))) (arrivals t u ps)
      (edit_valid p (arrival (meta_of (sight t p)) (meta_of (sight u p))) (v p (contains_first p ps)) (if_some _ (λ c e. arrival_valid t u p c is_t is_u e)))
      (arrivals_valid ps (λ q c. v q (contains_more p ps q c)))

  rewrites_valid : (bs : List (Path × ℕ)) → ((b : Path × ℕ) → Contains bs b → IsPath b.0 × (b.1 < most_blocks)) → All IsEdit (rewrites t u bs)
  rewrites_valid [] v = All-nil IsEdit
  rewrites_valid (b ∷ bs) v = All-append IsEdit (edit_of b.0 (block_change (sight t b.0) (sight u b.0) b.1)) (rewrites t u bs)
      (edit_valid b.0 (block_change (sight t b.0) (sight u b.0) b.1) (v b (contains_first b bs)).0 (if_some _ (λ c e. rewrite_valid (sight t b.0) u b.0 b.1 c is_u (v b (contains_first b bs)).1 e)))
      (rewrites_valid bs (λ c there. v c (contains_more b bs c there)))

  pub edits_valid : (ps : List Path) (bs : List (Path × ℕ)) → AreEntriesBetween t u ps → AreBlocksBetween t u bs → All IsEdit (edits_between t u ps bs)
  edits_valid ps bs entries blocks =
      let paths : (p : Path) → Contains ps p → IsPath p = λ p c. subst IsPath c.2 (entries.paths c.0 p c.1) in
      All-append IsEdit (removals t u ps) (arrivals t u ps ++ rewrites t u bs) (removals_valid ps paths) (All-append IsEdit (arrivals t u ps) (rewrites t u bs) (arrivals_valid ps paths) (rewrites_valid bs blocks.paths))
