-- The blocks that get their bytes: after them the tree is the new one.
use Rattle.std.proofs.Common.{◌≡◌, ◌≢◌, ◌⊎◌, ⊎_elim, inl, inr, ℕ, ◌*◌, ◌<◌, ◌≤◌, Bool, true, false, List, [], ◌∷◌, ◌++◌, length, append_assoc, refl, sym, ap, subst, ◌∙◌, arith, Option, Some, None, cond}
use Rattle.std.specs.Prelude.{nat_lt}
use Rattle.std.specs.List.{Contains}
use Rattle.std.proofs.lemmas.Bool.{cases_eq, cases_lt, ltb-false, ltb-true}
use Rattle.std.proofs.lemmas.List.Elements.{Contains-append_right}
use Rattle.message.proofs.NextKey.{by_bool}
use Rattle.pathkey.specs.Enc.{enc}
use Rattle.pathkey.specs.Names.{IsPath}
use Rattle.pathkey.specs.Order.{same}
use Rattle.pathkey.proofs.KeyFacts.{enc_law}
use Rattle.pathkey.proofs.OrderFacts.{apart, same_true}
use Rattle.reference.specs.Image.{trimmed}
use Rattle.reference.specs.Indexes.{most_blocks}
use Rattle.reference.specs.Reads.{Bytes, Directory, Seen, Sight, sight}
use Rattle.reference.specs.Shape.{IsContent, IsMoment, IsTree}
use Rattle.reference.specs.Tree.{Path, Tree, entry_at}
use Rattle.reference.proofs.PathOrder.{not_below_itself}
use Rattle.reference.proofs.TreeEdits.{sights_may}
use Rattle.edits.specs.Between.{AreBlocksBetween, block_change, edit_of, key_of, resized, rewrite, rewrites}
use Rattle.edits.specs.Edits.{AreEdited, FitsBlock, IsEdited, block_at, block_digest, seen_after, with_block}
use Rattle.edits.specs.declared.edit.Change.{Change}
use Rattle.edits.proofs.Arrivals.{between}
use Rattle.edits.proofs.BlockFacts.{block_past, bytes-block, bytes-trimmed, kept_block, length-block, length-resized, length-trimmed, length-with_block, same_blocks, with_block_itself, with_block_other}
use Rattle.edits.proofs.EditTrees.{Makes, content_seen, rewritten_block}
use Rattle.edits.proofs.Ordered.{Below, Ordered, contains_first, contains_more, contains_none, contains_cases, later, ordered}
use Rattle.edits.proofs.Removals.{edited_append, one_edit}

pub path_cases : (p q : Path) → IsPath p → IsPath q → (p ≡ q) ⊎ (p ≢ q)
path_cases p q v w = by_bool (same (enc p) (enc q)) ((p ≡ q) ⊎ (p ≢ q))
    (λ e. inl (enc_law p q v.names w.names (same_true (enc p) (enc q) e)))
    (λ e. inr (λ z. apart (enc p) (enc q) e (ap enc z)))

-- a file is seen in the new tree, or none is
pub file_cases : (s : Option Sight) → ((c : List ℕ) × (at : ℕ) × (s ≡ Some (Seen (Bytes c) at))) ⊎ ((c : List ℕ) (at : ℕ) → s ≡ Some (Seen (Bytes c) at) → ⊥)
file_cases None = inr (λ c at e. cc)
file_cases (Some (Seen Directory date)) = inr (λ c at e. cc)
file_cases (Some (Seen (Bytes b) date)) = inl (b, date, refl)

module _ (t u : Tree) (is_u : IsTree u) (bs : List (Path × ℕ)) (of : AreBlocksBetween t u bs) where
  -- a file whose blocks are to be rewritten, of which some remain
  pub record IsPart (rest : List (Path × ℕ)) (q : Path) (old : Option Sight) (new b : List ℕ) : Type 0 where
    pub size : length b ≡ length new
    pub before : (i : ℕ) → i < most_blocks → Contains rest (q, i) → block_at i b ≡ block_at i (resized old (length new))
    pub after : (i : ℕ) → i < most_blocks → (Contains rest (q, i) → ⊥) → block_at i b ≡ block_at i new

  pub record HaveBlocks (rest : List (Path × ℕ)) (m : Tree) : Type 0 where
    pub tree : IsTree m
    pub files : (q : Path) (c : List ℕ) (at : ℕ) → IsPath q → sight u q ≡ Some (Seen (Bytes c) at) → (b : List ℕ) × (sight m q ≡ Some (Seen (Bytes b) at)) × IsPart rest q (sight t q) c b
    pub other : (q : Path) → IsPath q → ((c : List ℕ) (at : ℕ) → sight u q ≡ Some (Seen (Bytes c) at) → ⊥) → sight m q ≡ sight u q

  -- before the first
  pub no_block : (m : Tree) → IsTree m → ((q : Path) → IsPath q → sight m q ≡ between (sight t q) (sight u q)) → HaveBlocks bs m
  no_block m is at = record {
    tree = is;
    files = λ q c date v e. (
      resized (sight t q) (length c),
      at q v ∙ ap (between (sight t q)) e,
      record {
        size = length-resized (sight t q) (length c);
        before = λ i lt there. refl;
        after = λ i lt off. ⊎_elim (λ there. absurd (off there)) (λ alike. kept_block (entry_at t q) (entry_at u q) i c date alike e) (of.all q i v lt);
      },
    );
    other = λ q v none. at q v ∙ plain (sight t q) (sight u q) none;
  }
    where
      plain : (s r : Option Sight) → ((c : List ℕ) (at : ℕ) → r ≡ Some (Seen (Bytes c) at) → ⊥) → between s r ≡ r
      plain s None none = refl
      plain s (Some (Seen Directory date)) none = refl
      plain s (Some (Seen (Bytes c) date)) none = absurd (none c date refl)

  -- behind the last
  pub last_block : (m : Tree) → HaveBlocks [] m → (q : Path) → IsPath q → sight m q ≡ sight u q
  last_block m have q v = ⊎_elim
      (λ f.
      let (c, at, e) = f in
      let (b, there, part) = have.files q c at v e in
      let content : IsContent c = content_seen u q c at is_u e in
      let one : b ≡ c = same_blocks b c part.size (λ i. ⊎_elim
      (λ (lt : i < most_blocks). part.after i lt (λ x. contains_none (q, i) x))
      (λ (le : most_blocks ≤ i). block_past i b c part.size (omega (arith, le, content.few, part.size)))
      (cases_lt i most_blocks)) in
      there ∙ ap (λ (x : List ℕ). Some (Seen (Bytes x) at)) one ∙ sym e)
      (λ none. have.other q v none)
      (file_cases (sight u q))

  module _ (front rest : List (Path × ℕ)) (p : Path) (i : ℕ) (cut : bs ≡ front ++ (p, i) ∷ rest) (m : Tree) (have : HaveBlocks ((p, i) ∷ rest) m) where
    listed : Contains bs (p, i)
    listed = subst (λ (l : List (Path × ℕ)). Contains l (p, i)) (sym cut) (Contains-append_right front ((p, i) ∷ rest) (p, i) (contains_first (p, i) rest))

    is_path : IsPath p
    is_path = (of.paths (p, i) listed).0

    few : i < most_blocks
    few = (of.paths (p, i) listed).1

    once : Contains rest (p, i) → ⊥
    once there = not_below_itself (key_of (p, i)) (later (Below key_of) front (p, i) rest (p, i) (subst (Ordered (Below key_of)) cut (ordered key_of bs of.rising)) there)

    -- another block is as it was
    not_this : (q : Path) (j : ℕ) → ◌≢◌ {A = Path × ℕ} (p, i) (q, j) → (Contains rest (q, j) → ⊥) → Contains ((p, i) ∷ rest) (q, j) → ⊥
    not_this q j ne off there = ⊎_elim ne off (contains_cases (p, i) rest (q, j) there)

    other_part : (q : Path) (c b : List ℕ) → p ≢ q → IsPart ((p, i) ∷ rest) q (sight t q) c b → IsPart rest q (sight t q) c b
    other_part q c b ne part = record {
      size = part.size;
      before = λ j lt there. part.before j lt (contains_more (p, i) rest (q, j) there);
      after = λ j lt off. part.after j lt (not_this q j (λ z. ne (ap (λ (x : Path × ℕ). x.0) z)) off);
    }

    -- the file with the block
    this_part : (c b d : List ℕ) → IsPart ((p, i) ∷ rest) p (sight t p) c b → length d ≡ length b → block_at i d ≡ block_at i c → ((j : ℕ) → i ≢ j → block_at j d ≡ block_at j b) → IsPart rest p (sight t p) c d
    this_part c b d part size itself others = record {
      size = size ∙ part.size;
      before = λ j lt there. others j (λ z. once (subst (λ (x : ℕ). Contains rest (p, x)) (sym z) there)) ∙ part.before j lt (contains_more (p, i) rest (p, j) there);
      after = λ j lt off. ⊎_elim
          (λ (e : i ≡ j). subst (λ (x : ℕ). block_at x d ≡ block_at x c) e itself)
          (λ (ne : i ≢ j). others j ne ∙ part.after j lt (not_this p j (λ z. ne (ap (λ (x : Path × ℕ). x.1) z)) off))
          (cases_eq i j);
    }

    abbrev Result : Option Change → Type 0
    Result o = (x : Tree) × AreEdited (edit_of p o) m x × HaveBlocks rest x

    -- no edit: the block is in no file of the new tree
    skipped : ((c : List ℕ) (at : ℕ) → sight u p ≡ Some (Seen (Bytes c) at) → length c ≤ 4096 * i) → HaveBlocks rest m
    skipped past = record {
      tree = have.tree;
      files = λ q c at v e. let (b, there, part) = have.files q c at v e in (
        b,
        there,
        ⊎_elim
            (λ (same : p ≡ q).
            let here : sight u p ≡ Some (Seen (Bytes c) at) = ap (sight u) same ∙ e in
            let moved : IsPart ((p, i) ∷ rest) p (sight t p) c b = subst (λ (z : Path). IsPart ((p, i) ∷ rest) z (sight t z) c b) (sym same) part in
            subst (λ (z : Path). IsPart rest z (sight t z) c b) same
            (this_part c b b moved refl (block_past i b c part.size (let l : length c ≤ 4096 * i = past c at here in omega (arith, l, part.size))) (λ j ne. refl)))
            (λ ne. other_part q c b ne part)
            (path_cases p q is_path v),
      );
      other = have.other;
    }

    -- an edit: the block gets its bytes
    written : (c : List ℕ) (at : ℕ) → sight u p ≡ Some (Seen (Bytes c) at) → 4096 * i < length c → (x : Tree) × IsEdited (record { path = p; change = rewrite (sight t p) i c }) m x × HaveBlocks rest x
    written c at e inside =
        let (b, there, part) = have.files p c at is_path e in
        let new : List ℕ = trimmed (block_at i c) in
        let content : IsContent c = content_seen u p c at is_u e in
        let early : IsMoment at = sights_may u p (Seen (Bytes c) at) is_u e in
        let in_b : 4096 * i < length b = omega (arith, inside, part.size) in
        let k = length-block i b in
        let l = length-block i c in
        let room : length new ≤ length (block_at i b) = omega (arith, length-trimmed (block_at i c), k, l, part.size) in
        let fits : FitsBlock i (block_digest (block_at i (resized (sight t p) (length c)))) new b = record {
          inside = in_b;
          few = room;
          same = ap block_digest (part.before i few (contains_first (p, i) rest));
        } in
        let f : Makes p (rewrite (sight t p) i c) m = rewritten_block m p b at i (block_digest (block_at i (resized (sight t p) (length c)))) new have.tree there early (bytes-trimmed (block_at i c) (bytes-block i c content.bytes)) fits in
        let after : sight f.0 p ≡ Some (Seen (Bytes (with_block i new b)) at) = f.1.itself ∙ ap (seen_after (rewrite (sight t p) i c)) there in (
          f.0,
          f.1,
          record {
            tree = f.1.tree;
            files = λ q d date v g. ⊎_elim
                (λ (same : p ≡ q).
                let one : Some (Seen (Bytes c) at) ≡ Some (Seen (Bytes d) date) = sym e ∙ ap (sight u) same ∙ g in
                let bytes : c ≡ d = cc in
                let when : at ≡ date = cc in
                let moved : IsPart rest p (sight t p) c (with_block i new b) = this_part c b (with_block i new b) part (length-with_block i b new in_b room) (with_block_itself i b c in_b part.size) (λ j ne. with_block_other i j b new ne in_b room) in
                (with_block i new b, ap (sight f.0) (sym same) ∙ after ∙ ap (λ (x : ℕ). Some (Seen (Bytes (with_block i new b)) x)) when, subst (λ (z : List ℕ). IsPart rest q (sight t q) z (with_block i new b)) bytes (subst (λ (z : Path). IsPart rest z (sight t z) c (with_block i new b)) same moved)))
                (λ ne. let (d_b, seen, d_part) = have.files q d date v g in (d_b, f.1.other q (λ z. ne (sym z)) ∙ seen, other_part q d d_b ne d_part))
                (path_cases p q is_path v);
            other = λ q v none. f.1.other q (λ z. none c at (ap (sight u) z ∙ e)) ∙ have.other q v none;
          },
        )

    pub have_more : Result (block_change (sight t p) (sight u p) i)
    have_more = go (sight u p) refl
      where
        go : (r : Option Sight) → sight u p ≡ r → Result (block_change (sight t p) r i)
        go None e = (m, refl, skipped (λ c at f. let g : None ≡ Some (Seen (Bytes c) at) = sym e ∙ f in absurd (cc)))
        go (Some (Seen Directory date)) e = (m, refl, skipped (λ c at f. let g : Some (Seen Directory date) ≡ Some (Seen (Bytes c) at) = sym e ∙ f in absurd (cc)))
        go (Some (Seen (Bytes c) date)) e = by_bool (nat_lt (4096 * i) (length c)) (Result (block_change (sight t p) (Some (Seen (Bytes c) date)) i))
            (λ (h : nat_lt (4096 * i) (length c) ≡ true).
            let f = written c date e (ltb-true (4096 * i) (length c) h) in
            subst (λ (b : Bool). Result (cond b (Some (rewrite (sight t p) i c)) None)) (sym h) (f.0, one_edit (record { path = p; change = rewrite (sight t p) i c }) m f.0 f.1, f.2))
            (λ (h : nat_lt (4096 * i) (length c) ≡ false).
            subst (λ (b : Bool). Result (cond b (Some (rewrite (sight t p) i c)) None)) (sym h) (
              m,
              refl,
              skipped (λ d at f.
                  let one : Some (Seen (Bytes c) date) ≡ Some (Seen (Bytes d) at) = sym e ∙ f in
                  let bytes : c ≡ d = cc in
                  subst (λ (x : List ℕ). length x ≤ 4096 * i) bytes (ltb-false (4096 * i) (length c) h)),
            ))

  -- all of them
  pub all_rewritten : (front rest : List (Path × ℕ)) → bs ≡ front ++ rest → (m : Tree) → HaveBlocks rest m → (x : Tree) × AreEdited (rewrites t u rest) m x × HaveBlocks [] x
  all_rewritten front [] cut m have = (m, refl, have)
  all_rewritten front (b ∷ rest) cut m have =
      let f = have_more front rest b.0 b.1 cut m have in
      let g = all_rewritten (front ++ b ∷ []) rest (cut ∙ sym (append_assoc front (b ∷ []) rest)) f.0 f.2 in
      (g.0, edited_append (edit_of b.0 (block_change (sight t b.0) (sight u b.0) b.1)) (rewrites t u rest) m f.0 g.0 f.1 g.1, g.2)
