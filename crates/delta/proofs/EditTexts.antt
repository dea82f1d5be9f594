-- The text of edits, as it is printed.
use Rattle.std.proofs.Common.{subst, ◌≡◌, ⊎_elim, ℕ, ◌+◌, ◌<◌, List, [], ◌∷◌, ◌++◌, length, get_or, map, take, drop, codes, refl, sym, ap, ◌∙◌, append_assoc, append-nil}
use Rattle.std.specs.List.{Contains}
use Rattle.std.proofs.lemmas.List.{drop_more, map-append, take_more}
use Rattle.pathkey.specs.Enc.{enc}
use Rattle.pathkey.specs.Names.{IsPath}
use Rattle.reference.specs.Indexes.{meta_of}
use Rattle.reference.specs.Reads.{sight}
use Rattle.reference.specs.Shape.{IsTree}
use Rattle.reference.specs.Tree.{Path, Tree}
use Rattle.textio.specs.Lines.{text_of}
use Rattle.textio.proofs.LineFacts.{text_append}
use Rattle.edits.specs.Between.{AreBlocksBetween, AreEntriesBetween, arrival, arrivals, block_change, edit_of, edits_between, key_of, removal, removals, rewrites}
use Rattle.edits.specs.Lines.{edits_text, heading, listed, spelled}
use Rattle.edits.specs.declared.edit.Edit.{Edit}
use Rattle.edits.specs.Edits.{AreEdited}
use Rattle.edits.proofs.BetweenFacts.{edits_make}
use Rattle.edits.proofs.EditsValid.{edits_valid}
use Rattle.edits.proofs.Ordered.{one_rising, ordered}
use Rattle.edits.proofs.TextFacts.{one_reading}
use Rattle.edits.proofs.Ways.{edits_one_tree}
use Rattle.volume.specs.Volumes.{Means}
use Rattle.delta.specs.Changed.{EditsRoundTripLaw, OneTextLaw, PrintsEdits}

edits_append : (es fs : List Edit) → edits_text (es ++ fs) ≡ edits_text es ++ edits_text fs
edits_append es fs = ap text_of (map-append spelled es fs) ∙ text_append (map spelled es) (map spelled fs)

-- more edits behind those that were printed
pub text_more : (new old out : List ℕ) (es fs gs : List Edit) → new ≡ old ++ edits_text fs → old ≡ out ++ edits_text es → gs ≡ es ++ fs → new ≡ out ++ edits_text gs
text_more new old out es fs gs more before is =
    more ∙ ap (λ (x : List ℕ). x ++ edits_text fs) before ∙ append_assoc out (edits_text es) (edits_text fs) ∙ ap (λ (x : List ℕ). out ++ x) (sym (edits_append es fs) ∙ ap edits_text (sym is))

module _ (t u : Tree) where
  pub removals_more : (ps : List Path) (k : ℕ) (p : Path) → k < length ps → p ≡ get_or ps k p → removals t u (drop k ps) ≡ removals t u (drop (k + 1) ps) ++ edit_of p (removal (meta_of (sight t p)) (meta_of (sight u p)))
  removals_more ps k p lt is = ap (removals t u) (drop_more ps k p lt ∙ ap (λ (x : Path). x ∷ drop (k + 1) ps) (sym is))

  arrivals_push : (ps : List Path) (p : Path) → arrivals t u (ps ++ p ∷ []) ≡ arrivals t u ps ++ edit_of p (arrival (meta_of (sight t p)) (meta_of (sight u p)))
  arrivals_push [] p = append-nil (edit_of p (arrival (meta_of (sight t p)) (meta_of (sight u p))))
  arrivals_push (q ∷ ps) p =
      ap (λ (es : List Edit). edit_of q (arrival (meta_of (sight t q)) (meta_of (sight u q))) ++ es) (arrivals_push ps p)
      ∙ sym (append_assoc (edit_of q (arrival (meta_of (sight t q)) (meta_of (sight u q)))) (arrivals t u ps) (edit_of p (arrival (meta_of (sight t p)) (meta_of (sight u p)))))

  pub arrivals_more : (ps : List Path) (i : ℕ) (p : Path) → i < length ps → p ≡ get_or ps i p → arrivals t u (take (i + 1) ps) ≡ arrivals t u (take i ps) ++ edit_of p (arrival (meta_of (sight t p)) (meta_of (sight u p)))
  arrivals_more ps i p lt is = ap (arrivals t u) (take_more ps i p lt ∙ ap (λ (x : Path). take i ps ++ x ∷ []) (sym is)) ∙ arrivals_push (take i ps) p

  rewrites_push : (bs : List (Path × ℕ)) (b : Path × ℕ) → rewrites t u (bs ++ b ∷ []) ≡ rewrites t u bs ++ edit_of b.0 (block_change (sight t b.0) (sight u b.0) b.1)
  rewrites_push [] b = append-nil (edit_of b.0 (block_change (sight t b.0) (sight u b.0) b.1))
  rewrites_push (c ∷ bs) b =
      ap (λ (es : List Edit). edit_of c.0 (block_change (sight t c.0) (sight u c.0) c.1) ++ es) (rewrites_push bs b)
      ∙ sym (append_assoc (edit_of c.0 (block_change (sight t c.0) (sight u c.0) c.1)) (rewrites t u bs) (edit_of b.0 (block_change (sight t b.0) (sight u b.0) b.1)))

  pub rewrites_more : (bs : List (Path × ℕ)) (i : ℕ) (b : Path × ℕ) → i < length bs → b ≡ get_or bs i b → rewrites t u (take (i + 1) bs) ≡ rewrites t u (take i bs) ++ edit_of b.0 (block_change (sight t b.0) (sight u b.0) b.1)
  rewrites_more bs i b lt is = ap (rewrites t u) (take_more bs i b lt ∙ ap (λ (x : Path × ℕ). take i bs ++ x ∷ []) (sym is)) ∙ rewrites_push (take i bs) b

-- the lines with the first and the last
whole_text : (es : List Edit) → (codes "delta 2\n" ++ edits_text es) ++ codes "end\n" ≡ text_of (heading ∷ listed es)
whole_text es =
    append_assoc (codes "delta 2\n") (edits_text es) (codes "end\n")
    ∙ ap (λ (x : List ℕ). codes "delta 2\n" ++ x) (sym (text_append (map spelled es) (codes "end" ∷ [])))

-- all that is printed
pub printed : (t u : Tree) (ps : List Path) (bs : List (Path × ℕ)) (none first a b c text : List ℕ) → IsTree t → IsTree u → AreEntriesBetween t u ps → AreBlocksBetween t u bs
    → none ≡ [] → first ≡ none ++ codes "delta 2\n" → a ≡ first ++ edits_text (removals t u ps) → b ≡ a ++ edits_text (arrivals t u ps) → c ≡ b ++ edits_text (rewrites t u bs) → text ≡ c ++ codes "end\n" → PrintsEdits text t u
printed t u ps bs none first a b c text is_t is_u entries blocks empty head one two three end =
    let es : List Edit = edits_between t u ps bs in
    let start : first ≡ codes "delta 2\n" = head ∙ ap (λ (x : List ℕ). x ++ codes "delta 2\n") empty in
    let two_three : c ≡ a ++ edits_text (arrivals t u ps ++ rewrites t u bs) = text_more c b a (arrivals t u ps) (rewrites t u bs) (arrivals t u ps ++ rewrites t u bs) three two refl in
    let all : c ≡ first ++ edits_text es = text_more c a first (removals t u ps) (arrivals t u ps ++ rewrites t u bs) es two_three one refl in
    record {
      paths = ps;
      blocks = bs;
      entries = entries;
      differing = blocks;
      are = record {
        edits = edits_valid t u is_t is_u ps bs entries blocks;
        is = end ∙ ap (λ (x : List ℕ). x ++ codes "end\n") (all ∙ ap (λ (x : List ℕ). x ++ edits_text es) start) ∙ whole_text es;
      };
      make = edits_make t u ps bs is_t is_u entries blocks;
    }

-- there is one list of paths, and one of blocks
pub one_text : OneTextLaw
one_text text other t u one two =
    let paths : one.paths ≡ two.paths = one_rising enc one.paths two.paths (ordered enc one.paths one.entries.rising) (ordered enc two.paths two.entries.rising) (in_both one two) (in_both two one) in
    let blocks : one.blocks ≡ two.blocks = one_rising key_of one.blocks two.blocks (ordered key_of one.blocks one.differing.rising) (ordered key_of two.blocks two.differing.rising) (block_in_both one two) (block_in_both two one) in
    one.are.is ∙ (λ i. text_of (heading ∷ listed (edits_between t u (paths i) (blocks i)))) ∙ sym two.are.is
  where
    in_both : {a b : List ℕ} (x : PrintsEdits a t u) (y : PrintsEdits b t u) (p : Path) → Contains x.paths p → Contains y.paths p
    in_both x y p there = ⊎_elim (λ c. c) (λ same. absurd (x.entries.differ p there same)) (y.entries.all p (subst IsPath there.2 (x.entries.paths there.0 p there.1)))

    block_in_both : {a b : List ℕ} (x : PrintsEdits a t u) (y : PrintsEdits b t u) (p : Path × ℕ) → Contains x.blocks p → Contains y.blocks p
    block_in_both x y p there = let is = x.differing.paths p there in ⊎_elim (λ c. c) (λ same. absurd (x.differing.differ p there same)) (y.differing.all p.0 p.1 is.0 is.1)

-- a text has one list of edits, which make one tree
pub edits_round_trip : EditsRoundTripLaw
edits_round_trip text t u old new w is (es, are, make) means here (fs, same, does) =
    let one : fs ≡ es = one_reading text fs es same are in
    let live : IsTree w.live = subst IsTree (sym here) is in
    let f = does.means w means in
    let tree : f.0 ≡ u = edits_one_tree es w.live f.0 u live (subst (λ (l : List Edit). AreEdited l w.live f.0) one f.1) (subst (λ (x : Tree). AreEdited es x u) (sym here) make) in
    subst (λ (x : Tree). Means new (record w { live = x })) tree f.2
