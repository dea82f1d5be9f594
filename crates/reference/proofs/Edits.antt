-- What is seen at each path after an edit, and after a moment was set.
use Rattle.std.proofs.Common.{◌≡◌, ◌≢◌, ℕ, [], ◌∷◌, true, false, cond, sym, ap, refl, ◌∙◌, subst, Option, Some, None}
use Rattle.std.specs.Prelude.{fold, option_map}
use Rattle.std.specs.Ordering.{is_eq}
use Rattle.std.specs.declared.cmp.Ordering.TheVariants.{Less, Equal, Greater}
use Rattle.reference.specs.Tree.{by_bytes, same, by_order, Name, Path, Tree, Dir, File, Entries, nothing, entry, named, put, take_out, set_entry, At, Missing, Blocked, Found, found, onward, entry_at, edited, dated, touched}
use Rattle.reference.specs.Calls.{parent, no_directory_fault, parent_fault}
use Rattle.reference.specs.Reads.{seen, look, rest_of, look_after, Sight, Seen, look_of, sighted, sight, sight_after, sight_touched}
use Rattle.pathkey.proofs.OrderFacts.{equal, same_itself, same_true, same_false, apart}

pub named-put_same : (n : Name) (x : Tree) (es : Entries) → named n (put n x es) ≡ Some x
named-put_same n x nothing = rw (same_itself n)
named-put_same n x (entry m y rest) =
    elim (by_bytes n m) as (λ o. by_bytes n m ≡ o → named n (by_order o (entry n x (entry m y rest)) (entry n x rest) (entry m y (put n x rest))) ≡ Some x) [
      | Less ↦ λ e. rw (same_itself n)
      | Equal ↦ λ e. rw (same_itself n)
      | Greater ↦ λ e. let f : same n m ≡ false = ap is_eq e in rw f (named-put_same n x rest)
    ] refl

pub named-put_other : (k n : Name) (x : Tree) (es : Entries) → same k n ≡ false → named k (put n x es) ≡ named k es
named-put_other k n x nothing h = rw h
named-put_other k n x (entry m y rest) h =
    elim (by_bytes n m) as (λ o. by_bytes n m ≡ o → named k (by_order o (entry n x (entry m y rest)) (entry n x rest) (entry m y (put n x rest))) ≡ named k (entry m y rest)) [
      | Less ↦ λ e. rw h
      | Equal ↦ λ e. let g : same k m ≡ false = subst (λ (z : Name). same k z ≡ false) (equal n m e) h in rw (h, g)
      | Greater ↦ λ e. ap (λ (z : Option Tree). cond (same k m) (Some y) z) (named-put_other k n x rest h)
    ] refl

pub named-take_out_same : (n : Name) (es : Entries) → named n (take_out n es) ≡ None
named-take_out_same n nothing = refl
named-take_out_same n (entry m y rest) =
    elim (same n m) as (λ b. same n m ≡ b → named n (cond b (take_out n rest) (entry m y (take_out n rest))) ≡ None) [
      | true ↦ λ e. named-take_out_same n rest
      | false ↦ λ e. rw e (named-take_out_same n rest)
    ] refl

pub named-take_out_other : (k n : Name) (es : Entries) → same k n ≡ false → named k (take_out n es) ≡ named k es
named-take_out_other k n nothing h = refl
named-take_out_other k n (entry m y rest) h =
    elim (same n m) as (λ b. same n m ≡ b → named k (cond b (take_out n rest) (entry m y (take_out n rest))) ≡ named k (entry m y rest)) [
      | true ↦ λ e. let g : same k m ≡ false = subst (λ (z : Name). same k z ≡ false) (same_true n m e) h in rw g (named-take_out_other k n rest h)
      | false ↦ λ e. ap (λ (z : Option Tree). cond (same k m) (Some y) z) (named-take_out_other k n rest h)
    ] refl

pub named-set_same : (n : Name) (o : Option Tree) (es : Entries) → named n (set_entry n o es) ≡ o
named-set_same n (Some x) es = named-put_same n x es
named-set_same n None es = named-take_out_same n es

pub named-set_other : (k n : Name) (o : Option Tree) (es : Entries) → same k n ≡ false → named k (set_entry n o es) ≡ named k es
named-set_other k n (Some x) es h = named-put_other k n x es h
named-set_other k n None es h = named-take_out_other k n es h

same_flip : (n k : Name) → same n k ≡ false → same k n ≡ false
same_flip n k h = same_false k n (λ e. apart n k h (sym e))

pub fold-Missing : (p : Path) → fold onward Missing p ≡ Missing
fold-Missing [] = refl
fold-Missing (n ∷ p) = fold-Missing p

pub fold-Blocked : (p : Path) → fold onward Blocked p ≡ Blocked
fold-Blocked [] = refl
fold-Blocked (n ∷ p) = fold-Blocked p

-- one name that was set, seen at a path through name k
set_law : (n k : Name) (o : Option Tree) (es : Entries) (q : Path) → sighted (fold onward (found (named k (set_entry n o es))) q) ≡ cond (same n k) (sighted (fold onward (found o) q)) (sighted (fold onward (found (named k es)) q))
set_law n k o es q =
    elim (same n k) as (λ b. same n k ≡ b → sighted (fold onward (found (named k (set_entry n o es))) q) ≡ cond b (sighted (fold onward (found o) q)) (sighted (fold onward (found (named k es)) q))) [
      | true ↦ λ e. ap (λ (z : Option Tree). sighted (fold onward (found z) q)) (subst (λ (z : Name). named z (set_entry n o es) ≡ o) (same_true n k e) (named-set_same n o es))
      | false ↦ λ e. ap (λ (z : Option Tree). sighted (fold onward (found z) q)) (named-set_other k n o es (same_flip n k e))
    ] refl

pub sight_law : (p : Path) (t : Tree) (o : Option Tree) (q : Path) → p ≢ [] → parent_fault t p ≡ None → sight (edited t p o) q ≡ sight_after (rest_of p q) o (sight t q)
sight_law [] t o q ne h = absurd (ne refl)
sight_law (n ∷ []) (File date b) o q ne h = cc
sight_law (n ∷ []) (Dir date es) o [] ne h = refl
sight_law (n ∷ []) (Dir date es) o (k ∷ q) ne h =
    set_law n k o es q ∙ elim (same n k) as (λ b. cond b (sighted (fold onward (found o) q)) (sighted (fold onward (found (named k es)) q)) ≡ sight_after (cond b (Some q) None) o (sighted (fold onward (found (named k es)) q))) [ true ↦ refl | false ↦ refl ]
sight_law (n ∷ m ∷ p) (File date b) o q ne h =
    let e : fold onward Blocked (parent (m ∷ p)) ≡ Blocked = fold-Blocked (parent (m ∷ p)) in
    absurd (let f : no_directory_fault Blocked ≡ None = subst (λ (a : At). no_directory_fault a ≡ None) e h in cc)
sight_law (n ∷ m ∷ p) (Dir date es) o [] ne h = refl
sight_law (n ∷ m ∷ p) (Dir date es) o (k ∷ q) ne h =
    elim (named n es) as (λ c. named n es ≡ c → no_directory_fault (fold onward (found c) (parent (m ∷ p))) ≡ None
    → sighted (fold onward (found (named k (set_entry n (option_map (λ x. edited x (m ∷ p) o) c) es))) q) ≡ sight_after (cond (same n k) (rest_of (m ∷ p) q) None) o (sighted (fold onward (found (named k es)) q))) [
      | None ↦ λ e f. absurd (let g : no_directory_fault Missing ≡ None = subst (λ (a : At). no_directory_fault a ≡ None) (fold-Missing (parent (m ∷ p))) f in cc)
      | Some x ↦ λ e f.
          let ih : sight (edited x (m ∷ p) o) q ≡ sight_after (rest_of (m ∷ p) q) o (sight x q) = sight_law (m ∷ p) x o q (λ z. cc) f in
          set_law n k (Some (edited x (m ∷ p) o)) es q ∙ elim (same n k) as (λ b. same n k ≡ b → cond b (sight (edited x (m ∷ p) o) q) (sighted (fold onward (found (named k es)) q)) ≡ sight_after (cond b (rest_of (m ∷ p) q) None) o (sighted (fold onward (found (named k es)) q))) [
            | true ↦ λ g. let s : named k es ≡ Some x = subst (λ (z : Name). named z es ≡ Some x) (same_true n k g) e in rw s ih
            | false ↦ λ g. refl
          ] refl
    ] refl h

-- what is seen without its moment is seen
pub seen_sighted : (a : At) → seen a ≡ option_map look_of (sighted a)
seen_sighted (Found (Dir date es)) = refl
seen_sighted (Found (File date b)) = refl
seen_sighted Missing = refl
seen_sighted Blocked = refl

pub look_sighted : (t : Tree) (p : Path) → look t p ≡ option_map look_of (sight t p)
look_sighted t p = seen_sighted (entry_at t p)

pub look_from : (t : Tree) (p : Path) (s : Sight) → sight t p ≡ Some s → look t p ≡ Some (look_of s)
look_from t p s e = look_sighted t p ∙ ap (option_map look_of) e

pub unseen : (t : Tree) (p : Path) → sight t p ≡ None → look t p ≡ None
unseen t p e = look_sighted t p ∙ ap (option_map look_of) e

pub alike : (t u : Tree) (p q : Path) → sight t p ≡ sight u q → look t p ≡ look u q
alike t u p q e = look_sighted t p ∙ ap (option_map look_of) e ∙ sym (look_sighted u q)

looks_after : (c : Option Path) (o : Option Tree) (old : Option Sight) → option_map look_of (sight_after c o old) ≡ look_after c o (option_map look_of old)
looks_after None o old = refl
looks_after (Some r) o old = sym (seen_sighted (fold onward (found o) r))

pub edit_law : (p : Path) (t : Tree) (o : Option Tree) (q : Path) → p ≢ [] → parent_fault t p ≡ None → look (edited t p o) q ≡ look_after (rest_of p q) o (look t q)
edit_law p t o q ne h =
    look_sighted (edited t p o) q
    ∙ ap (option_map look_of) (sight_law p t o q ne h)
    ∙ looks_after (rest_of p q) o (sight t q)
    ∙ ap (look_after (rest_of p q) o) (sym (look_sighted t q))

-- ---- a moment that is set
nothing_touched : (at : ℕ) (c : Option Path) → sight_touched at c None ≡ None
nothing_touched at None = refl
nothing_touched at (Some []) = refl
nothing_touched at (Some (n ∷ r)) = refl

-- of the tree itself
dated_law : (at : ℕ) (t : Tree) (q : Path) → sight (dated at t) q ≡ sight_touched at (Some q) (sight t q)
dated_law at (Dir date es) [] = refl
dated_law at (Dir date es) (k ∷ q) = refl
dated_law at (File date b) [] = refl
dated_law at (File date b) (k ∷ q) = refl

-- what is seen where a moment was set, and elsewhere
pub touched_law : (at : ℕ) (p : Path) (t : Tree) (q : Path) → sight (touched at t p) q ≡ sight_touched at (rest_of p q) (sight t q)
touched_law at [] t q = dated_law at t q
touched_law at (n ∷ p) (File date b) [] = refl
touched_law at (n ∷ p) (File date b) (k ∷ q) =
    let none : sighted (fold onward Blocked q) ≡ None = ap sighted (fold-Blocked q) in
    none ∙ sym (nothing_touched at (rest_of (n ∷ p) (k ∷ q))) ∙ ap (sight_touched at (rest_of (n ∷ p) (k ∷ q))) (sym none)
touched_law at (n ∷ p) (Dir date es) [] = refl
touched_law at (n ∷ p) (Dir date es) (k ∷ q) =
    elim (named n es) as (λ c. named n es ≡ c
    → sighted (fold onward (found (named k (set_entry n (option_map (λ x. touched at x p) c) es))) q) ≡ sight_touched at (cond (same n k) (rest_of p q) None) (sighted (fold onward (found (named k es)) q))) [
      | None ↦ λ e.
          set_law n k None es q ∙ elim (same n k) as (λ b. same n k ≡ b → cond b (sighted (fold onward Missing q)) (sighted (fold onward (found (named k es)) q)) ≡ sight_touched at (cond b (rest_of p q) None) (sighted (fold onward (found (named k es)) q))) [
            | true ↦ λ g.
                let s : named k es ≡ None = subst (λ (z : Name). named z es ≡ None) (same_true n k g) e in
                let none : sighted (fold onward Missing q) ≡ None = ap sighted (fold-Missing q) in
                none ∙ sym (nothing_touched at (rest_of p q)) ∙ ap (sight_touched at (rest_of p q)) (sym none ∙ ap (λ (o : Option Tree). sighted (fold onward (found o) q)) (sym s))
            | false ↦ λ g. refl
          ] refl
      | Some x ↦ λ e.
          set_law n k (Some (touched at x p)) es q ∙ elim (same n k) as (λ b. same n k ≡ b → cond b (sight (touched at x p) q) (sighted (fold onward (found (named k es)) q)) ≡ sight_touched at (cond b (rest_of p q) None) (sighted (fold onward (found (named k es)) q))) [
            | true ↦ λ g. let s : named k es ≡ Some x = subst (λ (z : Name). named z es ≡ Some x) (same_true n k g) e in rw s (touched_law at p x q)
            | false ↦ λ g. refl
          ] refl
    ] refl

looks_stay : (at : ℕ) (c : Option Path) (old : Option Sight) → option_map look_of (sight_touched at c old) ≡ option_map look_of old
looks_stay at None old = refl
looks_stay at (Some []) None = refl
looks_stay at (Some []) (Some (Seen l date)) = refl
looks_stay at (Some (n ∷ r)) old = refl

-- what is seen but for moments stays
pub touched_look : (at : ℕ) (t : Tree) (p q : Path) → look (touched at t p) q ≡ look t q
touched_look at t p q =
    look_sighted (touched at t p) q
    ∙ ap (option_map look_of) (touched_law at p t q)
    ∙ looks_stay at (rest_of p q) (sight t q)
    ∙ sym (look_sighted t q)

-- what is not there is not taken out
pub take_out_absent : (n : Name) (es : Entries) → named n es ≡ None → take_out n es ≡ es
take_out_absent n nothing h = refl
take_out_absent n (entry m y rest) h =
    elim (same n m) as (λ b. cond b (Some y) (named n rest) ≡ None → cond b (take_out n rest) (entry m y (take_out n rest)) ≡ entry m y rest) [
      | true ↦ λ f. absurd (cc)
      | false ↦ λ f. ap (λ (z : Entries). entry m y z) (take_out_absent n rest f)
    ] h

-- below a name that a directory lacks nothing is put or taken out
pub edited_nowhere : (t : Tree) (date : ℕ) (es : Entries) (n m : Name) (p q : Path) (o : Option Tree) → t ≡ Dir date es → q ≡ m ∷ p → named n es ≡ None → edited t (n ∷ q) o ≡ t
edited_nowhere t date es n m p q o is more none =
    ap (λ (x : Tree). edited x (n ∷ q) o) is
    ∙ ap (λ (z : Path). edited (Dir date es) (n ∷ z) o) more
    ∙ ap (λ (c : Option Tree). Dir date (set_entry n (option_map (λ x. edited x (m ∷ p) o) c) es)) none
    ∙ ap (Dir date) (take_out_absent n es none)
    ∙ sym is

-- and no moment is set
pub touched_nowhere : (at : ℕ) (t : Tree) (date : ℕ) (es : Entries) (n : Name) (p q : Path) → t ≡ Dir date es → q ≡ n ∷ p → named n es ≡ None → touched at t q ≡ t
touched_nowhere at t date es n p q is more none =
    ap (λ (x : Tree). touched at x q) is
    ∙ ap (touched at (Dir date es)) more
    ∙ ap (λ (c : Option Tree). Dir date (set_entry n (option_map (λ x. touched at x p) c) es)) none
    ∙ ap (Dir date) (take_out_absent n es none)
    ∙ sym is
