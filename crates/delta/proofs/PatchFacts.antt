-- What commands make of lines, and the lines of texts.
use Rattle.std.proofs.Common.{◌≡◌, ◌≢◌, ℕ, ◌+◌, ◌<◌, ◌==◌, nat_lt, List, [], ◌∷◌, ◌++◌, length, take, drop, map, refl, sym, ap, subst, ◌∙◌, append_assoc, arith, Bool, true, false, cond, Option, Some, None, option_map, length-append}
use Rattle.std.specs.List.{All}
use Rattle.std.proofs.lemmas.Bool.{eqb-true, eqb-false, lt-ltb, le-ltb, ne_eqb, cond-false}
use Rattle.std.proofs.lemmas.List.{nil_from_length}
use Rattle.std.proofs.Math.Seq.{take-append_seam, drop-append_seam}
use Rattle.std.proofs.lemmas.List.Elements.{All-nil, All-cons, All-head, All-tail}
use Rattle.textio.specs.Lines.{lines_of}
use Rattle.pathkey.specs.Texts.{onto_first}
use Rattle.pathkey.proofs.Pieces.{pieces_cut}
use Rattle.reference.specs.Image.{Text}
use Rattle.delta.specs.Deltas.{Line, IsLine, text_of, Command, Stay, Go, Come, patched, run}

-- ---- options

pub mapped_some : {A B : Type 0} (f : A → B) (o : Option A) (y : B) → option_map f o ≡ Some y → (x : A) × (o ≡ Some x) × (y ≡ f x)
mapped_some f (Some x) y e = (x, refl, cc)
mapped_some {A} {B} f None y e = absurd (let clash : ◌≡◌ {A = Option B} None (Some y) = e in cc)

pub mapped_twice : (front more : List Line) (o : Option (List Line)) → option_map (λ l. front ++ l) (option_map (λ l. more ++ l) o) ≡ option_map (λ l. (front ++ more) ++ l) o
mapped_twice front more None = refl
mapped_twice front more (Some l) = ap Some (sym (append_assoc front more l))

pub mapped_none : (o : Option (List Line)) → option_map (λ l. [] ++ l) o ≡ o
mapped_none None = refl
mapped_none (Some l) = refl

-- ---- commands

not_short : (n : ℕ) (kept x : List Line) → length kept ≡ n → nat_lt (length (kept ++ x)) n ≡ false
not_short n kept x size = le-ltb _ _ (let more : length (kept ++ x) ≡ length kept + length x = length-append kept x in omega arith)

front_taken : (n : ℕ) (kept x : List Line) → length kept ≡ n → take n (kept ++ x) ≡ kept
front_taken n kept x size = subst (λ (k : ℕ). take k (kept ++ x) ≡ kept) size (take-append_seam kept x)

front_dropped : (n : ℕ) (kept x : List Line) → length kept ≡ n → drop n (kept ++ x) ≡ x
front_dropped n kept x size = subst (λ (k : ℕ). drop k (kept ++ x) ≡ x) size (drop-append_seam kept x)

pub stay_made : (n : ℕ) (kept x : List Line) (ds : List Command) → length kept ≡ n → patched (Stay n ∷ ds) (kept ++ x) ≡ option_map (λ l. kept ++ l) (patched ds x)
stay_made n kept x ds size = rw (not_short n kept x size, front_taken n kept x size, front_dropped n kept x size) refl

pub go_made : (n : ℕ) (gone x : List Line) (ds : List Command) → length gone ≡ n → patched (Go n ∷ ds) (gone ++ x) ≡ patched ds x
go_made n gone x ds size = rw (not_short n gone x size, front_dropped n gone x size) refl

pub stay_short : (n : ℕ) (x : List Line) (ds : List Command) → length x < n → patched (Stay n ∷ ds) x ≡ None
stay_short n x ds few = let short : nat_lt (length x) n ≡ true = lt-ltb _ _ few in rw short refl

pub go_short : (n : ℕ) (x : List Line) (ds : List Command) → length x < n → patched (Go n ∷ ds) x ≡ None
go_short n x ds few = let short : nat_lt (length x) n ≡ true = lt-ltb _ _ few in rw short refl

pub run_stay : (n : ℕ) (kept x y : List Line) (ds : List Command) → length kept ≡ n → patched ds x ≡ Some y → patched (run Stay n ++ ds) (kept ++ x) ≡ Some (kept ++ y)
run_stay n kept x y ds size makes = go (n == 0) refl
  where
    go : (b : Bool) → (n == 0) ≡ b → patched (cond b [] (Stay n ∷ []) ++ ds) (kept ++ x) ≡ Some (kept ++ y)
    go true e = let none : kept ≡ [] = nil_from_length kept (size ∙ eqb-true n 0 e) in rw none makes
    go false e = stay_made n kept x ds size ∙ ap (option_map (λ l. kept ++ l)) makes

pub run_go : (n : ℕ) (gone x y : List Line) (ds : List Command) → length gone ≡ n → patched ds x ≡ Some y → patched (run Go n ++ ds) (gone ++ x) ≡ Some y
run_go n gone x y ds size makes = go (n == 0) refl
  where
    go : (b : Bool) → (n == 0) ≡ b → patched (cond b [] (Go n ∷ []) ++ ds) (gone ++ x) ≡ Some y
    go true e = let none : gone ≡ [] = nil_from_length gone (size ∙ eqb-true n 0 e) in rw none makes
    go false e = go_made n gone x ds size ∙ makes

pub come_made : (come x y : List Line) (ds : List Command) → patched ds x ≡ Some y → patched (map Come come ++ ds) x ≡ Some (come ++ y)
come_made [] x y ds makes = makes
come_made (l ∷ come) x y ds makes = ap (option_map (λ new. l ∷ new)) (come_made come x y ds makes)

-- ---- lines of texts

pub lines_cut : (l : Line) (x : Text) → IsLine l → lines_of (l ++ 10 ∷ x) ≡ l ∷ lines_of x
lines_cut l x whole = pieces_cut 10 l x whole

pub lines_whole : (b : ℕ) (l : Line) → IsLine (b ∷ l) → lines_of (b ∷ l) ≡ (b ∷ l) ∷ []
lines_whole b [] whole = cond-false (b == 10) _ _ (ne_eqb b 10 (All-head (λ b. b ≢ 10) b [] whole))
lines_whole b (c ∷ l) whole =
    cond-false (b == 10) _ _ (ne_eqb b 10 (All-head (λ b. b ≢ 10) b (c ∷ l) whole))
    ∙ ap (onto_first b) (lines_whole c l (All-tail (λ b. b ≢ 10) b (c ∷ l) whole))

onto_free : (b : ℕ) (ls : List Line) → b ≢ 10 → All IsLine ls → All IsLine (onto_first b ls)
onto_free b [] h all = All-cons IsLine (b ∷ []) [] (All-cons (λ b. b ≢ 10) b [] h (All-nil (λ b. b ≢ 10))) (All-nil IsLine)
onto_free b (l ∷ ls) h all = All-cons IsLine (b ∷ l) ls (All-cons (λ b. b ≢ 10) b l h (All-head IsLine l ls all)) (All-tail IsLine l ls all)

pub lines_free : (x : Text) → All IsLine (lines_of x)
lines_free [] = All-nil IsLine
lines_free (b ∷ x) = go (b == 10) refl (lines_free x)
  where
    go : (t : Bool) → (b == 10) ≡ t → All IsLine (lines_of x) → All IsLine (cond t ([] ∷ lines_of x) (onto_first b (lines_of x)))
    go true e all = All-cons IsLine [] (lines_of x) (All-nil (λ b. b ≢ 10)) all
    go false e all = onto_free b (lines_of x) (eqb-false b 10 e) all

onto_text : (b : ℕ) (ls : List Line) (x : Text) → text_of ls ≡ x ++ 10 ∷ [] → text_of (onto_first b ls) ≡ b ∷ (x ++ 10 ∷ [])
onto_text b [] [] e = absurd (let clash : ◌≡◌ {A = Text} [] (10 ∷ []) = e in cc)
onto_text b [] (c ∷ x) e = absurd (let clash : ◌≡◌ {A = Text} [] (c ∷ (x ++ 10 ∷ [])) = e in cc)
onto_text b (l ∷ ls) x e = ap (λ t. b ∷ t) e

-- a text of whole lines is its lines
pub text_of_lines : (x : Text) → text_of (lines_of (x ++ 10 ∷ [])) ≡ x ++ 10 ∷ []
text_of_lines [] = refl
text_of_lines (b ∷ x) = go (b == 10) refl (text_of_lines x)
  where
    go : (t : Bool) → (b == 10) ≡ t → text_of (lines_of (x ++ 10 ∷ [])) ≡ x ++ 10 ∷ [] → text_of (cond t ([] ∷ lines_of (x ++ 10 ∷ [])) (onto_first b (lines_of (x ++ 10 ∷ [])))) ≡ b ∷ (x ++ 10 ∷ [])
    go true e h = let ten : b ≡ 10 = eqb-true b 10 e in ap (λ t. 10 ∷ t) h ∙ ap (λ c. c ∷ (x ++ 10 ∷ [])) (sym ten)
    go false e h = onto_text b (lines_of (x ++ 10 ∷ [])) x h
