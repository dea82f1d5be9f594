-- Which components are file names, and the components of a text or a key piece by piece.
use Rattle.std.proofs.Common.{◌≡◌, ◌≢◌, ℕ, ◌≤◌, List, [], ◌∷◌, ◌++◌, length, Bool, true, false, ◌||◌, arith, sym, ap, refl, ◌∙◌, subst, append_assoc, Ok, Err, Result}
use Rattle.std.specs.List.{All, list_any}
use Rattle.std.proofs.Math.Bool.{or_assoc}
use Rattle.std.proofs.lemmas.Bool.{or_from, or_left}
use Rattle.pathkey.specs.Names.{Name}
use Rattle.pathkey.specs.declared.errno.Errno.{Errno}
use Rattle.pathkey.specs.Outcomes.{when, unless}
use Rattle.pathkey.specs.Texts.{pieces, is_dots, is_malformed, is_long}
use Rattle.pathkey.proofs.OrderFacts.{same_false}
use Rattle.pathkey.proofs.Pieces.{pieces_cut}

-- three bytes are neither `.` nor `..`
pub is_dots_long : (n : Name) → 3 ≤ length n → is_dots n ≡ false
is_dots_long n h = or_from _ _
    (same_false n (46 ∷ []) (λ e. let l : length n ≡ 1 = ap length e in omega arith))
    (same_false n (46 ∷ 46 ∷ []) (λ e. let l : length n ≡ 2 = ap length e in omega arith))

-- a test of the components up to a separator and of those after it
pub any_cut : (test : Name → Bool) (s : ℕ) (bytes front back : List ℕ) → bytes ≡ front ++ s ∷ back → All (λ b. b ≢ s) front
    → list_any test (pieces s (bytes ++ s ∷ [])) ≡ (test front || list_any test (pieces s (back ++ s ∷ [])))
any_cut test s bytes front back e h =
    ap (λ (x : List ℕ). list_any test (pieces s (x ++ s ∷ []))) e
    ∙ ap (λ (x : List ℕ). list_any test (pieces s x)) (append_assoc front (s ∷ back) (s ∷ []))
    ∙ ap (list_any test) (pieces_cut s front (back ++ s ∷ []) h)

-- a test or nothing is that test
or_none : (b : Bool) → (b || false) ≡ b
or_none true = refl
or_none false = refl

-- bytes without a separator are one component
pub any_last : (test : Name → Bool) (s : ℕ) (bytes : List ℕ) → All (λ b. b ≢ s) bytes → list_any test (pieces s (bytes ++ s ∷ [])) ≡ test bytes
any_last test s bytes h = ap (list_any test) (pieces_cut s bytes [] h) ∙ or_none (test bytes)

-- what is answered where the first test holds, where only the second does, and where neither does
pub first_fault : {A : Type 0} (m l : Bool) (d e : Errno) (x : A) → m ≡ true → Err d ≡ unless (when m d ∷ when l e ∷ []) x
first_fault {A} m l d e x h = subst (λ (b : Bool). ◌≡◌ {A = Result A Errno} (Err d) (unless (when b d ∷ when l e ∷ []) x)) (sym h) refl

pub second_fault : {A : Type 0} (m l : Bool) (d e : Errno) (x : A) → m ≡ false → l ≡ true → Err e ≡ unless (when m d ∷ when l e ∷ []) x
second_fault {A} m l d e x h g =
    subst (λ (b : Bool). ◌≡◌ {A = Result A Errno} (Err e) (unless (when b d ∷ when l e ∷ []) x)) (sym h)
    (subst (λ (b : Bool). ◌≡◌ {A = Result A Errno} (Err e) (unless (when b e ∷ []) x)) (sym g) refl)

pub no_fault : {A : Type 0} (m l : Bool) (d e : Errno) (x : A) → m ≡ false → l ≡ false → Ok x ≡ unless (when m d ∷ when l e ∷ []) x
no_fault {A} m l d e x h g =
    subst (λ (b : Bool). ◌≡◌ {A = Result A Errno} (Ok x) (unless (when b d ∷ when l e ∷ []) x)) (sym h)
    (subst (λ (b : Bool). ◌≡◌ {A = Result A Errno} (Ok x) (unless (when b e ∷ []) x)) (sym g) refl)

-- what is still to be tested decides of the whole
pub record Decides (separator : ℕ) (bytes rest : List ℕ) (has_long : Bool) : Type 0 where
  pub malformed : list_any is_malformed (pieces separator (bytes ++ separator ∷ [])) ≡ list_any is_malformed (pieces separator (rest ++ separator ∷ []))
  pub long : list_any is_long (pieces separator (bytes ++ separator ∷ [])) ≡ (has_long || list_any is_long (pieces separator (rest ++ separator ∷ [])))

-- a malformed component decides
pub malformed_decides : (s : ℕ) (bytes rest front back : List ℕ) (has_long : Bool) → Decides s bytes rest has_long → rest ≡ front ++ s ∷ back → All (λ b. b ≢ s) front
    → is_malformed front ≡ true → list_any is_malformed (pieces s (bytes ++ s ∷ [])) ≡ true
malformed_decides s bytes rest front back has_long d e h m =
    d.malformed ∙ any_cut is_malformed s rest front back e h ∙ or_left (is_malformed front) _ m

-- a component that is well formed leaves it to those after it
pub after_component : (s : ℕ) (bytes rest front back : List ℕ) (has_long : Bool) → Decides s bytes rest has_long → rest ≡ front ++ s ∷ back → All (λ b. b ≢ s) front
    → is_malformed front ≡ false → Decides s bytes back (has_long || is_long front)
after_component s bytes rest front back has_long d e h m = record {
  malformed =
      d.malformed ∙ any_cut is_malformed s rest front back e h
      ∙ ap (λ (b : Bool). b || list_any is_malformed (pieces s (back ++ s ∷ []))) m;
  long =
      d.long ∙ ap (λ (b : Bool). has_long || b) (any_cut is_long s rest front back e h)
      ∙ sym (or_assoc has_long (is_long front) (list_any is_long (pieces s (back ++ s ∷ []))));
}

-- the last component decides
pub last_malformed : (s : ℕ) (bytes rest : List ℕ) (has_long : Bool) → Decides s bytes rest has_long → All (λ b. b ≢ s) rest
    → list_any is_malformed (pieces s (bytes ++ s ∷ [])) ≡ is_malformed rest
last_malformed s bytes rest has_long d h = d.malformed ∙ any_last is_malformed s rest h

pub last_long : (s : ℕ) (bytes rest : List ℕ) (has_long : Bool) → Decides s bytes rest has_long → All (λ b. b ≢ s) rest
    → list_any is_long (pieces s (bytes ++ s ∷ [])) ≡ (has_long || is_long rest)
last_long s bytes rest has_long d h = d.long ∙ ap (λ (b : Bool). has_long || b) (any_last is_long s rest h)
