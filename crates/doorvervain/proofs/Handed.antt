-- The reported outcome of handing out a value, and of an image that was not loaded.
use Rattle.std.proofs.Common.{◌≡◌, ◌≢◌, ◌↔◌, ℕ, zero, suc, false, List, Result, Ok, Err, Option, IfOk, IfErr, MatchResult, refl, sym, ap, subst, subst₂, ◌∙◌, inl, inr, arith}
use Rattle.images.specs.declared.load.LoadFault.{LoadFault}
use Rattle.images.specs.declared.load.LoadFault.TheVariants.{Shape as BadShape, Bad, Memory, Read}
use Rattle.node.specs.Shapes.{is_shape}
use Rattle.node.specs.declared.shape.Shape.{Shape}
use Rattle.pathkey.specs.declared.errno.Errno.{Errno}
use Rattle.pathkey.specs.declared.errno.Errno.TheVariants.{EINVAL, ENOMEM}
use Rattle.reference.specs.ImageLines.{IsBadAt}
use Rattle.doorvervain.specs.Handed.{AnswerReported, FaultReported, Given, HandsOut, NoImage, NotLoaded}

-- ---- what a value says of a result

pub when_ok : {A E : Type 0} (P : A → Type 0) (Q : E → Type 0) (r : Result A E) → MatchResult r P Q → IfOk r P
when_ok P Q (Ok x) h = h
when_ok P Q (Err e) h = tt

pub when_err : {A E : Type 0} (P : A → Type 0) (Q : E → Type 0) (r : Result A E) → MatchResult r P Q → IfErr r Q
when_err P Q (Ok x) h = tt
when_err P Q (Err e) h = h

-- what holds anyway
pub anyway : {A E Q : Type 0} (r : Result A E) → Q → IfOk r (λ _. Q)
anyway (Ok x) q = q
anyway (Err e) q = tt

-- two facts about what is there
pub both_of : {A E : Type 0} (P Q : A → Type 0) (r : Result A E) → IfOk r P → IfOk r Q → IfOk r (λ x. P x × Q x)
both_of P Q (Ok x) p q = (p, q)
both_of P Q (Err e) p q = tt

-- ---- what was made, and is handed out

module _ {X : Type 0} (made : Result X Errno) (outcome : Result (Unit {0}) Errno) (given : Option X) where
  -- the reported outcome is that of making it
  pub reported_out : (e : Errno) → HandsOut made outcome given → made ≡ Err e → outcome ≡ Err e
  reported_out e h is = subst (λ (m : Result X Errno). HandsOut m outcome given) is h

pub given_out : {X : Type 0} (P : X → Type 0) (made : Result X Errno) (outcome : Result (Unit {0}) Errno) (given : Option X)
    → HandsOut made outcome given → IfOk made P → IfOk outcome (λ _. Given P given)
given_out P (Ok x) (Ok u) given h p = record { value = x; is = h.done; holds = p }
given_out P (Ok x) (Err e) given h p = tt
given_out P (Err e) outcome given h p = subst (λ (o : Result (Unit {0}) Errno). IfOk o (λ _. Given P given)) (sym h) tt

-- if it succeeds, something was made
pub done_out : {X : Type 0} (Q : Type 0) (made : Result X Errno) (outcome : Result (Unit {0}) Errno) (given : Option X)
    → HandsOut made outcome given → IfOk made (λ _. Q) → IfOk outcome (λ _. Q)
done_out Q (Ok x) (Ok u) given h q = q
done_out Q (Ok x) (Err e) given h q = tt
done_out Q (Err e) outcome given h q = subst (λ (o : Result (Unit {0}) Errno). IfOk o (λ _. Q)) (sym h) tt

-- a failure is that of making it, or ENOMEM
pub refused_out : {X : Type 0} (Q : Errno → Type 0) (made : Result X Errno) (outcome : Result (Unit {0}) Errno) (given : Option X)
    → HandsOut made outcome given → IfErr made Q → IfOk made (λ _. Q ENOMEM) → IfErr outcome Q
refused_out Q (Ok x) (Ok u) given h q m = tt
refused_out Q (Ok x) (Err e) given h q m = subst Q (sym h.refused) m
refused_out Q (Err e) outcome given h q m = subst (λ (o : Result (Unit {0}) Errno). IfErr o Q) (sym h) q

-- EINVAL is reported exactly if making it failed with EINVAL
made_refused : {X : Type 0} (made : Result X Errno) (outcome : Result (Unit {0}) Errno) (given : Option X)
    → HandsOut made outcome given → outcome ≡ Err EINVAL → made ≡ Err EINVAL
made_refused (Ok x) (Ok u) given h is = (cc)
made_refused (Ok x) (Err e) given h is = let memory : e ≡ ENOMEM = h.refused in (cc)
made_refused (Err e) outcome given h is = let reported : Err e ≡ Err EINVAL = sym h ∙ is in (cc)

pub shape_reported : {X : Type 0} (N : Type 0) (made : Result X Errno) (outcome : Result (Unit {0}) Errno) (given : Option X)
    → HandsOut made outcome given → (made ≡ Err EINVAL) ↔ N → (outcome ≡ Err EINVAL) ↔ N
shape_reported N made outcome given h k = (λ is. k.0 (made_refused made outcome given h is), λ n. reported_out made outcome given EINVAL h (k.1 n))

-- ---- images that were not loaded

-- no text is bad at line 0
bad_reported : (shape : Shape) (text : List ℕ) (n : ℕ) → IsBadAt n text → NotLoaded shape text EINVAL n
bad_reported shape text zero bad = absurd (bad.1 (elim bad.0 [ inl e ↦ absurd (omega arith) | inr is ↦ is ]))
bad_reported shape text (suc n) bad = bad

pub not_loaded : (shape : Shape) (text : List ℕ) (fault : LoadFault) (e : Errno) (line : ℕ)
    → ((n : ℕ) → fault ≡ Bad n → IsBadAt n text) → (fault ≡ BadShape → is_shape shape ≡ false) → FaultReported fault e line → NotLoaded shape text e line
not_loaded shape text BadShape e line bad unfit reported = subst₂ (NotLoaded shape text) (sym reported.0) (sym reported.1) (unfit refl)
not_loaded shape text (Bad n) e line bad unfit reported = subst₂ (NotLoaded shape text) (sym reported.0) (sym reported.1) (bad_reported shape text n (bad n refl))
not_loaded shape text Memory e line bad unfit reported = subst₂ (NotLoaded shape text) (sym reported.0) (sym reported.1) tt
not_loaded shape text Read e line bad unfit reported = subst₂ (NotLoaded shape text) (sym reported.0) (sym reported.1) tt

pub shape_not_loaded : (fault : LoadFault) (e : Errno) (line : ℕ) → fault ≡ BadShape → FaultReported fault e line → (e ≡ EINVAL) × (line ≡ 0)
shape_not_loaded fault e line is reported = subst (λ (f : LoadFault). FaultReported f e line) is reported

-- after a volume was made, an allocation may fail
pub memory_reported : {X : Type 0} (shape : Shape) (text : List ℕ) (made : Result X Errno) (line : ℕ) → IfOk made (λ _. line ≡ 0) → IfOk made (λ _. NotLoaded shape text ENOMEM line)
memory_reported shape text (Ok x) line is = subst (NotLoaded shape text ENOMEM) (sym is) tt
memory_reported shape text (Err e) line is = tt

-- ---- the reported result of a load

-- the value that was made is reported
pub answer_ok : {X : Type 0} (P : X → Type 0) (made : Result X LoadFault) (reported : Result X Errno) (line : ℕ) → AnswerReported made reported line → IfOk made P → IfOk reported P
answer_ok P (Ok x) reported line h p = subst (λ (r : Result _ Errno). IfOk r P) (sym h.0) p
answer_ok P (Err f) reported line (e, is, fault) p = subst (λ (r : Result _ Errno). IfOk r P) (sym is) tt

-- with line 0
pub answer_line : {X : Type 0} (made : Result X LoadFault) (reported : Result X Errno) (line : ℕ) → AnswerReported made reported line → IfOk reported (λ _. line ≡ 0)
answer_line (Ok x) reported line h = subst (λ (r : Result _ Errno). IfOk r (λ _. line ≡ 0)) (sym h.0) h.1
answer_line (Err f) reported line (e, is, fault) = subst (λ (r : Result _ Errno). IfOk r (λ _. line ≡ 0)) (sym is) tt

-- a bad shape
pub answer_shape : {X : Type 0} (made : Result X LoadFault) (reported : Result X Errno) (line : ℕ) → AnswerReported made reported line → made ≡ Err BadShape → (reported ≡ Err EINVAL) × (line ≡ 0)
answer_shape (Ok x) reported line h bad = absurd (cc)
answer_shape (Err f) reported line (e, is, fault) bad =
    let same : f ≡ BadShape = cc in
    let both : (e ≡ EINVAL) × (line ≡ 0) = shape_not_loaded f e line same fault in
    (is ∙ ap Err both.0, both.1)

-- why a text was not loaded
pub answer_refused : {X : Type 0} (shape : Shape) (text : List ℕ) (made : Result X LoadFault) (reported : Result X Errno) (line : ℕ) → AnswerReported made reported line
    → ((n : ℕ) → made ≡ Err (Bad n) → IsBadAt n text) → (made ≡ Err BadShape → is_shape shape ≡ false) → IfErr reported (λ e. NotLoaded shape text e line)
answer_refused shape text (Ok x) reported line h bad unfit = subst (λ (r : Result _ Errno). IfErr r (λ e. NotLoaded shape text e line)) (sym h.0) tt
answer_refused shape text (Err f) reported line (e, is, fault) bad unfit =
    subst (λ (r : Result _ Errno). IfErr r (λ d. NotLoaded shape text d line)) (sym is)
    (not_loaded shape text f e line (λ n b. bad n (ap Err b)) (λ b. unfit (ap Err b)) fault)

-- the same of one that was taken piece by piece
no_image : (text : List ℕ) (fault : LoadFault) (e : Errno) (line : ℕ) → ((n : ℕ) → fault ≡ Bad n → IsBadAt n text) → fault ≢ BadShape → FaultReported fault e line → NoImage text e line
no_image text BadShape e line bad fits reported = absurd (fits refl)
no_image text (Bad n) e line bad fits reported = subst₂ (NoImage text) (sym reported.0) (sym reported.1) (bad n refl)
no_image text Memory e line bad fits reported = subst₂ (NoImage text) (sym reported.0) (sym reported.1) tt
no_image text Read e line bad fits reported = subst₂ (NoImage text) (sym reported.0) (sym reported.1) tt

pub answer_no_image : {X : Type 0} (text : List ℕ) (made : Result X LoadFault) (reported : Result X Errno) (line : ℕ) → AnswerReported made reported line
    → ((n : ℕ) → made ≡ Err (Bad n) → IsBadAt n text) → made ≢ Err BadShape → IfErr reported (λ e. NoImage text e line)
answer_no_image text (Ok x) reported line h bad fits = subst (λ (r : Result _ Errno). IfErr r (λ e. NoImage text e line)) (sym h.0) tt
answer_no_image text (Err f) reported line (e, is, fault) bad fits =
    subst (λ (r : Result _ Errno). IfErr r (λ d. NoImage text d line)) (sym is)
    (no_image text f e line (λ n b. bad n (ap Err b)) (λ b. fits (ap Err b)) fault)

-- handing it out may fail with ENOMEM
pub memory_no_image : {X : Type 0} (text : List ℕ) (made : Result X Errno) (line : ℕ) → IfOk made (λ _. line ≡ 0) → IfOk made (λ _. NoImage text ENOMEM line)
memory_no_image text (Ok x) line is = subst (NoImage text ENOMEM) (sym is) tt
memory_no_image text (Err e) line is = tt
