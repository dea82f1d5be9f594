-- What a loader has read of a text, piece by piece.
use Rattle.std.proofs.Common.{◌≡◌, ◌≢◌, ℕ, List, [], ◌++◌, sym, subst, ◌∙◌, append_assoc, append-nil, refl, Option, Result, Ok, Err, OnOk, IfOk}
use Rattle.std.specs.Io.KnownBytes.{Consumes, IsAtEnd, Keeps}
use Rattle.std.specs.Prelude.{IfSome}
use Rattle.std.proofs.KnownBytes.{Consumes-kept, Consumes-nil, Consumes-trans}
use Rattle.std.proofs.lemmas.Result.{on_ok_weaker}
use Rattle.textio.proofs.Known.{gave_all, known_text, known_whole}
use Rattle.reference.specs.Image.{Text}
use Rattle.reference.specs.ImageLines.{IsBadAt}
use Rattle.reference.proofs.TreeLines.{image_law}
use Rattle.images.specs.Loads.{HasBegun, HasRead, IsBadIn, LoadsAll, LoadsEnd, LoadsPiece, RefusesEnd, RefusesPiece, form_of, new_form}
use Rattle.images.specs.Taken.{IsFresh, LoadedIn, TakesAll, TakesSoFar, Took, TookBy, answer_of}
use Rattle.images.specs.declared.load.LoadFault.{LoadFault}
use Rattle.images.specs.declared.load.LoadFault.TheVariants.{Bad, Read, Shape as BadShape}
use Rattle.images.specs.declared.loader.FeedOutcome.{FeedOutcome}
use Rattle.images.specs.declared.loader.FeedOutcome.TheVariants.{Open, Starved, Spoiled}
use Rattle.images.specs.declared.loader.ImageLoader.{ImageLoader}
use Rattle.images.proofs.LoadFacts.{loaded}
use Rattle.node.specs.declared.shape.Shape.{Shape}
use Rattle.volume.specs.Volumes.{PVolume}

-- ---- answers

pub open_from_ok : (i : FeedOutcome) → answer_of i ≡ Ok tt → i ≡ Open
open_from_ok Open e = refl
open_from_ok Starved e = absurd (cc)
open_from_ok (Spoiled n) e = absurd (cc)

pub never_shape : (i : FeedOutcome) → answer_of i ≢ Err BadShape
never_shape Open e = (cc)
never_shape Starved e = (cc)
never_shape (Spoiled n) e = (cc)

pub never_read : (i : FeedOutcome) → answer_of i ≢ Err Read
never_read Open e = (cc)
never_read Starved e = (cc)
never_read (Spoiled n) e = (cc)

-- ---- pieces

pub fresh_loader : (shape : Shape) (l : ImageLoader) → l.intake ≡ Open → HasRead [] l.held.items l.load_state → form_of l.load_state.volume ≡ new_form shape → IsFresh shape l
fresh_loader shape l still read form = (still, subst (λ (i : FeedOutcome). TookBy i shape [] l) (sym still) (read, form))

-- what an open one has read
pub took_open : (shape : Shape) (text : Text) (l : ImageLoader) → l.intake ≡ Open → Took shape text l → HasRead text l.held.items l.load_state × (form_of l.load_state.volume ≡ new_form shape)
took_open shape text l still took = subst (λ (i : FeedOutcome). TookBy i shape text l) still took

-- a piece, by what was answered to it
pub took_piece : (shape : Shape) (text piece : Text) (old new : ImageLoader) (taken : Result (Unit {0}) LoadFault) → old.intake ≡ Open → answer_of new.intake ≡ taken
    → OnOk taken (LoadsPiece old.held.items piece new.held.items old.load_state new.load_state) → OnOk taken (form_of new.load_state.volume ≡ form_of old.load_state.volume)
    → ((n : ℕ) → taken ≡ Err (Bad n) → RefusesPiece old.held.items piece n old.load_state)
    → Took shape text old → Took shape (text ++ piece) new
took_piece shape text piece old new taken still answer loads form refuses took = go new.intake answer
  where
    was : HasRead text old.held.items old.load_state × (form_of old.load_state.volume ≡ new_form shape)
    was = took_open shape text old still took

    go : (i : FeedOutcome) → answer_of i ≡ taken → TookBy i shape (text ++ piece) new
    go Open e =
        let more = subst (λ (r : Result (Unit {0}) LoadFault). OnOk r (LoadsPiece old.held.items piece new.held.items old.load_state new.load_state)) (sym e) loads in
        let same = subst (λ (r : Result (Unit {0}) LoadFault). OnOk r (form_of new.load_state.volume ≡ form_of old.load_state.volume)) (sym e) form in
        (more text was.0, same ∙ was.1)
    go Starved e = tt
    go (Spoiled n) e = λ rest. subst (IsBadAt n) (sym (append_assoc text piece rest)) (refuses n (sym e) text rest was.0)

-- a piece after a failure
pub took_refused : (shape : Shape) (text piece : Text) (l : ImageLoader) (fault : LoadFault) → answer_of l.intake ≡ Err fault → Took shape text l → Took shape (text ++ piece) l
took_refused shape text piece l fault = go l.intake
  where
    go : (i : FeedOutcome) → answer_of i ≡ Err fault → TookBy i shape text l → TookBy i shape (text ++ piece) l
    go Open e took = absurd (cc)
    go Starved e took = tt
    go (Spoiled n) e took = λ rest. subst (IsBadAt n) (sym (append_assoc text piece rest)) (took (piece ++ rest))

-- a text that is no image whatever follows
bad_whatever : (shape : Shape) (text rest : Text) (l : ImageLoader) (n : ℕ) → answer_of l.intake ≡ Err (Bad n) → Took shape text l → IsBadAt n (text ++ rest)
bad_whatever shape text rest l n = go l.intake
  where
    go : (i : FeedOutcome) → answer_of i ≡ Err (Bad n) → TookBy i shape text l → IsBadAt n (text ++ rest)
    go Open e took = absurd (cc)
    go Starved e took = absurd (cc)
    go (Spoiled m) e took = let same : m ≡ n = cc in subst (λ (k : ℕ). IsBadAt k (text ++ rest)) same (took rest)

pub bad_so_far : (shape : Shape) (text : Text) (l : ImageLoader) (n : ℕ) → answer_of l.intake ≡ Err (Bad n) → Took shape text l → IsBadAt n text
bad_so_far shape text l n e took = subst (IsBadAt n) (append-nil text) (bad_whatever shape text [] l n e took)

-- ---- the end

pub ended_loaded : (shape : Shape) (text : Text) (l : ImageLoader) (r : Result (Unit {0}) LoadFault) → answer_of l.intake ≡ Ok tt → OnOk r (LoadsEnd l.held.items l.load_state) → Took shape text l → OnOk r (LoadedIn shape text l.load_state.volume)
ended_loaded shape text l r answer ends took =
    let was = took_open shape text l (open_from_ok l.intake answer) took in
    on_ok_weaker r (λ e. ((loaded text l.load_state (e text was.0)).1, was.1)) ends

pub ended_bad : (shape : Shape) (text : Text) (l : ImageLoader) (n : ℕ) → answer_of l.intake ≡ Ok tt → RefusesEnd l.held.items n l.load_state → Took shape text l → IsBadAt n text
ended_bad shape text l n answer refuses took = refuses text (took_open shape text l (open_from_ok l.intake answer) took).0

-- ---- over a reader

pub takes_nothing : (shape : Shape) (had : Option (List ℕ)) (l : ImageLoader) → IsFresh shape l → TakesSoFar shape had had l
takes_nothing shape had l fresh = ([], Consumes-nil had, fresh.0, fresh.1)

pub takes_piece : (shape : Shape) (had has now : Option (List ℕ)) (piece : Text) (l m : ImageLoader) → TakesSoFar shape had has l → Consumes has now piece
    → ((shape : Shape) (text : List ℕ) → Took shape text l → Took shape (text ++ piece) m) → answer_of m.intake ≡ Ok tt → TakesSoFar shape had now m
takes_piece shape had has now piece l m (text, read, still, took) more takes answer =
    (text ++ piece, Consumes-trans had has now text piece read more, open_from_ok m.intake answer, takes shape text took)

pub takes_all : (shape : Shape) (had has now : Option (List ℕ)) (none : Text) (l : ImageLoader) → TakesSoFar shape had has l → Consumes has now none → none ≡ [] → IsAtEnd now → TakesAll shape had now l
takes_all shape had has now none l (text, read, still, took) more no_bytes end = ((text, gave_all had has now text none read more no_bytes, still, took), end)

pub takes_bad : (shape : Shape) (had has now : Option (List ℕ)) (piece : Text) (n : ℕ) (l m : ImageLoader) → TakesSoFar shape had has l → Consumes has now piece
    → ((shape : Shape) (text : List ℕ) → Took shape text l → Took shape (text ++ piece) m) → answer_of m.intake ≡ Err (Bad n) → IsBadIn had n
takes_bad shape had has now piece n l m (text, read, still, took) more takes answer =
    let known : (rest : List ℕ) × IfSome had (λ all. all ≡ (text ++ piece) ++ rest) = known_text had now (text ++ piece) (Consumes-trans had has now text piece read more) in
    ((text ++ piece) ++ known.0, known.1, bad_whatever shape (text ++ piece) known.0 m n answer (takes shape text took))

pub takes_failed : (shape : Shape) (had has now : Option (List ℕ)) (l : ImageLoader) → TakesSoFar shape had has l → Keeps has now → HasBegun had now
takes_failed shape had has now l (text, read, still, took) kept =
    let h = (took_open shape text l still took).0 in
    (text, Consumes-kept had has now text read kept, (h.so_far, h.left, h.load_state.are, h.holds.free, h.cut))

-- the end of the reader
pub all_loaded : (shape : Shape) (had has : Option (List ℕ)) (l : ImageLoader) (r : Result PVolume LoadFault) → TakesAll shape had has l
    → ((shape : Shape) (text : List ℕ) → Took shape text l → IfOk r (LoadedIn shape text)) → IfOk r (λ v. LoadsAll had has v × (form_of v ≡ new_form shape))
all_loaded shape had has l (Ok v) ((text, read, still, took), end) loads =
    let is = loads shape text took in
    ((text, read, end, (is.0.version, (image_law is.0.version text).1 (is.0.tree, is.0.is_tree, sym is.0.image_is)), is.0), is.1)
all_loaded shape had has l (Err e) takes loads = tt

pub all_bad : (shape : Shape) (had has : Option (List ℕ)) (l : ImageLoader) (n : ℕ) → TakesAll shape had has l → ((text : List ℕ) → Took shape text l → IsBadAt n text) → IsBadIn had n
all_bad shape had has l n ((text, read, still, took), end) bad = (text, known_whole had has text read end, bad text took)

-- ---- a load

-- what a loader over a new volume gives
pub first_part : {A : Type 0} (P Q : A → Type 0) (r : Result A LoadFault) → IfOk r (λ v. P v × Q v) → IfOk r P
first_part P Q (Ok v) h = h.0
first_part P Q (Err e) h = tt

pub second_part : {A : Type 0} (P Q : A → Type 0) (r : Result A LoadFault) → IfOk r (λ v. P v × Q v) → IfOk r Q
second_part P Q (Ok v) h = h.1
second_part P Q (Err e) h = tt
