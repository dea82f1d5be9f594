-- Commands as they are done, one after the other.
use Rattle.std.proofs.Common.{◌≡◌, ℕ, List, [], ◌∷◌, ◌++◌, length, codes, refl, sym, ap, subst, ◌∙◌, append_assoc, append-nil, Option, Some, None, option_map, ◌+◌, ◌-◌, ◌<◌, nat_lt, arith, Bool, true, false, cond, take, drop, length-append}
use Rattle.std.specs.List.{All}
use Rattle.std.proofs.Math.Seq.{take-append-add}
use Rattle.std.proofs.lemmas.List.Elements.{All-head, All-tail}
use Rattle.reference.specs.Image.{Text}
use Rattle.reference.specs.ImageLines.{IsBadAt as IsBadImageAt}
use Rattle.delta.specs.Deltas.{Command, Come, Go, IsCommand, Line, Makes, Stay, patched, spelled, text_of, parsed}
use Rattle.delta.specs.Patching.{Does, IsDoing, IsSpoilt, MakesNoImage}
use Rattle.delta.specs.Texts.{HasNoCommand, IsNext, command_of}
use Rattle.delta.specs.declared.command.DeltaCommand.{DeltaCommand}
use Rattle.delta.proofs.PatchFacts.{go_made, mapped_none, mapped_some, mapped_twice, stay_made}
use Rattle.textio.proofs.LineFacts.{same_line, text_append}
use Rattle.delta.proofs.TextFacts.{end_is_no_command, end_line, one_reading, same_spelled, spelled_line}

pub does_nothing : (x : List Line) (text : Text) → Does [] x text x text
does_nothing x text = record { front = []; added = sym (append-nil text); rest = λ ds. sym (mapped_none (patched ds x)) }

pub does_then : (cs ds : List Command) (a b c : List Line) (x y z : Text) → Does cs a x b y → Does ds b y c z → Does (cs ++ ds) a x c z
does_then cs ds a b c x y z f g = record {
  front = f.front ++ g.front;
  added =
      g.added ∙ ap (λ t. t ++ text_of g.front) f.added ∙ append_assoc x (text_of f.front) (text_of g.front) ∙ ap (λ t. x ++ t) (sym (text_append f.front g.front));
  rest = λ es. ap (λ l. patched l a) (append_assoc cs ds es) ∙ f.rest (ds ++ es) ∙ ap (option_map (λ l. f.front ++ l)) (g.rest es) ∙ mapped_twice f.front g.front (patched es c);
}

pub does_stay : (n : ℕ) (kept x : List Line) (text : Text) → length kept ≡ n → Does (Stay n ∷ []) (kept ++ x) text x (text ++ text_of kept)
does_stay n kept x text size = record { front = kept; added = refl; rest = λ ds. stay_made n kept x ds size }

pub does_go : (n : ℕ) (gone x : List Line) (text : Text) → length gone ≡ n → Does (Go n ∷ []) (gone ++ x) text x text
does_go n gone x text size = record { front = []; added = sym (append-nil text); rest = λ ds. go_made n gone x ds size ∙ sym (mapped_none (patched ds x)) }

pub does_come : (l : Line) (x : List Line) (text : Text) → Does (Come l ∷ []) x text x (text ++ (l ++ 10 ∷ []))
does_come l x text = record { front = l ∷ []; added = refl; rest = λ ds. refl }

-- ---- if the result is not an image

pub spoilt_now : (ds : List Command) (x : List Line) (text : Text) → IsSpoilt text → MakesNoImage ds x text
spoilt_now ds x text (n, bad) lines e = (n, bad (text_of lines))

pub short_now : (ds : List Command) (x : List Line) (text : Text) → patched ds x ≡ None → MakesNoImage ds x text
short_now ds x text none lines e = absurd (let clash : ◌≡◌ {A = Option (List Line)} None (Some lines) = sym none ∙ e in cc)

pub spoilt_behind : (cs ds : List Command) (a b : List Line) (x y : Text) → Does cs a x b y → MakesNoImage ds b y → MakesNoImage (cs ++ ds) a x
spoilt_behind cs ds a b x y f none lines e =
    let cut = mapped_some (λ l. f.front ++ l) (patched ds b) lines (sym (f.rest ds) ∙ e) in
    let more = cut.0 in
    let bad = none more cut.1 in
    let same : y ++ text_of more ≡ x ++ text_of lines =
    ap (λ t. t ++ text_of more) f.added ∙ append_assoc x (text_of f.front) (text_of more) ∙ ap (λ t. x ++ t) (sym (text_append f.front more) ∙ ap text_of (sym cut.2))
    in
    (bad.0, subst (IsBadImageAt bad.0) same bad.1)

-- lines that stay begin with those that were kept, and the next
stay_begins : (n : ℕ) (kept more lines : List Line) (l : Line) (ds : List Command) → length kept < n → patched (Stay n ∷ ds) (kept ++ l ∷ more) ≡ Some lines → (rest : List Line) × (lines ≡ (kept ++ l ∷ []) ++ rest)
stay_begins n kept more lines l ds few = go (nat_lt (length (kept ++ l ∷ more)) n) refl
  where
    go : (b : Bool) → nat_lt (length (kept ++ l ∷ more)) n ≡ b
        → cond b None (option_map (λ new. take n (kept ++ l ∷ more) ++ new) (patched ds (drop n (kept ++ l ∷ more)))) ≡ Some lines → (rest : List Line) × (lines ≡ (kept ++ l ∷ []) ++ rest)
    go true short e = absurd (let clash : ◌≡◌ {A = Option (List Line)} None (Some lines) = e in cc)
    go false short e =
        let cut = mapped_some (λ new. take n (kept ++ l ∷ more) ++ new) (patched ds (drop n (kept ++ l ∷ more))) lines e in
        let size : n ≡ length (kept ++ l ∷ []) + (n - length (kept ++ l ∷ [])) = omega (arith, length-append kept (l ∷ []), few) in
        let front : take n (kept ++ l ∷ more) ≡ (kept ++ l ∷ []) ++ take (n - length (kept ++ l ∷ [])) more =
        ap (λ (k : ℕ). take k (kept ++ l ∷ more)) size
        ∙ ap (take (length (kept ++ l ∷ []) + (n - length (kept ++ l ∷ [])))) (sym (append_assoc kept (l ∷ []) more))
        ∙ take-append-add (kept ++ l ∷ []) more (n - length (kept ++ l ∷ []))
        in
        (take (n - length (kept ++ l ∷ [])) more ++ cut.0, cut.2 ∙ ap (λ x. x ++ cut.0) front ∙ append_assoc (kept ++ l ∷ []) (take (n - length (kept ++ l ∷ [])) more) cut.0)

pub spoilt_stay : (n : ℕ) (kept old more : List Line) (l : Line) (text : Text) (ds : List Command) → length kept < n → old ≡ kept ++ l ∷ more → IsSpoilt ((text ++ text_of kept) ++ (l ++ 10 ∷ [])) → MakesNoImage (Stay n ∷ ds) old text
spoilt_stay n kept old more l text ds few is (m, bad) lines e =
    let begins = stay_begins n kept more lines l ds few (ap (patched (Stay n ∷ ds)) (sym is) ∙ e) in
    let same : ((text ++ text_of kept) ++ (l ++ 10 ∷ [])) ++ text_of begins.0 ≡ text ++ text_of lines =
    ap (λ x. x ++ text_of begins.0) (append_assoc text (text_of kept) (l ++ 10 ∷ []) ∙ ap (λ x. text ++ x) (sym (text_append kept (l ∷ []))))
    ∙ append_assoc text (text_of (kept ++ l ∷ [])) (text_of begins.0)
    ∙ ap (λ x. text ++ x) (sym (text_append (kept ++ l ∷ []) begins.0) ∙ ap text_of (sym begins.1))
    in
    (m, subst (IsBadImageAt m) same (bad (text_of begins.0)))

-- ---- which command is next

no_more : (es : List Command) (rest : Text) → All IsCommand es → rest ≡ text_of (parsed es) → HasNoCommand rest → es ≡ []
no_more [] rest are e none = refl
no_more (c ∷ es) rest are e none = absurd (none c (text_of (parsed es)) (All-head IsCommand c es are) e)

next_is : (es : List Command) (rest line behind : Text) (t : DeltaCommand) → All IsCommand es → rest ≡ text_of (parsed es) → IsNext rest line t behind
    → (ds : List Command) × (es ≡ command_of t line ∷ ds) × All IsCommand ds × (behind ≡ text_of (parsed ds))
next_is [] rest line behind t are e n =
    let same = same_line (codes "end") line [] behind end_line n.whole (sym e ∙ n.cut) in
    absurd (end_is_no_command (command_of t line) (same.0 ∙ n.tells.is))
next_is (c ∷ es) rest line behind t are e n =
    let is = All-head IsCommand c es are in
    let same = same_line line (spelled c) behind (text_of (parsed es)) n.whole (spelled_line c is) (sym n.cut ∙ e) in
    let first : c ≡ command_of t line = same_spelled c (command_of t line) is n.tells.command (sym same.0 ∙ n.tells.is) in
    (es, ap (λ d. d ∷ es) first, All-tail IsCommand c es are, same.1)

-- ---- over a delta

pub doing_start : (cs : List Command) (old : List Line) (text : Text) → All IsCommand cs → text ≡ text_of (parsed cs) → IsDoing cs old text old []
doing_start cs old text are e = record { done = []; more = cs; parts = refl; commands = are; text = e; does = does_nothing old [] }

pub doing_next : (cs : List Command) (old left now : List Line) (rest line behind has gets : Text) (t : DeltaCommand) → IsDoing cs old rest left has → IsNext rest line t behind
    → Does (command_of t line ∷ []) left has now gets → IsDoing cs old behind now gets
doing_next cs old left now rest line behind has gets t d n step =
    let c = command_of t line in
    let next = next_is d.more rest line behind t d.commands d.text n in
    record {
      done = d.done ++ c ∷ [];
      more = next.0;
      parts = d.parts ∙ ap (λ l. d.done ++ l) next.1 ∙ sym (append_assoc d.done (c ∷ []) next.0);
      commands = next.2;
      text = next.3;
      does = does_then d.done (c ∷ []) old left now [] has gets d.does step;
    }

pub doing_end : (cs : List Command) (old left : List Line) (rest has : Text) → IsDoing cs old rest left has → HasNoCommand rest → left ≡ [] → (lines : List Line) × (patched cs old ≡ Some lines) × (has ≡ text_of lines)
doing_end cs old left rest has d none end =
    let all : d.more ≡ [] = no_more d.more rest d.commands d.text none in
    let made : patched (d.done ++ d.more) old ≡ option_map (λ l. d.does.front ++ l) (patched d.more left) = d.does.rest d.more in
    let last : patched d.more left ≡ Some [] = ap (λ l. patched l left) all ∙ ap (patched []) end in
    (d.does.front, ap (λ l. patched l old) d.parts ∙ made ∙ ap (option_map (λ l. d.does.front ++ l)) last ∙ ap Some (append-nil d.does.front), d.does.added)

pub doing_left : (cs : List Command) (old more : List Line) (l : Line) (rest has : Text) → IsDoing cs old rest (l ∷ more) has → HasNoCommand rest → MakesNoImage cs old []
doing_left cs old more l rest has d none =
    let all : d.more ≡ [] = no_more d.more rest d.commands d.text none in
    let short : patched d.more (l ∷ more) ≡ None = ap (λ k. patched k (l ∷ more)) all in
    subst (λ k. MakesNoImage k old []) (sym d.parts) (spoilt_behind d.done d.more old (l ∷ more) [] has d.does (short_now d.more (l ∷ more) has short))

pub doing_spoilt : (cs : List Command) (old left : List Line) (rest line behind has : Text) (t : DeltaCommand) → IsDoing cs old rest left has → IsNext rest line t behind
    → ((ds : List Command) → MakesNoImage (command_of t line ∷ ds) left has) → MakesNoImage cs old []
doing_spoilt cs old left rest line behind has t d n none =
    let next = next_is d.more rest line behind t d.commands d.text n in
    let spoils : MakesNoImage d.more left has = subst (λ k. MakesNoImage k left has) (sym next.1) (none next.0) in
    subst (λ k. MakesNoImage k old []) (sym d.parts) (spoilt_behind d.done d.more old left [] has d.does spoils)

-- ---- one delta

-- a delta makes one list of lines
pub makes_one : (text old : Text) (a b : List Line) → Makes text old a → Makes text old b → a ≡ b
makes_one text old a b m n =
    let same = one_reading text _ _ m.commands n.commands m.is n.is in
    let made : Some a ≡ Some b = sym m.lines ∙ ap (λ cs. patched cs _) same.1 ∙ n.lines in
    cc

pub spoilt_come : (l : Line) (x : List Line) (text : Text) (ds : List Command) → IsSpoilt (text ++ (l ++ 10 ∷ [])) → MakesNoImage (Come l ∷ ds) x text
spoilt_come l x text ds bad = spoilt_behind (Come l ∷ []) ds x x text (text ++ (l ++ 10 ∷ [])) (does_come l x text) (spoilt_now ds x (text ++ (l ++ 10 ∷ [])) bad)
