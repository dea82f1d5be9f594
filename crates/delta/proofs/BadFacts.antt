-- The first bad line of a text that is no delta.
use Rattle.std.proofs.Common.{◌≡◌, ◌≢◌, ◌⊎◌, inl, inr, ℕ, zero, suc, ◌+◌, ◌*◌, ◌≤◌, ◌<◌, List, [], ◌∷◌, ◌++◌, length, map, codes, refl, sym, ap, subst, ◌∙◌, append_assoc, append-nil, arith, replicate, length-append}
use Rattle.std.specs.Prelude.{slice_index}
use Rattle.std.specs.List.{All}
use Rattle.std.proofs.lemmas.Bool.{cases_eq}
use Rattle.std.proofs.lemmas.List.{append_cancel_left, length-map, length-replicate}
use Rattle.std.proofs.lemmas.List.Elements.{All-nil, All-cons, All-head, All-map, All-weaker, All-push}
use Rattle.pathkey.proofs.Pieces.{not_lacking}
use Rattle.reference.specs.Image.{Text}
use Rattle.delta.specs.Deltas.{IsLine, text_of, Command, Stay, Go, Come, IsCommand, IsDigest, IsSomeDelta, commands_text, heading, spelled, parsed}
use Rattle.textio.specs.Lines.{IsBadBehind}
use Rattle.textio.proofs.LineFacts.{first_line, same_line}
use Rattle.textio.proofs.Spelled.{behind_values}
use Rattle.delta.specs.Texts.{HasNoCommand, IsBadAt, IsNext, NoEnd, Passes, ReadsDelta, command_of, end_text}
use Rattle.delta.specs.declared.command.DeltaCommand.{DeltaCommand}
use Rattle.delta.proofs.TextFacts.{commands_append, end_is_no_command, end_line, heading_line, spelled_line, reported_text}

-- ---- commands that were passed

pub passes_more : (cs : List Command) (text rest line behind : Text) (t : DeltaCommand) → Passes cs text rest → IsNext rest line t behind → Passes (cs ++ command_of t line ∷ []) text behind
passes_more cs text rest line behind t p n = record {
  commands = All-push IsCommand cs (command_of t line) p.commands n.tells.command;
  cut =
      let c = command_of t line in
      let next : rest ≡ spelled c ++ 10 ∷ behind = n.cut ∙ ap (λ l. l ++ 10 ∷ behind) n.tells.is in
      let one : commands_text (c ∷ []) ++ behind ≡ spelled c ++ 10 ∷ behind = append_assoc (spelled c) (10 ∷ []) behind in
      p.cut ∙ ap (λ r. commands_text cs ++ r) (next ∙ sym one) ∙ sym (append_assoc (commands_text cs) (commands_text (c ∷ [])) behind) ∙ ap (λ t. t ++ behind) (sym (commands_append cs (c ∷ [])));
}

-- each has three bytes at least
three_bytes : (c : Command) (rest : Text) → 3 + length rest ≤ length (spelled c ++ 10 ∷ rest)
three_bytes (Stay n) rest = omega (arith, length-append (spelled (Stay n)) (10 ∷ rest))
three_bytes (Go n) rest = omega (arith, length-append (spelled (Go n)) (10 ∷ rest))
three_bytes (Come l) rest = omega (arith, length-append (spelled (Come l)) (10 ∷ rest))

many_bytes : (cs : List Command) → 3 * length cs ≤ length (commands_text cs)
many_bytes [] = omega arith
many_bytes (c ∷ cs) = omega (arith, many_bytes cs, three_bytes c (commands_text cs))

pub few_commands : (cs : List Command) (text rest : Text) → Passes cs text rest → 3 * length cs ≤ length text
few_commands cs text rest p =
    let size : length text ≡ length (commands_text cs) + length rest = ap length p.cut ∙ length-append (commands_text cs) rest in
    omega (arith, size, many_bytes cs)

pub shorter : (rest line behind : Text) (t : DeltaCommand) → IsNext rest line t behind → length behind < length rest
shorter rest line behind t n = let size : length rest ≡ length line + length (10 ∷ behind) = ap length n.cut ∙ length-append line (10 ∷ behind) in omega (arith, size)

-- ---- no command is next

pub lacks_line : (text : Text) → IsLine text → HasNoCommand text
lacks_line text whole c behind is e = not_lacking 10 (spelled c) behind (subst IsLine e whole)

pub lacks_command : (text line behind : Text) → text ≡ line ++ 10 ∷ behind → IsLine line → ((c : Command) → IsCommand c → line ≢ spelled c) → HasNoCommand text
lacks_command text line behind cut whole none c after is e = none c is (same_line line (spelled c) behind after whole (spelled_line c is) (sym cut ∙ e)).0

-- ---- bad lines

-- the part of a delta after its first line contains a line feed
reported_has_end : (cs : List Command) → IsLine (text_of (parsed cs)) → ⊥
reported_has_end [] whole = not_lacking 10 (codes "end") [] whole
reported_has_end (c ∷ cs) whole = not_lacking 10 (spelled c) (text_of (parsed cs)) whole

zero_bytes : (n i : ℕ) → slice_index (replicate n 0) i < 256
zero_bytes zero zero = omega arith
zero_bytes zero (suc i) = omega arith
zero_bytes (suc n) zero = omega arith
zero_bytes (suc n) (suc i) = zero_bytes n i

zeros : IsDigest (replicate 32 0)
zeros = record { size = length-replicate {A = ℕ} 32 0; bytes = zero_bytes 32 }

some_delta : IsSomeDelta (text_of (heading (replicate 32 0) ∷ parsed []))
some_delta = (replicate 32 0, [], record { sum = zeros; commands = All-nil IsCommand; is = refl })

pub bad_start : (text : Text) → IsLine text → IsBadAt 1 text
bad_start text whole = record {
  front = [];
  rest = text;
  whole = All-nil IsLine;
  cut = refl;
  number = refl;
  begins = (text_of (heading (replicate 32 0) ∷ parsed []), some_delta);
  bad = inr (whole, λ h. let (d, cs, is) = h in not_lacking 10 (heading d) (text_of (parsed cs)) (subst IsLine is.is whole));
}

pub bad_heading : (text line behind : Text) → text ≡ line ++ 10 ∷ behind → IsLine line → ((digest : List ℕ) → IsDigest digest → line ≢ heading digest) → IsBadAt 1 text
bad_heading text line behind cut whole none = record {
  front = [];
  rest = text;
  whole = All-nil IsLine;
  cut = refl;
  number = refl;
  begins = (text_of (heading (replicate 32 0) ∷ parsed []), some_delta);
  bad = inl (line, behind, whole, cut, λ more h. let (d, cs, is) = h in none d is.sum (same_line line (heading d) more (text_of (parsed cs)) whole (heading_line d is.sum) is.is).0);
}

-- the text after the first line and some commands of a delta
goes_on : (digest : List ℕ) (cs : List Command) (rest : Text) → IsDigest digest → All IsCommand cs → IsSomeDelta (text_of (heading digest ∷ map spelled cs) ++ rest)
    → (ds : List Command) × All IsCommand ds × (rest ≡ text_of (parsed ds))
goes_on digest cs rest sum are (d, es, is) =
    let cut : heading digest ++ 10 ∷ (commands_text cs ++ rest) ≡ heading d ++ 10 ∷ text_of (parsed es) = sym (append_assoc (heading digest) (10 ∷ commands_text cs) rest) ∙ is.is in
    let both = same_line (heading digest) (heading d) (commands_text cs ++ rest) (text_of (parsed es)) (heading_line digest sum) (heading_line d is.sum) cut in
    behind_values Command IsCommand spelled (codes "end") spelled_line end_line end_is_no_command cs es rest are is.commands (sym both.1)

spelled_lines : (cs : List Command) → All IsCommand cs → All IsLine (map spelled cs)
spelled_lines cs are = All-map IsLine spelled cs (All-weaker IsCommand (λ c. IsLine (spelled c)) spelled_line cs are)

-- neither a command nor the end is next
bad_other : (digest : List ℕ) (cs : List Command) (text behind rest : Text) → IsDigest digest → text ≡ heading digest ++ 10 ∷ behind → Passes cs behind rest → HasNoCommand rest
    → ((after : Text) → rest ≢ end_text ++ after) → IsBadAt (length cs + 2) text
bad_other digest cs text behind rest sum first p none no_end = record {
  front = heading digest ∷ map spelled cs;
  rest = rest;
  whole = All-cons IsLine (heading digest) (map spelled cs) (heading_line digest sum) (spelled_lines cs p.commands);
  cut = first ∙ ap (λ b. heading digest ++ 10 ∷ b) p.cut ∙ sym (append_assoc (heading digest) (10 ∷ commands_text cs) rest);
  number = omega (arith, length-map cs spelled);
  begins = (
    end_text,
    (
      digest,
      cs,
      record {
        sum = sum;
        commands = p.commands;
        is = append_assoc (heading digest) (10 ∷ commands_text cs) end_text ∙ ap (λ b. heading digest ++ 10 ∷ b) (sym (reported_text cs));
      },
    ),
  );
  bad = next (first_line rest);
}
  where
    no_line : (ds : List Command) (line after more : Text) → IsLine line → rest ≡ line ++ 10 ∷ after → All IsCommand ds → line ++ 10 ∷ more ≡ text_of (parsed ds) → ⊥
    no_line [] line after more whole cut are e =
        let same = same_line line (codes "end") more [] whole end_line e in
        no_end after (cut ∙ ap (λ l. l ++ 10 ∷ after) same.0)
    no_line (d ∷ ds) line after more whole cut are e =
        let is = All-head IsCommand d ds are in
        let same = same_line line (spelled d) more (text_of (parsed ds)) whole (spelled_line d is) e in
        none d after is (cut ∙ ap (λ l. l ++ 10 ∷ after) same.0)

    next : ((line after : Text) × IsLine line × (rest ≡ line ++ 10 ∷ after)) ⊎ IsLine rest → IsBadBehind IsSomeDelta (heading digest ∷ map spelled cs) rest
    next (inl (line, after, whole, cut)) =
        inl (line, after, whole, cut, λ more h. let (ds, are, e) = goes_on digest cs (line ++ 10 ∷ more) sum p.commands h in no_line ds line after more whole cut are e)
    next (inr whole) = inr (whole, λ h. let (ds, are, e) = goes_on digest cs rest sum p.commands h in reported_has_end ds (subst IsLine e whole))

-- the end line follows, and more text after it
bad_behind_end : (digest : List ℕ) (cs : List Command) (text behind rest after : Text) → IsDigest digest → text ≡ heading digest ++ 10 ∷ behind → Passes cs behind rest → rest ≡ end_text ++ after
    → after ≢ [] → IsBadAt (length cs + 3) text
bad_behind_end digest cs text behind rest after sum first p end some = record {
  front = heading digest ∷ parsed cs;
  rest = after;
  whole = All-cons IsLine (heading digest) (parsed cs) (heading_line digest sum) (All-push IsLine (map spelled cs) (codes "end") (spelled_lines cs p.commands) end_line);
  cut = all after (first ∙ ap (λ b. heading digest ++ 10 ∷ b) (p.cut ∙ ap (λ r. commands_text cs ++ r) end));
  number = omega (arith, length-append (map spelled cs) (codes "end" ∷ []), length-map cs spelled);
  begins = ([], (digest, cs, record { sum = sum; commands = p.commands; is = append-nil (text_of (heading digest ∷ parsed cs)) }));
  bad = next (first_line after);
}
  where
    all : (x : Text) → text ≡ heading digest ++ 10 ∷ (commands_text cs ++ (end_text ++ x)) → text ≡ text_of (heading digest ∷ parsed cs) ++ x
    all x e =
        e
        ∙ ap (λ b. heading digest ++ 10 ∷ b) (sym (append_assoc (commands_text cs) end_text x) ∙ ap (λ b. b ++ x) (sym (reported_text cs)))
        ∙ sym (append_assoc (heading digest) (10 ∷ text_of (parsed cs)) x)

    no_more : (x : Text) (ds : List Command) → All IsCommand ds → end_text ++ x ≡ text_of (parsed ds) → x ≡ []
    no_more x [] are e = append_cancel_left end_text x [] (e ∙ sym (append-nil end_text))
    no_more x (d ∷ ds) are e =
        absurd (end_is_no_command d (same_line (codes "end") (spelled d) x (text_of (parsed ds)) end_line (spelled_line d (All-head IsCommand d ds are)) e).0)

    ends : (x : Text) → IsSomeDelta (text_of (heading digest ∷ parsed cs) ++ x) → x ≡ []
    ends x h =
        let back : text_of (heading digest ∷ parsed cs) ++ x ≡ text_of (heading digest ∷ map spelled cs) ++ (end_text ++ x) =
        append_assoc (heading digest) (10 ∷ text_of (parsed cs)) x
        ∙ ap (λ b. heading digest ++ 10 ∷ b) (ap (λ b. b ++ x) (reported_text cs) ∙ append_assoc (commands_text cs) end_text x)
        ∙ sym (append_assoc (heading digest) (10 ∷ commands_text cs) (end_text ++ x))
        in
        let (ds, are, e) = goes_on digest cs (end_text ++ x) sum p.commands (subst IsSomeDelta back h) in
        no_more x ds are e

    never : (line more : Text) → line ++ 10 ∷ more ≡ [] → ⊥
    never [] more e = cc
    never (b ∷ line) more e = cc

    next : ((line later : Text) × IsLine line × (after ≡ line ++ 10 ∷ later)) ⊎ IsLine after → IsBadBehind IsSomeDelta (heading digest ∷ parsed cs) after
    next (inl (line, later, whole, cut)) = inl (line, later, whole, cut, λ more h. never line more (ends (line ++ 10 ∷ more) h))
    next (inr whole) = inr (whole, λ h. some (ends after h))

-- what is no end is bad
pub bad_end : (digest : List ℕ) (cs : List Command) (text behind rest : Text) (number bad : ℕ) → IsDigest digest → text ≡ heading digest ++ 10 ∷ behind → Passes cs behind rest → HasNoCommand rest
    → number ≡ length cs + 2 → NoEnd rest number bad → IsBadAt bad text
bad_end digest cs text behind rest number bad sum first p none count h =
    elim (cases_eq bad number) [
      | inl same ↦
          let e : length cs + 2 ≡ bad = omega arith in
          subst (λ (n : ℕ). IsBadAt n text) e (bad_other digest cs text behind rest sum first p none (h.second same))
      | inr other ↦
          let later = h.first other in
          let e : length cs + 3 ≡ bad = omega (arith, later.0) in
          let some : later.1.0 ≢ [] = λ none. h.other (later.1.1 ∙ ap (λ a. end_text ++ a) none ∙ append-nil end_text) in
          subst (λ (n : ℕ). IsBadAt n text) e (bad_behind_end digest cs text behind rest later.1.0 sum first p later.1.1 some)
    ]

-- a delta was read
pub read_all : (digest : List ℕ) (cs : List Command) (text behind rest : Text) → IsDigest digest → text ≡ heading digest ++ 10 ∷ behind → Passes cs behind rest → rest ≡ end_text → ReadsDelta text digest behind cs
read_all digest cs text behind rest sum first p end =
    let told_behind : behind ≡ text_of (parsed cs) = p.cut ∙ ap (λ r. commands_text cs ++ r) end ∙ sym (reported_text cs) in
    record {
      is = record { sum = sum; commands = p.commands; is = first ∙ ap (λ b. heading digest ++ 10 ∷ b) told_behind };
      rest = told_behind;
    }
