-- How a script continues: line by line, piece by piece, and how it ends.
use Rattle.std.proofs.Common.{Bool, ◌≡◌, ◌⊎◌, ℕ, ◌≤◌, ◌<◌, ◌==◌, nat_lt, List, [], ◌∷◌, ◌++◌, length, true, false, refl, sym, ap, ◌∙◌, subst, inl, inr, append_assoc, append-nil, arith}
use Rattle.std.proofs.lemmas.Bool.{ne_eqb, cases_lt, lt-ltb}
use Rattle.pathkey.specs.Texts.{onto_first}
use Rattle.pathkey.specs.declared.errno.Errno.TheVariants.{ENOMEM}
use Rattle.shell.specs.declared.request.Request.{Request}
use Rattle.shell.specs.declared.request.Request.TheVariants.{Overlong, Refused}
use Rattle.textio.specs.Lines.{lines_of, kept_before, whole}
use Rattle.shell.specs.Requests.{request_of, IsAsked}
use Rattle.shell.specs.Script.{Answers, Cut, Does, IsCut, Line, Lines, Script, State, Stopped, Answered}
use Rattle.shell.specs.Progress.{AreFree, FailedIn, Went, last_line, text_of_lines}
use Rattle.textio.specs.Held.{Holds, IsFree}

-- one line more without a line feed in it
pub are_free_more : (ls : List (List ℕ)) (l : List ℕ) → AreFree ls → IsFree l → AreFree (ls ++ l ∷ [])
are_free_more [] l free one = (one, tt)
are_free_more (k ∷ ls) l free one = (free.0, are_free_more ls l free.1 one)

-- one line more, and its line feed
pub text_more : (ls : List (List ℕ)) (l rest : List ℕ) → text_of_lines ls ++ (l ++ (10 ∷ rest)) ≡ text_of_lines (ls ++ l ∷ []) ++ rest
text_more [] l rest = sym (append_assoc l (10 ∷ []) rest)
text_more (k ∷ ls) l rest =
    append_assoc k (10 ∷ text_of_lines ls) (l ++ (10 ∷ rest))
    ∙ ap (λ t. k ++ (10 ∷ t)) (text_more ls l rest)
    ∙ sym (append_assoc k (10 ∷ text_of_lines (ls ++ l ∷ [])) rest)

-- ---- the lines of a text

-- the first line of a text, up to its line feed
pub lines_at : (l rest : List ℕ) → IsFree l → lines_of (l ++ (10 ∷ rest)) ≡ l ∷ lines_of rest
lines_at [] rest free = refl
lines_at (x ∷ l) rest free =
    let no : (x == 10) ≡ false = ne_eqb x 10 free.0 in
    rw no (ap (onto_first x) (lines_at l rest free.1))

-- the first lines of a text, each with its line feed
pub lines_after : (ls : List (List ℕ)) (rest : List ℕ) → AreFree ls → lines_of (text_of_lines ls ++ rest) ≡ ls ++ lines_of rest
lines_after [] rest free = refl
lines_after (l ∷ ls) rest free =
    ap lines_of (append_assoc l (10 ∷ text_of_lines ls) rest)
    ∙ lines_at l (text_of_lines ls ++ rest) free.0
    ∙ ap (λ t. l ∷ t) (lines_after ls rest free.1)

-- a text without a line feed is the last line, if it is not empty
pub lines_last : (l : List ℕ) → IsFree l → lines_of l ≡ last_line l
lines_last [] free = refl
lines_last (x ∷ l) free =
    let no : (x == 10) ≡ false = ne_eqb x 10 free.0 in
    rw (no, lines_last l free.1) (go l)
  where
    go : (m : List ℕ) → onto_first x (last_line m) ≡ (x ∷ m) ∷ []
    go [] = refl
    go (y ∷ m) = refl

-- without a line feed there is no whole line
whole_free : (l : List ℕ) → IsFree l → whole l ≡ []
whole_free [] free = refl
whole_free (x ∷ l) free =
    let no : (x == 10) ≡ false = ne_eqb x 10 free.0 in
    rw no (ap (kept_before x) (whole_free l free.1))

-- the first whole line of a text
whole_at : (l rest : List ℕ) → IsFree l → whole (l ++ (10 ∷ rest)) ≡ l ++ (10 ∷ whole rest)
whole_at [] rest free = refl
whole_at (x ∷ l) rest free =
    let no : (x == 10) ≡ false = ne_eqb x 10 free.0 in
    rw (no, whole_at l rest free.1) (go l)
  where
    go : (m : List ℕ) → kept_before x (m ++ (10 ∷ whole rest)) ≡ x ∷ (m ++ (10 ∷ whole rest))
    go [] = refl
    go (y ∷ m) = refl

-- the whole lines of a text, and then a line without its line feed
pub whole_after : (ls : List (List ℕ)) (rest : List ℕ) → AreFree ls → IsFree rest → whole (text_of_lines ls ++ rest) ≡ text_of_lines ls
whole_after [] rest free last = whole_free rest last
whole_after (l ∷ ls) rest free last =
    ap whole (append_assoc l (10 ∷ text_of_lines ls) rest)
    ∙ whole_at l (text_of_lines ls ++ rest) free.0
    ∙ ap (λ t. l ++ (10 ∷ t)) (whole_after ls rest free.1 last)

-- ---- scripts

-- some lines, and then some more
pub script_then : (D : Line) (ls ks : List (List ℕ)) (a b c : State) (out more : List ℕ) → Lines D a ls out b → Lines D b ks more c → Lines D a (ls ++ ks) (out ++ more) c
script_then D [] ks a b c out more first second =
    subst (λ (w : State). Lines D w ks (out ++ more) c) first.1 (subst (λ (o : List ℕ). Lines D b ks (o ++ more) c) (sym first.0) second)
script_then D (l ∷ ls) ks a b c out more (after, reply, rest, does, is, first) second =
    (after, reply, rest ++ more, does, ap (λ o. o ++ more) is ∙ append_assoc reply rest more, script_then D ls ks after b c rest more first second)

-- one line is a script
pub script_one : (D : Line) (line : List ℕ) (a b : State) (reply : List ℕ) → D a line reply b → Lines D a (line ∷ []) reply b
script_one D line a b reply does = (b, reply, [], does, sym (append-nil reply), (refl, refl))

-- what less is said of each line is said of them all
pub lines_weaker : (D E : Line) → ((a : State) (line reply : List ℕ) (b : State) → D a line reply b → E a line reply b)
    → (ls : List (List ℕ)) (a b : State) (out : List ℕ) → Lines D a ls out b → Lines E a ls out b
lines_weaker D E f [] a b out did = did
lines_weaker D E f (l ∷ ls) a b out (after, reply, rest, does, is, did) = (after, reply, rest, f a l reply after does, is, lines_weaker D E f ls after b rest did)

-- and of an early end
pub stopped_weaker : (D E : Line) (H I : Cut) → ((a : State) (line reply : List ℕ) (b : State) → D a line reply b → E a line reply b)
    → ((part rest : List ℕ) → H part rest → I part rest)
    → (first : State) (text written : List ℕ) (after : State) → Stopped D H first text written after → Stopped E I first text written after
stopped_weaker D E H I f g first text written after s = record {
  done = s.done;
  last = s.last;
  more = s.more;
  before = s.before;
  replies = s.replies;
  part = s.part;
  rest = s.rest;
  lines = s.lines;
  at_most_one = s.at_most_one;
  did = lines_weaker D E f s.done first s.before s.replies s.did;
  did_last = s.did_last;
  how = g s.part s.rest s.how;
  is = s.is;
}

-- ---- the line so far

-- the request of a line that is too long
too_long : (xs : List ℕ) → 65536 < length xs → request_of xs ≡ Overlong
too_long xs long =
    let e : nat_lt 65536 (length xs) ≡ true = lt-ltb 65536 (length xs) long in
    rw e refl

-- what was held of a line is answered as the line itself
pub does_held : (held items : List ℕ) (a b : State) (reply : List ℕ) → Holds held items → Does a items reply b → Does a held reply b
does_held held items a b reply holds does = go (cases_lt 65536 (length held))
  where
    go : (65536 < length held) ⊎ (length held ≤ 65536) → Does a held reply b
    go (inl long) =
        let same : request_of items ≡ request_of held = too_long items (holds.long long) ∙ sym (too_long held long) in
        let P : Request → Type 0 = λ r. Answers a r reply b ⊎ (IsAsked r × Answers a (Refused ENOMEM) reply b) in
        subst P same does
    go (inr short) = subst (λ (l : List ℕ). Does a l reply b) (holds.short short) does

-- and if no answer may be a fault
pub answered_held : (strict : Bool) (held items : List ℕ) (a b : State) (reply : List ℕ) → Holds held items → Answered strict a items reply b → Answered strict a held reply b
answered_held strict held items a b reply holds (does, passes) = (does_held held items a b reply holds does, passes)

-- bytes of the line
went_bytes : (D : Line) (held piece bytes : List ℕ) (first after : State) (out left : List ℕ) → Went D held piece first out left after → Went D held (piece ++ bytes) first out (left ++ bytes) after
went_bytes D held piece bytes first after out left w = record {
  lines = w.lines;
  cut = sym (append_assoc held piece bytes) ∙ ap (λ l. l ++ bytes) w.cut ∙ append_assoc (text_of_lines w.lines) left bytes;
  free = w.free;
  did = w.did;
}

-- no bytes yet
pub went_nothing : (D : Line) (held : List ℕ) (first : State) → Went D held [] first [] held first
went_nothing D held first = record {
  lines = [];
  cut = append-nil held;
  free = tt;
  did = (refl, refl);
}

-- bytes alone, and no line is done
pub went_on : (D : Line) (held bytes : List ℕ) (first : State) → Went D held bytes first [] (held ++ bytes) first
went_on D held bytes first = went_bytes D held [] bytes first first [] held (went_nothing D held first)

-- the end of a line and its line feed, and the line is done
pub went_line : (D : Line) (held end : List ℕ) (first after : State) (reply : List ℕ) → IsFree (held ++ end) → D first (held ++ end) reply after
    → Went D held (end ++ 10 ∷ []) first reply [] after
went_line D held end first after reply free does = record {
  lines = (held ++ end) ∷ [];
  cut = sym (append_assoc held end (10 ∷ [])) ∙ sym (append-nil ((held ++ end) ++ 10 ∷ []));
  free = (free, tt);
  did = script_one D (held ++ end) first after reply does;
}

-- and the lines ended at its reply
pub failed_line : (D : Line) (H : Cut) (held end : List ℕ) (first after : State) (part rest : List ℕ) → IsFree (held ++ end)
    → Script first ((held ++ end) ∷ []) (part ++ rest) after → H part rest → FailedIn D H held (end ++ 10 ∷ []) first part after
failed_line D H held end first after part rest free does how = record {
  front = end;
  more = [];
  line = held ++ end;
  before = first;
  replies = [];
  part = part;
  rest = rest;
  cut = refl;
  went = went_on D held end first;
  free = free;
  did_last = does;
  how = how;
  is = refl;
}

-- a piece after a text
pub went_then : (D : Line) (held text piece : List ℕ) (first before after : State) (out left more rest : List ℕ) → Went D held text first out left before
    → Went D left piece before more rest after → Went D held (text ++ piece) first (out ++ more) rest after
went_then D held text piece first before after out left more rest a b = record {
  lines = a.lines ++ b.lines;
  cut = sym (append_assoc held text piece) ∙ ap (λ l. l ++ piece) a.cut ∙ append_assoc (text_of_lines a.lines) left piece ∙ ap (λ l. text_of_lines a.lines ++ l) b.cut
      ∙ sym (append_assoc (text_of_lines a.lines) (text_of_lines b.lines) rest) ∙ ap (λ l. l ++ rest) (sym (text_both a.lines b.lines));
  free = free_both a.lines b.lines a.free b.free;
  did = script_then D a.lines b.lines first before after out more a.did b.did;
}
  where
    text_both : (ls ks : List (List ℕ)) → text_of_lines (ls ++ ks) ≡ text_of_lines ls ++ text_of_lines ks
    text_both [] ks = refl
    text_both (l ∷ ls) ks = ap (λ t. l ++ (10 ∷ t)) (text_both ls ks) ∙ sym (append_assoc l (10 ∷ text_of_lines ls) (text_of_lines ks))

    free_both : (ls ks : List (List ℕ)) → AreFree ls → AreFree ks → AreFree (ls ++ ks)
    free_both [] ks p q = q
    free_both (l ∷ ls) ks p q = (p.0, free_both ls ks p.1 q)

-- a piece in which the lines ended early, after a text and before another
pub failed_then : (D : Line) (H : Cut) (held text piece later : List ℕ) (first before after : State) (out left written : List ℕ) → Went D held text first out left before
    → FailedIn D H left piece before written after → FailedIn D H held ((text ++ piece) ++ later) first (out ++ written) after
failed_then D H held text piece later first before after out left written w f = record {
  front = text ++ f.front;
  more = f.more ++ later;
  line = f.line;
  before = f.before;
  replies = out ++ f.replies;
  part = f.part;
  rest = f.rest;
  cut = ap (λ p. (text ++ p) ++ later) f.cut ∙ ap (λ t. t ++ later) (sym (append_assoc text f.front (10 ∷ f.more)))
      ∙ append_assoc (text ++ f.front) (10 ∷ f.more) later;
  went = went_then D held text f.front first before f.before out left f.replies f.line w f.went;
  free = f.free;
  did_last = f.did_last;
  how = f.how;
  is = ap (λ l. out ++ l) f.is ∙ sym (append_assoc out f.replies f.part);
}

-- the lines of a text that was read to its end
pub script_at_end : (D : Line) (text : List ℕ) (first before after : State) (out left reply : List ℕ) → Went D [] text first out left before → IsFree left
    → Lines D before (last_line left) reply after → Lines D first (lines_of text) (out ++ reply) after
script_at_end D text first before after out left reply w free last =
    let is : lines_of text ≡ w.lines ++ last_line left =
    ap lines_of w.cut ∙ lines_after w.lines left w.free ∙ ap (λ l. w.lines ++ l) (lines_last left free) in
    rw is (script_then D w.lines (last_line left) first before after out reply w.did last)

-- the whole lines of what was read
pub script_of_whole : (D : Line) (text : List ℕ) (first after : State) (out left : List ℕ) → Went D [] text first out left after → IsFree left → Lines D first (lines_of (whole text)) out after
script_of_whole D text first after out left w free =
    let is : lines_of (whole text) ≡ w.lines =
    ap (λ t. lines_of (whole t)) w.cut ∙ ap lines_of (whole_after w.lines left w.free free) ∙ ap lines_of (sym (append-nil (text_of_lines w.lines)))
    ∙ lines_after w.lines [] w.free ∙ append-nil w.lines in
    rw is w.did

-- there is at most one last line
at_most_one : (l : List ℕ) → length (last_line l) ≤ 1
at_most_one [] = omega arith
at_most_one (x ∷ l) = omega arith

-- the state after an early end of a script that was read to its end
pub stopped_at_end : (D : Line) (H : Cut) (text : List ℕ) (first before after : State) (out left part rest : List ℕ) → Went D [] text first out left before → IsFree left
    → Script before (last_line left) (part ++ rest) after → H part rest → Stopped D H first text (out ++ part) after
stopped_at_end D H text first before after out left part rest w free last how = record {
  done = w.lines;
  last = last_line left;
  more = [];
  before = before;
  replies = out;
  part = part;
  rest = rest;
  lines = ap lines_of w.cut ∙ lines_after w.lines left w.free ∙ ap (λ l. w.lines ++ l) (lines_last left free ∙ sym (append-nil (last_line left)));
  at_most_one = at_most_one left;
  did = w.did;
  did_last = last;
  how = how;
  is = refl;
}

-- between two lines
pub stopped_between : (D : Line) (text later : List ℕ) (first after : State) (out left : List ℕ) → Went D [] text first out left after → Stopped D IsCut first (text ++ later) out after
stopped_between D text later first after out left w = record {
  done = w.lines;
  last = [];
  more = lines_of (left ++ later);
  before = after;
  replies = out;
  part = [];
  rest = [];
  lines = ap (λ t. lines_of (t ++ later)) w.cut ∙ ap lines_of (append_assoc (text_of_lines w.lines) left later) ∙ lines_after w.lines (left ++ later) w.free;
  at_most_one = omega arith;
  did = w.did;
  did_last = (refl, refl);
  how = tt;
  is = sym (append-nil out);
}

-- within a piece
pub stopped_in : (D : Line) (H : Cut) (text piece later : List ℕ) (first before after : State) (out left written : List ℕ) → Went D [] text first out left before
    → FailedIn D H left piece before written after → Stopped D H first ((text ++ piece) ++ later) (out ++ written) after
stopped_in D H text piece later first before after out left written w f =
    let both = went_then D [] text f.front first before f.before out left f.replies f.line w f.went in
    let whole_text : (text ++ piece) ++ later ≡ text_of_lines both.lines ++ (f.line ++ (10 ∷ (f.more ++ later))) =
    ap (λ p. (text ++ p) ++ later) f.cut
    ∙ ap (λ t. t ++ later) (sym (append_assoc text f.front (10 ∷ f.more)))
    ∙ ap (λ t. (t ++ (10 ∷ f.more)) ++ later) both.cut
    ∙ append_assoc (text_of_lines both.lines ++ f.line) (10 ∷ f.more) later
    ∙ append_assoc (text_of_lines both.lines) f.line (10 ∷ (f.more ++ later)) in
    record {
      done = both.lines;
      last = f.line ∷ [];
      more = lines_of (f.more ++ later);
      before = f.before;
      replies = out ++ f.replies;
      part = f.part;
      rest = f.rest;
      lines = ap lines_of whole_text ∙ lines_after both.lines _ both.free ∙ ap (λ l. both.lines ++ l) (lines_at f.line (f.more ++ later) f.free);
      at_most_one = omega arith;
      did = both.did;
      did_last = f.did_last;
      how = f.how;
      is = ap (λ l. out ++ l) f.is ∙ sym (append_assoc out f.replies f.part);
    }

-- what one line alone is answered, another may be too
pub script_of_one : (D : Line) (line other : List ℕ) (a b : State) (out : List ℕ) → ((reply : List ℕ) (after : State) → D a line reply after → D a other reply after)
    → Lines D a (line ∷ []) out b → Lines D a (other ∷ []) out b
script_of_one D line other a b out f (after, reply, rest, does, is, end) = (after, reply, rest, f reply after does, is, end)

-- what is held of a line is answered as the line itself
abbrev pub Carries : Line → Type 0
Carries D = (held items : List ℕ) (a b : State) (reply : List ℕ) → Holds held items → D a items reply b → D a held reply b

-- a last line of which no more is kept than shows that it is too long
pub script_held : (D : Line) → Carries D → (held items : List ℕ) (a b : State) (out : List ℕ) → Holds held items → Lines D a (last_line items) out b
    → Lines D a (last_line held) out b
script_held D carries held items a b out holds did = go (cases_lt 65536 (length held))
  where
    long_line : (h i : List ℕ) → 65536 < length h → 65536 < length i → Holds h i → Lines D a (last_line i) out b → Lines D a (last_line h) out b
    long_line [] i p q hs d = absurd (omega arith)
    long_line (x ∷ h) [] p q hs d = absurd (omega arith)
    long_line (x ∷ h) (y ∷ i) p q hs d = script_of_one D (y ∷ i) (x ∷ h) a b out (λ reply after does. carries (x ∷ h) (y ∷ i) a after reply hs does) d

    go : (65536 < length held) ⊎ (length held ≤ 65536) → Lines D a (last_line held) out b
    go (inl long) = long_line held items long (holds.long long) holds did
    go (inr short) = subst (λ (l : List ℕ). Lines D a (last_line l) out b) (holds.short short) did
