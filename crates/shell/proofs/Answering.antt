-- One line: its request, and its answer.
use Rattle.std.proofs.Common.{◌≡◌, ◌∙◌, ◌++◌, inl, inr, ℕ, ◌<◌, Bool, true, false, List, [], ◌∷◌, length, refl, sym, subst, append-nil, arith}
use Rattle.std.specs.Prelude.{IfErr, IsErr, IsErrAnd, OnErr, Option, Result, Ok, Err, not, ◌&&◌}
use Rattle.std.specs.Io.KnownBytes.{Appends, Keeps}
use Rattle.std.proofs.KnownBytes.{Appends-kept}
use Rattle.std.proofs.lemmas.Bool.{and_parts, not-false, not-true}
use Rattle.textio.specs.Parts.{AppendsPart}
use Rattle.reference.specs.Worlds.{World, Event, Ask, Replied, Settled, Snapped, Fits, next}
use Rattle.reference.specs.declared.call.Call.{Call}
use Rattle.reference.specs.declared.reply.Reply.{Reply}
use Rattle.reference.specs.declared.reply.Reply.TheVariants.{Done}
use Rattle.shell.specs.declared.request.Request.{Request}
use Rattle.shell.specs.declared.request.ReadCall.{ReadCall}
use Rattle.shell.specs.declared.request.Request.TheVariants.{Moment, Wanted, Past}
use Rattle.shell.specs.Requests.{request_of, IsReadAs}
use Rattle.shell.specs.Replies.{reply_text}
use Rattle.shell.specs.Script.{Cut, IsHalt, Line, Lines, State, Answered, in_world, Answers, Does, Script, Settles, Tells, settled_reply}
use Rattle.shell.specs.Runs.{Halts, Leads, Left, Meant, States, Worlds}
use Rattle.shell.specs.Verdicts.{Judges, fails}
use Rattle.shell.specs.declared.verdict.Halt.TheVariants as halt
use Rattle.shell.specs.declared.verdict.Verdict.{Verdict}
use Rattle.shell.specs.Progress.{last_line}
use Rattle.shell.proofs.Progress.{lines_weaker, script_one}

-- a request that changes nothing was answered
pub answers_kept : (means : States) (Wrote : List ℕ → Type 0) (q wanted : Request) (text : List ℕ) → q ≡ wanted → ((s : State) → Answers s wanted text s) → Wrote text
    → Leads means means (λ first. Answers first q) Wrote
answers_kept means Wrote q wanted text is answers wrote first m =
    (text, first, subst (λ (r : Request). Answers first r text first) (sym is) (answers first), m, wrote)

-- a timestamp was set
pub answers_moment : (means : Worlds) (before at : ℕ) (Wrote : List ℕ → Type 0) (q : Request) → q ≡ Moment at → Wrote (reply_text Done)
    → Leads (Meant means before) (Meant means at) (λ first. Answers first q) Wrote
answers_moment means before at Wrote q is wrote first m =
    let after : State = record first { at = at } in
    (reply_text Done, after, subst (λ (r : Request). Answers first r (reply_text Done) after) (sym is) (refl, refl), (m.0, refl), wrote)

-- a call was done and answered
pub answers_call : (means means' : Worlds) (at : ℕ) (Wrote : List ℕ → Type 0) (q : Request) (call : Call) (reply : Reply) → q ≡ Wanted call
    → ((w : World) → means w → Fits w (Ask call at) (Replied reply) × means' (next w (Ask call at) (Replied reply))) → Wrote (reply_text reply)
    → Leads (Meant means at) (Meant means' at) (λ first. Answers first q) Wrote
answers_call means means' at Wrote q call reply is does wrote first m =
    let done = does first.world m.0 in
    let fits : Fits first.world (Ask call first.at) (Replied reply) = subst (λ (n : ℕ). Fits first.world (Ask call n) (Replied reply)) (sym m.1) done.0 in
    let after : State = in_world first (next first.world (Ask call first.at) (Replied reply)) in
    let there : means' after.world = subst (λ (n : ℕ). means' (next first.world (Ask call n) (Replied reply))) (sym m.1) done.1 in
    (reply_text reply, after, subst (λ (r : Request). Answers first r (reply_text reply) after) (sym is) (reply, fits, refl, refl), (there, m.1), wrote)

-- what is answered to a request is answered to the same one
pub answers_as : (q wanted : Request) (s : State) (text : List ℕ) (s' : State) → q ≡ wanted → Answers s wanted text s' → Answers s q text s'
answers_as q wanted s text s' is answers = subst (λ (r : Request). Answers s r text s') (sym is) answers

-- a snapshot call was done and answered
pub answers_settled : (means means' : Worlds) (at : ℕ) (Wrote : List ℕ → Type 0) (q : Request) (e : Event) (r : Snapped)
    → ((s : State) (text : List ℕ) (s' : State) → Settles s e text s' → Answers s q text s')
    → ((w : World) → means w → Fits w e (Settled r) × means' (next w e (Settled r))) → Wrote (reply_text (settled_reply r))
    → Leads (Meant means at) (Meant means' at) (λ first. Answers first q) Wrote
answers_settled means means' at Wrote q e r is does wrote first m =
    let done = does first.world m.0 in
    let after : State = in_world first (next first.world e (Settled r)) in
    (reply_text (settled_reply r), after, is first (reply_text (settled_reply r)) after (r, done.0, refl, refl), (done.1, m.1), wrote)

-- a look into a snapshot was answered
pub answers_look : (means means' : Worlds) (at : ℕ) (Wrote : List ℕ → Type 0) (q : Request) (name : List ℕ) (l : ReadCall) (r : Reply) → q ≡ Past name l
    → ((w : World) → means w → Tells w name l r × means' w) → Wrote (reply_text r)
    → Leads (Meant means at) (Meant means' at) (λ first. Answers first q) Wrote
answers_look means means' at Wrote q name l r is tells wrote first m =
    let reported = tells first.world m.0 in
    (reply_text r, first, subst (λ (x : Request). Answers first x (reply_text r) first) (sym is) (r, reported.0, refl, refl), (reported.1, m.1), wrote)

-- the request of a line was read and answered
pub line_done : (means means' : States) (Wrote : List ℕ → Type 0) (line : List ℕ) (q : Request) → IsReadAs (request_of line) q
    → Leads means means' (λ first. Answers first q) Wrote → Leads means means' (λ first. Does first line) Wrote
line_done means means' Wrote line q read f first m =
    let (out, after, answers, m', wrote) = f first m in
    (out, after, does read first out after answers, m', wrote)
  where
    does : IsReadAs (request_of line) q → (first : State) (out : List ℕ) (after : State) → Answers first q out after → Does first line out after
    does (inl is) first out after answers = inl (subst (λ (r : Request). Answers first r out after) is answers)
    does (inr lacks) first out after answers = inr (lacks.1, subst (λ (r : Request). Answers first r out after) lacks.0 answers)

-- a state that is possible after a line is possible after the steps that follow it
pub then_kept : (means : States) (mid means' : Worlds) (at : ℕ) (step : State → List ℕ → State → Type 0) (Wrote : List ℕ → Type 0)
    → Leads means (Meant mid at) step Wrote → ((w : World) → mid w → means' w) → Leads means (Meant means' at) step Wrote
then_kept means mid means' at step Wrote f kept first m =
    let (out, after, did, m', wrote) = f first m in
    (out, after, did, (kept after.world m'.0, m'.1), wrote)

-- whatever the timestamp at the end
pub left_at_end : (means : States) (means' : Worlds) (at : ℕ) (step : State → List ℕ → State → Type 0) (Wrote : List ℕ → Type 0)
    → Leads means (Meant means' at) step Wrote → Leads means (Left means') step Wrote
left_at_end means means' at step Wrote f first m =
    let (out, after, did, m', wrote) = f first m in
    (out, after, did, m'.0, wrote)

-- ---- what a watch makes of a line

-- the run may continue: if it is strict, the reply is not a fault
pub line_answered : (means means' : States) (old new : Option (List ℕ)) (line : List ℕ) (strict go : Bool) (v : Verdict) → go ≡ not (strict && fails v) → go ≡ true
    → Leads means means' (λ first. Does first line) (Judges v old new) → Leads means means' (λ first. Answered strict first line) (Appends old new)
line_answered means means' old new line strict go v rule goes f first m =
    let (out, after, does, m', (wrote, judged)) = f first m in
    (out, after, (does, λ is. sym judged ∙ passes is), m', wrote)
  where
    passes : strict ≡ true → fails v ≡ false
    passes is = not-true _ (subst (λ (b : Bool). not (b && fails v) ≡ true) is (sym rule ∙ goes))

-- it ends the run: that is strict, and the reply is a fault
pub line_ends : (means means' : States) (old new : Option (List ℕ)) (line : List ℕ) (strict go : Bool) (v : Verdict) → go ≡ not (strict && fails v) → go ≡ false
    → Leads means means' (λ first. Does first line) (Judges v old new) → Leads means means' (Halts (IsHalt strict halt.Fault) (line ∷ [])) (Appends old new)
line_ends means means' old new line strict go v rule ends f first m =
    let (out, after, does, m', (wrote, judged)) = f first m in
    let one : Script first (line ∷ []) (out ++ []) after = subst (λ (o : List ℕ). Script first (line ∷ []) o after) (sym (append-nil out)) (script_one Does line first after out does) in
    (out, after, ([], one, (both.0, refl, sym judged ∙ both.1)), m', wrote)
  where
    both : (strict ≡ true) × (fails v ≡ true)
    both = and_parts _ _ (not-false _ (sym rule ∙ ends))

-- the writer failed at the reply
pub line_cut : (means means' : States) (old new : Option (List ℕ)) (line : List ℕ) (strict : Bool)
    → Leads means means' (λ first. Does first line) (AppendsPart old new) → Leads means means' (Halts (IsHalt strict halt.Write) (line ∷ [])) (Appends old new)
line_cut means means' old new line strict f first m =
    let (out, after, does, m', (part, rest, is, wrote)) = f first m in
    let one : Script first (line ∷ []) (part ++ rest) after = subst (λ (o : List ℕ). Script first (line ∷ []) o after) is (script_one Does line first after out does) in
    (part, after, (rest, one, tt), m', wrote)

-- ---- a last line without its line feed

-- it was done
pub last_done : (D : Line) (means means' : States) (Wrote Known : List ℕ → Type 0) (line : List ℕ) → 0 < length line → ((out : List ℕ) → Wrote out → Known out)
    → Leads means means' (λ first. D first line) Wrote → Leads means means' (λ first. Lines D first (last_line line)) Known
last_done D means means' Wrote Known [] some known f first m = absurd (omega arith)
last_done D means means' Wrote Known (x ∷ line) some known f first m =
    let (out, after, does, m', wrote) = f first m in
    (out, after, script_one D (x ∷ line) first after out does, m', known out wrote)

-- the run ended at it
pub last_ends : (H : Cut) (means means' : States) (Wrote : List ℕ → Type 0) (line : List ℕ) → 0 < length line
    → Leads means means' (Halts H (line ∷ [])) Wrote → Leads means means' (Halts H (last_line line)) Wrote
last_ends H means means' Wrote [] some f first m = absurd (omega arith)
last_ends H means means' Wrote (x ∷ line) some f first m = f first m

-- there is none
pub none_done : (D : Line) (means : States) (Wrote : List ℕ → Type 0) (line : List ℕ) → length line ≡ 0 → Wrote []
    → Leads means means (λ first. Lines D first (last_line line)) Wrote
none_done D means Wrote [] none wrote first m = ([], first, (refl, refl), m, wrote)
none_done D means Wrote (x ∷ line) none wrote first m = absurd (omega (arith, none))

-- and the writer failed after it
pub flush_ends : (means means' : States) (old kept new : Option (List ℕ)) (lines : List (List ℕ)) (strict : Bool)
    → Leads means means' (λ first. Lines (Answered strict) first lines) (Appends old kept) → Keeps kept new
    → Leads means means' (Halts (IsHalt strict halt.Write) lines) (Appends old new)
flush_ends means means' old kept new lines strict f keeps first m =
    let (out, after, did, m', wrote) = f first m in
    let all : Script first lines out after = lines_weaker (Answered strict) Does (λ a line reply b answered. answered.0) lines first after out did in
    let whole : Script first lines (out ++ []) after = subst (λ (o : List ℕ). Script first lines o after) (sym (append-nil out)) all in
    (out, after, ([], whole, tt), m', Appends-kept _ _ _ _ wrote keeps)

-- the error is known
pub only_error : {A E : Type 0} (r : Result A E) (e : E) (P : E → Type 0) → OnErr r (r ≡ Err e) → P e → IfErr r P
only_error (Ok a) e P is p = tt
only_error (Err x) e P is p =
    let same : e ≡ x = cc in
    subst P same p

-- an error that was handed on
pub error_kept : {A E : Type 0} (r : Result A E) (e : E) (P : E → Type 0) → IsErr r × IsErrAnd r (λ x. x ≡ e) → P e → IfErr r P
error_kept (Ok a) e P kept p = tt
error_kept (Err x) e P kept p = subst P (sym kept.1) p
