-- If no allocation fails, the answers to a script and the world after it follow from its lines.
use Rattle.std.proofs.Common.{◌≡◌, ◌≢◌, ◌⊎◌, ℕ, List, [], ◌∷◌, ◌++◌, ◌==◌, true, false, cond, refl, sym, ap, subst, ◌∙◌, inl, inr, append-nil, append_assoc, codes, length}
use Rattle.std.specs.List.{All, flat_map}
use Rattle.std.proofs.lemmas.List.Elements.{All-head, All-tail}
use Rattle.std.specs.Prelude.{decimal, Ok, Err}
use Rattle.std.specs.FinMap as map
use Rattle.pathkey.specs.Names.{Name}
use Rattle.pathkey.specs.Numbers.{word_of}
use Rattle.pathkey.specs.Texts.{onto_first}
use Rattle.pathkey.specs.declared.errno.Errno.TheVariants.{ENOMEM}
use Rattle.reference.specs.Calls.{does}
use Rattle.reference.specs.Image.{percent}
use Rattle.reference.specs.Worlds.{World, Event, Answer, Ask, TakeSnapshot, DropSnapshot as DropNamed, RestoreSnapshot, Replied, Settled, Snapped, Fits, MayLack, next, outcome}
use Rattle.reference.specs.declared.call.Call.{Call}
use Rattle.reference.specs.declared.reply.Kind.{Kind}
use Rattle.reference.specs.declared.reply.Reply.{Reply}
use Rattle.reference.specs.declared.reply.Reply.TheVariants.{Done, Count, Data, Stat, Names, Fault}
use Rattle.shell.specs.declared.request.Request.{Request}
use Rattle.shell.specs.declared.request.ReadCall.{ReadCall}
use Rattle.shell.specs.declared.request.Request.TheVariants.{Silent, Overlong, Malformed, Refused, Moment, Wanted, Snapshot, DropSnapshot, Restore, Past}
use Rattle.textio.specs.Lines.{lines_of}
use Rattle.shell.specs.Replies.{entry_line, name_word, reply_text, stat_word}
use Rattle.textio.specs.Texts.{hex_text, number_line}
use Rattle.shell.specs.Requests.{request_of}
use Rattle.shell.specs.Script.{State, in_world, Answers, Does, Script, LacksNothing, Settles, Tells, settled_reply, reported_of}

-- ---- texts that end with a line feed

-- no byte, or the last one is a line feed
abbrev IsEnded : List ℕ → Type 0
IsEnded text = (text ≡ []) ⊎ ((front : List ℕ) × (text ≡ front ++ 10 ∷ []))

-- two texts that are ended
ended_both : (a b : List ℕ) → IsEnded a → IsEnded b → IsEnded (a ++ b)
ended_both a b (inl none) second = subst (λ (l : List ℕ). IsEnded (l ++ b)) (sym none) second
ended_both a b (inr (front, is)) (inl none) = inr (front, ap (λ l. a ++ l) none ∙ append-nil a ∙ is)
ended_both a b (inr first) (inr (front, is)) = inr (a ++ front, ap (λ l. a ++ l) is ∙ sym (append_assoc a front (10 ∷ [])))

-- a text and then a line feed
ended_line : (a b : List ℕ) → IsEnded (a ++ b ++ codes "\n")
ended_line a b = inr (a ++ b, refl)

ended_entries : (entries : List (Kind × Name)) → IsEnded (flat_map entry_line entries)
ended_entries [] = inl refl
ended_entries (e ∷ entries) = ended_both (entry_line e) (flat_map entry_line entries) (ended_line (name_word e.0) (flat_map percent e.1)) (ended_entries entries)

-- each reply is ended
ended_reply : (r : Reply) → IsEnded (reply_text r)
ended_reply Done = inr (codes "ok", refl)
ended_reply (Count n) = ended_line (codes "count ") (decimal n)
ended_reply (Data bytes) = ended_line (codes "bytes ") (hex_text bytes)
ended_reply (Stat kind n at) = inr (stat_word kind ++ decimal n ++ (codes " " ++ decimal at), sym (append_assoc (stat_word kind ++ decimal n) (codes " " ++ decimal at) (codes "\n")))
ended_reply (Names entries) =
    ended_both (number_line (codes "names ") (length entries)) (flat_map entry_line entries) (ended_line (codes "names ") (decimal (length entries))) (ended_entries entries)
ended_reply (Fault e) = ended_line (codes "fault ") (word_of e)

-- so is what a request is answered
ended_answer : (w : State) (q : Request) (text : List ℕ) (w' : State) → Answers w q text w' → IsEnded text
ended_answer w Silent text w' a = inl a.0
ended_answer w Overlong text w' a = inr (codes "error line", a.0)
ended_answer w Malformed text w' a = inr (codes "error syntax", a.0)
ended_answer w (Refused e) text w' a = subst IsEnded (sym a.0) (ended_reply (Fault e))
ended_answer w (Moment at) text w' a = subst IsEnded (sym a.0) (ended_reply Done)
ended_answer w (Wanted c) text w' (r, fits, is, then) = subst IsEnded (sym is) (ended_reply r)
ended_answer w (Snapshot s) text w' (r, fits, is, then) = subst IsEnded (sym is) (ended_reply (settled_reply r))
ended_answer w (DropSnapshot s) text w' (r, fits, is, then) = subst IsEnded (sym is) (ended_reply (settled_reply r))
ended_answer w (Restore s) text w' (r, fits, is, then) = subst IsEnded (sym is) (ended_reply (settled_reply r))
ended_answer w (Past s l) text w' (r, tells, is, then) = subst IsEnded (sym is) (ended_reply r)

ended_does : (w : State) (line text : List ℕ) (w' : State) → Does w line text w' → IsEnded text
ended_does w line text w' (inl a) = ended_answer w (request_of line) text w' a
ended_does w line text w' (inr (asked, a)) = ended_answer w (Refused ENOMEM) text w' a

-- ---- the lines of an output after its first answer

-- the line does not report an allocation failure
abbrev IsOther : List ℕ → Type 0
IsOther line = line ≢ codes "fault ENOMEM"

-- the lines of what follows a line feed are the last lines of the whole
lines_behind : (t rest : List ℕ) → (n : List ℕ) × (ns : List (List ℕ)) × (lines_of (t ++ (10 ∷ rest)) ≡ n ∷ (ns ++ lines_of rest))
lines_behind [] rest = ([], [], refl)
lines_behind (x ∷ t) rest =
    let (n, ns, is) = lines_behind t rest in
    elim (x == 10) as (λ b. (m : List ℕ) × (ms : List (List ℕ)) × (cond b ([] ∷ lines_of (t ++ (10 ∷ rest))) (onto_first x (lines_of (t ++ (10 ∷ rest)))) ≡ m ∷ (ms ++ lines_of rest))) [
      | true ↦ ([], n ∷ ns, ap (λ l. [] ∷ l) is)
      | false ↦ (x ∷ n, ns, ap (onto_first x) is)
    ]

all_behind : {X : Type 0} (P : X → Type 0) (xs ys : List X) → All P (xs ++ ys) → All P ys
all_behind P [] ys all = all
all_behind P (x ∷ xs) ys all = all_behind P xs ys (All-tail P x (xs ++ ys) all)

-- there is no allocation failure in the text after an ended text, if there is none in the whole
lacks_behind : (text rest : List ℕ) → IsEnded text → LacksNothing (text ++ rest) → LacksNothing rest
lacks_behind text rest (inl none) lacks = subst (λ (l : List ℕ). LacksNothing (l ++ rest)) none lacks
lacks_behind text rest (inr (front, is)) lacks =
    let (n, ns, lines) = lines_behind front rest in
    let whole : text ++ rest ≡ front ++ (10 ∷ rest) = ap (λ l. l ++ rest) is ∙ append_assoc front (10 ∷ []) rest in
    let all = subst (All IsOther) (ap lines_of whole ∙ lines) lacks in
    all_behind IsOther ns (lines_of rest) (All-tail IsOther n (ns ++ lines_of rest) all)

-- an allocation failure is visible in the output
lack_seen : (text rest : List ℕ) → text ≡ reply_text (Fault ENOMEM) → LacksNothing (text ++ rest) → ⊥
lack_seen text rest is lacks = All-head IsOther (codes "fault ENOMEM") (lines_of rest) (subst (λ (l : List ℕ). LacksNothing (l ++ rest)) is lacks) refl

-- ---- one answer

-- two answers, and the worlds after them
abbrev Same : List ℕ → List ℕ → State → State → Type 0
Same text text' v v' = (text ≡ text') × (v ≡ v')

abbrev reply_in : Answer → Reply
reply_in (Replied r) = r
reply_in (Settled s) = Done

-- the reply to a call that memory was there for
replied : (w : World) (c : Call) (at : ℕ) (r : Reply) (text rest : List ℕ) → Fits w (Ask c at) (Replied r) → text ≡ reply_text r → LacksNothing (text ++ rest) → r ≡ (does at w.live c).1
replied w c at r text rest (inl is) reported lacks = ap reply_in is
replied w c at r text rest (inr is) reported lacks = absurd (lack_seen text rest (reported ∙ ap (λ a. reply_text (reply_in a)) is) lacks)

abbrev settled_in : Answer → Snapped
settled_in (Replied r) = Ok tt
settled_in (Settled s) = s

-- an answer to a snapshot call
abbrev IsSettled : Answer → Type 0
IsSettled (Replied r) = ⊥
IsSettled (Settled s) = Unit {0}

-- the answer to a snapshot call for which no allocation failed
settles : (w : World) (e : Event) (r : Snapped) (text rest : List ℕ) → Fits w e (Settled r) → text ≡ reply_text (settled_reply r) → LacksNothing (text ++ rest) → r ≡ settled_in (outcome w e).1
settles w e r text rest (inl is) reported lacks = ap settled_in is
settles w e r text rest (inr lack) reported lacks = absurd (lack_seen text rest (reported ∙ ap (λ (x : Snapped). reply_text (settled_reply x)) (ap settled_in (lack_is w e r lack))) lacks)
  where
    lack_is : (w : World) (e : Event) (r : Snapped) → MayLack w e (Settled r) → Settled r ≡ Settled (Err ENOMEM)
    lack_is w (Ask c at) r is = absurd (subst IsSettled is tt)
    lack_is w (TakeSnapshot s) r lack = lack.0
    lack_is w (DropNamed s) r lack = absurd lack
    lack_is w (RestoreSnapshot s) r lack = lack.0

settled_once : (w : State) (e : Event) (text text' rest rest' : List ℕ) (v v' : State) → Settles w e text v → Settles w e text' v' → LacksNothing (text ++ rest) → LacksNothing (text' ++ rest')
    → Same text text' v v'
settled_once w e text text' rest rest' v v' (r, fits, is, then) (r', fits', is', then') l l' =
    let same : r ≡ r' = settles w.world e r text rest fits is l ∙ sym (settles w.world e r' text' rest' fits' is' l') in
    (is ∙ ap (λ (x : Snapped). reply_text (settled_reply x)) same ∙ sym is', then ∙ ap (λ (x : Snapped). in_world w (next w.world e (Settled x))) same ∙ sym then')

-- the reply to a read for which no allocation failed
reported : (w : World) (s : List ℕ) (l : ReadCall) (r : Reply) (text rest : List ℕ) → Tells w s l r → text ≡ reply_text r → LacksNothing (text ++ rest) → r ≡ reported_of (map.get w.snapshots s) l
reported w s l r text rest (inl is) written lacks = is
reported w s l r text rest (inr is) written lacks = absurd (lack_seen text rest (written ∙ ap reply_text is) lacks)

once : (w : State) (q : Request) (text text' rest rest' : List ℕ) (v v' : State) → Answers w q text v → Answers w q text' v' → LacksNothing (text ++ rest) → LacksNothing (text' ++ rest')
    → Same text text' v v'
once w Silent text text' rest rest' v v' a b l l' = (a.0 ∙ sym b.0, a.1 ∙ sym b.1)
once w Overlong text text' rest rest' v v' a b l l' = (a.0 ∙ sym b.0, a.1 ∙ sym b.1)
once w Malformed text text' rest rest' v v' a b l l' = (a.0 ∙ sym b.0, a.1 ∙ sym b.1)
once w (Refused e) text text' rest rest' v v' a b l l' = (a.0 ∙ sym b.0, a.1 ∙ sym b.1)
once w (Moment at) text text' rest rest' v v' a b l l' = (a.0 ∙ sym b.0, a.1 ∙ sym b.1)
once w (Wanted c) text text' rest rest' v v' (r, fits, is, then) (r', fits', is', then') l l' =
    let same : r ≡ r' = replied w.world c w.at r text rest fits is l ∙ sym (replied w.world c w.at r' text' rest' fits' is' l') in
    (is ∙ ap reply_text same ∙ sym is', then ∙ ap (λ (x : Reply). in_world w (next w.world (Ask c w.at) (Replied x))) same ∙ sym then')
once w (Snapshot s) text text' rest rest' v v' a b l l' = settled_once w (TakeSnapshot s) text text' rest rest' v v' a b l l'
once w (DropSnapshot s) text text' rest rest' v v' a b l l' = settled_once w (DropNamed s) text text' rest rest' v v' a b l l'
once w (Restore s) text text' rest rest' v v' a b l l' = settled_once w (RestoreSnapshot s) text text' rest rest' v v' a b l l'
once w (Past s k) text text' rest rest' v v' (r, tells, is, then) (r', tells', is', then') l l' =
    let same : r ≡ r' = reported w.world s k r text rest tells is l ∙ sym (reported w.world s k r' text' rest' tells' is' l') in
    (is ∙ ap reply_text same ∙ sym is', then ∙ sym then')

line_once : (w : State) (line text text' rest rest' : List ℕ) (v v' : State) → Does w line text v → Does w line text' v' → LacksNothing (text ++ rest) → LacksNothing (text' ++ rest')
    → Same text text' v v'
line_once w line text text' rest rest' v v' (inl a) (inl b) l l' = once w (request_of line) text text' rest rest' v v' a b l l'
line_once w line text text' rest rest' v v' (inl a) (inr (asked, b)) l l' = absurd (lack_seen text' rest' b.0 l')
line_once w line text text' rest rest' v v' (inr (asked, a)) b l l' = absurd (lack_seen text rest a.0 l)

pub answered_once : (w : State) (lines : List (List ℕ)) (out out' : List ℕ) (last last' : State) → Script w lines out last → Script w lines out' last' → LacksNothing out → LacksNothing out'
    → Same out out' last last'
answered_once w [] out out' last last' a b l l' = (a.0 ∙ sym b.0, a.1 ∙ sym b.1)
answered_once w (line ∷ lines) out out' last last' (v, text, rest, does, is, more) (v', text', rest', does', is', more') l l' =
    let lacks = subst LacksNothing is l in
    let lacks' = subst LacksNothing is' l' in
    let (same, then) = line_once w line text text' rest rest' v v' does does' lacks lacks' in
    let more'' = subst (λ (x : State). Script x lines rest' last') (sym then) more' in
    let (same', then') = answered_once v lines rest rest' last last' more more'' (lacks_behind text rest (ended_does w line text v does) lacks)
    (lacks_behind text' rest' (ended_does w line text' v' does') lacks') in
    (is ∙ ap (λ t. t ++ rest) same ∙ ap (λ r. text' ++ r) same' ∙ sym is', then')
