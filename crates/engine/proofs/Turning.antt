-- What a turn of a flusher did: what is done to the volume, the holds of the lock, and the turn of two holds.
use Rattle.std.proofs.Common.{◌≡◌, ◌⊎◌, ℕ, List, [], ◌∷◌, refl, sym, ap, ◌∙◌, subst, inl, inr}
use Rattle.reference.specs.Worlds.{World}
use Rattle.volume.specs.Jobs.{AnswersInstalling, Builds, IfTaken, done_ticket, ticket_of}
use Rattle.volume.specs.Marked.{without_mark}
use Rattle.volume.specs.Volumes.{IsVolume, PVolume, Means, live_of}
use Rattle.volume.specs.declared.job.Done.{Done}
use Rattle.volume.specs.declared.job.Done.TheVariants.{Meta as MetaDone, Block as BlockDone}
use Rattle.volume.specs.declared.job.InstallReply.TheVariants.{Installed as WasInstalled, Stale as WasStale, NoMemory as NoMemoryFor}
use Rattle.volume.specs.declared.job.Job.{Job}
use Rattle.volume.specs.declared.job.Job.TheVariants.{Meta as MetaJob, Block as BlockJob}
use Rattle.volume.specs.declared.job.TakeReply.{TakeReply}
use Rattle.volume.specs.declared.job.TakeReply.TheVariants.{Taken, NotThere, NoRoom, NoMemory as NoMemoryToTake}
use Rattle.engine.specs.declared.flusher.TurnReply.{TurnReply}
use Rattle.engine.specs.declared.flusher.TurnReply.TheVariants.{Idle, Stepped, Installed, Stale, NoMemory}
use Rattle.engine.specs.declared.view.View.{View}
use Rattle.engine.specs.Histories.{Entry, Stands}
use Rattle.engine.specs.Seats.{Holds}
use Rattle.engine.specs.Clients.{Watched, Watches, watched, first_view}
use Rattle.engine.specs.Takings.{IsTaken, KnowsMarks, Picks}
use Rattle.engine.specs.Turns.{Untouched, TakesJob, PutIn, Cancels, Puts, Relieves, Hold, Found, Held, TakesIn, PutsIn, RelievesIn, Finishes, WithJob, Turns}
use Rattle.engine.proofs.Histories.{holds-still}
use Rattle.engine.proofs.Picking.{whole}

-- ---- what is done to a volume

pub install_or_cancel-in : (done : Done) (old new : PVolume) → AnswersInstalling done WasInstalled (live_of old) (live_of new) → new.live.modified ≡ old.live.modified → new.snapshots ≡ old.snapshots → PutIn done old new
install_or_cancel-in done old new h root s = record {
  stood = λ e. clash (h.stale.1 e);
  placed = h.installed;
  values = h.values;
  root = root;
  snapshots = s;
}
  where
    clash : WasInstalled ≡ WasStale → ⊥
    clash e = (cc)

pub install_or_cancel-stale : (done : Done) (old new : PVolume) → AnswersInstalling done WasStale (live_of old) (live_of new) → new.live.modified ≡ old.live.modified → new.snapshots ≡ old.snapshots → Puts done Stale old new
install_or_cancel-stale done old new h root s = (h.stale.0 refl, whole old new h.unchanged root s)

-- a job whose install fails with ENOMEM leaves no mark
pub install_or_cancel-refused : (done back : Done) (t : ℕ) (old mid new : PVolume) → AnswersInstalling done (NoMemoryFor back) (live_of old) (live_of mid) → mid.live.modified ≡ old.live.modified → mid.snapshots ≡ old.snapshots → t ≡ done_ticket back → Cancels t mid new
    → Cancels (done_ticket done) old new
install_or_cancel-refused done back t old mid new h root s mine cancels =
    let same : mid ≡ old = whole old mid h.unchanged root s in
    let ticket : t ≡ done_ticket done = mine ∙ ap done_ticket h.back in
    let other : record mid { marks = without_mark t mid.marks } ≡ record old { marks = without_mark (done_ticket done) old.marks } = λ i. record (same i) { marks = without_mark (ticket i) (same i).marks } in
    cancels ∙ other

-- ---- holds of the lock

-- a hold that leaves what the history leaves
pub in-hold : (o : PVolume) (n : ℕ) (v w : Watched) (h : List Entry) (js : List Job) (count : ℕ) (found left : PVolume) (P : PVolume → PVolume → Type 0) → Watches o v w → w.seen ≡ h → w.takings ≡ js → Holds o n h found count → ((x : World) → Means found x → Means left x)
    → KnowsMarks js (live_of left) → IsVolume found → IsVolume left → P found left → Found o v w P
in-hold o n v w h js count found left P watches seen takings holds keeps knows is is' p = (
  record {
    found = found;
    left = left;
    is_found = is;
    is_left = is';
    watches = watches;
    stood = subst (λ (l : List Entry). Stands o l found) (sym seen) holds.stands;
    stands = subst (λ (l : List Entry). Stands o l left) (sym seen) (holds-still o n found left h count holds keeps).stands;
    knows = subst (λ (l : List Job). KnowsMarks l (live_of left)) (sym takings) knows;
  },
  p,
)

-- what is said of the volumes of a hold may be said in other words
pub in-words : (o : PVolume) (v w : Watched) (P Q : PVolume → PVolume → Type 0) → ((old new : PVolume) → P old new → Q old new) → Found o v w P → Found o v w Q
in-words o v w P Q f h = (h.0, f h.0.found h.0.left h.1)

picked : (job : Job) (old new : PVolume) → Picks (Taken job) old new → TakesJob job old new
picked job old new p = record { index = p.taken.0; slot = p.taken.1; answers = p.taken.2; root = p.root; snapshots = p.snapshots }

pub takes-in : (o : PVolume) (r : TakeReply) (v w : Watched) → Found o v w (Picks r) → IfTaken r (λ job. IsTaken w.takings job) → TakesIn o r v w
takes-in o (Taken job) v w h t = (in-words o v w (Picks (Taken job)) (TakesJob job) (picked job) h, t)
takes-in o NotThere v w h t = inr (in-words o v w (Picks NotThere) Untouched (λ old new p. p.unchanged) h)
takes-in o NoRoom v w h t = inr (in-words o v w (Picks NoRoom) Untouched (λ old new p. p.unchanged) h)
takes-in o NoMemoryToTake v w h t = in-words o v w (Picks NoMemoryToTake) Untouched (λ old new p. p.unchanged) h

pub puts-in : (o : PVolume) (done : Done) (r : TurnReply) (v w : Watched) → Found o v w (Puts done r) → PutsIn o done r v w
puts-in o done Installed v w h = h
puts-in o done Stale v w h = inr h
puts-in o done NoMemory v w h = h
puts-in o done Idle v w h = absurd h.1
puts-in o done (Stepped r) v w h = absurd h.1

pub relieves-in : (o : PVolume) (r : TurnReply) (v w : Watched) → Found o v w (Relieves r) → RelievesIn o r v w
relieves-in o Idle v w h = inr h
relieves-in o (Stepped r) v w h = h
relieves-in o Installed v w h = absurd h.1
relieves-in o Stale v w h = absurd h.1
relieves-in o NoMemory v w h = absurd h.1

-- ---- the rest of a turn that has taken a job

one-ticket : (job : Job) (done : Done) → Builds job done → done_ticket done ≡ ticket_of job
one-ticket (MetaJob j) (MetaDone d) b = b.ticket
one-ticket (MetaJob j) (BlockDone d) b = absurd b
one-ticket (BlockJob j) (MetaDone d) b = absurd b
one-ticket (BlockJob j) (BlockDone d) b = b.ticket

pub finishes-built : (o : PVolume) (job : Job) (done : Done) (r : TurnReply) (v w : Watched) → Builds job done → PutsIn o done r v w → Finishes o job r v w
finishes-built o job done Installed v w b h = (done, b, h)
finishes-built o job done Stale v w b h = (done, b, h)
finishes-built o job done NoMemory v w b h = inr (subst (λ (t : ℕ). Found o v w (Cancels t)) (one-ticket job done b) h)
finishes-built o job done Idle v w b h = absurd h
finishes-built o job done (Stepped r) v w b h = absurd h

-- a job that could not be built leaves no mark
pub finishes-refused : (o : PVolume) (job back : Job) (t : ℕ) (v w : Watched) → t ≡ ticket_of back → back ≡ job → Held o v w (Cancels t) → Finishes o job NoMemory v w
finishes-refused o job back t v w mine same h = subst (λ (n : ℕ). Held o v w (Cancels n)) (mine ∙ ap ticket_of same) h

-- ---- turns

pub turns-job : (o : PVolume) (r : TurnReply) (v w : Watched) → WithJob o r v w → Turns o r v w
turns-job o Idle v w h = absurd h.3
turns-job o (Stepped r) v w h = absurd h.3
turns-job o Installed v w h = h
turns-job o Stale v w h = h
turns-job o NoMemory v w h = inr h

-- ---- what is seen of a flusher

module _ (P : Watched → Watched → Type 0) (views : List View) (v w : View) (views' : List View) (is : views ≡ v ∷ []) (is' : views' ≡ w ∷ []) (p : P (watched v) (watched w)) where
  pub seen-after : (seen : Watched) → watched (first_view views) ≡ seen → P seen (watched (first_view views'))
  seen-after seen e =
      let Q : Watched × List View → Type 0 = λ x. P x.0 (watched (first_view x.1)) in
      let mine : watched v ≡ seen = ap (λ (vs : List View). watched (first_view vs)) (sym is) ∙ e in
      subst Q (λ i. (mine i, sym is' i)) p
