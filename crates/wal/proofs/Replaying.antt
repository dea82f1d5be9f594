-- Records that were applied so far.
use Rattle.std.proofs.Common.{◌≡◌, ⊎_elim, ℕ, zero, suc, ◌+◌, ◌-◌, ◌<◌, ◌≤◌, List, [], ◌∷◌, ◌++◌, length, take, refl, ap, sym, subst, ◌∙◌, arith, append_assoc, append-nil, length-append, add-zero, Some, None, Ok, Err}
use Rattle.std.proofs.lemmas.Grind.{flat_map-append}
use Rattle.volume.specs.Volumes.{PVolume}
use Rattle.wal.specs.Entries.{IsWord, body_of}
use Rattle.wal.specs.Records.{AreBodies, Counts, LacksRecord, digest, record_of, written}
use Rattle.wal.specs.declared.wal_entry.WalEntry.{WalEntry}
use Rattle.wal.proofs.Logs.{after_record, cut, first_ones, tail_after}
use Rattle.wal.specs.Laws.{log_of}
use Rattle.wal.specs.Replays.{Replays, all_of, bodies}
use Rattle.wal.specs.declared.replay_error.ReplayError.{ReplayError}
use Rattle.wal.specs.Runs.{Reaches, RunsBody}
use Rattle.wal.proofs.Reaching.{reaches_join, reaches_none}

-- these records of the log were applied
pub record Done (salt : List ℕ) (n : ℕ) (log : List ℕ) (records : ℕ) (rest : List ℕ) (old now : PVolume) : Type 0 where
  pub css : List (List WalEntry)
  pub is : log ≡ written salt n (bodies css) ++ rest
  pub fit : AreBodies (bodies css)
  pub count : records ≡ length css
  pub few : records + length rest ≤ length log
  pub reaches : Reaches (all_of css) old now

pub done_first : (salt : List ℕ) (n : ℕ) (log : List ℕ) (v : PVolume) → Done salt n log 0 log v v
done_first salt n log v = record { css = []; is = refl; fit = tt; count = refl; few = omega arith; reaches = reaches_none v }

bodies-append : (css : List (List WalEntry)) (cs : List WalEntry) → bodies (css ++ cs ∷ []) ≡ bodies css ++ body_of cs ∷ []
bodies-append [] cs = refl
bodies-append (x ∷ css) cs = ap (λ (bs : List (List ℕ)). body_of x ∷ bs) (bodies-append css cs)

written-append : (salt : List ℕ) (n : ℕ) (bs : List (List ℕ)) (b : List ℕ) → written salt n (bs ++ b ∷ []) ≡ written salt n bs ++ record_of salt (n + length bs) b
written-append salt n [] b = append-nil (record_of salt n b) ∙ ap (λ (k : ℕ). record_of salt k b) (sym (add-zero n))
written-append salt n (x ∷ bs) b =
    let same : suc n + length bs ≡ n + suc (length bs) = omega arith in
    ap (λ (t : List ℕ). record_of salt n x ++ t) (written-append salt (suc n) bs b ∙ ap (λ (k : ℕ). written salt (suc n) bs ++ record_of salt k b) same)
    ∙ sym (append_assoc (record_of salt n x) (written salt (suc n) bs) (record_of salt (n + suc (length bs)) b))

fit-append : (bs : List (List ℕ)) (b : List ℕ) → AreBodies bs → IsWord (length b) → AreBodies (bs ++ b ∷ [])
fit-append [] b h k = (k, tt)
fit-append (x ∷ bs) b h k = (h.0, fit-append bs b h.1 k)

pub length-bodies : (css : List (List WalEntry)) → length (bodies css) ≡ length css
length-bodies [] = refl
length-bodies (cs ∷ css) = ap suc (length-bodies css)

length-push : (css : List (List WalEntry)) (cs : List WalEntry) → length (css ++ cs ∷ []) ≡ length css + 1
length-push css cs = length-append css (cs ∷ [])

-- the log after a record is shorter
pub behind_shorter : (salt : List ℕ) (k : ℕ) (rest body behind : List ℕ) → rest ≡ record_of salt k body ++ behind → length behind < length rest
behind_shorter salt k rest body behind is =
    let all = after_record salt k body behind rest is in
    let first = length-append body (digest salt k body ++ behind) in
    let second = length-append (digest salt k body) behind in
    omega arith

pub done_more : (salt : List ℕ) (n records : ℕ) (log rest body behind : List ℕ) (old now new : PVolume) (cs : List WalEntry) → Done salt n log records rest old now → rest ≡ record_of salt (n + records) body ++ behind → IsWord (length body)
    → body ≡ body_of cs → Reaches cs now new → Done salt n log (records + 1) behind old new
done_more salt n records log rest body behind old now new cs before is fits report reached =
    let place : n + records ≡ n + length (bodies before.css) = omega (arith, before.count, length-bodies before.css) in
    let wrote : written salt n (bodies (before.css ++ cs ∷ [])) ≡ written salt n (bodies before.css) ++ record_of salt (n + records) body =
    ap (written salt n) (bodies-append before.css cs) ∙ written-append salt n (bodies before.css) (body_of cs)
    ∙ ap (λ (k : ℕ). written salt n (bodies before.css) ++ record_of salt k (body_of cs)) (sym place)
    ∙ ap (λ (b : List ℕ). written salt n (bodies before.css) ++ record_of salt (n + records) b) (sym report) in
    let less = behind_shorter salt (n + records) rest body behind is in
    record {
      css = before.css ++ cs ∷ [];
      is = before.is ∙ ap (λ (x : List ℕ). written salt n (bodies before.css) ++ x) is ∙ sym (append_assoc (written salt n (bodies before.css)) (record_of salt (n + records) body) behind) ∙ ap (λ (x : List ℕ). x ++ behind) (sym wrote);
      fit = subst AreBodies (sym (bodies-append before.css cs)) (fit-append (bodies before.css) (body_of cs) before.fit (subst (λ (b : List ℕ). IsWord (length b)) report fits));
      count = omega (arith, before.count, length-push before.css cs);
      few = omega (arith, before.few, less);
      reaches = subst (λ (xs : List WalEntry). Reaches xs old new) (sym (flat_map-append (λ (xs : List WalEntry). xs) before.css (cs ∷ [])))
          (reaches_join (all_of before.css) (cs ++ []) old now new before.reaches (subst (λ (xs : List WalEntry). Reaches xs now new) (sym (append-nil cs)) reached));
    }

-- ---- the log ends, or a record is not applied

size_reported : (salt : List ℕ) (n records : ℕ) (log rest : List ℕ) (old now : PVolume) (d : Done salt n log records rest old now) → length log - length rest ≡ length (written salt n (bodies d.css))
size_reported salt n records log rest old now d =
    let size : length log ≡ length (written salt n (bodies d.css)) + length rest = ap length d.is ∙ length-append (written salt n (bodies d.css)) rest in
    omega arith

pub replays_end : (salt : List ℕ) (n records : ℕ) (log rest : List ℕ) (old now : PVolume) → Done salt n log records rest old now → LacksRecord salt (n + records) rest
    → Replays salt n log (record { records = records; size = length log - length rest; stopped = None }) old now
replays_end salt n records log rest old now d lacks = record {
  css = d.css;
  rest = rest;
  between = now;
  is = d.is;
  fit = d.fit;
  records = d.count;
  size = size_reported salt n records log rest old now d;
  reaches = d.reaches;
  ends = (subst (λ (k : ℕ). LacksRecord salt (n + k) rest) d.count lacks, refl);
}

pub replays_stop : (salt : List ℕ) (n records : ℕ) (log rest body behind : List ℕ) (s : ReplayError) (old now new : PVolume) → Done salt n log records rest old now → rest ≡ record_of salt (n + records) body ++ behind → RunsBody body (Err s) now new
    → Replays salt n log (record { records = records; size = length log - length rest; stopped = Some s }) old new
replays_stop salt n records log rest body behind s old now new d is run = record {
  css = d.css;
  rest = rest;
  between = now;
  is = d.is;
  fit = d.fit;
  records = d.count;
  size = size_reported salt n records log rest old now d;
  reaches = d.reaches;
  ends = (body, behind, subst (λ (k : ℕ). rest ≡ record_of salt (n + k) body ++ behind) d.count is, run);
}

-- one more record was applied
pub done_after : (salt : List ℕ) (n records : ℕ) (log rest body behind : List ℕ) (old now new : PVolume) → Done salt n log records rest old now → rest ≡ record_of salt (n + records) body ++ behind → IsWord (length body) → RunsBody body (Ok tt) now new
    → Done salt n log (records + 1) behind old new
done_after salt n records log rest body behind old now new d is fits run = ⊎_elim
    (λ (u : (cs : List WalEntry) × (body ≡ body_of cs) × Reaches cs now new). done_more salt n records log rest body behind old now new u.0 d is fits u.1 u.2)
    (λ (x : ⊥). absurd x)
    run

-- ---- crashes

bodies-take : (m : ℕ) (css : List (List WalEntry)) → take m (bodies css) ≡ bodies (take m css)
bodies-take zero css = refl
bodies-take (suc m) [] = refl
bodies-take (suc m) (cs ∷ css) = ap (λ (bs : List (List ℕ)). body_of cs ∷ bs) (bodies-take m css)

pub after_crash : (salt : List ℕ) (n k s : ℕ) (css : List (List WalEntry)) → AreBodies (bodies css) → s ≤ length css → length (log_of salt n (take s css)) ≤ k
    → (m : ℕ) × (rest : List ℕ) × (s ≤ m) × (m ≤ length css) × Counts salt n (take k (log_of salt n css)) (bodies (take m css)) rest
after_crash salt n k s css fits few synced =
    let counted = cut salt n k (bodies css) fits in
    let first = first_ones salt n k (bodies css) in
    let size = length-bodies css in
    let least : s ≤ first.0 = first.3 s (omega arith) (subst (λ (bs : List (List ℕ)). length (written salt n bs) ≤ k) (sym (bodies-take s css)) synced) in
    (first.0, counted.0, least, omega (arith, first.1), subst (λ (bs : List (List ℕ)). Counts salt n (take k (log_of salt n css)) bs counted.0) (first.2 ∙ bodies-take first.0 css) counted.1)

pub synced_first : (salt : List ℕ) (n : ℕ) (css : List (List WalEntry)) (tail rest : List ℕ) (bs : List (List ℕ)) → AreBodies (bodies css) → Counts salt n (log_of salt n css ++ tail) bs rest → (ds : List (List ℕ)) × (bs ≡ bodies css ++ ds)
synced_first salt n css tail rest bs fits h = tail_after salt n (bodies css) bs tail rest fits h
