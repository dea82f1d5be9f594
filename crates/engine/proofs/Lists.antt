-- Lists of calls: their entries, one more of them, and what a volume that does them says of the history.
use Rattle.std.proofs.Common.{◌≡◌, ℕ, suc, ◌+◌, ◌<◌, ◌≤◌, ◌%◌, ◌^◌, List, [], ◌∷◌, ◌++◌, length, refl, sym, ap, ◌∙◌, subst, arith, length-append}
use Rattle.std.specs.Prelude.{Ok}
use Rattle.std.specs.Global.{Vec}
use Rattle.std.proofs.Math.Nat.{mod-add-mod}
use Rattle.pathkey.specs.declared.errno.Errno.{Errno}
use Rattle.reference.specs.Worlds.{World, Event, Answer, History, Ask, Replied, Fits, IsLegal, after, next}
use Rattle.reference.specs.declared.reply.Reply.{Reply}
use Rattle.volume.specs.Laws.{timed_calls}
use Rattle.volume.specs.Transactions.{AllCalled, CalledUntil, DoesAll, FailsAt, Timed}
use Rattle.volume.specs.Volumes.{PVolume, Means}
use Rattle.volume.specs.declared.transact.FailedCall.{FailedCall}
use Rattle.volume.proofs.Transacting.{transaction_is_all_or_nothing}
use Rattle.engine.specs.declared.view.View.{View}
use Rattle.engine.specs.Histories.{Entry, entry, calls, LegalFrom, FitsAfter, Stands, own, AllBelow}
use Rattle.engine.specs.Lists.{entries, AllSucceed, FitAllAfter, FailsFrom, FailsAfter}
use Rattle.engine.specs.Seats.{Holds, Looks, Makes}
use Rattle.engine.proofs.Callers.{own-one}
use Rattle.engine.proofs.Histories.{own-append, calls-append, after-both, legal-both}

-- ---- the entries of a list

pub length-entries : (by : ℕ) (cs : List Timed) (rs : List Reply) → AllSucceed cs rs → length (entries by cs rs) ≡ length cs
length-entries by [] [] all = refl
length-entries by [] (r ∷ rs) all = absurd all
length-entries by (c ∷ cs) [] all = absurd all
length-entries by (c ∷ cs) (r ∷ rs) all = ap suc (length-entries by cs rs all.1)

pub own-entries : (by : ℕ) (cs : List Timed) (rs : List Reply) → own by (entries by cs rs) ≡ length (entries by cs rs)
own-entries by [] rs = refl
own-entries by (c ∷ cs) [] = refl
own-entries by (c ∷ cs) (r ∷ rs) = omega (arith, own-one by (Ask c.0 c.1) (Replied r), own-entries by cs rs)

calls-entries : (by : ℕ) (cs : List Timed) (rs : List Reply) → calls (entries by cs rs) ≡ timed_calls cs rs
calls-entries by [] rs = refl
calls-entries by (c ∷ cs) [] = refl
calls-entries by (c ∷ cs) (r ∷ rs) = ap (λ (h : History). (Ask c.0 c.1, Replied r) ∷ h) (calls-entries by cs rs)

below-entries : (n : ℕ) (h : List Entry) (by : ℕ) (cs : List Timed) (rs : List Reply) → by < n → AllBelow n h → AllBelow n (h ++ entries by cs rs)
below-entries n (e ∷ h) by cs rs lt all = (all.0, below-entries n h by cs rs lt all.1)
below-entries n [] by [] rs lt all = tt
below-entries n [] by (c ∷ cs) [] lt all = tt
below-entries n [] by (c ∷ cs) (r ∷ rs) lt all = (lt, below-entries n [] by cs rs lt tt)

-- one more call
pub entries-snoc : (by : ℕ) (cs : List Timed) (rs : List Reply) (c : Timed) (r : Reply) → length cs ≡ length rs → entries by (cs ++ c ∷ []) (rs ++ r ∷ []) ≡ entries by cs rs ++ entry by (Ask c.0 c.1) (Replied r) ∷ []
entries-snoc by [] [] c r same = refl
entries-snoc by [] (q ∷ rs) c r same = absurd (omega (arith, same))
entries-snoc by (d ∷ cs) [] c r same = absurd (omega (arith, same))
entries-snoc by (d ∷ cs) (q ∷ rs) c r same = ap (λ (es : List Entry). entry by (Ask d.0 d.1) (Replied q) ∷ es) (entries-snoc by cs rs c r (omega (arith, same)))

pub replies-all : (cs : List Timed) (rs : List Reply) → AllSucceed cs rs → length rs ≡ length cs
replies-all [] [] all = refl
replies-all [] (r ∷ rs) all = absurd all
replies-all (c ∷ cs) [] all = absurd all
replies-all (c ∷ cs) (r ∷ rs) all = ap suc (replies-all cs rs all.1)

-- one call more of the client is recorded that it has announced
pub announced-more : (h h' : List Entry) (by c c' : ℕ) (event : Event) (answer : Answer) (a a' : ℕ) → own c h ≤ a → h' ≡ h ++ entry by event answer ∷ [] → c' ≡ by → by ≡ c → a' ≡ a + 1 → own c' h' ≤ a'
announced-more h h' by c c' event answer a a' le is mine same more =
    let e : own c' h' ≡ own c h + 1 =
    ap (λ (x : ℕ × List Entry). own x.0 x.1) (λ i. (mine i, is i)) ∙ own-append by h (entry by event answer ∷ []) ∙ ap (λ n. own by h + n) (own-one by event answer) ∙ ap (λ n. own n h + 1) same in
    omega (arith, e, le, more)

-- the call behind some of a list fits after them
fits-behind : (w : World) (cs : List Timed) (rs : List Reply) (c : Timed) (r : Reply) (more : List Timed) (rest : List Reply) → length cs ≡ length rs → IsLegal w (timed_calls (cs ++ c ∷ more) (rs ++ r ∷ rest)) → Fits (after w (timed_calls cs rs)) (Ask c.0 c.1) (Replied r)
fits-behind w [] [] c r more rest same legal = legal.0
fits-behind w [] (q ∷ rs) c r more rest same legal = absurd (omega (arith, same))
fits-behind w (d ∷ cs) [] c r more rest same legal = absurd (omega (arith, same))
fits-behind w (d ∷ cs) (q ∷ rs) c r more rest same legal = fits-behind (next w (Ask d.0 d.1) (Replied q)) cs rs c r more rest (omega (arith, same)) legal.1

-- the world after a history and the entries of a list
after-entries : (w : World) (h : List Entry) (by : ℕ) (cs : List Timed) (rs : List Reply) → after w (calls (h ++ entries by cs rs)) ≡ after (after w (calls h)) (timed_calls cs rs)
after-entries w h by cs rs =
    ap (after w) (calls-append h (entries by cs rs)) ∙ after-both w (calls h) (calls (entries by cs rs)) ∙ ap (after (after w (calls h))) (calls-entries by cs rs)

pub fits-next : (o : PVolume) (h : List Entry) (by : ℕ) (all cs more : List Timed) (replies rs rest : List Reply) (c : Timed) (r : Reply) → FitAllAfter o h (timed_calls all replies) → cs ++ c ∷ more ≡ all → rs ++ r ∷ rest ≡ replies → length cs ≡ length rs
    → FitsAfter o (h ++ entries by cs rs) (Ask c.0 c.1) (Replied r)
fits-next o h by all cs more replies rs rest c r fit here there same w m =
    let legal : IsLegal (after w (calls h)) (timed_calls (cs ++ c ∷ more) (rs ++ r ∷ rest)) =
    subst (λ (x : List Timed × List Reply). IsLegal (after w (calls h)) (timed_calls x.0 x.1)) (λ i. (sym here i, sym there i)) (fit w m) in
    subst (λ (x : World). Fits x (Ask c.0 c.1) (Replied r)) (sym (after-entries w h by cs rs)) (fits-behind (after w (calls h)) cs rs c r more rest same legal)

-- ---- a list that a volume did, after a history

pub succeed-of : (cs : List Timed) (rs : List Reply) (a b : PVolume) → AllCalled cs rs a b → AllSucceed cs rs
succeed-of [] [] a b all = tt
succeed-of [] (r ∷ rs) a b all = absurd all
succeed-of (c ∷ cs) [] a b all = absurd all
succeed-of (c ∷ cs) (r ∷ rs) a b all = (all.2, succeed-of cs rs all.0 b all.3)

pub fit-all : (o : PVolume) (h : List Entry) (cs : List Timed) (rs : Vec Reply) (v v' : PVolume) → Stands o h v → DoesAll cs rs.items v v' → FitAllAfter o h (timed_calls cs rs.items)
fit-all o h cs rs v v' stands does w m = (transaction_is_all_or_nothing cs (Ok rs) v v' (after w (calls h)) (stands w m) does).0

pub holds-all : (o : PVolume) (n : ℕ) (v v' : PVolume) (h h' : List Entry) (by : ℕ) (cs : List Timed) (rs : Vec Reply) (count count' : ℕ) → Holds o n h v count → DoesAll cs rs.items v v'
    → by < n → h' ≡ h ++ entries by cs rs.items → count' ≡ (count + length cs) % 2 ^ 64 → Holds o n h' v' count'
holds-all o n v v' h h' by cs rs count count' holds does mine is counted =
    let es : List Entry = entries by cs rs.items in
    let more : length (h ++ es) ≡ length h + length cs = length-append h es ∙ ap (λ k. length h + k) (length-entries by cs rs.items (succeed-of cs rs.items v v' does.called)) in
    subst (λ (l : List Entry). Holds o n l v' count') (sym is) (record {
      stands = λ w m. subst (λ (x : World). Means v' x) (sym (after-entries w h by cs rs.items)) (transaction_is_all_or_nothing cs (Ok rs) v v' (after w (calls h)) (holds.stands w m) does).1;
      legal = record {
        world = holds.legal.world;
        opened = holds.legal.opened;
        legal = subst (IsLegal holds.legal.world) (sym (calls-append h es ∙ ap (λ (x : History). calls h ++ x) (calls-entries by cs rs.items)))
            (legal-both holds.legal.world (calls h) (timed_calls cs rs.items) holds.legal.legal (fit-all o h cs rs v v' holds.stands does holds.legal.world holds.legal.opened.meant));
      };
      below = below-entries n h by cs rs.items mine holds.below;
      counted = counted ∙ ap (λ k. (k + length cs) % 2 ^ 64) holds.counted ∙ mod-add-mod (length h) (2 ^ 64) (length cs) ∙ ap (λ k. k % 2 ^ 64) (sym more);
    })

-- ---- a list that failed

fails-from : (w : World) (cs : List Timed) (rs : List Reply) (e : Errno) (v : PVolume) → Means v w → CalledUntil cs rs e v → FailsFrom w cs (length rs) e
fails-from w [] rs e v m until = until
fails-from w (c ∷ cs) [] e v m until = (until.leads w m).0
fails-from w (c ∷ cs) (r ∷ rs) e v m until =
    let l = until.1.leads w m in
    (r, until.2, l.0, fails-from (next w (Ask c.0 c.1) (Replied r)) cs rs e until.0 l.1 until.3)

pub fails-after : (o : PVolume) (h : List Entry) (cs : List Timed) (f : FailedCall) (v v' : PVolume) → LegalFrom o h → Stands o h v → FailsAt cs f.number f.errno v v' → FailsAfter o h cs f
fails-after o h cs f v v' legal stands fails = record {
  world = legal.world;
  opened = legal.opened;
  fails = subst (λ n. FailsFrom (after legal.world (calls h)) cs n f.errno) fails.before (fails-from (after legal.world (calls h)) cs fails.replies f.errno v (stands legal.world legal.opened.meant) fails.called);
}

-- ---- what a client makes that has just looked

pub makes-all : (o : PVolume) (v u w : View) (h : List Entry) (cs : List Timed) (rs : List Reply) → Looks o v u → u.seen ≡ h → v.announced ≡ own v.client v.seen → AllSucceed cs rs
    → w.client ≡ u.client → w.announced ≡ u.announced + length cs → w.seen ≡ h ++ entries v.client cs rs → LegalFrom o w.seen → Makes o v (entries v.client cs rs) h w
makes-all o v u w h cs rs looks seen announced all client more sees legal =
    (client ∙ looks.0, more ∙ ap (λ k. k + length cs) looks.1 ∙ ap (λ k. v.announced + k) (sym (length-entries v.client cs rs all)), sees, (looks.2.0, sym seen ∙ looks.2.1), omega (arith, announced, looks.3, ap (own v.client) seen), legal)
