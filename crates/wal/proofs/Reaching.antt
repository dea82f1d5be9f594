-- Changes that are applied one after the other.
use Rattle.std.proofs.Common.{◌≡◌, ℕ, suc, ◌+◌, ◌<◌, List, [], ◌∷◌, ◌++◌, length, take, drop, get_or, refl, ap, sym, subst, ◌∙◌, arith, length-take-le, drop-cons, add-one}
use Rattle.std.proofs.lemmas.Grind.{take_at_read}
use Rattle.std.proofs.lemmas.List.{take-append-drop}
use Rattle.pathkey.specs.declared.errno.Errno.{Errno}
use Rattle.reference.specs.Worlds.{World}
use Rattle.volume.specs.Volumes.{PVolume}
use Rattle.wal.specs.declared.wal_entry.WalEntry.{WalEntry}
use Rattle.wal.specs.Runs.{AllDone, IsRefused, Reaches, Stops}

all_done-append : (w v m : World) (xs ys : List WalEntry) → AllDone w xs v → AllDone v ys m → AllDone w (xs ++ ys) m
all_done-append w v m [] ys h k = subst (λ (x : World). AllDone x ys m) h k
all_done-append w v m (x ∷ xs) ys h k = (h.0, h.1, all_done-append h.0 v m xs ys h.2 k)

pub reaches_none : (v : PVolume) → Reaches [] v v
reaches_none v = λ w m. (w, refl, m)

pub reaches_join : (xs ys : List WalEntry) (old between new : PVolume) → Reaches xs old between → Reaches ys between new → Reaches (xs ++ ys) old new
reaches_join xs ys old between new h k = λ w m.
    let first = h w m in
    let second = k first.0 first.2 in
    (second.0, all_done-append w first.0 second.0 xs ys first.1 second.1, second.2)

pub reaches_more : (cs : List WalEntry) (i : ℕ) (c : WalEntry) (old between new : PVolume) → i < length cs → c ≡ get_or cs i c → Reaches (take i cs) old between → Reaches (c ∷ []) between new
    → Reaches (take (i + 1) cs) old new
reaches_more cs i c old between new lt is h k =
    let more : take (i + 1) cs ≡ take i cs ++ c ∷ [] = (take_at_read cs i c lt).1 ∙ ap (λ (x : WalEntry). take i cs ++ x ∷ []) (sym is) in
    subst (λ (xs : List WalEntry). Reaches xs old new) (sym more) (reaches_join (take i cs) (c ∷ []) old between new h k)

-- a list at one of its items
pub split_at_item : (cs : List WalEntry) (i : ℕ) (c : WalEntry) → i < length cs → c ≡ get_or cs i c → cs ≡ take i cs ++ c ∷ drop (i + 1) cs
split_at_item cs i c lt is =
    sym (take-append-drop i cs) ∙ ap (λ (x : List WalEntry). take i cs ++ x) (drop-cons cs i c lt ∙ ap (λ (x : WalEntry). x ∷ drop (suc i) cs) (sym is) ∙ ap (λ (n : ℕ). c ∷ drop n cs) (sym (add-one i)))

pub stops_at : (cs : List WalEntry) (i : ℕ) (c : WalEntry) (e : Errno) (old between new : PVolume) → i < length cs → c ≡ get_or cs i c → Reaches (take i cs) old between → new ≡ between → IsRefused c e between
    → Stops cs (record { done = i; fault = e }) old new
stops_at cs i c e old between new lt is reached same why =
    record {
      before = take i cs;
      change = c;
      behind = drop (i + 1) cs;
      is = split_at_item cs i c lt is;
      place = sym (length-take-le i cs (omega arith));
      reaches = subst (Reaches (take i cs) old) (sym same) reached;
      why = subst (IsRefused c e) (sym same) why;
    }
