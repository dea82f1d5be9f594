-- Bodies of records: the bytes of a body determine its changes.
use Rattle.std.proofs.Common.{◌≡◌, ⊎_elim, inl, inr, ℕ, ◌≤◌, List, [], ◌∷◌, ◌++◌, length, refl, ap, ap₂, sym, ◌∙◌, arith, append_assoc, append-nil, Result, Ok}
use Rattle.std.specs.List.{AllByRecursion}
use Rattle.std.proofs.lemmas.Grind.{flat_map-append}
use Rattle.pathkey.specs.Names.{Path, IsPath}
use Rattle.pathkey.specs.Texts.{parsed, text_of}
use Rattle.pathkey.proofs.TextFacts.{read_back}
use Rattle.pathkey.specs.declared.errno.Errno.{Errno}
use Rattle.pathkey.specs.declared.errno.Errno.TheVariants.{EINVAL, ENOMEM}
use Rattle.wal.specs.declared.wal_entry.WalEntry.{WalEntry}
use Rattle.wal.specs.declared.wal_entry.WalEntry.TheVariants.{OnPath, Rename, Truncate, Write, Punch, SetMtime, CopyRange, Keep, Edits}
use Rattle.wal.specs.declared.wal_entry.SnapshotCall.{SnapshotCall}
use Rattle.wal.specs.declared.wal_entry.SnapshotCall.TheVariants.{Snapshot, Remove, Restore}
use Rattle.reference.specs.declared.path_call.PathCall.{PathCall}
use Rattle.reference.specs.declared.path_call.PathCall.TheVariants.{Mkdir, Create, Unlink, Rmdir, Rmtree}
use Rattle.wal.specs.declared.entry.EntryHeader.{EntryHeader}
use Rattle.wal.specs.Entries.{IsChange, IsEntryOf, IsHead, IsNoBody, IsNoEntry, IsWord, LacksEntry, Refuses, body_of, entry, first_of, head_of, keeping_kind, path_kind, printed, second_of}
use Rattle.wal.proofs.Changes.{fit}
use Rattle.wal.proofs.Cuts.{entry_once, shorter_behind, word_once}

-- ---- changes that were decoded so far

pub body_more : (body rest behind : List ℕ) (cs : List WalEntry) (c : WalEntry) (h : EntryHeader) (f s : List ℕ) → body ≡ body_of cs ++ rest → rest ≡ entry h f s ++ behind → IsEntryOf h f s c
    → body ≡ body_of (cs ++ c ∷ []) ++ behind
body_more body rest behind cs c h f s before is reported =
    let same : entry h f s ≡ printed c = ap (λ (k : EntryHeader). entry k f s) (sym reported.head) ∙ ap (λ (x : List ℕ). entry (head_of c) x s) (sym reported.first_is) ∙ ap (λ (x : List ℕ). entry (head_of c) (first_of c) x) (sym reported.second_is) in
    before ∙ ap (λ (x : List ℕ). body_of cs ++ x) (is ∙ ap (λ (x : List ℕ). x ++ behind) same)
    ∙ sym (append_assoc (body_of cs) (printed c) behind)
    ∙ ap (λ (x : List ℕ). x ++ behind) (ap (λ (x : List ℕ). body_of cs ++ x) (sym (append-nil (printed c))) ∙ sym (flat_map-append printed cs (c ∷ [])))

-- ---- the changes that the bytes encode, if they are a body

-- if the whole is the body of some changes, so is the rest
pub Continues : List ℕ → List ℕ → Type 0
Continues body rest = (cs : List WalEntry) → AllByRecursion IsChange cs → body ≡ body_of cs → (ds : List WalEntry) × AllByRecursion IsChange ds × (rest ≡ body_of ds)

pub continues_first : (body : List ℕ) → Continues body body
unfolding Continues
continues_first body = λ cs all e. (cs, all, e)

record Leads (h : EntryHeader) (f s behind : List ℕ) : Type 0 where
  d : WalEntry
  ds : List WalEntry
  is : IsChange d
  all : AllByRecursion IsChange ds
  reported : IsEntryOf h f s d
  same : behind ≡ body_of ds

-- the first change is that of the first entry, and the other changes are those of the bytes after it
leads : (h : EntryHeader) (f s behind rest : List ℕ) (ds : List WalEntry) → IsHead h → IsWord (length f) → IsWord (length s) → rest ≡ entry h f s ++ behind → AllByRecursion IsChange ds → rest ≡ body_of ds → Leads h f s behind
leads h f s behind rest [] ph pf ps is all e =
    let less = shorter_behind h f s rest behind is in
    let none : length rest ≡ 0 = ap length e in
    absurd (omega arith)
leads h f s behind rest (d ∷ ds) ph pf ps is all e =
    let fits = fit d all.0 in
    let parts = entry_once h (head_of d) f s (first_of d) (second_of d) behind (body_of ds) ph fits.head pf ps fits.first_fits fits.second_fits (sym is ∙ e) in
    record { d = d; ds = ds; is = all.0; all = all.1; reported = record { head = sym parts.0; first_is = sym parts.1; second_is = sym parts.2 }; same = parts.3 }

pub continues_more : (body rest behind : List ℕ) (h : EntryHeader) (f s : List ℕ) → IsHead h × IsWord (length f) × IsWord (length s) → rest ≡ entry h f s ++ behind → Continues body rest → Continues body behind
unfolding Continues
continues_more body rest behind h f s fits is before = λ cs all e.
    let now = before cs all e in
    let found = leads h f s behind rest now.0 fits.0 fits.1 fits.2 is now.1 now.2 in
    (found.ds, found.all, found.same)

-- if the rest does not begin with the entry of a change, the whole is not a body
pub no_entry : (body rest : List ℕ) → Continues body rest → (length rest ≡ 0 → ⊥) → LacksEntry rest → IsNoBody body
unfolding Continues
no_entry body rest before some lacks = λ cs all e. let now = before cs all e in go now.0 now.1 now.2
  where
    go : (ds : List WalEntry) → AllByRecursion IsChange ds → rest ≡ body_of ds → ⊥
    go [] all e = some (ap length e)
    go (d ∷ ds) all e = let fits = fit d all.0 in lacks (head_of d) (first_of d) (second_of d) (body_of ds) fits.first_fits fits.second_fits e

pub no_change : (body rest behind : List ℕ) (h : EntryHeader) (f s : List ℕ) (e : Errno) → IsHead h × IsWord (length f) × IsWord (length s) → rest ≡ entry h f s ++ behind → Continues body rest → Refuses (IsNoEntry h f s) e → Refuses (IsNoBody body) e
unfolding Continues
no_change body rest behind h f s e fits is before reported = ⊎_elim
    (λ (u : (e ≡ EINVAL) × IsNoEntry h f s). inl (
      u.0,
      λ cs all same.
          let now = before cs all same in
          let found = leads h f s behind rest now.0 fits.0 fits.1 fits.2 is now.1 now.2 in
          u.1 found.d found.is found.reported,
    ))
    (λ (m : e ≡ ENOMEM). inr m)
    reported

-- ---- one body, one list of changes

path_kind_once : (a b : PathCall) → path_kind a ≡ path_kind b → a ≡ b
path_kind_once Mkdir Mkdir e = refl
path_kind_once Mkdir Create e = absurd (omega arith)
path_kind_once Mkdir Unlink e = absurd (omega arith)
path_kind_once Mkdir Rmdir e = absurd (omega arith)
path_kind_once Mkdir Rmtree e = absurd (omega arith)
path_kind_once Create Mkdir e = absurd (omega arith)
path_kind_once Create Create e = refl
path_kind_once Create Unlink e = absurd (omega arith)
path_kind_once Create Rmdir e = absurd (omega arith)
path_kind_once Create Rmtree e = absurd (omega arith)
path_kind_once Unlink Mkdir e = absurd (omega arith)
path_kind_once Unlink Create e = absurd (omega arith)
path_kind_once Unlink Unlink e = refl
path_kind_once Unlink Rmdir e = absurd (omega arith)
path_kind_once Unlink Rmtree e = absurd (omega arith)
path_kind_once Rmdir Mkdir e = absurd (omega arith)
path_kind_once Rmdir Create e = absurd (omega arith)
path_kind_once Rmdir Unlink e = absurd (omega arith)
path_kind_once Rmdir Rmdir e = refl
path_kind_once Rmdir Rmtree e = absurd (omega arith)
path_kind_once Rmtree Mkdir e = absurd (omega arith)
path_kind_once Rmtree Create e = absurd (omega arith)
path_kind_once Rmtree Unlink e = absurd (omega arith)
path_kind_once Rmtree Rmdir e = absurd (omega arith)
path_kind_once Rmtree Rmtree e = refl

keeping_kind_once : (a b : SnapshotCall) → keeping_kind a ≡ keeping_kind b → a ≡ b
keeping_kind_once Snapshot Snapshot e = refl
keeping_kind_once Snapshot Remove e = absurd (omega arith)
keeping_kind_once Snapshot Restore e = absurd (omega arith)
keeping_kind_once Remove Snapshot e = absurd (omega arith)
keeping_kind_once Remove Remove e = refl
keeping_kind_once Remove Restore e = absurd (omega arith)
keeping_kind_once Restore Snapshot e = absurd (omega arith)
keeping_kind_once Restore Remove e = absurd (omega arith)
keeping_kind_once Restore Restore e = refl

few_kinds : (a : PathCall) → path_kind a ≤ 5
few_kinds Mkdir = omega arith
few_kinds Create = omega arith
few_kinds Unlink = omega arith
few_kinds Rmdir = omega arith
few_kinds Rmtree = omega arith

late_kinds : (a : SnapshotCall) → 10 ≤ keeping_kind a
late_kinds Snapshot = omega arith
late_kinds Remove = omega arith
late_kinds Restore = omega arith

last_kinds : (a : SnapshotCall) → keeping_kind a ≤ 12
last_kinds Snapshot = omega arith
last_kinds Remove = omega arith
last_kinds Restore = omega arith

text_once : (p q : Path) → IsPath p → IsPath q → text_of p ≡ text_of q → p ≡ q
text_once p q hp hq e = let same : ◌≡◌ {A = Result Path Errno} (Ok p) (Ok q) = sym (read_back p hp) ∙ ap parsed e ∙ read_back q hq in cc

same_change : (c d : WalEntry) → IsChange c → IsChange d → head_of c ≡ head_of d → first_of c ≡ first_of d → second_of c ≡ second_of d → c ≡ d
same_change (OnPath a p at) (OnPath b q t) hc hd eh ef es = let ek = path_kind_once a b (ap (λ (h : EntryHeader). h.kind) eh) in let et = ap (λ (h : EntryHeader). h.at) eh in let ep = text_once p q hc.0 hd.0 ef in cc
same_change (OnPath a p at) (Rename u v t) hc hd eh ef es = absurd (omega (arith, ap (λ (h : EntryHeader). h.kind) eh, few_kinds a))
same_change (OnPath a p at) (Truncate q m t) hc hd eh ef es = absurd (omega (arith, ap (λ (h : EntryHeader). h.kind) eh, few_kinds a))
same_change (OnPath a p at) (Write q g x t) hc hd eh ef es = absurd (omega (arith, ap (λ (h : EntryHeader). h.kind) eh, few_kinds a))
same_change (OnPath a p at) (Punch q g m t) hc hd eh ef es = absurd (omega (arith, ap (λ (h : EntryHeader). h.kind) eh, few_kinds a))
same_change (OnPath a p at) (SetMtime q t) hc hd eh ef es = absurd (omega (arith, ap (λ (h : EntryHeader). h.kind) eh, few_kinds a))
same_change (OnPath a p at) (CopyRange q g v m k t) hc hd eh ef es = absurd (omega (arith, ap (λ (h : EntryHeader). h.kind) eh, few_kinds a))
same_change (OnPath a p at) (Keep b r) hc hd eh ef es = absurd (omega (arith, ap (λ (h : EntryHeader). h.kind) eh, few_kinds a, late_kinds b))
same_change (OnPath a p at) (Edits y) hc hd eh ef es = absurd (omega (arith, ap (λ (h : EntryHeader). h.kind) eh, few_kinds a))
same_change (Rename o n at) (OnPath b q t) hc hd eh ef es = absurd (omega (arith, ap (λ (h : EntryHeader). h.kind) eh, few_kinds b))
same_change (Rename o n at) (Rename u v t) hc hd eh ef es = let et = ap (λ (h : EntryHeader). h.at) eh in let eo = text_once o u hc.0 hd.0 ef in let en = text_once n v hc.1 hd.1 es in cc
same_change (Rename o n at) (Truncate q m t) hc hd eh ef es = absurd (omega (arith, ap (λ (h : EntryHeader). h.kind) eh))
same_change (Rename o n at) (Write q g x t) hc hd eh ef es = absurd (omega (arith, ap (λ (h : EntryHeader). h.kind) eh))
same_change (Rename o n at) (Punch q g m t) hc hd eh ef es = absurd (omega (arith, ap (λ (h : EntryHeader). h.kind) eh))
same_change (Rename o n at) (SetMtime q t) hc hd eh ef es = absurd (omega (arith, ap (λ (h : EntryHeader). h.kind) eh))
same_change (Rename o n at) (CopyRange q g v m k t) hc hd eh ef es = absurd (omega (arith, ap (λ (h : EntryHeader). h.kind) eh))
same_change (Rename o n at) (Keep b r) hc hd eh ef es = absurd (omega (arith, ap (λ (h : EntryHeader). h.kind) eh, late_kinds b))
same_change (Rename o n at) (Edits y) hc hd eh ef es = absurd (omega (arith, ap (λ (h : EntryHeader). h.kind) eh))
same_change (Truncate p len at) (OnPath b q t) hc hd eh ef es = absurd (omega (arith, ap (λ (h : EntryHeader). h.kind) eh, few_kinds b))
same_change (Truncate p len at) (Rename u v t) hc hd eh ef es = absurd (omega (arith, ap (λ (h : EntryHeader). h.kind) eh))
same_change (Truncate p len at) (Truncate q m t) hc hd eh ef es = let et = ap (λ (h : EntryHeader). h.at) eh in let el = ap (λ (h : EntryHeader). h.offset) eh in let ep = text_once p q hc.0 hd.0 ef in cc
same_change (Truncate p len at) (Write q g x t) hc hd eh ef es = absurd (omega (arith, ap (λ (h : EntryHeader). h.kind) eh))
same_change (Truncate p len at) (Punch q g m t) hc hd eh ef es = absurd (omega (arith, ap (λ (h : EntryHeader). h.kind) eh))
same_change (Truncate p len at) (SetMtime q t) hc hd eh ef es = absurd (omega (arith, ap (λ (h : EntryHeader). h.kind) eh))
same_change (Truncate p len at) (CopyRange q g v m k t) hc hd eh ef es = absurd (omega (arith, ap (λ (h : EntryHeader). h.kind) eh))
same_change (Truncate p len at) (Keep b r) hc hd eh ef es = absurd (omega (arith, ap (λ (h : EntryHeader). h.kind) eh, late_kinds b))
same_change (Truncate p len at) (Edits y) hc hd eh ef es = absurd (omega (arith, ap (λ (h : EntryHeader). h.kind) eh))
same_change (Write p off w at) (OnPath b q t) hc hd eh ef es = absurd (omega (arith, ap (λ (h : EntryHeader). h.kind) eh, few_kinds b))
same_change (Write p off w at) (Rename u v t) hc hd eh ef es = absurd (omega (arith, ap (λ (h : EntryHeader). h.kind) eh))
same_change (Write p off w at) (Truncate q m t) hc hd eh ef es = absurd (omega (arith, ap (λ (h : EntryHeader). h.kind) eh))
same_change (Write p off w at) (Write q g x t) hc hd eh ef es = let et = ap (λ (h : EntryHeader). h.at) eh in let eo = ap (λ (h : EntryHeader). h.offset) eh in let ep = text_once p q hc.0 hd.0 ef in cc
same_change (Write p off w at) (Punch q g m t) hc hd eh ef es = absurd (omega (arith, ap (λ (h : EntryHeader). h.kind) eh))
same_change (Write p off w at) (SetMtime q t) hc hd eh ef es = absurd (omega (arith, ap (λ (h : EntryHeader). h.kind) eh))
same_change (Write p off w at) (CopyRange q g v m k t) hc hd eh ef es = absurd (omega (arith, ap (λ (h : EntryHeader). h.kind) eh))
same_change (Write p off w at) (Keep b r) hc hd eh ef es = absurd (omega (arith, ap (λ (h : EntryHeader). h.kind) eh, late_kinds b))
same_change (Write p off w at) (Edits y) hc hd eh ef es = absurd (omega (arith, ap (λ (h : EntryHeader). h.kind) eh))
same_change (Punch p off n at) (OnPath b q t) hc hd eh ef es = absurd (omega (arith, ap (λ (h : EntryHeader). h.kind) eh, few_kinds b))
same_change (Punch p off n at) (Rename u v t) hc hd eh ef es = absurd (omega (arith, ap (λ (h : EntryHeader). h.kind) eh))
same_change (Punch p off n at) (Truncate q m t) hc hd eh ef es = absurd (omega (arith, ap (λ (h : EntryHeader). h.kind) eh))
same_change (Punch p off n at) (Write q g x t) hc hd eh ef es = absurd (omega (arith, ap (λ (h : EntryHeader). h.kind) eh))
same_change (Punch p off n at) (Punch q g m t) hc hd eh ef es = let et = ap (λ (h : EntryHeader). h.at) eh in let eo = ap (λ (h : EntryHeader). h.offset) eh in let en = ap (λ (h : EntryHeader). h.count) eh in let ep = text_once p q hc.0 hd.0 ef in cc
same_change (Punch p off n at) (SetMtime q t) hc hd eh ef es = absurd (omega (arith, ap (λ (h : EntryHeader). h.kind) eh))
same_change (Punch p off n at) (CopyRange q g v m k t) hc hd eh ef es = absurd (omega (arith, ap (λ (h : EntryHeader). h.kind) eh))
same_change (Punch p off n at) (Keep b r) hc hd eh ef es = absurd (omega (arith, ap (λ (h : EntryHeader). h.kind) eh, late_kinds b))
same_change (Punch p off n at) (Edits y) hc hd eh ef es = absurd (omega (arith, ap (λ (h : EntryHeader). h.kind) eh))
same_change (SetMtime p at) (OnPath b q u) hc hd eh ef es = absurd (omega (arith, ap (λ (h : EntryHeader). h.kind) eh, few_kinds b))
same_change (SetMtime p at) (Rename u v t) hc hd eh ef es = absurd (omega (arith, ap (λ (h : EntryHeader). h.kind) eh))
same_change (SetMtime p at) (Truncate q m t) hc hd eh ef es = absurd (omega (arith, ap (λ (h : EntryHeader). h.kind) eh))
same_change (SetMtime p at) (Write q g x t) hc hd eh ef es = absurd (omega (arith, ap (λ (h : EntryHeader). h.kind) eh))
same_change (SetMtime p at) (Punch q g m t) hc hd eh ef es = absurd (omega (arith, ap (λ (h : EntryHeader). h.kind) eh))
same_change (SetMtime p at) (SetMtime q t) hc hd eh ef es = let et = ap (λ (h : EntryHeader). h.at) eh in let ep = text_once p q hc.0 hd.0 ef in cc
same_change (SetMtime p at) (CopyRange q g v m k t) hc hd eh ef es = absurd (omega (arith, ap (λ (h : EntryHeader). h.kind) eh))
same_change (SetMtime p at) (Keep b r) hc hd eh ef es = absurd (omega (arith, ap (λ (h : EntryHeader). h.kind) eh, last_kinds b))
same_change (SetMtime p at) (Edits y) hc hd eh ef es = absurd (omega (arith, ap (λ (h : EntryHeader). h.kind) eh))
same_change (CopyRange p off q to n at) (OnPath b r t) hc hd eh ef es = absurd (omega (arith, ap (λ (h : EntryHeader). h.kind) eh, few_kinds b))
same_change (CopyRange p off q to n at) (Rename u v t) hc hd eh ef es = absurd (omega (arith, ap (λ (h : EntryHeader). h.kind) eh))
same_change (CopyRange p off q to n at) (Truncate r m t) hc hd eh ef es = absurd (omega (arith, ap (λ (h : EntryHeader). h.kind) eh))
same_change (CopyRange p off q to n at) (Write r g x t) hc hd eh ef es = absurd (omega (arith, ap (λ (h : EntryHeader). h.kind) eh))
same_change (CopyRange p off q to n at) (Punch r g m t) hc hd eh ef es = absurd (omega (arith, ap (λ (h : EntryHeader). h.kind) eh))
same_change (CopyRange p off q to n at) (SetMtime r t) hc hd eh ef es = absurd (omega (arith, ap (λ (h : EntryHeader). h.kind) eh))
same_change (CopyRange p off q to n at) (CopyRange r g v m k t) hc hd eh ef es =
    let et = ap (λ (h : EntryHeader). h.at) eh in
    let eo = ap (λ (h : EntryHeader). h.offset) eh in
    let en = ap (λ (h : EntryHeader). h.count) eh in
    let ep = text_once p r hc.0 hd.0 ef in
    let parts = word_once to m (text_of q) (text_of v) hc.3 hd.3 es in
    let em = parts.0 in
    let eq = text_once q v hc.2 hd.2 parts.1 in
    cc
same_change (CopyRange p off q to n at) (Keep b r) hc hd eh ef es = absurd (omega (arith, ap (λ (h : EntryHeader). h.kind) eh, last_kinds b))
same_change (CopyRange p off q to n at) (Edits y) hc hd eh ef es = absurd (omega (arith, ap (λ (h : EntryHeader). h.kind) eh))
same_change (Keep a s) (OnPath b q t) hc hd eh ef es = absurd (omega (arith, ap (λ (h : EntryHeader). h.kind) eh, late_kinds a, few_kinds b))
same_change (Keep a s) (Rename u v t) hc hd eh ef es = absurd (omega (arith, ap (λ (h : EntryHeader). h.kind) eh, late_kinds a))
same_change (Keep a s) (Truncate q m t) hc hd eh ef es = absurd (omega (arith, ap (λ (h : EntryHeader). h.kind) eh, late_kinds a))
same_change (Keep a s) (Write q g x t) hc hd eh ef es = absurd (omega (arith, ap (λ (h : EntryHeader). h.kind) eh, late_kinds a))
same_change (Keep a s) (Punch q g m t) hc hd eh ef es = absurd (omega (arith, ap (λ (h : EntryHeader). h.kind) eh, late_kinds a))
same_change (Keep a s) (SetMtime q t) hc hd eh ef es = absurd (omega (arith, ap (λ (h : EntryHeader). h.kind) eh, last_kinds a))
same_change (Keep a s) (CopyRange q g v m k t) hc hd eh ef es = absurd (omega (arith, ap (λ (h : EntryHeader). h.kind) eh, last_kinds a))
same_change (Keep a s) (Keep b r) hc hd eh ef es = let ek = keeping_kind_once a b (ap (λ (h : EntryHeader). h.kind) eh) in cc
same_change (Keep a s) (Edits y) hc hd eh ef es = absurd (omega (arith, ap (λ (h : EntryHeader). h.kind) eh, last_kinds a))
same_change (Edits w) (OnPath b q t) hc hd eh ef es = absurd (omega (arith, ap (λ (h : EntryHeader). h.kind) eh, few_kinds b))
same_change (Edits w) (Rename u v t) hc hd eh ef es = absurd (omega (arith, ap (λ (h : EntryHeader). h.kind) eh))
same_change (Edits w) (Truncate q m t) hc hd eh ef es = absurd (omega (arith, ap (λ (h : EntryHeader). h.kind) eh))
same_change (Edits w) (Write q g x t) hc hd eh ef es = absurd (omega (arith, ap (λ (h : EntryHeader). h.kind) eh))
same_change (Edits w) (Punch q g m t) hc hd eh ef es = absurd (omega (arith, ap (λ (h : EntryHeader). h.kind) eh))
same_change (Edits w) (SetMtime q t) hc hd eh ef es = absurd (omega (arith, ap (λ (h : EntryHeader). h.kind) eh))
same_change (Edits w) (CopyRange r g v m k t) hc hd eh ef es = absurd (omega (arith, ap (λ (h : EntryHeader). h.kind) eh))
same_change (Edits w) (Keep b r) hc hd eh ef es = absurd (omega (arith, ap (λ (h : EntryHeader). h.kind) eh, last_kinds b))
same_change (Edits w) (Edits y) hc hd eh ef es = ap Edits ef

pub one_body : (cs ds : List WalEntry) → AllByRecursion IsChange cs → AllByRecursion IsChange ds → body_of cs ≡ body_of ds → cs ≡ ds
one_body [] [] hc hd e = refl
one_body [] (d ∷ ds) hc hd e =
    let less = shorter_behind (head_of d) (first_of d) (second_of d) [] (body_of ds) e in absurd (omega arith)
one_body (c ∷ cs) [] hc hd e =
    let less = shorter_behind (head_of c) (first_of c) (second_of c) [] (body_of cs) (sym e) in absurd (omega arith)
one_body (c ∷ cs) (d ∷ ds) hc hd e =
    let p = fit c hc.0 in
    let q = fit d hd.0 in
    let parts = entry_once (head_of c) (head_of d) (first_of c) (second_of c) (first_of d) (second_of d) (body_of cs) (body_of ds) p.head q.head p.first_fits p.second_fits q.first_fits q.second_fits e in
    ap₂ (λ (x : WalEntry) (xs : List WalEntry). x ∷ xs) (same_change c d hc.0 hd.0 parts.0 parts.1 parts.2) (one_body cs ds hc.1 hd.1 parts.3)
