-- Listings: the lines of entries, and what they are the reply to.
use Rattle.std.proofs.Common.{◌≡◌, ◌⊎◌, inl, inr, ℕ, ◌+◌, ◌-◌, ◌^◌, ◌<◌, ◌≤◌, min, true, false, List, [], ◌∷◌, ◌++◌, length, length-append, codes, refl, sym, ap, subst, ◌∙◌, append-nil, append_assoc, arith}
use Rattle.std.specs.FinMap as map
use Rattle.std.specs.Prelude.{All, Err, MatchResult, None, Ok, Option, Result, Some, cond}
use Rattle.std.specs.List.{flat_map}
use Rattle.call_compiler.specs.declared.indexes.Indexes.{Indexes}
use Rattle.call_compiler.proofs.Replies.{readdir_keeps}
use Rattle.pathkey.specs.Names.{Name, Path}
use Rattle.std.proofs.lemmas.Grind.{flat_map-append}
use Rattle.call_compiler.specs.Compiled.{MeanTree}
use Rattle.pathkey.specs.declared.errno.Errno.{Errno}
use Rattle.pathkey.specs.declared.errno.Errno.TheVariants.{ENOENT, ENOMEM}
use Rattle.reference.specs.Calls.{does}
use Rattle.reference.specs.Image.{percent}
use Rattle.reference.specs.Tree.{Tree}
use Rattle.reference.specs.Worlds.{World, Ask, Replied, Fits, is_lack, next}
use Rattle.reference.specs.declared.call.Call.TheVariants.{Readdir}
use Rattle.reference.specs.declared.reply.Kind.{Kind}
use Rattle.reference.specs.declared.reply.Reply.{Reply}
use Rattle.reference.specs.declared.reply.Reply.TheVariants.{Fault}
use Rattle.volume.specs.HistoryOf.{Finds}
use Rattle.volume.specs.Volumes.{MeanRooted, Means, PVolume}
use Rattle.volume.specs.declared.fs_root.FsRoot.{FsRoot}
use Rattle.textio.specs.Texts.{IsPlain}
use Rattle.textio.proofs.Texts.{plain_text}
use Rattle.shell.specs.declared.entry_lines.EntryLines.{EntryLines}
use Rattle.shell.specs.declared.request.ReadCall.{ReadCall}
use Rattle.shell.specs.declared.request.ReadCall.TheVariants as look
use Rattle.shell.specs.Listings.{AreLines, Lists, ListsPast, Shows, TellsLines}
use Rattle.shell.specs.Replies.{entry_line, name_word}
use Rattle.shell.specs.Script.{Tells, reported_of}

-- ---- lines

-- a line has a byte at least
some_bytes : (e : Kind × Name) → 0 < length (entry_line e)
some_bytes e = omega (arith, length-append (name_word e.0 ++ flat_map percent e.1) (codes "\n"))

-- so there are no more lines than bytes
few_lines : (es : List (Kind × Name)) → length es ≤ length (flat_map entry_line es)
few_lines [] = omega arith
few_lines (e ∷ es) = omega (arith, few_lines es, some_bytes e, length-append (entry_line e) (flat_map entry_line es))

one_more : (es : List (Kind × Name)) (e : Kind × Name) → flat_map entry_line (es ++ e ∷ []) ≡ flat_map entry_line es ++ entry_line e
one_more es e = flat_map-append entry_line es (e ∷ []) ∙ ap (λ (t : List ℕ). flat_map entry_line es ++ t) (append-nil (entry_line e))

module _ (old new : EntryLines) (e : Kind × Name) (more : new.text.items ≡ old.text.items ++ entry_line e) where
  pub line_grows : length old.text.items < length new.text.items
  line_grows = omega (arith, ap (length {A = ℕ}) more, length-append old.text.items (entry_line e), some_bytes e)

  pub line_added : (es : List (Kind × Name)) → AreLines old es → new.count ≡ min (old.count + 1) (2 ^ 64 - 1) → length new.text.items < 2 ^ 64 → AreLines new (es ++ e ∷ [])
  line_added es are count bound =
      let text : new.text.items ≡ flat_map entry_line (es ++ e ∷ []) = more ∙ ap (λ (t : List ℕ). t ++ entry_line e) are.text ∙ sym (one_more es e) in
      record {
        text = text;
        count = omega (arith, count, are.count, bound, few_lines (es ++ e ∷ []), ap (length {A = ℕ}) text, length-append es (e ∷ []));
      }

-- the line of an entry whose name has no byte to escape
pub plain_line : (old text word name : List ℕ) (kind : Kind) → All IsPlain name → word ≡ name_word kind → text ≡ ((old ++ word) ++ name) ++ codes "\n" → text ≡ old ++ entry_line (kind, name)
plain_line old text word name kind plain is whole =
    whole
    ∙ ap (λ (t : List ℕ). t ++ codes "\n") (append_assoc old word name ∙ ap (λ (w : List ℕ). old ++ (w ++ name)) is ∙ ap (λ (n : List ℕ). old ++ (name_word kind ++ n)) (sym (plain_text name plain)))
    ∙ append_assoc old (name_word kind ++ flat_map percent name) (codes "\n")

-- ---- replies

-- a fault
pub refused : (listed : Result EntryLines Errno) (e : Errno) → listed ≡ Err e → Shows listed (Fault e)
refused listed e is = subst (λ (l : Result EntryLines Errno). Shows l (Fault e)) (sym is) refl

-- a listing leaves the world as it is
stays : (w : World) (p : Path) (at : ℕ) (r : Reply) → next w (Ask (Readdir p) at) (Replied r) ≡ w
stays w p at r = elim (is_lack (Replied r)) as (λ b. cond b w (record w { live = (does at w.live (Readdir p)).0 }) ≡ w) [
  | true ↦ refl
  | false ↦ ap {B = World} (λ (t : Tree). record w { live = t }) (readdir_keeps at w.live p)
]

-- what is told of the indexes of a volume is told of its world
pub volume_lists : (v : PVolume) (i : Indexes) (p : Path) (at : ℕ) (listed : Result EntryLines Errno) → i ≡ v.live.indexes → TellsLines i p listed → Lists (Means v) (Means v) p at listed
volume_lists v i p at listed is (r, shows, tells) = (r, shows, λ w m. (fits w m, subst (Means v) (sym (stays w p at r)) m))
  where
    by : (w : World) → (r ≡ (does at w.live (Readdir p)).1) ⊎ (r ≡ Fault ENOMEM) → Fits w (Ask (Readdir p) at) (Replied r)
    by w (inl e) = inl (ap Replied e)
    by w (inr e) = inr (ap Replied e)

    fits : (w : World) → Means v w → Fits w (Ask (Readdir p) at) (Replied r)
    fits w m = by w (tells w.live at (subst (λ (x : Indexes). MeanTree x w.live) (sym is) m.live.indexes))

-- ---- snapshots

-- what is told of a snapshot's indexes is told of the snapshot of each world
past_told : (w : World) (name : List ℕ) (p : Path) (t : Tree) (r : Reply) → map.get w.snapshots name ≡ Some t → (r ≡ (does 0 t (Readdir p)).1) ⊎ (r ≡ Fault ENOMEM) → Tells w name (look.Readdir p) r
past_told w name p t r has (inl is) = inl (is ∙ sym (ap (λ (o : Option Tree). reported_of o (look.Readdir p)) has))
past_told w name p t r has (inr lacks) = inr lacks

-- a snapshot was not found
past_refused : (w : World) (name : List ℕ) (l : ReadCall) (e : Errno) → (e ≡ ENOENT) ⊎ (e ≡ ENOMEM) → (e ≡ ENOENT → map.get w.snapshots name ≡ None) → Tells w name l (Fault e)
past_refused w name l e (inl is) none = inl (ap Fault is ∙ sym (ap (λ (o : Option Tree). reported_of o l) (none is)))
past_refused w name l e (inr is) none = inr (ap Fault is)

-- the listing of a snapshot that was found
pub found_lists : (v : PVolume) (name : List ℕ) (p : Path) (root : FsRoot) (i : Indexes) (listed : Result EntryLines Errno) → i ≡ root.indexes
    → ((w : World) → Means v w → Finds name (Ok root) w) → TellsLines i p listed → ListsPast (Means v) (Means v) name p listed
found_lists v name p root i listed is finds (r, shows, tells) = (r, shows, λ w m. (by w (finds w m).found, m))
  where
    by : (w : World) → (t : Tree) × (map.get w.snapshots name ≡ Some t) × MeanRooted root t → Tells w name (look.Readdir p) r
    by w (t, has, means) = past_told w name p t r has (tells t 0 (subst (λ (x : Indexes). MeanTree x t) (sym is) means.indexes))

-- no snapshot was found, or an allocation failed
pub unfound_lists : (v : PVolume) (name : List ℕ) (p : Path) (given e : Errno) (listed : Result EntryLines Errno) → listed ≡ Err e → e ≡ given
    → ((w : World) → Means v w → Finds name (Err given) w) → ListsPast (Means v) (Means v) name p listed
unfound_lists v name p given e listed is same finds = (Fault e, refused listed e is, λ w m. (told w (finds w m), m))
  where
    told : (w : World) → Finds name (Err given) w → Tells w name (look.Readdir p) (Fault e)
    told w f = subst (λ (x : Errno). Tells w name (look.Readdir p) (Fault x)) (sym same) (past_refused w name (look.Readdir p) given f.found (λ (not : given ≡ ENOENT). f.none.0 (ap Err not)))
