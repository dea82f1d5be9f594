-- One line more of an image: what it makes of what was loaded.
use Rattle.std.proofs.Common.{◌≡◌, ◌≢◌, ◌⊎◌, inl, inr, ⊎_elim, ℕ, ◌+◌, ◌*◌, ◌<◌, ◌≤◌, List, [], ◌∷◌, ◌++◌, length, true, false, refl, sym, ap, subst, ◌∙◌, arith, append_assoc, append-nil, Option, Some, None, Result, Ok, Err}
use Rattle.std.specs.Prelude.{IfSome, MatchOption}
use Rattle.std.specs.Result.{is_ok}
use Rattle.std.specs.declared.cmp.Ordering.TheVariants.{Less}
use Rattle.std.proofs.lemmas.Bool.{cases_lt, ltb-false, le-ltb}
use Rattle.std.proofs.lemmas.Option.{same_Some}
use Rattle.pathkey.specs.Enc.{enc}
use Rattle.pathkey.specs.Names.{Path, IsPath, parent}
use Rattle.pathkey.specs.Order.{by_bytes}
use Rattle.pathkey.specs.declared.errno.Errno.{Errno}
use Rattle.pathkey.specs.declared.errno.Errno.TheVariants.{ENOMEM}
use Rattle.reference.specs.Calls.{Outcome, bytes_of, changed, does, parent_fault, path_fault, first_fault, greatest_file, is_empty}
use Rattle.reference.specs.Image.{Text, Version, root_line}
use Rattle.reference.specs.ImageLines.{Line, BlockLine, Lines, spelled, image_of_lines, last_path, last_len, next_block, IsNewEntry, IsBlock, IsLine, IsReported, MayFollow, IsSomeImage, IsBadAt, tree_of_lines}
use Rattle.reference.specs.Reads.{Bytes, Directory, Seen, Sight, sight, sight_after, sighted}
use Rattle.reference.specs.Plant.{planted, planted_unless, fresh_entry, modified_of, with_plant, faults_of_plant, is_too_long}
use Rattle.reference.specs.Tree.{Tree, Dir, File, nothing, At, Found, Missing, Blocked, entry_at, moment, moment_there, over, with_entry}
use Rattle.reference.specs.Worlds.{World, Snapped, Ask, Replied, Fits, outcome}
use Rattle.reference.specs.declared.call.Call.TheVariants.{Write}
use Rattle.reference.specs.declared.reply.Meta.{Meta}
use Rattle.reference.specs.declared.reply.Meta.TheVariants.{Dir as DirMeta, File as FileMeta}
use Rattle.reference.specs.declared.reply.Reply.TheVariants.{Count, Fault}
use Rattle.reference.proofs.CallCases.{written_cases}
use Rattle.reference.proofs.Edits.{sight_law}
use Rattle.reference.proofs.EntryPaths.{rest_of_itself}
use Rattle.reference.proofs.LineLengths.{line_length, root_length}
use Rattle.reference.proofs.LinesCut.{bad_line, bad_first_line, bad_end, bad_first_end}
use Rattle.reference.proofs.LinesMade.{LastFile, Made, Ready, lines_law, made, ready}
use Rattle.reference.proofs.LinesRead.{NoFeed, IsFirst, IsNext, first_line, line_from_follows, line_injective, next_line}
use Rattle.reference.proofs.Planting.{MayPlant, may_plant, no_fault_to_plant}
use Rattle.reference.proofs.Standing.{parent_directory, parent_from_found}
use Rattle.block_index.specs.Updates.{means as block_means}
use Rattle.block_index.specs.declared.index.BlockIndex.{BlockIndex}
use Rattle.message.specs.declared.msg.Msg.{Msg}
use Rattle.meta_index.specs.Updates.{means as meta_means}
use Rattle.node.specs.Pure.{PTree}
use Rattle.node.specs.declared.shape.Shape.{Shape}
use Rattle.reference.specs.declared.call.Call.{Call}
use Rattle.volume.specs.Changes.{Called, Receives}
use Rattle.volume.specs.Plants.{Plants}
use Rattle.volume.specs.Volumes.{PVolume, IsNew, Means}
use Rattle.images.specs.Image.{version_of}
use Rattle.images.specs.ImageLines.{Spells, line_of}
use Rattle.images.specs.Loads.{AreSoFar, Begun, Counts, FitsAt, alone, text_of, text_so_far, with_line, count_so_far, IsLoading, LoadsNext, LoadsRoot, LoadsLine, MayNotFollow, RefusesLine, HasRead, LoadsEnd, RefusesEnd, Loaded, entry_line, form_of, len_of, new_form}
use Rattle.textio.proofs.HeldFacts.{holds_nothing}
use Rattle.textio.specs.Held.{Holds, IsFree}
use Rattle.images.specs.declared.image_line.ImageLine.{ImageLine}
use Rattle.images.specs.declared.load.LoadFault.{LoadFault}
use Rattle.images.specs.declared.load.LoadFault.TheVariants.{Bad}
use Rattle.images.specs.declared.load.LoadState.{LoadState}
use Rattle.images.specs.declared.version.ImageVersion.{ImageVersion}

pub no_feed : (xs : Text) → IsFree xs → NoFeed xs
no_feed [] h = tt
no_feed (x ∷ xs) h = (h.0, no_feed xs h.1)

-- ---- entries

-- what was planted may follow
may_follow : (b : Begun) (p : Path) (m : Meta) → Made b.version b.root b.lines → IsReported b.version (modified_of m) → IsPath p → by_bytes (enc (last_path b.lines)) (enc p) ≡ Less → MayPlant (tree_of_lines b.root b.lines) p m → MayFollow b.version (entry_line p m) b.lines
may_follow b p (DirMeta at) is reported path rises h = (record { path = path; rises = rises; parent = is.has (parent p) (parent_directory (tree_of_lines b.root b.lines) p h.some h.parent_there) }, reported)
may_follow b p (FileMeta n at) is reported path rises h =
    let few : n ≤ greatest_file = ltb-false greatest_file n h.short in
    (record { path = path; rises = rises; parent = is.has (parent p) (parent_directory (tree_of_lines b.root b.lines) p h.some h.parent_there) }, few, reported)

-- and what may follow can be planted
new_entry : (b : Begun) (p : Path) (m : Meta) → MayFollow b.version (entry_line p m) b.lines → IsNewEntry p b.lines
new_entry b p (DirMeta at) h = h.0
new_entry b p (FileMeta n at) h = h.0

not_too_long : (b : Begun) (p : Path) (m : Meta) → MayFollow b.version (entry_line p m) b.lines → is_too_long m ≡ false
not_too_long b p (DirMeta at) h = refl
not_too_long b p (FileMeta n at) h = le-ltb greatest_file n h.1

can_plant : (b : Begun) (p : Path) (m : Meta) → AreSoFar (Some b) → MayFollow b.version (entry_line p m) b.lines → MayPlant (tree_of_lines b.root b.lines) p m
can_plant b p m are h =
    let r : Ready b.root p b.lines = ready b.version b.root p b.lines (made b.version b.root b.lines are.0 are.1) (new_entry b p m h) in
    record { some = r.some; parent_there = r.parent_there; free = r.free; short = not_too_long b p m h }

-- the answer shows whether there was a fault
fault_none : (t u : Tree) (fault : Option Errno) → ◌≡◌ {A = Snapped} (Ok tt) (planted_unless t u fault).1 → fault ≡ None
fault_none t u None e = refl
fault_none t u (Some f) e = absurd (cc)

-- below the root an entry is put
plant_below : (t : Tree) (p : Path) (m : Meta) → p ≢ [] → with_plant t p m ≡ with_entry t p (fresh_entry m)
plant_below t [] m some = absurd (some refl)
plant_below t (n ∷ q) m some = refl

may_plant_below : (t : Tree) (p : Path) (m : Meta) → p ≢ [] → first_fault (faults_of_plant t p m) ≡ None → MayPlant t p m
may_plant_below t [] m some h = absurd (some refl)
may_plant_below t (n ∷ q) m some h = may_plant t n q m h

made_of_entry : (b : Begun) (p : Path) (m : Meta) → with_entry (tree_of_lines b.root b.lines) p (fresh_entry m) ≡ tree_of_lines b.root (entry_line p m ∷ b.lines)
made_of_entry b p (DirMeta at) = refl
made_of_entry b p (FileMeta n at) = refl

last_of_entry : (ls : Lines) (p : Path) (m : Meta) → (p ≡ last_path (entry_line p m ∷ ls)) × (len_of m ≡ last_len (entry_line p m ∷ ls)) × (0 ≡ next_block (entry_line p m ∷ ls))
last_of_entry ls p (DirMeta at) = (refl, refl, refl)
last_of_entry ls p (FileMeta n at) = (refl, refl, refl)

-- the mtime of an entry that was put
same_moment : (a : At) (x : Tree) → sighted a ≡ sighted (Found x) → moment_there a ≡ moment x
same_moment (Found (Dir d es)) (Dir e fs) s = let q : Some (Seen Directory d) ≡ Some (Seen Directory e) = s in cc
same_moment (Found (Dir d es)) (File e c) s = absurd (let q : Some (Seen Directory d) ≡ Some (Seen (Bytes c) e) = s in cc)
same_moment (Found (File d b)) (Dir e fs) s = absurd (let q : Some (Seen (Bytes b) d) ≡ Some (Seen Directory e) = s in cc)
same_moment (Found (File d b)) (File e c) s = let q : Some (Seen (Bytes b) d) ≡ Some (Seen (Bytes c) e) = s in cc
same_moment Missing (Dir e fs) s = absurd (let q : ◌≡◌ {A = Option Sight} None (Some (Seen Directory e)) = s in cc)
same_moment Missing (File e c) s = absurd (let q : ◌≡◌ {A = Option Sight} None (Some (Seen (Bytes c) e)) = s in cc)
same_moment Blocked (Dir e fs) s = absurd (let q : ◌≡◌ {A = Option Sight} None (Some (Seen Directory e)) = s in cc)
same_moment Blocked (File e c) s = absurd (let q : ◌≡◌ {A = Option Sight} None (Some (Seen (Bytes c) e)) = s in cc)

moment_put : (t : Tree) (p : Path) (x : Tree) → p ≢ [] → parent_fault t p ≡ None → moment_there (entry_at (with_entry t p x) p) ≡ moment x
moment_put t p x some above = same_moment (entry_at (with_entry t p x) p) x
    (sight_law p t (Some x) p some above ∙ ap (λ (o : Option Path). sight_after o (Some x) (sight t p)) (rest_of_itself p))

fresh_moment : (m : Meta) → moment (fresh_entry m) ≡ modified_of m
fresh_moment (DirMeta at) = refl
fresh_moment (FileMeta n at) = refl

pub entry_done : (old : LoadState) (v : PVolume) (p : Path) (m : Meta) (number : ℕ) → number ≡ old.lines + 1 → p ≢ [] → IsReported (version_of old.version) (modified_of m) → IsPath p → by_bytes (enc old.last) (enc p) ≡ Less → Plants p m (Ok tt) old.volume v
    → LoadsNext (entry_line p m) old (record { volume = v; version = old.version; lines = number; last = p; modified = modified_of m; len = len_of m; next = 0 })
entry_done old v p m number count some reported path rises h = λ b is.
    let t : Tree = tree_of_lines b.root b.lines in
    let lines : Made b.version b.root b.lines = made b.version b.root b.lines is.are.0 is.are.1 in
    let answer : ◌≡◌ {A = Snapped} (Ok tt) (planted t p m).1 = ⊎_elim (λ (e : Ok tt ≡ (planted t p m).1). e) (λ (e : ◌≡◌ {A = Snapped} (Ok tt) (Err ENOMEM)). absurd (cc)) (h.answer (alone t) is.means) in
    let none : first_fault (faults_of_plant t p m) ≡ None = fault_none t (with_plant t p m) (first_fault (faults_of_plant t p m)) answer in
    let above : by_bytes (enc (last_path b.lines)) (enc p) ≡ Less = subst (λ (q : Path). by_bytes (enc q) (enc p) ≡ Less) is.last rises in
    let may : MayPlant t p m = may_plant_below t p m some none in
    let planted_is : (planted t p m).0 ≡ tree_of_lines b.root (entry_line p m ∷ b.lines) = ap (λ (f : Option Errno). (planted_unless t (with_plant t p m) f).0) none ∙ plant_below t p m some ∙ made_of_entry b p m in
    let last = last_of_entry b.lines p m in
    let new_tree : Tree = tree_of_lines b.root (entry_line p m ∷ b.lines) in
    let at : moment_there (entry_at (with_entry t p (fresh_entry m)) p) ≡ modified_of m = moment_put t p (fresh_entry m) some may.parent_there ∙ fresh_moment m in
    let there : moment_there (entry_at new_tree p) ≡ modified_of m = subst (λ (u : Tree). moment_there (entry_at u p) ≡ modified_of m) (made_of_entry b p m) at in
    record {
      are = (is.are.0, (may_follow b p m lines (subst (λ (w : Version). IsReported w (modified_of m)) is.version reported) path above may, is.are.1));
      means = subst (λ (u : Tree). Means v (alone u)) planted_is (h.means (alone t) is.means);
      version = is.version;
      count = let c : old.lines ≡ length b.lines + 1 = is.count in let d : length (entry_line p m ∷ b.lines) ≡ length b.lines + 1 = omega arith in omega arith;
      last = last.0;
      moment = subst (λ (q : Path). moment_there (entry_at new_tree q) ≡ modified_of m) last.0 there;
      len = last.1;
      next = last.2;
    }

pub entry_refused : (old : LoadState) (v : PVolume) (p : Path) (m : Meta) (fault : Errno) → fault ≢ ENOMEM → Plants p m (Err fault) old.volume v → MayNotFollow (entry_line p m) old
entry_refused old v p m fault other h = λ b is follows.
    let t : Tree = tree_of_lines b.root b.lines in
    let none : first_fault (faults_of_plant t p m) ≡ None = no_fault_to_plant t p m (can_plant b p m is.are follows) in
    let done : (planted t p m).1 ≡ Ok tt = ap (λ (f : Option Errno). (planted_unless t (with_plant t p m) f).1) none in
    ⊎_elim
    (λ (e : Err fault ≡ (planted t p m).1). let clash : ◌≡◌ {A = Snapped} (Err fault) (Ok tt) = e ∙ done in cc)
    (λ (e : ◌≡◌ {A = Snapped} (Err fault) (Err ENOMEM)). other (cc))
    (h.answer (alone t) is.means)

pub order_refused : (old : LoadState) (p : Path) (m : Meta) → by_bytes (enc old.last) (enc p) ≢ Less → MayNotFollow (entry_line p m) old
order_refused old p m below = λ b is follows. below (subst (λ (q : Path). by_bytes (enc q) (enc p) ≡ Less) (sym is.last) (new_entry b p m follows).rises)

-- ---- the root

pub root_done : (old : LoadState) (v : PVolume) (version : ImageVersion) (root number : ℕ) (line : Text) → number ≡ old.lines + 1 → IsReported (version_of version) root → line ≡ root_line (version_of version) root
    → Plants [] (DirMeta root) (Ok tt) old.volume v → LoadsRoot line old (record { volume = v; version = version; lines = number; last = old.last; modified = root; len = old.len; next = old.next })
root_done old v version root number line count reported line_is h = λ is.
    let t : Tree = Dir 0 nothing in (
      record { version = version_of version; root = root; lines = [] },
      record {
        are = (reported, tt);
        means = h.means (alone t) is.means;
        version = refl;
        count = let c : old.lines ≡ 0 = is.count in omega arith;
        last = is.last;
        moment = refl;
        len = is.len;
        next = is.next;
      },
      refl,
      line_is,
    )

-- ---- blocks

some_bytes : (b : List ℕ) → 0 < length b → is_empty b ≡ false
some_bytes [] h = absurd (omega arith)
some_bytes (x ∷ b) h = refl

-- what a write that is counted makes
written_is : (at : ℕ) (t : Tree) (p : Path) (off : ℕ) (b : List ℕ) (n : ℕ) → 0 < length b → Count n ≡ (does at t (Write p off b)).1 → (does at t (Write p off b)).0 ≡ with_entry t p (File at (over (bytes_of (entry_at t p)) off b))
unfolding does changed
written_is at t p off b n some = written_cases (λ (o : Outcome). Count n ≡ o.1 → o.0 ≡ with_entry t p (File at (over (bytes_of (entry_at t p)) off b))) at t p off b
    (λ e f. absurd (cc))
    (λ e f. absurd (let g : is_empty b ≡ false = some_bytes b some in cc))
    (λ a d e g f. refl)

pub block_done : (old : LoadState) (v : PVolume) (i : ℕ) (bytes : List ℕ) (len number n : ℕ) → number ≡ old.lines + 1 → IsBlock bytes → old.len ≡ Some len → old.next ≤ i → 4096 * i + length bytes ≤ len
    → Called (Write old.last (4096 * i) bytes) old.modified (Count n) old.volume v → LoadsNext (BlockLine i bytes) old (record { volume = v; version = old.version; lines = number; last = old.last; modified = old.modified; len = old.len; next = i + 1 })
block_done old v i bytes len number n count block file rises inside h = λ b is.
    let ls : Lines = b.lines in
    let t : Tree = tree_of_lines b.root ls in
    let p : Path = old.last in
    let at : ℕ = old.modified in
    let w : World = alone t in
    let both : Fits w (Ask (Write p (4096 * i) bytes) at) (Replied (Count n)) × Means v (outcome w (Ask (Write p (4096 * i) bytes) at)).0 = h.leads w is.means in
    let reported : Count n ≡ (does at t (Write p (4096 * i) bytes)).1 = ⊎_elim
    (λ (e : Replied (Count n) ≡ Replied (does at t (Write p (4096 * i) bytes)).1). cc)
    (λ (e : Replied (Count n) ≡ Replied (Fault ENOMEM)). absurd (cc))
    both.0
    in
    let laid : (q : Path) (d : ℕ) → Tree = λ q d. with_entry t q (File d (over (bytes_of (entry_at t q)) (4096 * i) bytes)) in
    let tree_is : (does at t (Write p (4096 * i) bytes)).0 ≡ tree_of_lines b.root (BlockLine i bytes ∷ ls) =
    written_is at t p (4096 * i) bytes n block.some reported ∙ ap (λ (q : Path). laid q at) is.last ∙ ap (λ (d : ℕ). laid (last_path ls) d) (sym is.moment) in
    let lines : Made b.version b.root ls = made b.version b.root ls is.are.0 is.are.1 in
    let there : LastFile b.version b.root ls len = lines.file len (sym is.len ∙ file) in
    let here : At = entry_at t (last_path ls) in
    let above : parent_fault t (last_path ls) ≡ None = parent_from_found (last_path ls) t there.some (ap path_fault there.there) in
    record {
      are = (is.are.0, (record { len = len; file = sym is.len ∙ file; rises = subst (λ (k : ℕ). k ≤ i) is.next rises; block = block; inside = inside }, is.are.1));
      means = subst (λ (u : Tree). Means v (alone u)) tree_is both.1;
      version = is.version;
      count = let c : old.lines ≡ length ls + 1 = is.count in let d : length (BlockLine i bytes ∷ ls) ≡ length ls + 1 = omega arith in omega arith;
      last = is.last;
      moment = moment_put t (last_path ls) (File (moment_there here) (over (bytes_of here) (4096 * i) bytes)) there.some above ∙ is.moment;
      len = is.len;
      next = refl;
    }

-- the same, if the block is known to fit
pub block_at : (old : LoadState) (v : PVolume) (i j off : ℕ) (b : List ℕ) (number : ℕ) → j ≡ i → number ≡ old.lines + 1 → IsBlock b → FitsAt i (length b) old off → Counts (Write old.last off b) old.modified old.volume v
    → LoadsNext (BlockLine i b) old (record { volume = v; version = old.version; lines = number; last = old.last; modified = old.modified; len = old.len; next = j + 1 })
block_at old v i j off b number same count block fits counts =
    let reported : Called (Write old.last (4096 * i) b) old.modified (Count counts.0) old.volume v = subst (λ (o : ℕ). Called (Write old.last o b) old.modified (Count counts.0) old.volume v) fits.at counts.1 in
    let inside : off + length b ≤ fits.file = fits.inside in
    let at : off ≡ 4096 * i = fits.at in
    subst (λ (k : ℕ). LoadsNext (BlockLine i b) old (record { volume = v; version = old.version; lines = number; last = old.last; modified = old.modified; len = old.len; next = k + 1 })) (sym same)
    (block_done old v i b fits.file number counts.0 count block fits.is_file fits.behind (omega arith) reported)

pub no_file_refused : (old : LoadState) (i : ℕ) (b : List ℕ) → old.len ≡ None → MayNotFollow (BlockLine i b) old
no_file_refused old i b none = λ s is follows. let clash : ◌≡◌ {A = Option ℕ} None (Some follows.len) = sym none ∙ is.len ∙ follows.file in cc

pub block_refused : (old : LoadState) (i : ℕ) (b : List ℕ) (len : ℕ) → old.len ≡ Some len → (i < old.next) ⊎ (len < 4096 * i + length b) → MayNotFollow (BlockLine i b) old
block_refused old i b len file bad = λ s is follows.
    let same : len ≡ follows.len = same_Some len follows.len (sym file ∙ is.len ∙ follows.file) in
    let rises : next_block s.lines ≤ i = follows.rises in
    let inside : 4096 * i + length b ≤ follows.len = follows.inside in
    let at : old.next ≡ next_block s.lines = is.next in
    ⊎_elim (λ (l : i < old.next). omega arith) (λ (l : len < 4096 * i + length b). omega arith) bad

-- ---- lines

-- a line that is none that may follow
refused_by : (line : Text) (old : LoadState) → (IsLoading None old → IsFirst line → ⊥) → ((b : Begun) → IsLoading (Some b) old → IsNext b.version b.lines line → ⊥) → RefusesLine line old
refused_by line old first later None is free h = first is (first_line line (no_feed line free) h)
refused_by line old first later (Some b) is free h = later b is (next_line b.version b.root b.lines line is.are.0 is.are.1 (no_feed line free) h)

pub long_refused : (line : Text) (old : LoadState) → 65536 < length line → RefusesLine line old
long_refused line old long = refused_by line old
    (λ is h. let l : length line ≡ length (root_line h.version h.root) = ap length h.is in let s : length (root_line h.version h.root) ≤ 65536 = root_length h.version h.root h.reported in omega arith)
    (λ b is h. let l : length line ≡ length (spelled b.version h.next) = ap length h.is in let s : length (spelled b.version h.next) ≤ 65536 = line_length b.version h.next (line_from_follows b.version h.next b.lines is.are.1 h.follows) in omega arith)

pub root_refused : (line : Text) (old : LoadState) → old.lines ≡ 0 → ((v : Version) (at : ℕ) → IsReported v at → line ≢ root_line v at) → RefusesLine line old
root_refused line old none other = refused_by line old (λ is h. other h.version h.root h.reported h.is) (λ b is h. let c : old.lines ≡ length b.lines + 1 = is.count in omega arith)

pub unspelled_refused : (line : Text) (old : LoadState) → old.lines ≢ 0 → ((l : Line) → IsLine (version_of old.version) l → line ≢ spelled (version_of old.version) l) → RefusesLine line old
unspelled_refused line old some none = refused_by line old
    (λ is h. some is.count)
    (λ b is h.
    let never : (l : Line) → IsLine b.version l → line ≢ spelled b.version l = subst (λ (v : Version). (l : Line) → IsLine v l → line ≢ spelled v l) is.version none in
    never h.next (line_from_follows b.version h.next b.lines is.are.1 h.follows) h.is)

pub next_refused : (line : Text) (l : Line) (old : LoadState) → old.lines ≢ 0 → IsLine (version_of old.version) l → line ≡ spelled (version_of old.version) l → MayNotFollow l old → RefusesLine line old
next_refused line l old some valid e never = refused_by line old
    (λ is f. some is.count)
    (λ b is h.
    let valid_here : IsLine b.version l = subst (λ (v : Version). IsLine v l) is.version valid in
    let here : line ≡ spelled b.version l = e ∙ ap (λ (v : Version). spelled v l) is.version in
    let same : h.next ≡ l = line_injective b.version h.next l (line_from_follows b.version h.next b.lines is.are.1 h.follows) valid_here (sym h.is ∙ here) in
    never b is (subst (λ (k : Line). MayFollow b.version k b.lines) same h.follows))

pub next_loaded : (line : Text) (l : Line) (old new : LoadState) → old.lines ≢ 0 → line ≡ spelled (version_of old.version) l → LoadsNext l old new → LoadsLine line old new
next_loaded line l old new some e loads None is = absurd (some is.count)
next_loaded line l old new some e loads (Some b) is = (with_line l b, loads b is, ap (λ (t : Text). text_of b ++ (t ++ 10 ∷ [])) (sym (e ∙ ap (λ (v : Version). spelled v l) is.version)))

-- what was read of a line: none, or a line that may follow or not
pub read_refused : (line : Text) (reported : Option ImageLine) (old : LoadState) → old.lines ≢ 0 → Spells (version_of old.version) line reported → IfSome reported (λ l. MayNotFollow (line_of l) old) → RefusesLine line old
read_refused line None old some spells never = unspelled_refused line old some spells
read_refused line (Some l) old some spells never = next_refused line (line_of l) old some spells.0 spells.1 never

pub read_loaded : (line : Text) (reported : Option ImageLine) (old new : LoadState) → old.lines ≢ 0 → Spells (version_of old.version) line reported → MatchOption reported ⊥ (λ l. LoadsNext (line_of l) old new) → LoadsLine line old new
read_loaded line None old new some spells loads = absurd loads
read_loaded line (Some l) old new some spells loads = next_loaded line (line_of l) old new some spells.1 loads

pub read_valid : (v : Version) (line : Text) (reported : Option ImageLine) → Spells v line reported → IfSome reported (λ l. IsLine v (line_of l))
read_valid v line None spells = tt
read_valid v line (Some l) spells = spells.0

-- the first line begins an image
pub root_loaded : (line : Text) (old new : LoadState) → old.lines ≡ 0 → LoadsRoot line old new → LoadsLine line old new
root_loaded line old new none loads None is =
    let (b, load_state, no_lines, line_is) = loads is in
    (b, load_state, ap (image_of_lines b.version b.root) no_lines ∙ ap (λ (t : Text). t ++ 10 ∷ []) (sym line_is))
root_loaded line old new none loads (Some b) is = absurd (let c : old.lines ≡ length b.lines + 1 = is.count in omega arith)

-- ---- texts piece by piece

-- nothing was read yet
pub nothing_read : (l : LoadState) → Means l.volume (alone (Dir 0 nothing)) → l.lines ≡ 0 → l.last ≡ [] → l.modified ≡ 0 → l.len ≡ None → l.next ≡ 0 → HasRead [] [] l
nothing_read l means lines last moment len at = record {
  so_far = None;
  load_state = record { are = tt; means = means; version = tt; count = lines; last = last; moment = sym moment; len = len; next = at };
  left = [];
  cut = refl;
  holds = holds_nothing;
}

-- what is buffered is the line, if it is short
line_is : (left items : Text) → Holds left items → length items ≤ 65536 → items ≡ left
line_is left items h short = ⊎_elim
    (λ (l : 65536 < length left). absurd (let g : 65536 < length items = h.long l in omega arith))
    (λ (l : length left ≤ 65536). h.short l)
    (cases_lt 65536 (length left))

-- a line feed ends a line that was loaded
pub line_read : (text items : Text) (old new : LoadState) → length items ≤ 65536 → LoadsLine items old new → HasRead text items old → HasRead (text ++ 10 ∷ []) [] new
line_read text items old new short loads h =
    let is : items ≡ h.left = line_is h.left items h.holds short in
    let done : (b : Begun) × IsLoading (Some b) new × (text_of b ≡ text_so_far h.so_far ++ (items ++ 10 ∷ [])) = loads h.so_far h.load_state in
    record {
      so_far = Some done.0;
      load_state = done.1;
      left = [];
      cut = ap (λ (t : Text). t ++ 10 ∷ []) h.cut ∙ append_assoc (text_so_far h.so_far) h.left (10 ∷ []) ∙ ap (λ (t : Text). text_so_far h.so_far ++ (t ++ 10 ∷ [])) (sym is) ∙ sym done.2 ∙ sym (append-nil (text_of done.0));
      holds = holds_nothing;
    }

-- if a line fails, so does the part of it that is kept
refused_left : (left items : Text) (l : LoadState) → Holds left items → RefusesLine items l → RefusesLine left l
refused_left left items l h refuses = ⊎_elim
    (λ (s : 65536 < length left). long_refused left l s)
    (λ (s : length left ≤ 65536). subst (λ (t : Text). RefusesLine t l) (h.short s) refuses)
    (cases_lt 65536 (length left))

bad_at : (s : Option Begun) (left rest : Text) (n : ℕ) → AreSoFar s → NoFeed left → n ≡ count_so_far s + 1 → (IsSomeImage (text_so_far s ++ (left ++ 10 ∷ [])) → ⊥) → IsBadAt n (text_so_far s ++ (left ++ 10 ∷ rest))
bad_at None left rest n are free count bad = subst (λ (k : ℕ). IsBadAt k (left ++ 10 ∷ rest)) (let e : 1 ≡ n = omega arith in e) (bad_first_line left rest free bad)
bad_at (Some b) left rest n are free count bad = bad_line b.version b.root b.lines n left rest are.0 are.1 free (omega arith) bad

-- and it makes the text no image
pub line_bad : (text items rest : Text) (n : ℕ) (l : LoadState) → n ≡ l.lines + 1 → RefusesLine items l → HasRead text items l → IsBadAt n (text ++ 10 ∷ rest)
line_bad text items rest n l count refuses h =
    let free : NoFeed h.left = no_feed h.left h.holds.free in
    let lines : l.lines ≡ count_so_far h.so_far = h.load_state.count in
    subst (IsBadAt n) (sym (append_assoc (text_so_far h.so_far) h.left (10 ∷ rest)) ∙ ap (λ (t : Text). t ++ 10 ∷ rest) (sym h.cut))
    (bad_at h.so_far h.left rest n h.load_state.are free (omega arith) (λ is. refused_left h.left items l h.holds refuses h.so_far h.load_state h.holds.free is))

-- ---- at the end of a text

pub ended : (items : Text) (l : LoadState) → length items ≡ 0 → l.lines ≢ 0 → LoadsEnd items l
ended items l none some text h = go h.so_far h.load_state h.left h.cut (left_none h.left items h.holds none)
  where
    left_none : (left items : Text) → Holds left items → length items ≡ 0 → left ≡ []
    left_none left [] holds e = sym (line_is left [] holds (omega arith))
    left_none left (x ∷ items) holds e = absurd (omega arith)

    go : (s : Option Begun) → IsLoading s l → (left : Text) → text ≡ text_so_far s ++ left → left ≡ [] → (b : Begun) × IsLoading (Some b) l × (text ≡ text_of b)
    go None is left cut e = absurd (some is.count)
    go (Some b) is left cut e = (b, is, cut ∙ ap (λ (t : Text). text_of b ++ t) e ∙ append-nil (text_of b))

pub end_refused : (items : Text) (n : ℕ) (l : LoadState) → n ≡ l.lines + 1 → (0 < length items) ⊎ (l.lines ≡ 0) → RefusesEnd items n l
end_refused items n l count bad text h = subst (IsBadAt n) (sym h.cut) (go h.so_far h.load_state h.left (no_feed h.left h.holds.free) some)
  where
    some : (0 < length h.left) ⊎ (l.lines ≡ 0)
    some = ⊎_elim
        (λ (s : 0 < length items). inl (held_some h.left items h.holds s))
        (λ (z : l.lines ≡ 0). inr z)
        bad
      where
        held_some : (left items : Text) → Holds left items → 0 < length items → 0 < length left
        held_some [] items holds s = absurd (let e : items ≡ [] = holds.short (omega arith) in let f : length items ≡ 0 = ap length e in omega arith)
        held_some (x ∷ left) items holds s = omega arith

    go : (s : Option Begun) → IsLoading s l → (left : Text) → NoFeed left → (0 < length left) ⊎ (l.lines ≡ 0) → IsBadAt n (text_so_far s ++ left)
    go None is left free b = subst (λ (k : ℕ). IsBadAt k left) (let c : l.lines ≡ 0 = is.count in let e : 1 ≡ n = omega arith in e) (bad_first_end left free)
    go (Some s) is [] free b = absurd (let c : l.lines ≡ length s.lines + 1 = is.count in ⊎_elim (λ (s : 0 < length {A = ℕ} []). omega arith) (λ (z : l.lines ≡ 0). omega arith) b)
    go (Some s) is (x ∷ left) free b = let c : l.lines ≡ length s.lines + 1 = is.count in bad_end s.version s.root s.lines n x left is.are.0 is.are.1 free (omega arith)

-- what was loaded abstracts to the tree of the image
pub loaded : (text : Text) (l : LoadState) → (b : Begun) × IsLoading (Some b) l × (text ≡ text_of b) → IsSomeImage text × Loaded text l.volume
loaded text l (b, is, text_is) =
    let m = lines_law b.version b.root b.lines is.are.0 is.are.1 in (
      (b.version, record { root = b.root; reported = is.are.0; lines = b.lines; are = is.are.1; is = text_is }),
      record { version = b.version; tree = tree_of_lines b.root b.lines; is_tree = m.0; image_is = m.1 ∙ sym text_is; reported = m.2; means = is.means },
    )

pub bad_number : (number n : ℕ) → ◌≡◌ {A = Result (Unit {0}) LoadFault} (Err (Bad number)) (Err (Bad n)) → number ≡ n
bad_number number n e = cc

-- an entry that was planted
pub planted_ok : (r : Snapped) (p : Path) (m : Meta) (old new : PVolume) → is_ok r ≡ true → Plants p m r old new → Plants p m (Ok tt) old new
planted_ok (Ok x) p m old new e h = h
planted_ok (Err f) p m old new e h = absurd (cc)

-- ---- the form of the volume

same_form : (v w : PVolume) → w.live.indexes.meta.tree.shape ≡ v.live.indexes.meta.tree.shape → w.live.indexes.block.tree.shape ≡ v.live.indexes.block.tree.shape → w.marks ≡ v.marks → form_of w ≡ form_of v
same_form v w m b k = λ i. record { meta = m i; block = b i; marks = k i }

-- messages that a tree receives do not change its shape
received_shape : {U V : Type 0} (means : U → Option V → Option V) (ms : List (Msg U V)) (a b : PTree U V) → Receives means ms a b → b.shape ≡ a.shape
received_shape {U} {V} means [] a b h = ap (λ (t : PTree U V). t.shape) h
received_shape {U} {V} means (m ∷ ms) a b h = h.shape_kept

pub counted_form : (call : Call) (at : ℕ) (v w : PVolume) → Counts call at v w → form_of w ≡ form_of v
counted_form call at v w h =
    let batch = h.1.batch in
    same_form v w
    (received_shape meta_means batch.msgs.meta v.live.indexes.meta.tree w.live.indexes.meta.tree batch.meta)
    (received_shape block_means batch.msgs.block v.live.indexes.block.tree w.live.indexes.block.tree batch.block)
    h.1.marks

pub planted_form : (v w : PVolume) (p : Path) (m : Meta) → Plants p m (Ok tt) v w → form_of w ≡ form_of v
planted_form v w p m h = same_form v w h.message.shape_kept (ap (λ (i : BlockIndex). i.tree.shape) h.block) h.marks

pub new_volume : (v : PVolume) (shape : Shape) → IsNew shape v → form_of v ≡ new_form shape
new_volume v shape new = λ i. record { meta = new.meta_shape i; block = new.block_shape i; marks = new.marks i }
