-- Trees of a volume that texts name, and what they differ in.
use Rattle.std.proofs.Common.{◌≡◌, ◌≢◌, ◌⊎◌, inl, inr, ℕ, List, [], ◌∷◌, ◌++◌, length, ◌==◌, false, refl, sym, ap, subst, ◌∙◌, Some, Result, Ok, Err, IfOk, IfErr, OnOk, MatchResult}
use Rattle.std.proofs.lemmas.Bool.{eqb-false}
use Rattle.std.specs.Result.{is_err}
use Rattle.pathkey.specs.SnapNames.{snap_parsed}
use Rattle.pathkey.specs.declared.errno.Errno.{Errno}
use Rattle.pathkey.specs.declared.errno.Errno.TheVariants.{ENOMEM}
use Rattle.reference.specs.Image.{Second, image}
use Rattle.reference.specs.Tree.{Tree}
use Rattle.reference.specs.Worlds.{World}
use Rattle.sha2.specs.Sha256.{sha256}
use Rattle.volume.specs.HistoryOf.{Finds}
use Rattle.volume.specs.Volumes.{MeanRooted, Means, PVolume}
use Rattle.volume.specs.declared.fs_root.FsRoot.{FsRoot}
use Rattle.delta.specs.Applies.{AppendsDelta, IsDifference}
use Rattle.ffi_calls.specs.Differences.{DiffersSo, IsKept, IsNotKept, LacksTree, NamesTree, PrintsDifference}
use Rattle.ffi_calls.specs.Reads.{copied}
use Rattle.ffi_calls.specs.Snapshots.{FindsNamed}

-- a tree of a world that a text names
abbrev pub Named : List ℕ → World → FsRoot → Type 0
Named name w i = (t : Tree) × NamesTree name w t × MeanRooted i t

-- ---- the live tree

pub live_found : (name : List ℕ) (v : PVolume) (w : World) (r : Result FsRoot Errno) → name ≡ [] → Means v w → MatchResult r (λ f. f ≡ v.live) (λ e. e ≡ ENOMEM) → IfOk r (Named name w)
live_found name v w (Ok i) none m is =
    (w.live, subst (λ (n : List ℕ). NamesTree n w w.live) (sym none) refl, subst (λ (j : FsRoot). MeanRooted j w.live) (sym is) m.live)
live_found name v w (Err e) none m is = tt

pub live_lacks : (name : List ℕ) (v : PVolume) (w : World) (r : Result FsRoot Errno) → name ≡ [] → MatchResult r (λ f. f ≡ v.live) (λ e. e ≡ ENOMEM) → IfErr r (LacksTree name w)
live_lacks name v w (Ok i) none is = tt
live_lacks name v w (Err e) none is = subst (λ (n : List ℕ). LacksTree n w e) (sym none) is

-- ---- a snapshot's

pub not_none : (name : List ℕ) → (length name == 0) ≡ false → name ≢ []
not_none name h e = eqb-false (length name) 0 h (ap length e)

kept_found_of : (p name : Result (List ℕ) Errno) (v : PVolume) (w : World) (r : Result FsRoot Errno) → name ≡ p → Means v w → FindsNamed p v r → IfOk r (λ i. (t : Tree) × IsKept name w t × MeanRooted i t)
kept_found_of (Err f) name v w r is m finds = subst (λ (q : Result FsRoot Errno). IfOk q (λ i. (t : Tree) × IsKept name w t × MeanRooted i t)) (sym finds) tt
kept_found_of (Ok s) name v w (Err e) is m finds = tt
kept_found_of (Ok s) name v w (Ok i) is m (inl kept) =
    let finds : Finds s (Ok i) w = kept.means w m in
    let (t, found, means) = finds.found in
    (t, subst (λ (q : Result (List ℕ) Errno). IsKept q w t) (sym is) found, means)
kept_found_of (Ok s) name v w (Ok i) is m (inr refused) = absurd (cc)

pub kept_found : (name : List ℕ) (v : PVolume) (w : World) (r : Result FsRoot Errno) → name ≢ [] → Means v w → FindsNamed (snap_parsed name) v r → IfOk r (Named name w)
kept_found [] v w r some m finds = absurd (some refl)
kept_found (b ∷ name) v w r some m finds = kept_found_of (snap_parsed (b ∷ name)) (snap_parsed (b ∷ name)) v w r refl m finds

not_kept : (s : List ℕ) (w : World) (e : Errno) → Finds s (Err e) w → IsNotKept (Ok s) w e ⊎ (e ≡ ENOMEM)
not_kept s w e finds = elim finds.found [
  | inl none ↦ inl (none, finds.none.0 (ap Err none))
  | inr refused ↦ inr refused
]

kept_lacks_of : (p name : Result (List ℕ) Errno) (v : PVolume) (w : World) (r : Result FsRoot Errno) → name ≡ p → Means v w → FindsNamed p v r → IfErr r (λ e. IsNotKept name w e ⊎ (e ≡ ENOMEM))
kept_lacks_of (Err f) name v w r is m finds =
    subst (λ (q : Result FsRoot Errno). IfErr q (λ e. IsNotKept name w e ⊎ (e ≡ ENOMEM))) (sym finds) (inl (subst (λ (q : Result (List ℕ) Errno). IsNotKept q w f) (sym is) refl))
kept_lacks_of (Ok s) name v w (Ok i) is m finds = tt
kept_lacks_of (Ok s) name v w (Err e) is m (inl kept) = subst (λ (q : Result (List ℕ) Errno). IsNotKept q w e ⊎ (e ≡ ENOMEM)) (sym is) (not_kept s w e (kept.means w m))
kept_lacks_of (Ok s) name v w (Err e) is m (inr refused) = inr (cc)

pub kept_lacks : (name : List ℕ) (v : PVolume) (w : World) (r : Result FsRoot Errno) → name ≢ [] → Means v w → FindsNamed (snap_parsed name) v r → IfErr r (LacksTree name w)
kept_lacks [] v w r some m finds = absurd (some refl)
kept_lacks (b ∷ name) v w r some m finds = kept_lacks_of (snap_parsed (b ∷ name)) (snap_parsed (b ∷ name)) v w r refl m finds

-- ---- either

pub memory_lacks : (name : List ℕ) (w : World) → LacksTree name w ENOMEM
memory_lacks [] w = refl
memory_lacks (b ∷ name) w = inr refl

same_kept : (p : Result (List ℕ) Errno) (w : World) (t u : Tree) → IsKept p w t → IsKept p w u → t ≡ u
same_kept (Err e) w t u a b = absurd a
same_kept (Ok s) w t u a b = (cc)

-- a text names one tree
pub names_one : (name : List ℕ) (w : World) (t u : Tree) → NamesTree name w t → NamesTree name w u → t ≡ u
names_one [] w t u a b = a ∙ sym b
names_one (b ∷ name) w t u f g = same_kept (snap_parsed (b ∷ name)) w t u f g

pub digest_named : (name : List ℕ) (w : World) (i : FsRoot) (digest : List ℕ) → Named name w i → ((t : Tree) → MeanRooted i t → digest ≡ sha256 (image Second t)) → (t : Tree) → NamesTree name w t → digest ≡ sha256 (image Second t)
digest_named name w i digest (u, names, means) is t also = is u means ∙ ap (λ x. sha256 (image Second x)) (names_one name w u t names also)

-- ---- what they differ in

pub differs_so : {V : Type 0} (items : V → List ℕ) (old new : List ℕ) (w : World) (i j : FsRoot) (digest : List ℕ) (r : Result V Errno) → Named old w i → Named new w j
    → ((t : Tree) → NamesTree old w t → digest ≡ sha256 (image Second t))
    → ((t u : Tree) → MeanRooted i t → MeanRooted j u → digest ≡ sha256 (image Second t) → IfOk r (λ v. IsDifference (items v) t u)) → IfOk r (λ v. DiffersSo old new w (items v))
differs_so items old new w i j digest (Ok v) (t, from, means) (u, to, also) is printed = (t, u, from, to, printed t u means also (is t from))
differs_so items old new w i j digest (Err e) from to is printed = tt

-- what was printed into an empty text is all of it
pub printed_text : {E : Type 0} (r : Result (Unit {0}) E) (t u : Tree) (had has : List ℕ) → is_err r ≡ false → had ≡ [] → OnOk r (AppendsDelta (Some had) (Some has) t u) → IsDifference has t u
printed_text (Ok x) t u had has whole none (text, is, more) = subst (λ (b : List ℕ). IsDifference b t u) (sym (more ∙ ap (λ b. b ++ text) none)) is
printed_text (Err e) t u had has whole none printed = absurd (cc)

pub copied_difference : (old new : List ℕ) (w : World) (text before after : List ℕ) (n : ℕ) → DiffersSo old new w text → n ≡ length text → after ≡ copied text before → PrintsDifference old new w (Ok n) before after
copied_difference old new w text before after n differs size is = (text, differs, (size, is))
