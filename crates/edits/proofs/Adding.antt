-- An entry that is added while its parent keeps its mtime.
use Rattle.std.proofs.Common.{◌≡◌, ◌≢◌, ℕ, ◌^◌, [], ◌∷◌, length, replicate, false, Option, Some, None, Result, Ok, Err, arith, refl, sym, ◌∙◌}
use Rattle.std.proofs.lemmas.Bool.{le-ltb}
use Rattle.std.proofs.lemmas.List.{length-replicate}
use Rattle.pathkey.specs.Names.{parent}
use Rattle.pathkey.specs.declared.errno.Errno.{Errno}
use Rattle.reference.specs.Calls.{Outcome, first_fault, parent_fault, path_fault}
use Rattle.reference.specs.Plant.{Planted, faults_of_plant, fresh_entry, is_too_long, planted, planted_unless, with_plant}
use Rattle.reference.specs.Reads.{Directory, Sight, look, sight, sighted}
use Rattle.reference.specs.Shape.{IsContent, IsTree}
use Rattle.reference.specs.Tree.{At, Blocked, Found, Missing, Name, Path, Tree, entry_at}
use Rattle.reference.specs.declared.reply.Meta.{Meta}
use Rattle.reference.specs.declared.reply.Meta.TheVariants.{Dir as DirMeta, File as FileMeta}
use Rattle.reference.specs.declared.reply.Reply.{Reply}
use Rattle.reference.specs.declared.reply.Reply.TheVariants.{Done, Fault}
use Rattle.reference.proofs.Edits.{alike}
use Rattle.reference.proofs.Planting.{MayPlant, may_plant, no_fault_to_plant}
use Rattle.reference.proofs.Points.{Bare, bare_empty, bare_file, bare_none, point_from_edit}
use Rattle.reference.proofs.Standing.{directory_parent, file_sighted, parent_directory, parent_from_found}
use Rattle.edits.specs.Edits.{IsEdited, added}
use Rattle.edits.specs.declared.edit.Change.TheVariants.{Add}
use Rattle.edits.specs.declared.edit.Edit.{Edit}
use Rattle.edits.proofs.Removing.{parent_apart, root_seen, unfound_from}
use Rattle.edits.proofs.Ways.{CarriesOut, carries_done, edited_at}

-- what planting an entry comes to, as the outcome of a call
abbrev pub planting_reply : Result (Unit {0}) Errno → Reply
planting_reply (Ok given) = Done
planting_reply (Err e) = Fault e

abbrev pub planting : Planted → Outcome
planting x = (x.0, planting_reply x.1)

-- ---- what is planted

fresh_seen : (m : Meta) → sighted (Found (fresh_entry m)) ≡ Some (added m)
fresh_seen (DirMeta at) = refl
fresh_seen (FileMeta n at) = refl

fresh_bare : (m : Meta) → Bare (Found (fresh_entry m))
fresh_bare (DirMeta at) = bare_empty at
fresh_bare (FileMeta n at) = bare_file at (replicate n 0)

planted_edited : (t : Tree) (k : Name) (q : Path) (m : Meta) → sight t (k ∷ q) ≡ None → MayPlant t (k ∷ q) m → IsTree (with_plant t (k ∷ q) m) → IsEdited (record { path = k ∷ q; change = Add m }) t (with_plant t (k ∷ q) m)
planted_edited t k q m free may tree =
    edited_at (record { path = k ∷ q; change = Add m }) t (with_plant t (k ∷ q) m) (sighted (Found (fresh_entry m))) tree free (sym (fresh_seen m))
    (point_from_edit t (with_plant t (k ∷ q) m) (k ∷ q) (Some (fresh_entry m)) may.some may.parent_there (bare_none (entry_at t (k ∷ q)) may.free) (fresh_bare m) refl)

-- ---- what stands ready where a tree results

found_seen : (a : At) (s : Sight) → sighted a ≡ Some s → path_fault a ≡ None
found_seen (Found x) s h = refl
found_seen Missing s h = absurd (cc)
found_seen Blocked s h = absurd (cc)

short_enough : (t u : Tree) (p : Path) (m : Meta) → IsEdited (record { path = p; change = Add m }) t u → is_too_long m ≡ false
short_enough t u p (DirMeta at) h = refl
short_enough t u p (FileMeta n at) h =
    let content : IsContent (replicate n 0) = h.tree.files p at (replicate n 0) (file_sighted (entry_at u p) (replicate n 0) at h.itself) in
    let size : length (replicate {A = ℕ} n 0) ≡ n = length-replicate n 0 in
    le-ltb (2 ^ 40) n (omega (arith, content.few, size))

may_plant_from : (t u : Tree) (p : Path) (m : Meta) → p ≢ [] → IsEdited (record { path = p; change = Add m }) t u → MayPlant t p m
may_plant_from t u p m ne h =
    let in_u : parent_fault u p ≡ None = parent_from_found p u ne (found_seen (entry_at u p) (added m) h.itself) in
    let above : look u (parent p) ≡ Some Directory = parent_directory u p ne in_u in
    let same : look u (parent p) ≡ look t (parent p) = alike u t (parent p) (parent p) (h.other (parent p) (parent_apart p ne)) in
    record {
      some = ne;
      parent_there = directory_parent t p (sym same ∙ above);
      free = unfound_from (entry_at t p) h.fits;
      short = short_enough t u p m h;
    }

-- an entry that is planted where nothing is seen is added, unless its parent is no directory or it is too long
pub plant_carries : (t : Tree) (p : Path) (m : Meta) → IsTree t → sight t p ≡ None → CarriesOut (record { path = p; change = Add m }) t (planting (planted t p m))
plant_carries t [] m is free = absurd (root_seen t is.root free)
plant_carries t (k ∷ q) m is free = cases (first_fault (faults_of_plant t (k ∷ q) m)) refl
  where
    e : Edit
    e = record { path = k ∷ q; change = Add m }

    cases : (f : Option Errno) → first_fault (faults_of_plant t (k ∷ q) m) ≡ f → CarriesOut e t (planting (planted_unless t (with_plant t (k ∷ q) m) f))
    cases None none = carries_done e t (with_plant t (k ∷ q) m) Done (with_plant t (k ∷ q) m, Done) refl refl (planted_edited t k q m free (may_plant t k q m none))
    cases (Some f) some = record {
      done = λ none tree. absurd (cc);
      possible = λ u h. absurd (let z : Some f ≡ None = sym some ∙ no_fault_to_plant t (k ∷ q) m (may_plant_from t u (k ∷ q) m (λ x. cc) h) in cc);
    }
