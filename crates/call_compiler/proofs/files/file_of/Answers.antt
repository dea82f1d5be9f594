use Rattle.std.proofs.Common.{◌≡◌, ◌∙◌, ℕ, ◌≤◌, true, false, refl, ap, sym, arith}
use Rattle.std.specs.Prelude.{Bool, ◌==◌, ◌&&◌, min, nat_le}
use Rattle.std.proofs.lemmas.Bool.{leb-true, leb-false, le-leb, lt-leb}
use Rattle.reference.specs.Calls.{greatest_file}
use Rattle.reference.specs.declared.reply.Meta.TheVariants.{File as FileMeta}
use Rattle.meta_index.specs.declared.at.At.{At}
use Rattle.meta_index.specs.declared.at.At.TheVariants.{Found}
use Rattle.meta_index.specs.Means.{found_meta}
use Rattle.call_compiler.specs.Compiled.{has_grown, meta_has_grown}
use Rattle.call_compiler.proofs.files.file_of.Goals as goal

-- a number within a limit is at most a length exactly if it is at most the limited length
reached : (n len most : ℕ) → n ≤ most → nat_le n (min len most) ≡ nat_le n len
reached n len most within = elim (nat_le n len) as (λ b. nat_le n len ≡ b → nat_le n (min len most) ≡ b) [
  | true ↦ λ e. le-leb n (min len most) (omega (arith, leb-true n len e))
  | false ↦ λ e. lt-leb n (min len most) (omega (arith, leb-false n len e))
] refl

grown_by : (at : At) (len date short : ℕ) → at ≡ Found (FileMeta len date) → short ≡ min len greatest_file → (n moment : ℕ) → n ≤ greatest_file → has_grown n moment short date ≡ meta_has_grown n moment (found_meta at)
grown_by at len date short is cut n moment within =
    ap (λ (l : ℕ). has_grown n moment l date) cut ∙ ap (λ (b : Bool). b && (date == moment)) (reached n len greatest_file within) ∙ sym (ap (λ (a : At). meta_has_grown n moment (found_meta a)) is)

pub returns-in-Found-File-clause-grown : goal.returns-in-Found-File-clause-grown
returns-in-Found-File-clause-grown c =
    let file = rw c.in-Found-File.is at c.in-Found-File.field-0-is in
    grown_by c.args.at c.in-Found-File.len c.in-Found-File.modified c.min.result (c.in-Found-File.is ∙ ap Found file) c.min.ensures
