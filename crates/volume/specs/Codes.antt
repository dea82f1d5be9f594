-- Codes of live indexes with their marks, and of a volume: each maps one to one into trees of numbers.
use Rattle.std.specs.Prelude.{ℕ, List, refl}
use Rattle.std.specs.Coded.{Coded, code_by, coded×, coded_list, coded_ℕ}
use Rattle.std.specs.FinMap as finite
use Rattle.call_compiler.specs.contracts.indexes.Indexes as indexes
use Rattle.call_compiler.specs.declared.indexes.Indexes.{Indexes}
use Rattle.volume.specs.declared.fs_root.FsRoot.{FsRoot}
use Rattle.jobs.specs.Codes.{coded_marks}
use Rattle.jobs.specs.declared.mark.Mark.{Mark}
use Rattle.volume.specs.Marked.{PMarks, PLive}
use Rattle.volume.specs.Volumes.{Kept, PVolume}

abbrev coded_counted : Coded PMarks
coded_counted = code_by (List Mark × (List Mark × ℕ)) (coded× coded_marks (coded× coded_marks coded_ℕ)) (λ m. (m.meta, (m.block, m.given))) (λ p. record { meta = p.0; block = p.1.0; given = p.1.1 }) (λ _. refl)

abbrev pub coded_live : Coded PLive
coded_live = code_by (Indexes × PMarks) (coded× indexes.the_row.coded coded_counted) (λ l. (l.indexes, l.marks)) (λ p. record { indexes = p.0; marks = p.1 }) (λ _. refl)

abbrev pub coded_rooted : Coded FsRoot
coded_rooted = code_by (Indexes × ℕ) (coded× indexes.the_row.coded coded_ℕ) (λ r. (r.indexes, r.modified)) (λ p. record { indexes = p.0; modified = p.1 }) (λ _. refl)

abbrev pub coded_kept : Coded Kept
coded_kept = finite.code (coded_list coded_ℕ) coded_rooted

abbrev pub coded_volume : Coded PVolume
coded_volume = code_by (FsRoot × (Kept × PMarks)) (coded× coded_rooted (coded× coded_kept coded_counted)) (λ v. (v.live, (v.snapshots, v.marks))) (λ p. record { live = p.0; snapshots = p.1.0; marks = p.1.1 }) (λ _. refl)
