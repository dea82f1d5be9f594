-- Codes of a tree with its marks, of jobs and of what is built: each maps one to one into trees of numbers.
use Rattle.std.specs.Prelude.{ℕ, List, Option, refl}
use Rattle.std.specs.Coded.{Coded, coded_ℕ, coded_list, coded×, code_by, coded_option}
use Rattle.pathkey.specs.declared.range.KeyRange.{KeyRange}
use Rattle.message.specs.declared.msg.Msg.{Msg}
use Rattle.node.specs.Codes.{coded_whole, coded_msg}
use Rattle.node.specs.Pure.{PTree}
use Rattle.jobs.specs.Job.{PJob, PDone}
use Rattle.jobs.specs.declared.mark.Mark.{Mark}
use Rattle.jobs.specs.Marks.{PMarked}

abbrev coded_range : Coded KeyRange
coded_range = code_by (List ℕ × Option (List ℕ)) (coded× (coded_list coded_ℕ) (coded_option (coded_list coded_ℕ))) (λ r. (r.lo, r.hi)) (λ p. record { lo = p.0; hi = p.1 }) (λ _. refl)

abbrev coded_mark : Coded Mark
coded_mark = code_by (ℕ × (KeyRange × ℕ)) (coded× coded_ℕ (coded× coded_range coded_ℕ)) (λ m. (m.ticket, (m.range, m.count))) (λ p. record { ticket = p.0; range = p.1.0; count = p.1.1 }) (λ _. refl)

abbrev pub coded_marks : Coded (List Mark)
coded_marks = coded_list coded_mark

-- shape and child stand as those of a tree
abbrev pub coded_job : {U V : Type 0} → Coded U → Coded V → Coded (PJob U V)
coded_job {U} {V} u v = code_by (ℕ × (PTree U V × (KeyRange × List (Msg U V)))) (coded× coded_ℕ (coded× (coded_whole u v) (coded× coded_range (coded_list (coded_msg u v))))) (λ j. (j.ticket, (record { shape = j.shape; root = j.child }, (j.range, j.msgs)))) (λ p. record { ticket = p.0; shape = p.1.0.shape; range = p.1.1.0; msgs = p.1.1.1; child = p.1.0.root }) (λ _. refl)

abbrev pub coded_done : {U V : Type 0} → Coded U → Coded V → Coded (PDone U V)
coded_done {U} {V} u v = code_by (ℕ × (PTree U V × (KeyRange × ℕ))) (coded× coded_ℕ (coded× (coded_whole u v) (coded× coded_range coded_ℕ))) (λ d. (d.ticket, (record { shape = d.shape; root = d.child }, (d.range, d.count)))) (λ p. record { ticket = p.0; shape = p.1.0.shape; range = p.1.1.0; count = p.1.1.1; child = p.1.0.root }) (λ _. refl)

abbrev pub coded_marked : {U V : Type 0} → Coded U → Coded V → Coded (PMarked U V)
coded_marked {U} {V} u v = code_by (PTree U V × (List Mark × ℕ)) (coded× (coded_whole u v) (coded× coded_marks coded_ℕ)) (λ m. (m.tree, (m.marks, m.given))) (λ p. record { tree = p.0; marks = p.1.0; given = p.1.1 }) (λ _. refl)
