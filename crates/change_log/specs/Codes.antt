-- Codes of what was touched: each maps one to one into trees of numbers.
use Rattle.std.specs.Prelude.{ℕ, List, Option, refl}
use Rattle.std.specs.Coded.{Coded, coded_ℕ, coded_list, coded×, code_by, coded_option}
use Rattle.pathkey.specs.Keys.{Key}
use Rattle.pathkey.specs.declared.range.KeyRange.{KeyRange}
use Rattle.change_log.specs.Touched.{Touched}
use Rattle.change_log.specs.Snapshots.{Since}

abbrev coded_key : Coded (List ℕ)
coded_key = coded_list coded_ℕ

abbrev coded_range : Coded KeyRange
coded_range = code_by (List ℕ × Option (List ℕ)) (coded× coded_key (coded_option coded_key)) (λ r. (r.lo, r.hi)) (λ p. record { lo = p.0; hi = p.1 }) (λ _. refl)

abbrev pub coded_touched : Coded Touched
coded_touched = code_by (List Key × List KeyRange) (coded× (coded_list coded_key) (coded_list coded_range)) (λ t. (t.keys, t.ranges)) (λ p. record { keys = p.0; ranges = p.1 }) (λ _. refl)

abbrev coded_since : Coded Since
coded_since = code_by (List ℕ × (Touched × Touched)) (coded× coded_key (coded× coded_touched coded_touched)) (λ s. (s.name, (s.meta, s.block))) (λ p. record { name = p.0; meta = p.1.0; block = p.1.1 }) (λ _. refl)

abbrev pub coded_log : Coded (List Since)
coded_log = coded_list coded_since
