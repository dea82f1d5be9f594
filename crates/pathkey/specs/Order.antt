-- Byte order of names and of keys: lexicographic, and a prefix comes first.
use Rattle.std.specs.Prelude.{ℕ, List, Bool}
use Rattle.std.specs.declared.cmp.Ordering.{Ordering}
use Rattle.std.specs.Cmp.{IsTotalOrder, IsEquivalence, IsPartialEquivalence, partial_equiv_from_equiv}
use Rattle.std.specs.Cmp.Lexicographic.{slice_cmp}
use Rattle.std.specs.Ordering.{nat_cmp, is_eq, eq_by_cmp}
use Rattle.std.proofs.lemmas.Cmp.{nat_list_cmp_total, eq_by_cmp_equiv}

-- byte order
abbrev pub by_bytes : List ℕ → List ℕ → Ordering
by_bytes a b = slice_cmp nat_cmp a b

-- whether two lists of bytes are equal
abbrev pub same : List ℕ → List ℕ → Bool
same a b = is_eq (by_bytes a b)

-- it is a total order
pub by_bytes_total : IsTotalOrder by_bytes
by_bytes_total = nat_list_cmp_total

-- its equality is an equivalence
pub by_bytes_equiv : IsEquivalence (eq_by_cmp by_bytes)
by_bytes_equiv = eq_by_cmp_equiv by_bytes_total

-- and so a partial one
pub by_bytes_partial_equiv : IsPartialEquivalence (eq_by_cmp by_bytes)
by_bytes_partial_equiv = partial_equiv_from_equiv by_bytes_equiv
