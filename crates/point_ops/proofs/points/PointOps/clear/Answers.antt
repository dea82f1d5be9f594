use Rattle.std.proofs.Common.{◌∙◌, ap, sym, not, arith}
use Rattle.std.specs.List.{filter, list_any}
use Rattle.pathkey.specs.Keys.{is_in}
use Rattle.point_ops.specs.PointOps.{point_count}
use Rattle.point_ops.proofs.Parting.{counted_filter, kept_all, runs_filter}
use Rattle.point_ops.proofs.points.PointOps.clear.Goals as goal

pub count_of-requires : goal.count_of-requires
count_of-requires g c =
    let counted = counted_filter (λ e. is_in c.args.range.now e.0) c.self.inside.rows c.extract_range.new.self c.in_ok-out.out c.in_ok-out.ensures.kept c.in_ok-out.ensures.taken in
    omega (arith, counted, c.self.invariant.counted, c.self.invariant.small)

pub overflow_sub-self : goal.overflow_sub-self
overflow_sub-self g c =
    let counted = counted_filter (λ e. is_in c.args.range.now e.0) c.self.inside.rows c.extract_range.new.self c.in_ok-out.out c.in_ok-out.ensures.kept c.in_ok-out.ensures.taken in
    omega (arith, counted, c.count_of.ensures, c.self.invariant.counted)

pub invariant_of-self-2 : goal.invariant_of-self-2
invariant_of-self-2 g c =
    let es = c.self.inside.rows in
    let counted = counted_filter (λ e. is_in c.args.range.now e.0) es c.extract_range.new.self c.in_ok-out.out c.in_ok-out.ensures.kept c.in_ok-out.ensures.taken in
    record {
      runs = runs_filter (λ e. not (is_in c.args.range.now e.0)) es c.extract_range.new.self c.in_ok-out.ensures.kept c.self.invariant.runs;
      counted = omega (arith, counted, c.count_of.ensures, c.self.invariant.counted);
      small = omega (arith, c.self.invariant.small);
    }

pub returns-then-not-has_within-clause-ok : goal.returns-then-not-has_within-clause-ok
returns-then-not-has_within-clause-ok g c =
    let es = c.args.self.now in
    let lo = c.args.range.now.lo in
    sym (kept_all (λ e. is_in c.args.range.now e.0) es (c.if-not-has_within.ensures ∙ ap (λ hi. list_any (λ e. is_in (record { lo = lo; hi = hi }) e.0) es) c.as_ref.ensures.value))

pub returns-clause-ok : goal.returns-clause-ok
returns-clause-ok g c = c.in_ok-out.ensures.kept ∙ ap (λ t. filter (λ e. not (is_in c.args.range.now e.0)) t) c.self.view_is

pub returns-clause-bound : goal.returns-clause-bound
returns-clause-bound g c =
    let counted = counted_filter (λ e. is_in c.args.range.now e.0) c.self.inside.rows c.extract_range.new.self c.in_ok-out.out c.in_ok-out.ensures.kept c.in_ok-out.ensures.taken in
    omega (arith, counted, ap (λ t. point_count t) c.self.view_is)
