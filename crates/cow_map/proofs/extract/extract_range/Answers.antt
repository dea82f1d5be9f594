use Rattle.std.proofs.Common.{◌<◌, ◌∙◌, ◌++◌, ◌∷◌, [], ◌-◌, ap, append-nil, arith, drop, get_or, subst, sym, take}
use Rattle.cow_map.specs.CowMap.{joined}
use Rattle.cow_map.specs.Spans.{IsSpan}
use Rattle.cow_map.proofs.Spans.{span_kept, span_none, span_out, span_rows, span_same, span_taken}
use Rattle.cow_map.proofs.TableFacts.{rows_none}
use Rattle.cow_map.proofs.extract.extract_range.Goals as goal

pub returns-then-from-to-clause-out_rows : goal.returns-then-from-to-clause-out_rows
returns-then-from-to-clause-out_rows g c = rows_none c.new.result.items c.new.ensures.items

pub returns-then-from-to-clause-kept : goal.returns-then-from-to-clause-kept
returns-then-from-to-clause-kept g c =
    let range = c.args.range.now in
    let rs = c.args.rows.now.items in
    let n = c.in-Some.n in
    let i = c.in-Some.from in
    let j = c.in-Some.to in
    let s = subst (λ t. IsSpan range n i j t) c.as_slice.ensures.value c.in-Some.ensures in
    span_same range rs n i j s c.if-from-to.true

pub returns-then-from-to-clause-taken : goal.returns-then-from-to-clause-taken
returns-then-from-to-clause-taken g c =
    let range = c.args.range.now in
    let rs = c.args.rows.now.items in
    let n = c.in-Some.n in
    let i = c.in-Some.from in
    let j = c.in-Some.to in
    let s = subst (λ t. IsSpan range n i j t) c.as_slice.ensures.value c.in-Some.ensures in
    ap (λ t. joined t) c.new.ensures.items ∙ sym (span_none range rs n i j s c.if-from-to.true) ∙ span_taken range rs n i j s

pub returns-clause-rows : goal.returns-clause-rows
returns-clause-rows g c =
    let range = c.args.range.now in
    let rs = c.args.rows.now.items in
    let n = c.in-Some.n in
    let i = c.in-Some.from in
    let j = c.in-Some.to in
    let s = subst (λ t. IsSpan range n i j t) c.as_slice.ensures.value c.in-Some.ensures in
    span_rows range rs n i j s c.extract_between.new.rows.items c.in_ok-extract_between.ensures.kept c.requires

pub returns-clause-out_rows : goal.returns-clause-out_rows
returns-clause-out_rows g c =
    let range = c.args.range.now in
    let rs = c.args.rows.now.items in
    let n = c.in-Some.n in
    let i = c.in-Some.from in
    let j = c.in-Some.to in
    let s = subst (λ t. IsSpan range n i j t) c.as_slice.ensures.value c.in-Some.ensures in
    let e = c.push_reserved.ensures.items ∙ ap (λ t. t ++ c.in_ok-extract_between.field-0 ∷ []) c.in_ok-out.ensures.items ∙ ap (λ r. r ∷ []) c.in_ok-extract_between.ensures.taken in
    let some : i < j = omega (arith, s.order, c.if-from-to.false) in
    span_out range rs n i j s c.push_reserved.new.self.items some e c.requires

pub returns-clause-kept : goal.returns-clause-kept
returns-clause-kept g c =
    let range = c.args.range.now in
    let rs = c.args.rows.now.items in
    let n = c.in-Some.n in
    let i = c.in-Some.from in
    let j = c.in-Some.to in
    let s = subst (λ t. IsSpan range n i j t) c.as_slice.ensures.value c.in-Some.ensures in
    span_kept range rs n i j s c.extract_between.new.rows.items c.in_ok-extract_between.ensures.kept

pub returns-clause-taken : goal.returns-clause-taken
returns-clause-taken g c =
    let range = c.args.range.now in
    let rs = c.args.rows.now.items in
    let n = c.in-Some.n in
    let i = c.in-Some.from in
    let j = c.in-Some.to in
    let s = subst (λ t. IsSpan range n i j t) c.as_slice.ensures.value c.in-Some.ensures in
    let e = c.push_reserved.ensures.items ∙ ap (λ t. t ++ c.in_ok-extract_between.field-0 ∷ []) c.in_ok-out.ensures.items ∙ ap (λ r. r ∷ []) c.in_ok-extract_between.ensures.taken in
    ap (λ t. joined t) e ∙ append-nil (take (j - i) (drop i (get_or rs n []))) ∙ span_taken range rs n i j s
