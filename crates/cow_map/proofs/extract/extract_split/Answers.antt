use Rattle.std.proofs.Common.{◌≡◌, ◌∙◌, ◌++◌, ap, subst, sym}
use Rattle.cow_map.specs.Places.{Rises, AreBelow, AreBeyond}
use Rattle.cow_map.specs.CowMap.{joined}
use Rattle.cow_map.proofs.Cuts.{kept, kept_rises, kept_rows, taken}
use Rattle.cow_map.proofs.TableFacts.{joined-append}
use Rattle.cow_map.proofs.extract.extract_split.Goals as goal

pub merge_small-requires : goal.merge_small-requires
merge_small-requires g c =
    let all = joined c.args.rows.now.items in
    let front = joined c.split_chunks_at.new.rows.items in
    let rest = joined c.in_ok-out.out.items in
    let mid = joined c.split_off_end.new.rows.items in
    let back = joined c.in-Ok.later.items in
    let range = c.args.range.now in
    let parts : all ≡ front ++ rest = ap (λ t. joined t) (sym c.reserve.ensures.items) ∙ c.in_ok-out.ensures.parts in
    let below = subst (λ h. AreBelow h mid) c.as_ref.ensures.value c.in-Ok.ensures.front in
    let beyond = subst (λ h. AreBeyond h back) c.as_ref.ensures.value c.in-Ok.ensures.back in
    kept_rows c.split_chunks_at.new.rows.items c.in-Ok.later.items c.put_behind.new.rows.items c.put_behind.ensures (kept_rises range all front rest mid back parts c.in-Ok.ensures.parts c.in_ok-out.ensures.front c.in_ok-out.ensures.back below beyond c.requires.rises) c.split_chunks_at.ensures.rows c.in-Ok.ensures.back_rows

pub returns-in-Ok-clause-kept : goal.returns-in-Ok-clause-kept
returns-in-Ok-clause-kept g c =
    let all = joined c.args.rows.now.items in
    let front = joined c.split_chunks_at.new.rows.items in
    let rest = joined c.in_ok-out.out.items in
    let mid = joined c.split_off_end.new.rows.items in
    let back = joined c.in-Ok.later.items in
    let range = c.args.range.now in
    let parts : all ≡ front ++ rest = ap (λ t. joined t) (sym c.reserve.ensures.items) ∙ c.in_ok-out.ensures.parts in
    let below = subst (λ h. AreBelow h mid) c.as_ref.ensures.value c.in-Ok.ensures.front in
    let beyond = subst (λ h. AreBeyond h back) c.as_ref.ensures.value c.in-Ok.ensures.back in
    c.merge_small.ensures.same ∙ ap (λ t. joined t) c.put_behind.ensures ∙ joined-append c.split_chunks_at.new.rows.items c.in-Ok.later.items ∙ kept range all front rest mid back parts c.in-Ok.ensures.parts c.in_ok-out.ensures.front c.in_ok-out.ensures.back below beyond

pub returns-in-Ok-clause-taken : goal.returns-in-Ok-clause-taken
returns-in-Ok-clause-taken g c =
    let all = joined c.args.rows.now.items in
    let front = joined c.split_chunks_at.new.rows.items in
    let rest = joined c.in_ok-out.out.items in
    let mid = joined c.split_off_end.new.rows.items in
    let back = joined c.in-Ok.later.items in
    let range = c.args.range.now in
    let parts : all ≡ front ++ rest = ap (λ t. joined t) (sym c.reserve.ensures.items) ∙ c.in_ok-out.ensures.parts in
    let below = subst (λ h. AreBelow h mid) c.as_ref.ensures.value c.in-Ok.ensures.front in
    let beyond = subst (λ h. AreBeyond h back) c.as_ref.ensures.value c.in-Ok.ensures.back in
    taken range all front rest mid back parts c.in-Ok.ensures.parts c.in_ok-out.ensures.front c.in_ok-out.ensures.back below beyond

pub returns-in-Err-clause-rows : goal.returns-in-Err-clause-rows
returns-in-Err-clause-rows g c =
    let all = joined c.args.rows.now.items in
    let front = joined c.split_chunks_at.new.rows.items in
    let out = joined c.split_off_end.new.rows.items in
    let parts : all ≡ front ++ joined c.in_ok-out.out.items = ap (λ t. joined t) (sym c.reserve.ensures.items) ∙ c.in_ok-out.ensures.parts in
    let same : front ++ out ≡ all = ap (λ t. front ++ t) c.in-Err.ensures.err ∙ sym parts in
    kept_rows c.split_chunks_at.new.rows.items c.split_off_end.new.rows.items c.put_behind-in-Err.new.rows.items c.put_behind-in-Err.ensures (subst (λ t. Rises t) (sym same) c.requires.rises) c.split_chunks_at.ensures.rows c.split_off_end.ensures.rows

pub returns-in-Err-clause-err : goal.returns-in-Err-clause-err
returns-in-Err-clause-err g c =
    let all = joined c.args.rows.now.items in
    let front = joined c.split_chunks_at.new.rows.items in
    let out = joined c.split_off_end.new.rows.items in
    let parts : all ≡ front ++ joined c.in_ok-out.out.items = ap (λ t. joined t) (sym c.reserve.ensures.items) ∙ c.in_ok-out.ensures.parts in
    let same : front ++ out ≡ all = ap (λ t. front ++ t) c.in-Err.ensures.err ∙ sym parts in
    ap (λ t. joined t) c.put_behind-in-Err.ensures ∙ joined-append c.split_chunks_at.new.rows.items c.split_off_end.new.rows.items ∙ same
