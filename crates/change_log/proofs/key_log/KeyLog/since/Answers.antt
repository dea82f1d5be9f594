use Rattle.std.proofs.Common.{◌≡◌, ◌||◌, Bool, ap, drop, List, sym, ◌∙◌}
use Rattle.std.specs.List.{list_any}
use Rattle.std.proofs.lemmas.List.Sorted.{list_any-IsPermutation}
use Rattle.pathkey.specs.Keys.{is_in}
use Rattle.pathkey.specs.Order.{same}
use Rattle.pathkey.specs.declared.range.KeyRange.{KeyRange}
use Rattle.change_log.specs.KeyLogs.{keys_of, since}
use Rattle.change_log.specs.Touched.{Touched, is_touched}
use Rattle.change_log.proofs.key_log.KeyLog.since.Goals as goal

pub returns-clause-touched : goal.returns-clause-touched
returns-clause-touched c = λ k.
    let p = c.args.position in
    let keys : c.in_ok-keys.keys.items ≡ drop p.keys (keys_of 0 c.self.inside.bytes.items c.self.inside.ends.items) =
    c.in_ok-keys.ensures ∙ (λ i. drop p.keys (keys_of 0 (c.as_slice.ensures.value i) (c.as_slice-2.ensures.value i)))
    in
    let ranges : c.in_ok-ranges.ranges.items ≡ drop p.ranges c.self.inside.ranges.items =
    c.in_ok-ranges.ensures ∙ ap (λ (rs : List KeyRange). drop p.ranges rs) c.as_slice-3.ensures.value
    in
    sym (ap (λ (b : Bool). b || list_any (λ r. is_in r k) c.in_ok-ranges.ranges.items) (list_any-IsPermutation (λ q. same q k) c.in_ok-keys.keys.items c.sort.new.self.items c.sort.ensures.permutation))
    ∙ (λ i. list_any (λ q. same q k) (keys i) || list_any (λ r. is_in r k) (ranges i))
    ∙ ap (λ (t : Touched). is_touched (since p t) k) c.self.view_is
