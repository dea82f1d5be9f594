use Rattle.std.proofs.Common.{◌≡◌, ◌+◌, ◌++◌, ◌∷◌, [], ℕ, List, length, ap, arith, sym, subst, ◌∙◌, length-append}
use Rattle.change_log.specs.KeyLogs.{AreEnds, keys_of}
use Rattle.change_log.specs.Touched.{Touched, with_key}
use Rattle.change_log.proofs.Keys.{ends_more, keys_more}
use Rattle.change_log.proofs.key_log.KeyLog.note_key.Goals as goal
use Rattle.change_log.proofs.key_log.KeyLog.note_key.Goals.{After-push_reserved}

bytes_are : (c : After-push_reserved) → c.extend_from_slice.new.self.items ≡ c.self.inside.bytes.items ++ c.args.key.now
bytes_are c = c.in_ok-extend_from_slice.ensures.items ∙ ap (λ (k : List ℕ). c.self.inside.bytes.items ++ k) c.as_bytes.ensures

ends_are : (c : After-push_reserved) → c.push_reserved.new.self.items ≡ c.self.inside.ends.items ++ length c.extend_from_slice.new.self.items ∷ []
ends_are c = c.push_reserved.ensures.items ∙ (λ i. c.reserve.ensures.items i ++ (c.len-2.ensures ∙ c.extend_from_slice.new.self.ok.0) i ∷ [])

long : (c : After-push_reserved) → length c.extend_from_slice.new.self.items ≡ length c.self.inside.bytes.items + length c.args.key.now
long c = ap (λ (l : List ℕ). length l) (bytes_are c) ∙ length-append c.self.inside.bytes.items c.args.key.now

pub invariant_of-self-2 : goal.invariant_of-self-2
invariant_of-self-2 c =
    subst (λ (es : List ℕ). AreEnds 0 (length c.extend_from_slice.new.self.items) es) (sym (ends_are c))
    (ends_more 0 (length c.self.inside.bytes.items) (length c.extend_from_slice.new.self.items) c.self.inside.ends.items c.self.invariant (omega (arith, long c)))

pub returns : goal.returns
returns c =
    let bytes = c.self.inside.bytes.items in
    let ends = c.self.inside.ends.items in
    let n : ℕ = length c.extend_from_slice.new.self.items in
    ap (λ (ks : List (List ℕ)). record { keys = ks; ranges = c.self.inside.ranges.items })
    ((λ i. keys_of 0 (bytes_are c i) (ends_are c i)) ∙ keys_more 0 n bytes c.args.key.now ends c.self.invariant (omega (arith, long c)))
    ∙ ap (λ (t : Touched). with_key c.args.key.now t) c.self.view_is
