use Rattle.std.proofs.Common.{◌≡◌, ◌+◌, ◌++◌, [], ℕ, List, arith, drop, sym, subst, ◌∙◌}
use Rattle.std.proofs.lemmas.List.{get_or_default}
use Rattle.change_log.specs.KeyLogs.{keys_of}
use Rattle.change_log.proofs.Keys.{copied_all, copied_more, length-keys_of}
use Rattle.change_log.proofs.key_log.keys_from.Goals as goal

pub loop-index-preserved : goal.loop-index-preserved
loop-index-preserved c =
    let keys = keys_of 0 c.args.bytes.now c.args.ends.now in
    let long = length-keys_of 0 c.args.bytes.now c.args.ends.now in
    let key = c.in_ok-key_at.field-0 in
    subst (λ (ks : List (List ℕ)). ks ++ drop (c.loop-index.index + 1) keys ≡ drop c.args.first keys) (sym c.in_ok-push.ensures.items)
    (copied_more (drop c.args.first keys) keys c.loop-index.keys.items c.loop-index.index key (omega (arith, long)) c.loop-index.invariant
    (c.in_ok-key_at.ensures ∙ get_or_default keys c.loop-index.index [] key (omega (arith, long))))

pub returns : goal.returns
returns c =
    let keys = keys_of 0 c.args.bytes.now c.args.ends.now in
    copied_all (drop c.args.first keys) keys c.loop-index.keys.items c.loop-index.index (omega (arith, length-keys_of 0 c.args.bytes.now c.args.ends.now)) c.loop-index.invariant
