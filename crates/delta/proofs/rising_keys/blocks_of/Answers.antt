use Rattle.std.proofs.Common.{◌+◌, ◌++◌, ◌∷◌, [], arith, ap, sym, take, ◌∙◌}
use Rattle.std.proofs.lemmas.List.{take_more}
use Rattle.pathkey.specs.Keys.{Key}
use Rattle.delta.proofs.RisingFacts.{found_more}
use Rattle.delta.proofs.rising_keys.blocks_of.Goals as goal

pub loop-key-preserved : goal.loop-key-preserved
loop-key-preserved c =
    let ks = c.args.keys.now in
    let i = c.loop-key.key-index in
    let k = c.key-item.result in
    found_more (take i ks) c.loop-key.blocks.items k c.in_ok-block_of.field-0 (take (i + 1) ks) c.push.new.self.items
    (take_more ks i k (omega arith) ∙ ap (λ (x : Key). take i ks ++ x ∷ []) (sym c.key-item.is)) c.in_ok-push.ensures.items c.loop-key.invariant c.in_ok-block_of.ensures
