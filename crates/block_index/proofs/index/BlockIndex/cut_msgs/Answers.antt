use Rattle.std.proofs.Common.{◌≡◌, ◌≢◌, ℕ, ◌+◌, ◌*◌, ◌/◌, ◌%◌, ◌<◌, ◌∷◌, ◌++◌, [], refl, ap, sym, ◌∙◌, subst, arith}
use Rattle.std.proofs.Math.Nat.{div-add-mod, mod-lt}
use Rattle.message.specs.declared.msg.Msg.TheVariants.{Edit, DelRange}
use Rattle.pathkey.specs.Keys.{Key, block_key, blocks_from}
use Rattle.pathkey.specs.declared.range.KeyRange.{KeyRange}
use Rattle.block_index.specs.declared.update.BlockUpdate.TheVariants.{CutTo}
use Rattle.block_index.specs.Changed.{Messages, CutsWhereMeant}
use Rattle.block_index.proofs.Cutting.{cut_whole, cut_part, cuts_between, cuts_inside}
use Rattle.block_index.proofs.index.BlockIndex.cut_msgs.Goals as goal

pub returns : goal.returns
returns c =
    let d : 4096 * (c.args.len / 4096) + c.args.len % 4096 ≡ c.args.len = div-add-mod c.args.len 4096 in
    let m : c.args.len % 4096 < 4096 = mod-lt c.args.len (omega arith) in
    let z : c.args.len % 4096 ≢ 0 = c.if-rest-eq0.false in
    let i : ℕ = c.args.len / 4096 in
    let r : ℕ = c.args.len % 4096 in
    let list : c.push-3.new.self.items ≡ Edit (block_key c.args.path.now i) (CutTo r) ∷ DelRange (blocks_from c.args.path.now (i + 1)) ∷ [] =
    c.in_ok-push-3.ensures.items
    ∙ ap (λ (y : Messages). y ++ DelRange c.in_ok-blocks_from-2.field-0 ∷ []) (c.in_ok-push-2.ensures.items ∙ ap (λ (y : Messages). y ++ Edit c.in_ok-key.key (CutTo r) ∷ []) c.in_ok-msgs.ensures.items)
    ∙ ap (λ (k : Key). Edit k (CutTo r) ∷ DelRange c.in_ok-blocks_from-2.field-0 ∷ []) c.in_ok-key.ensures
    ∙ ap (λ (g : KeyRange). Edit (block_key c.args.path.now i) (CutTo r) ∷ DelRange g ∷ []) c.in_ok-blocks_from-2.ensures in
    record {
      messages = list ∙ sym (cuts_inside c.args.path.now c.args.len z);
      meaning = subst (λ (ms : Messages). CutsWhereMeant c.args.len c.args.path.now ms) (sym list) (cut_part c.args.path.now c.args.len i r c.key-key.ensures.valid c.requires.short (omega arith) m (sym d));
    }

pub returns-then-rest-eq0 : goal.returns-then-rest-eq0
returns-then-rest-eq0 c =
    let d : 4096 * (c.args.len / 4096) + c.args.len % 4096 ≡ c.args.len = div-add-mod c.args.len 4096 in
    let z : c.args.len % 4096 ≡ 0 = c.if-rest-eq0.true in
    let list : c.push.new.self.items ≡ DelRange (blocks_from c.args.path.now (c.args.len / 4096)) ∷ [] =
    c.in_ok-push.ensures.items
    ∙ ap (λ (y : Messages). y ++ DelRange c.in_ok-blocks_from.field-0 ∷ []) c.in_ok-msgs.ensures.items
    ∙ ap (λ (g : KeyRange). DelRange g ∷ []) c.in_ok-blocks_from.ensures in
    record {
      messages = list ∙ sym (cuts_between c.args.path.now c.args.len (c.args.len / 4096) refl z);
      meaning = subst (λ (ms : Messages). CutsWhereMeant c.args.len c.args.path.now ms) (sym list) (cut_whole c.args.path.now c.args.len (c.args.len / 4096) c.key-key.ensures.valid c.requires.short (omega arith));
    }
