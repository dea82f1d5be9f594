use Rattle.std.proofs.Common.{◌≡◌, ◌≢◌, Bool, subst}
use Rattle.std.proofs.lemmas.Result.{IfOk-weaker}
use Rattle.reference.specs.Image.{Second, image}
use Rattle.sha2.specs.Sha256.{sha256}
use Rattle.delta.specs.Applies.{Applied, IsOfTree, LoadsPatched}
use Rattle.delta.proofs.LoaderFacts.{applied, of_other, spoils_image}
use Rattle.delta.proofs.patch.make_of.Goals as goal

pub returns-in-Ok-true-clause-ok : goal.returns-in-Ok-true-clause-ok
returns-in-Ok-true-clause-ok c = λ w text cs means reads.
    let digest = c.args.digest.now in
    let commands = c.args.commands.now in
    let shape = c.args.volume.now.live.indexes.meta.tree.shape in
    let of : digest ≡ sha256 (image Second w.live) = subst (λ (b : Bool). IsOfTree b digest w.live) c.in-Ok-true.field-0-test ((rw c.in-Ok-true.is at c.is_of.ensures) w means) in
    IfOk-weaker c.patch_volume.result (LoadsPatched commands w.live shape) (Applied text w.live shape) (λ v h. applied text digest commands cs w.live shape v reads of h) (c.patch_volume.ensures.ok w means)

pub returns-in-Ok-true-clause-no_image : goal.returns-in-Ok-true-clause-no_image
returns-in-Ok-true-clause-no_image c = λ w text cs means reads e.
    let digest = c.args.digest.now in
    let of : digest ≡ sha256 (image Second w.live) = subst (λ (b : Bool). IsOfTree b digest w.live) c.in-Ok-true.field-0-test ((rw c.in-Ok-true.is at c.is_of.ensures) w means) in
    spoils_image text digest c.args.commands.now cs w.live reads of (c.patch_volume.ensures.no_image w means e)

pub returns-in-Ok-false-clause-other : goal.returns-in-Ok-false-clause-other
returns-in-Ok-false-clause-other c = λ w text cs means reads e.
    let digest = c.args.digest.now in
    let other : digest ≢ sha256 (image Second w.live) = subst (λ (b : Bool). IsOfTree b digest w.live) c.in-Ok-false.field-0-test ((rw c.in-Ok-false.is at c.is_of.ensures) w means) in
    of_other text digest c.args.commands.now cs w.live reads other
