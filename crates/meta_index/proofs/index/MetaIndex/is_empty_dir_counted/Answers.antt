use Rattle.std.proofs.Common.{◌==◌, List, ap, subst, length, ◌∙◌, arith}
use Rattle.pathkey.specs.Keys.{Key}
use Rattle.pathkey.specs.declared.range.KeyRange.{KeyRange}
use Rattle.reference.specs.declared.reply.Meta.{Meta}
use Rattle.scan.specs.Pairs.{IsScan}
use Rattle.meta_index.specs.Means.{metadata}
use Rattle.meta_index.proofs.BelowPath.{emptiness}
use Rattle.meta_index.proofs.index.MetaIndex.is_empty_dir_counted.Goals as goal

pub returns-clause-empty : goal.returns-clause-empty
returns-clause-empty c = λ t is_meant.
    let scanned = subst (λ (r : KeyRange). IsScan (metadata c.args.self.now) r.lo r.hi 4 c.in_ok-pairs.pairs.items) c.in_ok-below.ensures.value c.in_ok-pairs.ensures in
    c.is_empty.ensures ∙ ap (λ (l : List (Key × Meta)). length l == 0) c.as_slice.ensures.value ∙ emptiness t c.args.self.now c.args.path.now 4 c.in_ok-pairs.pairs.items (omega (arith)) c.in_ok-below.ensures.valid is_meant scanned
