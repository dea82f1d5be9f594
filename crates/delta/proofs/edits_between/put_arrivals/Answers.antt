use Rattle.std.proofs.Common.{◌+◌, arith, take}
use Rattle.reference.specs.Indexes.{meta_of}
use Rattle.reference.specs.Reads.{sight}
use Rattle.edits.specs.Between.{arrival, arrivals, edit_of}
use Rattle.delta.proofs.EditTexts.{arrivals_more, text_more}
use Rattle.delta.proofs.edits_between.put_arrivals.Goals as goal

pub loop-path-preserved : goal.loop-path-preserved
loop-path-preserved c = λ t u of_t of_u.
    let ps = c.args.paths.now in
    let i = c.loop-path.path-index in
    let p = c.path-item.result in
    text_more c.put_arrival.new.out.items c.loop-path.out.items c.args.out.now.items (arrivals t u (take i ps)) (edit_of p (arrival (meta_of (sight t p)) (meta_of (sight u p)))) (arrivals t u (take (i + 1) ps))
    (c.in_ok-put_arrival.ensures t u of_t of_u) (c.loop-path.invariant t u of_t of_u) (arrivals_more t u ps i p (omega arith) c.path-item.is)
