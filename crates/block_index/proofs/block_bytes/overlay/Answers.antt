use Rattle.std.proofs.Common.{◌≡◌, ◌+◌, ◌-◌, ◌≤◌, ◌++◌, ◌∙◌, arith, length, take, replicate, ap, ℕ, List, max, sym, subst}
use Rattle.std.specs.Global.{Vec}
use Rattle.reference.specs.Tree.{over}
use Rattle.reference.proofs.Contents.{length-over}
use Rattle.block_index.proofs.Overlays.{put_over_all, kept_ready, grown_ready, IsReady}
use Rattle.block_index.proofs.block_bytes.overlay.Goals.{then-len-end+in_ok-resize, else-len-end}
use Rattle.block_index.proofs.block_bytes.overlay.Goals as goal

pub returns-clause-ok : goal.returns-clause-ok
returns-clause-ok c =
    let ready : IsReady c.if-len-end.own.items c.args.own.now.items c.args.off (length c.args.new.now) = elim c.if-len-end.branch [
      | then-len-end+in_ok-resize w ↦ grown_ready _ _ _ _ (ap (λ (v : Vec ℕ). v.items) w.own-is ∙ w.in_ok-resize.ensures.items ∙ ap (λ (n : ℕ). take (c.args.off + length c.args.new.now) c.args.own.now.items ++ replicate (c.args.off + length c.args.new.now - n) 0) c.args.own.now.ok.0) (let l : c.len.result ≡ c.args.own.now.len = c.len.ensures in let k : c.args.own.now.len ≡ length c.args.own.now.items = c.args.own.now.ok.0 in omega (arith, w.if-len-end.true))
      | else-len-end w ↦ kept_ready _ _ _ _ (ap (λ (v : Vec ℕ). v.items) w.own-is) (let l : c.len.result ≡ c.args.own.now.len = c.len.ensures in let k : c.args.own.now.len ≡ length c.args.own.now.items = c.args.own.now.ok.0 in omega (arith, w.if-len-end.false))
    ] in
    rw c.if-len-end.own.ok.0 (put_over_all c.deref_mut.result.now c.if-len-end.own.items c.args.own.now.items c.args.off c.copy_from_slice.new.self c.args.new.now (c.args.off + length c.args.new.now - c.args.off)
    c.deref_mut.ensures.value c.copy_from_slice.ensures.after (omega arith) ready.fits ready.long ready.was)

pub returns-clause-short : goal.returns-clause-short
returns-clause-short c =
    let l : length (over c.args.own.now.items c.args.off c.args.new.now) ≡ max (length c.args.own.now.items) (c.args.off + length c.args.new.now) = length-over c.args.own.now.items c.args.off c.args.new.now in
    let f : c.args.off + length c.args.new.now ≤ 4096 = c.requires.new in
    let r : length c.args.own.now.items ≤ 4096 = c.requires.own in
    subst (λ (z : List ℕ). length z ≤ 4096) (sym (returns-clause-ok c)) (omega arith)
