use Rattle.std.proofs.Common.{◌≡◌, refl, rules, ◌∙◌, sym, arith}
use Rattle.std.proofs.KnownBytes.{Keeps-refl}
use Rattle.images.proofs.TakenFacts.{takes_all, takes_bad, takes_failed, takes_nothing, takes_piece}
use Rattle.images.proofs.load.take_all.Goals as goal

pub loop-init : goal.loop-init
loop-init g c = record { size = refl; takes = λ s fresh. takes_nothing s _ _ fresh }

pub returns-then-n-eq0-clause-ok : goal.returns-then-n-eq0-clause-ok
returns-then-n-eq0-clause-ok g c = λ s fresh.
    let n : c.in-Ok.n ≡ 0 = c.if-n-eq0.true in
    let end = c.in-Ok.ensures.end n (omega (arith, c.loop.invariant.size, c.requires)) in
    takes_all s _ _ _ _ _ (c.loop.invariant.takes s fresh) c.in-Ok.ensures.ok (rw n refl) end

pub returns-in-Err-clause-bad : goal.returns-in-Err-clause-bad
returns-in-Err-clause-bad g c = λ s k fresh e.
    takes_bad s _ _ _ _ k _ _ (c.loop.invariant.takes s fresh) c.in-Ok.ensures.ok c.feed.ensures.took (sym c.feed.ensures.answer ∙ c.in-Err.is ∙ e)

pub loop-preserved : goal.loop-preserved
loop-preserved g c = record {
  size = search rules;
  takes = λ s fresh. takes_piece s _ _ _ _ _ _ (c.loop.invariant.takes s fresh) c.in-Ok.ensures.ok c.feed.ensures.took (sym c.feed.ensures.answer ∙ c.in_default-feed.is);
}

pub returns-in_default-clause-read : goal.returns-in_default-clause-read
returns-in_default-clause-read g c = λ s fresh e. takes_failed s _ _ _ _ (c.loop.invariant.takes s fresh) c.in_default.ensures.err

pub returns-clause-read : goal.returns-clause-read
returns-clause-read g c = λ s fresh e. takes_failed s _ _ _ _ (c.loop.invariant.takes s fresh) (Keeps-refl _)
