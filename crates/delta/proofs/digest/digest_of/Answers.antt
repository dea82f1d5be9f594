use Rattle.std.proofs.Common.{◌∙◌, ap, arith, refl, sym}
use Rattle.sha2.specs.Sha256.{sha256}
use Rattle.delta.proofs.DigestFacts.{hashed_all, hashed_more, hashed_none}
use Rattle.delta.proofs.digest.digest_of.Goals as goal

pub pieces-init : goal.pieces-init
pieces-init c = (hashed_none c.args.printing.now c.new-hasher.result c.requires.fresh c.new-hasher.ensures, refl)

pub returns-then-count-eq0 : goal.returns-then-count-eq0
returns-then-count-eq0 c = λ t m.
    let hashed = c.pieces.invariant.0 in
    let is = hashed_all _ c.pieces.printing c.pieces.hasher c.in_ok-count.count _ _ hashed c.in_ok-count.ensures.piece c.if-count-eq0.true (omega (arith, c.pieces.invariant.1, c.requires.some)) t m in
    c.finalize.ensures hashed.message hashed.holds ∙ ap sha256 (sym is)

pub pieces-preserved : goal.pieces-preserved
pieces-preserved c =
    (hashed_more _ c.pieces.printing c.next.new.self c.pieces.hasher c.update.new.self c.in_ok-count.count _ _ c.next.new.out c.pieces.invariant.0 c.in_ok-count.ensures.piece c.in_ok-count.ensures.on c.next.auto.out (λ fits. omega (arith, fits, c.min.ensures)) c.update.ensures, c.next.auto.out ∙ c.pieces.invariant.1)
