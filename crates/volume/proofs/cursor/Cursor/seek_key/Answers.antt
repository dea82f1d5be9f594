use Rattle.std.proofs.Common.{None, refl, ap, sym, subst, ◌∙◌}
use Rattle.std.specs.Ordering.{is_lt}
use Rattle.volume.specs.Cursors.{StandsAt}
use Rattle.volume.proofs.Cursors.{stands_later, stands_new, stands_passed}
use Rattle.volume.proofs.cursor.Cursor.seek_key.Goals as goal
use Rattle.volume.proofs.cursor.Cursor.seek_key.Goals.{then-is_lt+in-Some-1, then-is_lt+in-None-1, else-is_lt+then-is_passed+in-Some-1, else-is_lt+then-is_passed+in-None-1, else-is_lt+else-is_passed}

pub returns-clause-stands : goal.returns-clause-stands
returns-clause-stands g c = λ f s.
    let key = c.args.key in
    let now = c.args.self.now in
    elim c.if-is_lt.branch [
      | then-is_lt+in-Some-1 w ↦ subst (λ x. StandsAt f (record { lo = key; hi = x.range.hi }) x.first x.pieces.all x.pieces.pairs.items) (sym w.self-is)
          (stands_new f (record { lo = key; hi = now.range.hi }) None w.new.result.all w.new.result.pairs.items refl w.new.ensures.1 w.new.ensures.0)
      | then-is_lt+in-None-1 w ↦ subst (λ x. StandsAt f (record { lo = key; hi = x.range.hi }) x.first x.pieces.all x.pieces.pairs.items) (sym w.self-is)
          (stands_new f (record { lo = key; hi = now.range.hi }) None w.new.result.all w.new.result.pairs.items refl w.new.ensures.1 w.new.ensures.0)
      | else-is_lt+then-is_passed+in-Some-1 w ↦ subst (λ x. StandsAt f (record { lo = key; hi = x.range.hi }) x.first x.pieces.all x.pieces.pairs.items) (sym w.self-is)
          (stands_passed f now.range key now.first _ now.pieces.all now.pieces.pairs.items (sym w.is_passed.ensures ∙ w.if-is_passed.true) refl s)
      | else-is_lt+then-is_passed+in-None-1 w ↦ subst (λ x. StandsAt f (record { lo = key; hi = x.range.hi }) x.first x.pieces.all x.pieces.pairs.items) (sym w.self-is)
          (stands_passed f now.range key now.first _ now.pieces.all now.pieces.pairs.items (sym w.is_passed.ensures ∙ w.if-is_passed.true) refl s)
      | else-is_lt+else-is_passed w ↦ subst (λ x. StandsAt f (record { lo = key; hi = x.range.hi }) x.first x.pieces.all x.pieces.pairs.items) (sym w.self-is)
          (stands_later f now.range key now.first now.pieces.all now.pieces.pairs.items (ap is_lt (sym c.cmp.ensures) ∙ sym c.is_lt.ensures ∙ w.if-is_lt.false) (sym w.is_passed.ensures ∙ w.if-is_passed.false) s)
    ]
