use Rattle.std.proofs.Common.{◌≡◌, ◌∙◌, ◌-◌, ◌++◌, ◌∷◌, ap, drop, refl, sym, take}
use Rattle.delta.proofs.WalkFacts.{behind_part, between, none_behind}
use Rattle.delta.proofs.line_cursor.LineCursor.take_part.Goals as goal

pub returns-in_ok-extend_from_slice-in-Some : goal.returns-in_ok-extend_from_slice-in-Some
returns-in_ok-extend_from_slice-in-Some c =
    let w = c.args.self.now in
    let part = c.in-Some.part.now in
    let behind = c.in-Some.field-0-1.now in
    let cut : take (w.filled - w.used) (drop w.used w.piece.items) ≡ part ++ 10 ∷ behind = ap (λ l. take (w.filled - w.used) (drop w.used l)) (sym c.deref.ensures.value) ∙ c.in-Some.ensures.0 in
    record {
      printing = refl;
      part = part;
      line = c.in_ok-extend_from_slice-in-Some.ensures.items;
      cut =
          sym (between w.piece.items w.used w.filled w.fits) ∙ cut ∙ ap (λ b. part ++ 10 ∷ b) (sym (behind_part w.piece.items part behind w.used w.filled w.fits cut));
    }

pub returns-in_ok-extend_from_slice-in-None : goal.returns-in_ok-extend_from_slice-in-None
returns-in_ok-extend_from_slice-in-None c =
    let w = c.args.self.now in
    record {
      printing = refl;
      part = drop w.used (take w.filled w.piece.items);
      line =
          c.in_ok-extend_from_slice-in-None.ensures.items
          ∙ ap (λ l. w.line.items ++ l) (ap (λ l. take (w.filled - w.used) (drop w.used l)) c.deref.ensures.value ∙ between w.piece.items w.used w.filled w.fits);
      cut = (refl, none_behind w.piece.items w.filled w.within);
    }
