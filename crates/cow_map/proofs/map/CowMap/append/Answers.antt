use Rattle.std.proofs.Common.{◌≡◌, ◌++◌, ap, sym, ◌∙◌, subst}
use Rattle.cow_map.specs.Places.{Rises}
use Rattle.cow_map.specs.CowMap.{joined, kept, AreRows}
use Rattle.cow_map.proofs.Kept.{own_entries, own_rows}
use Rattle.cow_map.proofs.TableFacts.{joined-append, rows_both, rows_none}
use Rattle.cow_map.proofs.map.CowMap.append.Goals as goal

pub invariant_of-self-2 : goal.invariant_of-self-2
invariant_of-self-2 g c =
    let rs = c.own.new.rows.items in
    let ss = c.own-2.new.rows.items in
    let ts = c.append.new.self.items in
    let front : joined rs ≡ c.args.self.now = own_entries rs c.own.new.shared c.in_ok-own.ensures.own ∙ c.in_ok-own.ensures.same ∙ c.self.view_is in
    let back : joined ss ≡ c.args.later.now = own_entries ss c.own-2.new.shared c.in_ok-own-2.ensures.own ∙ c.in_ok-own-2.ensures.same ∙ c.later.view_is in
    let front_rows = own_rows rs c.own.new.shared c.in_ok-own.ensures.own c.in_ok-own.ensures.rows in
    let back_rows = own_rows ss c.own-2.new.shared c.in_ok-own-2.ensures.own c.in_ok-own-2.ensures.rows in
    let rises : Rises (joined rs ++ joined ss) = subst (λ t. Rises t) (sym (ap (λ t. t ++ joined ss) front ∙ ap (λ t. c.args.self.now ++ t) back)) c.requires in
    subst (λ o. AreRows (kept ts o)) (sym c.in_ok-own.ensures.own) (rows_both rs ss ts c.in_ok-append.ensures.items rises front_rows.sized back_rows.sized)

pub invariant_of-later-2 : goal.invariant_of-later-2
invariant_of-later-2 g c = subst (λ o. AreRows (kept c.append.new.other.items o)) (sym c.in_ok-own-2.ensures.own) (rows_none c.append.new.other.items c.in_ok-append.ensures.other_items)

pub returns-clause-entries : goal.returns-clause-entries
returns-clause-entries g c =
    let rs = c.own.new.rows.items in
    let ss = c.own-2.new.rows.items in
    let ts = c.append.new.self.items in
    let front : joined rs ≡ c.args.self.now = own_entries rs c.own.new.shared c.in_ok-own.ensures.own ∙ c.in_ok-own.ensures.same ∙ c.self.view_is in
    let back : joined ss ≡ c.args.later.now = own_entries ss c.own-2.new.shared c.in_ok-own-2.ensures.own ∙ c.in_ok-own-2.ensures.same ∙ c.later.view_is in
    ap (λ o. joined (kept ts o)) c.in_ok-own.ensures.own ∙ ap (λ t. joined t) c.in_ok-append.ensures.items ∙ joined-append rs ss ∙ ap (λ t. t ++ joined ss) front ∙ ap (λ t. c.args.self.now ++ t) back
