use Rattle.std.proofs.Common.{rules, sym, ◌∙◌, ◌≡◌, ◌<◌, ◌≤◌, length, get_or, true, false, arith}
use Rattle.pathkey.specs.Order.{same}
use Rattle.node.proofs.EntryPlaces.{is_entry, is_gap, is_gap_at}
use Rattle.node.proofs.node.leaf.position_by_keys.Goals as goal

pub returns-in-Some : goal.returns-in-Some
returns-in-Some g c =
    let es = c.args.entries.now in
    let i = c.count_by_keys-i.result in
    let e = c.in-Some.entry.now in
    let b : i < length es = search rules in
    let at : e ≡ get_or es i e = search rules in
    let s : same e.0 c.args.key.now ≡ true = sym c.eq.ensures ∙ c.if-eq.true in
    is_entry c.args.key.now es i e c.count_by_keys-i.ensures b at s

pub returns-in_default : goal.returns-in_default
returns-in_default g c =
    let es = c.args.entries.now in
    let i = c.count_by_keys-i.result in
    let e = c.in-Some.entry.now in
    let b : i < length es = search rules in
    let at : e ≡ get_or es i e = search rules in
    let s : same e.0 c.args.key.now ≡ false = sym c.eq.ensures ∙ c.if-eq.false in
    is_gap_at c.args.key.now es i e c.count_by_keys-i.ensures c.requires.rising b at s

pub returns-in_default-2 : goal.returns-in_default-2
returns-in_default-2 g c =
    let es = c.args.entries.now in
    let i = c.count_by_keys-i.result in
    let b : length es ≤ i = search rules in
    is_gap c.args.key.now es i c.count_by_keys-i.ensures c.requires.rising (λ d l. absurd (omega arith))
