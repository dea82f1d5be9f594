use Rattle.std.proofs.Common.{rules, ap, sym, subst, ◌∙◌, ◌≡◌, ◌<◌, ◌≤◌, length, get_or, arith}
use Rattle.std.specs.Ordering.{is_eq, is_lt}
use Rattle.std.specs.declared.cmp.Ordering.TheVariants.{Equal, Greater}
use Rattle.pathkey.specs.Heads.{AreBytes, head_of}
use Rattle.pathkey.specs.Order.{by_bytes}
use Rattle.node.proofs.EntryPlaces.{is_count_at, is_count_here, is_entry, is_gap, is_gap_at}
use Rattle.node.proofs.HeadSearch.{behind_head}
use Rattle.node.proofs.node.leaf.position_from.Goals as goal

pub returns-in_default : goal.returns-in_default
returns-in_default g c =
    let es = c.args.entries.now in
    let i = c.args.low in
    let b : length es ≤ i = search rules in
    is_gap c.args.key.now es i (is_count_at c.args.key.now es i c.requires.low.front c.requires.rising (λ d l. absurd (omega arith))) c.requires.rising (λ d l. absurd (omega arith))

pub returns-then-head : goal.returns-then-head
returns-then-head g c =
    let k = c.args.key.now in
    let es = c.args.entries.now in
    let i = c.args.low in
    let e = c.in-Some.entry.now in
    let b : i < length es = search rules in
    let at : e ≡ get_or es i e = search rules in
    let least : AreBytes e.0 → AreBytes k → head_of k ≤ head_of e.0 = subst (λ x. AreBytes x.0 → AreBytes k → head_of k ≤ head_of x.0) (sym at) (c.requires.low.next e b) in
    let behind : by_bytes e.0 k ≡ Greater = behind_head e.0 k c.head.result c.head-2.result c.head.ensures c.head-2.ensures c.if-head.true least in
    is_gap_at k es i e (is_count_here k es i e c.requires.low.front c.requires.rising b at (ap is_lt behind)) c.requires.rising b at (ap is_eq behind)

pub returns-in-Equal : goal.returns-in-Equal
returns-in-Equal g c =
    let k = c.args.key.now in
    let es = c.args.entries.now in
    let i = c.args.low in
    let e = c.in-Some.entry.now in
    let b : i < length es = search rules in
    let at : e ≡ get_or es i e = search rules in
    let one : by_bytes e.0 k ≡ Equal = sym c.cmp.ensures ∙ c.in-Equal.is in
    is_entry k es i e (is_count_here k es i e c.requires.low.front c.requires.rising b at (ap is_lt one)) b at (ap is_eq one)

pub returns-in-Greater : goal.returns-in-Greater
returns-in-Greater g c =
    let k = c.args.key.now in
    let es = c.args.entries.now in
    let i = c.args.low in
    let e = c.in-Some.entry.now in
    let b : i < length es = search rules in
    let at : e ≡ get_or es i e = search rules in
    let behind : by_bytes e.0 k ≡ Greater = sym c.cmp.ensures ∙ c.in-Greater.is in
    is_gap_at k es i e (is_count_here k es i e c.requires.low.front c.requires.rising b at (ap is_lt behind)) c.requires.rising b at (ap is_eq behind)
