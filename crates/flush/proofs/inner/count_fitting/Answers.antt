use Rattle.std.proofs.Common.{arith, ◌∷◌, [], ap, take, ◌≡◌, ◌+◌, ◌<◌, length, get_or, ◌∙◌}
use Rattle.node.specs.See.{seen_slots}
use Rattle.node.specs.Lawful.{pending}
use Rattle.node.specs.StepRows.{piece_count}
use Rattle.flush.proofs.Counts.{piece_count-none, piece_count-take}
use Rattle.flush.proofs.inner.count_fitting.Goals as goal
use Rattle.flush.proofs.inner.count_fitting.Goals.{then-count-eq65535-via-then-count-eq65535, then-count-eq65535-via-else-count-eq65535+then-more-room}

pub loop-msg-init : goal.loop-msg-init
loop-msg-init g c =
    let e = piece_count-none (seen_slots c.args.slots.now) in
    let x = c.pending_len-waiting.ensures.exact in
    record { counted = search arith; small = omega arith; room = omega arith; sum = omega (arith, e, x) }

pub loop-msg-preserved : goal.loop-msg-preserved
loop-msg-preserved g c =
    let ss = seen_slots c.args.slots.now in
    let h : c.loop-msg.msg-index < length c.args.msgs.now = omega arith in
    let e = piece_count-take c.args.msgs.now c.loop-msg.msg-index c.msg-item.result ss h in
    let f = ap (λ m. piece_count (m ∷ []) ss) c.msg-item.is in
    record { counted = omega arith; small = omega arith; room = omega arith; sum = omega (arith, e, f, c.pieces_in-more.ensures.exact) }

pub returns-then-count-eq65535-clause-full : goal.returns-then-count-eq65535-clause-full
returns-then-count-eq65535-clause-full g c none some =
    let ss = seen_slots c.args.slots.now in
    let e = piece_count-take c.args.msgs.now 0 c.msg-item.result ss some in
    let z = piece_count-none ss in
    let m = c.msg-item.is in
    let i : c.loop-msg.msg-index ≡ 0 = omega arith in
    let f : piece_count (c.msg-item.result ∷ []) ss ≡ piece_count (get_or c.args.msgs.now 0 c.msg-item.result ∷ []) ss = ap (λ m. piece_count (m ∷ []) ss) (m ∙ ap (λ j. get_or c.args.msgs.now j c.msg-item.result) i) in
    let s : c.loop-msg.total ≡ pending ss + piece_count (take 0 c.args.msgs.now) ss = c.loop-msg.invariant.sum ∙ ap (λ j. pending ss + piece_count (take j c.args.msgs.now) ss) i in
    elim c.then-count-eq65535.branch [ then-count-eq65535-via-then-count-eq65535 w ↦ absurd (omega arith) | then-count-eq65535-via-else-count-eq65535+then-more-room w ↦ omega (arith, e, f, z, s, c.pieces_in-more.ensures.exact) ]

pub returns-then-count-eq65535-clause-most : goal.returns-then-count-eq65535-clause-most
returns-then-count-eq65535-clause-most g c some few =
    let ss = seen_slots c.args.slots.now in
    let h : c.loop-msg.msg-index < length c.args.msgs.now = omega (arith, c.loop-msg.invariant.counted, some) in
    let e = piece_count-take c.args.msgs.now c.loop-msg.msg-index c.msg-item.result ss h in
    let f = ap (λ m. piece_count (m ∷ []) ss) c.msg-item.is in
    let n = ap (λ j. piece_count (take (j + 1) c.args.msgs.now) ss) c.loop-msg.invariant.counted in
    elim c.then-count-eq65535.branch [ then-count-eq65535-via-then-count-eq65535 w ↦ absurd (omega arith) | then-count-eq65535-via-else-count-eq65535+then-more-room w ↦ omega (arith, e, f, n, c.loop-msg.invariant.sum, c.pieces_in-more.ensures.exact) ]
