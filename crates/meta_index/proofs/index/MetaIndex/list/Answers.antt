use Rattle.std.proofs.Common.{◌≡◌, ℕ, ◌+◌, [], ◌∷◌, ◌++◌, List, length, length-append, subst, arith}
use Rattle.pathkey.specs.Names.{Name}
use Rattle.reference.specs.declared.reply.Kind.{Kind}
use Rattle.scan.proofs.AtHand.{ahead_none}
use Rattle.scan.proofs.Sizes.{walked_at_none}
use Rattle.meta_index.specs.Asked.{AsksFor}
use Rattle.meta_index.specs.Means.{metadata}
use Rattle.meta_index.proofs.Spending.{asks_none, asks_one, first_asks}
use Rattle.meta_index.proofs.Steps.{listing_starts, listing_ends, listing_goes_on}
use Rattle.meta_index.proofs.index.MetaIndex.list.Goals as goal

-- a list with one element more is longer by one
one_longer : {X : Type 0} (xs : List X) (x : X) → length xs + 1 ≡ length (xs ++ x ∷ [])
one_longer xs x = omega (arith, length-append xs (x ∷ []))

pub entries-init : goal.entries-init
entries-init g c = λ empty.
    let new = c.new-pieces.ensures in
    let lo = c.in_ok-rest.rest.lo in
    let old = c.new-pieces.result.pairs.items in
    let all = c.new-pieces.result.all in (
      [],
      empty,
      (λ t is_meant. listing_starts t c.args.self.now c.args.path.now is_meant c.in_ok-rest.rest c.in_ok-next.next c.first.new.self.all c.first.new.self.pairs.items c.in_ok-rest.ensures.valid c.in_ok-rest.ensures.value c.in_ok-next.ensures.given),
      first_asks lo old all 0 c.new-pieces.result.most c.new-pieces.result.walks c.new-pieces.result.asked c.first.new.self.walks c.first.new.self.asked c.first.new.self.most c.in_ok-next.next c.first.new.self.all c.first.new.self.pairs.items new.0 new.1
          (omega (arith, new.2, new.4)) (omega (arith, new.2)) (omega (arith, new.3)) (omega (arith, new.4)) (omega (arith, new.3, new.4))
          c.first.ensures.walks c.first.ensures.asked c.first.ensures.most (c.in_ok-next.ensures.piece (walked_at_none lo old all new.0 new.1)),
    )

pub entries-preserved : goal.entries-preserved
entries-preserved g c = λ empty.
    let was = c.entries.invariant empty in
    let es : List (Kind × Name) = was.0 in
    let entry : Kind × Name = (c.kind_of.result, c.name_behind.result.now) in (
      es ++ entry ∷ [],
      c.in_ok-receive.ensures.has es was.1,
      (λ t is_meant. listing_goes_on t c.args.self.now c.args.path.now is_meant es c.entries.rest.hi c.entries.next c.entries.pieces.all c.entries.pieces.pairs.items (was.2 t is_meant) c.in-Some.key c.in-Some.meta c.in-Some.is
          c.key.result.now c.key.ensures.value c.name_behind.result.now c.name_behind.ensures c.kind_of.result c.kind_of.ensures
          c.first_past.new.rest.hi c.first_past.ensures.hi c.in_ok-next-2.next c.first_past.new.pieces.all c.first_past.new.pieces.pairs.items c.in_ok-next-2.ensures.given),
      subst (λ (k : ℕ). AsksFor k c.in_ok-next-2.next (length c.first_past.new.pieces.pairs.items) c.first_past.new.pieces.most c.first_past.new.pieces.walks c.first_past.new.pieces.asked c.first_past.new.pieces.all) (one_longer es entry)
          (c.in_ok-next-2.ensures.asked (length es + 1)
          (asks_one (length es) (length c.entries.pieces.pairs.items) c.entries.pieces.most c.entries.pieces.walks c.entries.pieces.asked c.entries.pieces.all c.entries.next (c.in-Some.key, c.in-Some.meta) c.in-Some.is was.3)),
    )

pub returns : goal.returns
returns g c = λ empty.
    let was = c.entries.invariant empty in (
      was.0,
      was.1,
      record {
        listed = λ t is_meant. listing_ends t c.args.self.now c.args.path.now is_meant was.0 c.entries.rest.hi c.entries.next c.entries.pieces.all c.entries.pieces.pairs.items (was.2 t is_meant) c.in_default.is;
        spent = asks_none (length was.0) (length c.entries.pieces.pairs.items) c.entries.pieces.most c.entries.pieces.walks c.entries.pieces.asked c.entries.pieces.all c.entries.next c.in_default.is was.3;
      },
    )

pub first-requires : goal.first-requires
first-requires g c = ahead_none (metadata c.args.self.now) c.in_ok-rest.rest.lo c.in_ok-rest.rest.hi c.new-pieces.result.all c.new-pieces.result.pairs.items c.new-pieces.ensures.1 c.new-pieces.ensures.0
