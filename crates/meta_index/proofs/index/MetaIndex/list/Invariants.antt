use Rattle.std.proofs.Common.{◌-◌, ◌^◌, [], List, length}
use Rattle.pathkey.specs.Names.{Name}
use Rattle.reference.specs.Tree.{Tree}
use Rattle.reference.specs.declared.reply.Kind.{Kind}
use Rattle.meta_index.specs.Asked.{AsksFor}
use Rattle.meta_index.specs.Means.{IsMeantBy}
use Rattle.meta_index.proofs.Steps.{GoesOn}
use Rattle.meta_index.proofs.index.MetaIndex.list.Given as goal

abbrev pub invariant-entries : goal.invariant-entries
invariant-entries g l = g.S.EntrySink.has l.initial.sink [] → (es : List (Kind × Name)) × g.S.EntrySink.has l.sink es
    × ((t : Tree) → IsMeantBy t l.self → GoesOn t l.self l.path es l.rest.hi l.next l.pieces.all l.pieces.pairs.items)
    × AsksFor (length es) l.next (length l.pieces.pairs.items) l.pieces.most l.pieces.walks l.pieces.asked l.pieces.all

abbrev pub decreases-entries : goal.decreases-entries
decreases-entries g l = 2 ^ 64 - g.S.EntrySink.size l.sink
