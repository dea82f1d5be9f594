-- A change leads from a world to at most one.
use Rattle.std.proofs.Common.{◌≡◌, List, sym, ap, subst, ◌∙◌}
use Rattle.reference.specs.Shape.{IsTree}
use Rattle.reference.specs.Tree.{Tree}
use Rattle.reference.specs.Worlds.{World}
use Rattle.edits.specs.Edits.{AreEdited}
use Rattle.edits.specs.declared.edit.Edit.{Edit}
use Rattle.edits.proofs.TextFacts.{one_reading}
use Rattle.edits.proofs.Ways.{edits_one_tree}
use Rattle.wal.specs.Laws.{OneWorldLaw}
use Rattle.wal.specs.Runs.{Effect, Happens, HasMtime, HasEdits, Leads, effect_in}

leads_once : (w m n : World) (e : Effect) → IsTree w.live → Leads w e m → Leads w e n → m ≡ n
leads_once w m n (Happens event) is a b = a.1 ∙ sym b.1
leads_once w m n (HasMtime p at) is a b = a.1 ∙ sym b.1
leads_once w m n (HasEdits text) is (es, u, are, made, to) (fs, v, others, made_too, onward) =
    let alike : fs ≡ es = one_reading text fs es others are in
    let same : u ≡ v = edits_one_tree es w.live u v is made (subst (λ (xs : List Edit). AreEdited xs w.live v) alike made_too) in
    to ∙ ap (λ (t : Tree). let next : World = record w { live = t } in next) same ∙ sym onward

pub one_world : OneWorldLaw
one_world w m n c is a b = leads_once w m n (effect_in w c) is a b
