-- The root of a frozen tree.
use Rattle.std.proofs.Common.{◌≡◌, ℕ, List, [], ◌∷◌, true, refl, ap, sym, ◌∙◌, inl}
use Rattle.pathkey.specs.Names.{is_root}
use Rattle.reference.specs.Calls.{changed, does}
use Rattle.reference.specs.Shape.{IsDirectory}
use Rattle.reference.specs.Tree.{Tree, Dir, File, moment}
use Rattle.reference.specs.declared.call.Call.TheVariants.{Stat as AskStat}
use Rattle.reference.specs.declared.reply.Kind.TheVariants.{Dir as Directory}
use Rattle.reference.specs.declared.reply.Reply.{Reply}
use Rattle.reference.specs.declared.reply.Reply.TheVariants.{Stat}
use Rattle.volume.specs.HistoryOf.{Tells}
use Rattle.volume.specs.declared.fs_root.FsRoot.{FsRoot}

-- a directory tree's root is a directory
stat_root : (t : Tree) (at : ℕ) → IsDirectory t → Stat Directory 0 (moment t) ≡ (does at t (AskStat [])).1
unfolding does changed
stat_root (Dir date es) at d = refl
stat_root (File date b) at d = absurd d

pub root_tells : (r : FsRoot) (p : List (List ℕ)) → is_root p ≡ true → Tells (AskStat p) (Stat Directory 0 r.modified) r
root_tells r [] e t at m = inl (ap {B = Reply} (λ n. Stat Directory 0 n) (sym m.root) ∙ stat_root t at m.indexes.tree.root)
root_tells r (n ∷ p) e t at m = absurd (cc)
