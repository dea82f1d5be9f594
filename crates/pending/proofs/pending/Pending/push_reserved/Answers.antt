use Rattle.std.proofs.Common.{sym, subst, [], ◌∷◌}
use Rattle.message.specs.Effects.{Takes}
use Rattle.pending.specs.SortedMsgs.{IsFirstEdit}
use Rattle.pending.proofs.Coming.{takes_pushed}
use Rattle.pending.proofs.pending.Pending.push_reserved.Goals as goal

pub returns-then-defers-clause-takes : goal.returns-then-defers-clause-takes
returns-then-defers-clause-takes g c = takes_pushed g.U.Update.means c.args.msg c.args.self.now.0 c.push_uncondensed.new.self.0 c.push_uncondensed.ensures.messages

pub push_first-requires-clause-first : goal.push_first-requires-clause-first
push_first-requires-clause-first g c = subst (λ t. IsFirstEdit c.args.msg t) (sym c.in-NoKey.ensures.joined.1) c.in-NoKey.ensures.joined.0

pub returns-in-NoKey-clause-takes : goal.returns-in-NoKey-clause-takes
returns-in-NoKey-clause-takes g c = subst (λ t. Takes g.U.Update.means t (c.args.msg ∷ []) c.push_first.new.self.0) c.in-NoKey.ensures.joined.1 c.push_first.ensures.takes

pub returns-in-Apart-clause-takes : goal.returns-in-Apart-clause-takes
returns-in-Apart-clause-takes g c = subst (λ t. Takes g.U.Update.means t (c.args.msg ∷ []) c.push_condensed.new.self.0) c.in-Apart.ensures.joined c.push_condensed.ensures.takes
