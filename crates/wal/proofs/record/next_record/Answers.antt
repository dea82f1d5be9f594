use Rattle.std.proofs.Common.{sym, subst}
use Rattle.wal.specs.Entries.{IsWord}
use Rattle.wal.proofs.Logs.{has_record, lacks_body, lacks_digest, lacks_front, lacks_length}
use Rattle.wal.proofs.record.next_record.Goals as goal

pub returns-in_default : goal.returns-in_default
returns-in_default c = lacks_front c.args.salt.now c.args.number c.args.log.now c.in_default.ensures

pub returns-in_default-len_after : goal.returns-in_default-len_after
returns-in_default-len_after c =
    lacks_length c.args.salt.now c.args.number c.args.log.now c.in-Some.front.now c.in-Some.behind.now c.in-Some.ensures.0 c.in-Some.ensures.1 c.in_default-len_after.ensures

pub returns-in_default-cut_at : goal.returns-in_default-cut_at
returns-in_default-cut_at c =
    lacks_body c.args.salt.now c.args.number c.in-Some-len_after.len c.args.log.now c.in-Some.front.now c.in-Some.behind.now c.in-Some.ensures.0 c.in-Some-len_after.ensures.0 c.in-Some-len_after.ensures.1 c.in_default-cut_at.ensures

pub returns-in_default-behind_sum : goal.returns-in_default-behind_sum
returns-in_default-behind_sum c =
    lacks_digest c.args.salt.now c.args.number c.in-Some-len_after.len c.args.log.now c.in-Some.front.now c.in-Some.behind.now c.in-Some-cut_at.body.now c.in-Some-cut_at.end.now
    c.in-Some.ensures.0 c.in-Some-len_after.ensures.0 c.in-Some-len_after.ensures.1 c.in-Some-cut_at.ensures.0 c.in-Some-cut_at.ensures.1 c.in_default-behind_sum.ensures

pub returns : goal.returns
returns c = (
  has_record c.args.salt.now c.args.number c.in-Some-len_after.len c.args.log.now c.in-Some.front.now c.in-Some.behind.now c.in-Some-cut_at.body.now c.in-Some-cut_at.end.now c.in-Some-behind_sum.rest.now
      c.in-Some.ensures.0 c.in-Some-len_after.ensures.0 c.in-Some-cut_at.ensures.0 c.in-Some-cut_at.ensures.1 c.in-Some-behind_sum.ensures,
  subst IsWord (sym c.in-Some-cut_at.ensures.1) c.in-Some-len_after.ensures.1,
)
