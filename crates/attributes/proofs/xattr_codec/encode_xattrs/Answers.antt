use Rattle.std.proofs.Common.{[], rules}
use Rattle.attributes.proofs.PackFacts.{packed_more, stands_at}
use Rattle.attributes.proofs.xattr_codec.encode_xattrs.Goals as goal

pub push_packed-requires : goal.push_packed-requires
push_packed-requires c = stands_at [] c.args.extended.now c.loop-one.one-index c.one-item.result c.requires (search rules) (search rules)

pub loop-one-preserved : goal.loop-one-preserved
loop-one-preserved c = packed_more c.loop-one.bytes.items c.push_packed.new.bytes.items c.args.extended.now c.loop-one.one-index c.one-item.result (search rules) (search rules) c.loop-one.invariant c.in_ok-push_packed.ensures
