use Rattle.std.proofs.Common.{◌≡◌, flat_map, take}
use Rattle.attributes.specs.Packed.{packed_one}
use Rattle.attributes.proofs.xattr_codec.encode_xattrs.Given as goal

abbrev pub invariant-loop-one : goal.invariant-loop-one
invariant-loop-one l = l.bytes.items ≡ flat_map packed_one (take l.one-index l.extended)
