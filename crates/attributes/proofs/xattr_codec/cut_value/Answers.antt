use Rattle.std.proofs.Common.{◌++◌, ◌≤◌, length, arith}
use Rattle.attributes.proofs.PackFacts.{has_number, has_value, number_cut, value_cut}
use Rattle.attributes.proofs.xattr_codec.cut_value.Goals as goal

pub returns-then-bytes-lt4-clause-reported : goal.returns-then-bytes-lt4-clause-reported
returns-then-bytes-lt4-clause-reported c = λ value rest few same.
    let long : 4 ≤ length c.args.bytes.now = has_number c.args.bytes.now (value ++ rest) (length value) same in
    omega arith

pub returns-then-len-behind-clause-reported : goal.returns-then-len-behind-clause-reported
returns-then-len-behind-clause-reported c = λ value rest few same.
    let split = c.split_at.ensures in
    let parts = number_cut c.args.bytes.now c.split_at.result.0.now c.split_at.result.1.now (value ++ rest) (length value) split.front split.back same in
    let is = c.number_of-len.ensures (length value) few parts.0 in
    let long : c.number_of-len.result ≤ length c.split_at.result.1.now = has_value c.split_at.result.1.now value rest c.number_of-len.result parts.1 is in
    omega arith

pub returns-clause-reported : goal.returns-clause-reported
returns-clause-reported c = λ value rest few same.
    let split = c.split_at.ensures in
    let parts = number_cut c.args.bytes.now c.split_at.result.0.now c.split_at.result.1.now (value ++ rest) (length value) split.front split.back same in
    let is = c.number_of-len.ensures (length value) few parts.0 in
    let cut = c.split_at-2.ensures in
    value_cut c.split_at.result.1.now value rest c.split_at-2.result.0.now c.split_at-2.result.1.now c.number_of-len.result parts.1 is cut.front cut.back
