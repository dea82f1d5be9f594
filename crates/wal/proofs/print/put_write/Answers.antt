use Rattle.std.proofs.Common.{arith}
use Rattle.std.proofs.lemmas.Result.{on_ok_weaker}
use Rattle.pathkey.proofs.HeadFacts.{are_bytes}
use Rattle.wal.proofs.Spelling.{seven_parts}
use Rattle.wal.proofs.print.put_write.Goals as goal

pub returns : goal.returns
returns c = on_ok_weaker c.put-4.result
    (λ h at. record {
      fits = (c.put_path_word.ensures.valid, omega (arith, c.ranges.offset), are_bytes c.args.bytes.now c.type_inv.bytes, c.requires);
      added = seven_parts _ _ _ _ _ _ _ _ _ _ _ _ c.in_ok-put.ensures.ok c.in_ok-put_path_word.ensures.word c.in_ok-put-2.ensures.ok c.in_ok-put_number.ensures.ok c.in_ok-put-3.ensures.ok c.in_ok-put_hex.ensures.ok h;
    })
    c.put-4.ensures.ok
