use Rattle.std.proofs.Common.{◌≡◌, ℕ, ◌-◌, ◌/◌, ◌≤◌, ◌^◌, [], List, Option, Result, Ok, length, min, take, refl, sym, ap, subst, ◌∙◌, arith}
use Rattle.std.specs.Prelude.{IfOk}
use Rattle.std.proofs.lemmas.Result.{err_from_is_err_and}
use Rattle.block_index.proofs.Reading.{read_none}
use Rattle.pathkey.specs.declared.errno.Errno.{Errno}
use Rattle.reference.specs.Reads.{seen}
use Rattle.reference.specs.declared.call.Call.TheVariants.{Read}
use Rattle.ffi_calls.specs.Filling.{HoldFrom}
use Rattle.ffi_calls.specs.Reads.{TellsIn, read_reply}
use Rattle.ffi_calls.proofs.OfFiles.{no_file, too_much, read_is}
use Rattle.ffi_calls.proofs.reads.read_at.Goals as goal

-- the length of a file that was found is short
short_of : (found : Result ℕ Errno) (len : ℕ) → found ≡ Ok len → IfOk found (λ n. n ≤ 2 ^ 40) → len ≤ 2 ^ 40
short_of found len is short = subst (λ (r : Result ℕ Errno). IfOk r (λ n. n ≤ 2 ^ 40)) is short

pub returns-in_err-len-clause-reply : goal.returns-in_err-len-clause-reply
returns-in_err-len-clause-reply c =
    let p = err_from_is_err_and c.from_residual-in_err-len.result c.from_residual-in_err-len.ensures.1 in
    subst (λ (r : Result ℕ Errno). TellsIn (Read c.args.path.now c.args.offset (length c.args.out.now)) (read_reply r c.args.out.now) c.args.indexes.now) (sym p.1)
    (no_file c.args.path.now c.args.indexes.now c.in_ok-file_length.field-0 c.in_ok-file_length.ensures.reported p.0 (c.in_err-len.was ∙ (cc)) c.args.offset (length c.args.out.now))

pub returns-then-count-gt-GREATEST_READ-clause-reply : goal.returns-then-count-gt-GREATEST_READ-clause-reply
returns-then-count-gt-GREATEST_READ-clause-reply c =
    too_much c.args.path.now c.args.indexes.now c.in_ok-file_length.field-0 c.in_ok-file_length.ensures.reported c.in_ok-len.len c.in_ok-len.was c.args.offset (length c.args.out.now) c.if-count-gt-GREATEST_READ.true

pub returns-then-end-offset-clause-reply : goal.returns-then-end-offset-clause-reply
returns-then-end-offset-clause-reply c =
    let k : c.min-end.result ≡ min c.saturating_add.result c.in_ok-len.len = c.min-end.ensures in
    let s : c.in_ok-len.len ≤ 2 ^ 40 = short_of c.in_ok-file_length.field-0 c.in_ok-len.len c.in_ok-len.was c.in_ok-file_length.ensures.short in
    let z = c.saturating_add.ensures in
    read_is c.args.path.now c.args.indexes.now c.in_ok-file_length.field-0 c.in_ok-file_length.ensures.reported c.in_ok-len.len c.in_ok-len.was c.args.offset (length c.args.out.now) [] c.if-count-gt-GREATEST_READ.false
    (λ t date b mean at long. read_none b c.args.offset (length c.args.out.now) c.in_ok-len.len c.min-end.result [] long (omega (arith, k, s, z)) c.if-end-offset.true refl)

pub returns-clause-reply : goal.returns-clause-reply
returns-clause-reply c =
    let k : c.min-end.result ≡ min c.saturating_add.result c.in_ok-len.len = c.min-end.ensures in
    let s : c.in_ok-len.len ≤ 2 ^ 40 = short_of c.in_ok-file_length.field-0 c.in_ok-len.len c.in_ok-len.was c.in_ok-file_length.ensures.short in
    let z = c.saturating_add.ensures in
    read_is c.args.path.now c.args.indexes.now c.in_ok-file_length.field-0 c.in_ok-file_length.ensures.reported c.in_ok-len.len c.in_ok-len.was c.args.offset (length c.args.out.now) (take (c.min-end.result - c.args.offset) c.copy_blocks.new.out) c.if-count-gt-GREATEST_READ.false
    (λ t date b mean at long.
    c.copy_blocks.ensures.bytes b (length c.args.out.now)
    (subst (λ (vs : List (Option (List ℕ))). HoldFrom (c.args.offset / 4096) vs b) (sym c.as_slice.ensures.value)
    (c.in_ok-blocks.ensures.holds t b mean.blocks (ap seen at)))
    (omega (arith, k, s, z, long)))
