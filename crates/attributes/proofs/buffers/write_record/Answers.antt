use Rattle.std.proofs.Common.{List, ℕ, length, ap, sym, ◌∙◌, rules}
use Rattle.attributes.specs.declared.record.Attributes.{Attributes}
use Rattle.attributes.specs.Buffers.{laid}
use Rattle.attributes.proofs.buffers.write_record.Goals as goal

pub returns : goal.returns
returns c =
    let a : Attributes = record { basic = c.in-Some.basic; extended = c.in_ok-extended.extended } in
    let text = c.as_slice.ensures.value ∙ c.in_ok-text.ensures in (
      a,
      search rules,
      record { basic = sym c.basic.ensures ∙ c.in-Some.is; extended_is = c.in_ok-extended.ensures.reported.1 },
      c.copy_out.ensures.count ∙ ap length text,
      c.copy_out.ensures.buffer ∙ ap (λ (t : List ℕ). laid t c.args.out.now) text,
    )
