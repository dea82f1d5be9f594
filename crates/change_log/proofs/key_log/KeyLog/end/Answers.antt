use Rattle.std.proofs.Common.{ap, sym, ◌∙◌}
use Rattle.change_log.specs.KeyLogs.{end_of}
use Rattle.change_log.specs.Touched.{Touched}
use Rattle.change_log.proofs.Keys.{length-keys_of}
use Rattle.change_log.proofs.key_log.KeyLog.end.Goals as goal

pub returns : goal.returns
returns c =
    let bytes = c.self.inside.bytes.items in
    let ends = c.self.inside.ends.items in
    (λ i. record { keys = (c.len.ensures ∙ c.self.inside.ends.ok.0 ∙ sym (length-keys_of 0 bytes ends)) i; ranges = (c.len-2.ensures ∙ c.self.inside.ranges.ok.0) i })
    ∙ ap (λ (t : Touched). end_of t) c.self.view_is
