use Rattle.std.proofs.Common.{ap, arith, map, refl, List, codes, ◌∙◌}
use Rattle.std.specs.Str.Parse.{ExplainsUnsignedError, HasUnsignedDigitsIfOk, ParsesUnsigned}
use Rattle.clap.specs.Words.{Text, first_of, found_of}
use Rattle.clap.proofs.WalkLemmas.{first_value-rows}
use Rattle.shell.proofs.OptionFacts.{is_on_is, number_is}
use Rattle.shell.proofs.command_line.read_words.Goals as goal

pub returns : goal.returns
returns c =
    let m = c.in_ok-matches.matches in
    let ws : List Text = map (λ w. w.now) c.args.words.now in
    let parse = c.in_ok-matches.ensures.parse in
    let same = c.in_ok-matches.ensures.rows in
    let short = number_is _ (λ bs r. ParsesUnsigned 16 10 bs r × ExplainsUnsignedError 10 bs r × HasUnsignedDigitsIfOk bs r) 16 (λ u x g. g.0) in
    let flushers = number_is _ (λ bs r. ParsesUnsigned 8 10 bs r × ExplainsUnsignedError 10 bs r × HasUnsignedDigitsIfOk bs r) 8 (λ u x g. g.0) 0 8 0 m ws parse same (codes "flushers") refl c.get_one.result (omega arith) (omega arith) (omega arith) c.get_one.ensures.none c.get_one.ensures.value in
    let steps = short 0 1000 0 m ws parse same (codes "steps") refl c.get_one-2.result (omega arith) (omega arith) (omega arith) c.get_one-2.ensures.none c.get_one-2.ensures.value in
    let fanout = short 4 64 16 m ws parse same (codes "fanout") refl c.get_one-3.result (omega arith) (omega arith) (omega arith) c.get_one-3.ensures.none c.get_one-3.ensures.value in
    let pending = short 4 1024 256 m ws parse same (codes "pending") refl c.get_one-4.result (omega arith) (omega arith) (omega arith) c.get_one-4.ensures.none c.get_one-4.ensures.value in
    let leaf = short 4 1024 256 m ws parse same (codes "leaf") refl c.get_one-5.result (omega arith) (omega arith) (omega arith) c.get_one-5.ensures.none c.get_one-5.ensures.value in
    record {
      flushers = rw c.unwrap_or.ensures flushers;
      steps = rw c.unwrap_or-2.ensures steps;
      fanout = rw c.unwrap_or-3.ensures fanout;
      pending = rw c.unwrap_or-4.ensures pending;
      leaf = rw c.unwrap_or-5.ensures leaf;
      load = c.get_str.ensures ∙ first_value-rows (found_of m) (codes "load") ∙ ap (first_of (codes "load")) same;
      image = is_on_is m ws parse same (codes "image") refl c.get_flag.result c.get_flag.ensures.none c.get_flag.ensures.value c.get_flag.ensures.other;
      dot = c.get_str-2.ensures ∙ first_value-rows (found_of m) (codes "dot") ∙ ap (first_of (codes "dot")) same;
      strict = is_on_is m ws parse same (codes "strict") refl c.get_flag-2.result c.get_flag-2.ensures.none c.get_flag-2.ensures.value c.get_flag-2.ensures.other;
      explain = is_on_is m ws parse same (codes "explain") refl c.get_flag-3.result c.get_flag-3.ensures.none c.get_flag-3.ensures.value c.get_flag-3.ensures.other;
      script = c.get_str-3.ensures ∙ first_value-rows (found_of m) (codes "SCRIPT") ∙ ap (first_of (codes "SCRIPT")) same;
      memory = tt;
      kinds = c.in_ok-matches.ensures.kinds;
    }
