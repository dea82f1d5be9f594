use Rattle.std.proofs.Common.{List, [], ◌∷◌, ◌++◌, ℕ, ap, sym, ◌∙◌}
use Rattle.pathkey.proofs.KeyFacts.{enc-append}
use Rattle.attributes.specs.Places.{record_dir}
use Rattle.attributes.proofs.record_paths.record_key.Goals as goal

pub returns-clause-key : goal.returns-clause-key
returns-clause-key c =
    c.in_ok-extend_from_slice.ensures.items ∙ ap (λ (k : List ℕ). k ++ 1 ∷ 0 ∷ []) c.in_ok-key.ensures.key
    ∙ sym (enc-append (record_dir c.args.path.now) ((1 ∷ []) ∷ []))
