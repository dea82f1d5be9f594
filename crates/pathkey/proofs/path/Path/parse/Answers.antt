use Rattle.std.proofs.Common.{◌≡◌, ◌∷◌, [], ◌++◌, false, sym, ap, ◌∙◌, inl, Ok, arith}
use Rattle.std.specs.List.{list_any}
use Rattle.pathkey.specs.Texts.{pieces, is_malformed, is_long}
use Rattle.pathkey.proofs.TextFacts.{KeyOfText, key_of_text, NoFault, parsed_text, none_of_two, rest_fits}
use Rattle.pathkey.proofs.path.Path.parse.Goals as goal
use Rattle.pathkey.proofs.path.Path.parse.Goals.{In_ok-key}

no_fault : (c : In_ok-key) → NoFault c.args.text.now c.in-Some.rest.now c.in-Some.first.now
no_fault c =
    let rest = c.in-Some.rest.now in
    let tests : (list_any is_malformed (pieces 47 (rest ++ 47 ∷ [])) ≡ false) × (list_any is_long (pieces 47 (rest ++ 47 ∷ [])) ≡ false)
    = none_of_two _ _ _ _ _ _ (sym c.check_components.ensures ∙ c.in_ok-check_components.was) in
    record {
      begins = c.in-Some.ensures.cases.0;
      slash = c.if-first-ne47.false;
      some = sym c.is_empty.ensures ∙ c.if-is_empty.false;
      well_formed = tests.0;
      short_names = tests.1;
      short = omega arith;
    }

parsed_key : (c : In_ok-key) → KeyOfText c.in-Some.rest.now c.in_ok-key.key
parsed_key c =
    let sound = no_fault c in
    key_of_text _ _ c.in_ok-key.ensures (rest_fits _ _ _ c.type_inv.text sound.begins) (omega (arith, c.in-Some.ensures.cases.1)) sound.well_formed sound.short_names

pub of_key-requires : goal.of_key-requires
of_key-requires c = (parsed_key (goal.at.of_key-requires c).In_ok-key).is_key

pub returns : goal.returns
returns c =
    let at = (goal.at.returns c).In_ok-key in
    inl (ap Ok (c.of_key.ensures ∙ (parsed_key at).names) ∙ sym (parsed_text _ _ _ (no_fault at)))
