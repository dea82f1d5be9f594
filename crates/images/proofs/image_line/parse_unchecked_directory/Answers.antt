use Rattle.std.proofs.Common.{◌≡◌, ap, Option, Some, None, rules, sym, ◌∙◌}
use Rattle.std.specs.Prelude.{option_map}
use Rattle.reference.specs.Image.{path_text}
use Rattle.images.specs.Image.{version_of}
use Rattle.images.proofs.ImageLineFacts.{a_directory, moment_cut, no_directory, no_moment_cut, path_free}
use Rattle.images.proofs.image_line.parse_unchecked_directory.Goals as goal

pub returns-in_default : goal.returns-in_default
returns-in_default c = no_directory (version_of c.args.version) c.args.words.now (λ p at is e.
    no_moment_cut (version_of c.args.version) c.args.words.now _ c.cut_moment.ensures (ap (option_map _) c.in_default.is) (path_text p) at (path_free p) is.2 e)

pub returns-in-Some-2 : goal.returns-in-Some-2
returns-in-Some-2 c = a_directory (version_of c.args.version) c.args.words.now c.in-Some-2.path c.in-Some.at (search rules) (λ p at is e.
    let parts = moment_cut (version_of c.args.version) c.args.words.now _ c.cut_moment.ensures c.in-Some.word.now c.in-Some.at (ap (option_map _) c.in-Some.is) (path_text p) at (path_free p) is.2 e in
    let path : ◌≡◌ {A = Option _} (Some c.in-Some-2.path) (Some p) = sym c.in-Some-2.is ∙ c.in_ok-path.ensures.complete p is.0 is.1 parts.0 in
    (cc, parts.1))

pub returns-in-None : goal.returns-in-None
returns-in-None c = no_directory (version_of c.args.version) c.args.words.now (λ p at is e.
    let parts = moment_cut (version_of c.args.version) c.args.words.now _ c.cut_moment.ensures c.in-Some.word.now c.in-Some.at (ap (option_map _) c.in-Some.is) (path_text p) at (path_free p) is.2 e in
    let path : ◌≡◌ {A = Option _} None (Some p) = sym c.in-None.is ∙ c.in_ok-path.ensures.complete p is.0 is.1 parts.0 in cc)
