use Rattle.std.proofs.Common.{◌≡◌, ℕ, ◌++◌, Option, Some, None, rules, sym, ◌∙◌, decimal}
use Rattle.std.proofs.lemmas.Option.{some_pair_parts}
use Rattle.reference.specs.Image.{moment_text, path_text}
use Rattle.images.specs.Image.{version_of}
use Rattle.images.proofs.ImageLineFacts.{no_file, a_file, file_words, never_cut}
use Rattle.images.proofs.image_line.parse_unchecked_file.Goals as goal

pub returns-in_default : goal.returns-in_default
returns-in_default c = no_file (version_of c.args.version) c.args.words.now (λ p n at is e. never_cut c.args.words.now (path_text p) _ c.in_default.ensures e)

pub returns-in_default-cut_len : goal.returns-in_default-cut_len
returns-in_default-cut_len c = no_file (version_of c.args.version) c.args.words.now (λ p n at is e.
    let v = version_of c.args.version in
    let parts = file_words c.args.words.now c.in-Some.word.now c.in-Some.numbers.now p (decimal n ++ moment_text v at) (record { is = c.in-Some.ensures.0; first = c.in-Some.ensures.1 }) e in
    let clash : ◌≡◌ {A = Option (ℕ × ℕ)} None (Some (n, at)) = sym c.in_default-cut_len.is ∙ c.cut_len.ensures.complete n at is.2 is.3 parts.1 in cc)

pub returns-in-Some-2 : goal.returns-in-Some-2
returns-in-Some-2 c = a_file (version_of c.args.version) c.args.words.now c.in-Some-2.path c.in-Some-cut_len.len c.in-Some-cut_len.at (search rules) (λ p n at is e.
    let v = version_of c.args.version in
    let parts = file_words c.args.words.now c.in-Some.word.now c.in-Some.numbers.now p (decimal n ++ moment_text v at) (record { is = c.in-Some.ensures.0; first = c.in-Some.ensures.1 }) e in
    let same = some_pair_parts c.in-Some-cut_len.len n c.in-Some-cut_len.at at (sym c.in-Some-cut_len.is ∙ c.cut_len.ensures.complete n at is.2 is.3 parts.1) in
    let path : ◌≡◌ {A = Option _} (Some c.in-Some-2.path) (Some p) = sym c.in-Some-2.is ∙ c.in_ok-path.ensures.complete p is.0 is.1 parts.0 in
    (cc, same.0, same.1))

pub returns-in-None : goal.returns-in-None
returns-in-None c = no_file (version_of c.args.version) c.args.words.now (λ p n at is e.
    let v = version_of c.args.version in
    let parts = file_words c.args.words.now c.in-Some.word.now c.in-Some.numbers.now p (decimal n ++ moment_text v at) (record { is = c.in-Some.ensures.0; first = c.in-Some.ensures.1 }) e in
    let path : ◌≡◌ {A = Option _} None (Some p) = sym c.in-None.is ∙ c.in_ok-path.ensures.complete p is.0 is.1 parts.0 in cc)
