use Rattle.std.proofs.Common.{◌≡◌, ◌<◌, ◌^◌, ℕ, List, Option, Some, None, sym, ◌∙◌, arith}
use Rattle.std.proofs.lemmas.Option.{same_Some}
use Rattle.images.specs.Image.{version_of}
use Rattle.textio.proofs.Written.{number_reported}
use Rattle.images.proofs.ImageLineFacts.{no_block, a_block, block_words, never_cut_number, some_block}
use Rattle.images.proofs.image_line.guess_block.Goals as goal

pub returns-in_default : goal.returns-in_default
returns-in_default c = no_block (version_of c.args.version) c.args.words.now (λ i b is e. never_cut_number c.args.words.now i _ c.in_default.ensures is.0 e)

pub returns-in_default-read_number : goal.returns-in_default-read_number
returns-in_default-read_number c = no_block (version_of c.args.version) c.args.words.now (λ i b is e.
    let parts = block_words c.args.words.now c.in-Some.number.now c.in-Some.hex.now i b (record { is = c.in-Some.ensures.0; first = c.in-Some.ensures.1 }) is.0 e in
    let few : i < 2 ^ 28 = is.0 in
    let clash : ◌≡◌ {A = Option ℕ} None (Some i) = sym c.in_default-read_number.is ∙ c.read_number.ensures ∙ number_reported c.in-Some.number.now i (omega arith) parts.0 in cc)

pub returns-then-number-ge-MOST_BLOCKS : goal.returns-then-number-ge-MOST_BLOCKS
returns-then-number-ge-MOST_BLOCKS c = no_block (version_of c.args.version) c.args.words.now (λ i b is e.
    let parts = block_words c.args.words.now c.in-Some.number.now c.in-Some.hex.now i b (record { is = c.in-Some.ensures.0; first = c.in-Some.ensures.1 }) is.0 e in
    let few : i < 2 ^ 28 = is.0 in
    let same : c.in-Some-read_number.number ≡ i = same_Some _ _ (sym c.in-Some-read_number.is ∙ c.read_number.ensures ∙ number_reported c.in-Some.number.now i (omega arith) parts.0) in
    omega (arith, c.if-number-ge-MOST_BLOCKS.true))

pub returns-in-Some-2 : goal.returns-in-Some-2
returns-in-Some-2 c = a_block (version_of c.args.version) c.args.words.now c.in-Some-read_number.number c.in-Some-2.bytes (omega (arith, c.if-number-ge-MOST_BLOCKS.false), some_block c.in_ok-bytes.field-0 c.in-Some-2.bytes c.in_ok-bytes.ensures.valid c.in-Some-2.is) (λ i b is e.
    let parts = block_words c.args.words.now c.in-Some.number.now c.in-Some.hex.now i b (record { is = c.in-Some.ensures.0; first = c.in-Some.ensures.1 }) is.0 e in
    let few : i < 2 ^ 28 = is.0 in
    let same : c.in-Some-read_number.number ≡ i = same_Some _ _ (sym c.in-Some-read_number.is ∙ c.read_number.ensures ∙ number_reported c.in-Some.number.now i (omega arith) parts.0) in
    let bytes : ◌≡◌ {A = Option (List ℕ)} (Some c.in-Some-2.bytes) (Some b) = sym c.in-Some-2.is ∙ c.in_ok-bytes.ensures.complete b is.1 parts.1 in
    (same, cc))

pub returns-in-None : goal.returns-in-None
returns-in-None c = no_block (version_of c.args.version) c.args.words.now (λ i b is e.
    let parts = block_words c.args.words.now c.in-Some.number.now c.in-Some.hex.now i b (record { is = c.in-Some.ensures.0; first = c.in-Some.ensures.1 }) is.0 e in
    let bytes : ◌≡◌ {A = Option (List ℕ)} None (Some b) = sym c.in-None.is ∙ c.in_ok-bytes.ensures.complete b is.1 parts.1 in cc)
