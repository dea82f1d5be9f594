use Rattle.std.proofs.Common.{◌≡◌, ℕ, List, Option, Some, None, sym, ◌∙◌, ap, rules}
use Rattle.std.proofs.lemmas.Option.{same_Some}
use Rattle.textio.specs.Values.{bytes_of}
use Rattle.edits.proofs.WordFacts.{bytes_are, bytes_read, never_cut}
use Rattle.edits.proofs.GuessFacts.{a_block, behind_number, block_words, no_block}
use Rattle.edits.proofs.guess.guess_block.Goals as goal

pub returns-in_default-split_space : goal.returns-in_default-split_space
returns-in_default-split_space c = no_block c.args.tail.now (λ i old new is e.
    never_cut c.in-Some.words.now _ _ c.in_default-split_space.ensures (behind_number c.args.tail.now c.in-Some.words.now c.in-Some.number c.in-Some.ensures i old new is.0 e).1)

pub returns-in_default-guess_digest : goal.returns-in_default-guess_digest
returns-in_default-guess_digest c = no_block c.args.tail.now (λ i old new is e.
    let words = block_words c.args.tail.now c.in-Some.words.now c.in-Some-split_space.old.now c.in-Some-split_space.new.now c.in-Some.number c.in-Some.ensures
    (record { is = c.in-Some-split_space.ensures.0; first = c.in-Some-split_space.ensures.1 }) i old new is.0 e in
    let clash : ◌≡◌ {A = Option (Option (List ℕ))} None (Some old) = sym c.in_default-guess_digest.is ∙ c.guess_digest.ensures.complete old is.1 words.1 in cc)

pub returns-in-Some-2 : goal.returns-in-Some-2
returns-in-Some-2 c =
    let read : Some c.in-Some-2.bytes ≡ bytes_of c.in-Some-split_space.new.now = sym c.in-Some-2.is ∙ c.in_ok-bytes.ensures.read in
    a_block c.args.tail.now c.in-Some.number c.in-Some-guess_digest.digest c.in-Some-2.bytes (search rules, c.in-Some-guess_digest.ensures.valid, bytes_are c.in-Some-split_space.new.now c.in-Some-2.bytes read)
    (λ i old new is e.
    let words = block_words c.args.tail.now c.in-Some.words.now c.in-Some-split_space.old.now c.in-Some-split_space.new.now c.in-Some.number c.in-Some.ensures
    (record { is = c.in-Some-split_space.ensures.0; first = c.in-Some-split_space.ensures.1 }) i old new is.0 e in
    let digest : c.in-Some-guess_digest.digest ≡ old = same_Some _ _ (c.in-Some-guess_digest.ensures.complete old is.1 words.1) in
    let bytes : c.in-Some-2.bytes ≡ new = same_Some _ _ (read ∙ ap bytes_of words.2 ∙ sym (bytes_read new is.2)) in
    (words.0, digest, bytes))

pub returns-in-None : goal.returns-in-None
returns-in-None c = no_block c.args.tail.now (λ i old new is e.
    let words = block_words c.args.tail.now c.in-Some.words.now c.in-Some-split_space.old.now c.in-Some-split_space.new.now c.in-Some.number c.in-Some.ensures
    (record { is = c.in-Some-split_space.ensures.0; first = c.in-Some-split_space.ensures.1 }) i old new is.0 e in
    let clash : ◌≡◌ {A = Option (List ℕ)} None (Some new) = sym c.in-None.is ∙ c.in_ok-bytes.ensures.read ∙ ap bytes_of words.2 ∙ sym (bytes_read new is.2) in cc)
