-- What is known of bytes that were read or written in part.
use Rattle.std.proofs.Common.{◌≡◌, ℕ, List, [], ◌++◌, None, Some, IfSome, Result, Ok, Err, OnErr, OnOk, Option, sym, ap, ◌∙◌, subst, append_assoc, append-nil}
use Rattle.std.specs.Io.KnownBytes.{Appends, Consumes, IsAtEnd}
use Rattle.std.proofs.KnownBytes.{Appends-trans, Consumes-trans}
use Rattle.textio.specs.Parts.{AppendsPart}

-- what always holds, holds if the result is an error
pub on_err : {A E : Type 0} (r : Result A E) (P : Type 0) → P → OnErr r P
on_err (Ok a) P p = tt
on_err (Err e) P p = p

-- what always holds, holds if the result is not an error
pub on_ok : {A E : Type 0} (r : Result A E) (P : Type 0) → P → OnOk r P
on_ok (Ok a) P p = p
on_ok (Err e) P p = tt

-- one text was written, and then a part of another
pub part_after : (a b c : Option (List ℕ)) (first second : List ℕ) → Appends a b first → AppendsPart b c second → AppendsPart a c (first ++ second)
part_after a b c first second written (part, rest, whole, more) =
    (first ++ part, rest, ap (λ l. first ++ l) whole ∙ sym (append_assoc first part rest), Appends-trans a b c first part written more)

-- a part of a text was written, and so a part of a longer one
pub part_before : (a b : Option (List ℕ)) (first second : List ℕ) → AppendsPart a b first → AppendsPart a b (first ++ second)
part_before a b first second (part, rest, whole, more) =
    (part, rest ++ second, ap (λ l. l ++ second) whole ∙ append_assoc part rest second, more)

-- all of a text is a part of it
pub all_is_part : (a b : Option (List ℕ)) (text : List ℕ) → Appends a b text → AppendsPart a b text
all_is_part a b text written = (text, [], sym (append-nil text), written)

-- what a reader had in all: what it gave, and what it has left
pub known_text : (a b : Option (List ℕ)) (read : List ℕ) → Consumes a b read → (rest : List ℕ) × IfSome a (λ all. all ≡ read ++ rest)
known_text None b read c = ([], tt)
known_text (Some x) None read c = absurd c
known_text (Some x) (Some y) read c = (y, c)

-- a last read that gave nothing
pub gave_all : (had has end : Option (List ℕ)) (text none : List ℕ) → Consumes had has text → Consumes has end none → none ≡ [] → Consumes had end text
gave_all had has end text none read last empty = subst (Consumes had end) (ap (λ l. text ++ l) empty ∙ append-nil text) (Consumes-trans had has end text none read last)

-- a reader at its end had in all what it gave
pub known_whole : (a b : Option (List ℕ)) (read : List ℕ) → Consumes a b read → IsAtEnd b → IfSome a (λ all. all ≡ read)
known_whole None b read c end = tt
known_whole (Some x) None read c end = absurd c
known_whole (Some x) (Some y) read c end = c ∙ ap (λ l. read ++ l) end ∙ append-nil read

-- what follows from two facts about a success
pub on_ok_both : {A E : Type 0} (r : Result A E) (P Q R : Type 0) → (P → Q → R) → OnOk r P → OnOk r Q → OnOk r R
on_ok_both (Ok a) P Q R f p q = f p q
on_ok_both (Err e) P Q R f p q = tt
