-- What is guessed of a line of an image is the line that it spells.
use Rattle.std.proofs.Common.{◌≡◌, ◌≢◌, ◌⊎◌, ⊎_elim, ℕ, ◌^◌, ◌<◌, ◌≤◌, List, [], ◌∷◌, ◌++◌, length, drop, refl, sym, ap, subst, ◌∙◌, arith, append_assoc, append-nil, Option, Some, None, Result, Ok, Err, decimal, flat_map, codes, All}
use Rattle.std.specs.Prelude.{IfSome}
use Rattle.std.proofs.lemmas.Option.{same_Some}
use Rattle.std.proofs.lemmas.List.Elements.{recursion_from_All, All-head, All-tail}
use Rattle.hex.specs.Hex.{decode_of}
use Rattle.hex.specs.declared.error.FromHexError.{FromHexError}
use Rattle.hex.specs.declared.error.FromHexError.TheVariants.{OutOfMemory}
use Rattle.pathkey.specs.Names.{Path, IsPath}
use Rattle.pathkey.specs.declared.errno.Errno.{Errno}
use Rattle.pathkey.specs.declared.errno.Errno.TheVariants.{ENOMEM}
use Rattle.reference.specs.Image.{Text, Version, First, Second, directory_letter, file_letter, moment_text, root_line, two_digits, path_text}
use Rattle.reference.specs.ImageLines.{Line, DirectoryLine, FileLine, BlockLine, spelled, IsLine, IsBlock, IsReported}
use Rattle.reference.specs.Shape.{AreBytes}
use Rattle.reference.proofs.ImageTexts.{Visible, path_visible, decimal_visible}
use Rattle.reference.proofs.LinesRead.{no_block as no_block_letter}
use Rattle.reference.proofs.OneImage.{letters_differ}
use Rattle.images.specs.Image.{directory_text, file_text}
use Rattle.images.specs.ImageLines.{CutsMoment, Guesses, IsRoot}
use Rattle.textio.specs.Values.{number_of, path_of}
use Rattle.textio.proofs.Written.{all_visible, digits_reported, number_reported, path_read}
use Rattle.images.specs.declared.image_line.ImageLine.TheVariants.{Directory, File, Block}

-- ---- a path in percent form

-- parsing the spelling of a path: the result is the path, or ENOMEM
pub path_spelled : (word : Text) (p q : Path) (r : Result Path Errno) (guess : Option Path) → (r ≡ path_of word) ⊎ (r ≡ Err ENOMEM) → r ≡ Ok q → IsPath p → p ≢ [] → word ≡ path_text p → (q ≢ [] → guess ≡ Some q) → guess ≡ Some p
path_spelled word p q r guess read is path ne e same = ⊎_elim
    (λ (f : r ≡ path_of word).
    let g : ◌≡◌ {A = Result Path Errno} (Ok q) (Ok p) = sym is ∙ f ∙ ap path_of e ∙ path_read p path ne in
    let one : q ≡ p = cc in
    same (λ z. ne (sym one ∙ z)) ∙ ap Some one)
    (λ (f : r ≡ Err ENOMEM). absurd (let g : ◌≡◌ {A = Result Path Errno} (Ok q) (Err ENOMEM) = sym is ∙ f in cc))
    read

pub path_not_refused : (word : Text) (p : Path) (fault : Errno) (r : Result Path Errno) → (r ≡ path_of word) ⊎ (r ≡ Err ENOMEM) → r ≡ Err fault → fault ≢ ENOMEM → IsPath p → p ≢ [] → word ≡ path_text p → ⊥
path_not_refused word p fault r read is other path ne e = ⊎_elim
    (λ (f : r ≡ path_of word). let g : ◌≡◌ {A = Result Path Errno} (Err fault) (Ok p) = sym is ∙ f ∙ ap path_of e ∙ path_read p path ne in cc)
    (λ (f : r ≡ Err ENOMEM). other (let g : ◌≡◌ {A = Result Path Errno} (Err fault) (Err ENOMEM) = sym is ∙ f in cc))
    read

pub bytes_read : (b : List ℕ) → AreBytes b → decode_of (flat_map (two_digits 87) b) ≡ Ok b
bytes_read b h = digits_reported b (recursion_from_All (λ x. x < 256) b h)

pub bytes_spelled : (word : Text) (b bytes : List ℕ) → decode_of word ≡ Ok bytes → IsBlock b → word ≡ flat_map (two_digits 87) b → bytes ≡ b
bytes_spelled word b bytes read is e = let g : ◌≡◌ {A = Result (List ℕ) FromHexError} (Ok bytes) (Ok b) = sym read ∙ ap decode_of e ∙ bytes_read b is.bytes in cc

pub bytes_not_refused : (word : Text) (b : List ℕ) (error : FromHexError) → (error ≡ OutOfMemory) ⊎ (decode_of word ≡ Err error) → error ≢ OutOfMemory → IsBlock b → word ≡ flat_map (two_digits 87) b → ⊥
bytes_not_refused word b error read other is e = ⊎_elim
    other
    (λ (f : decode_of word ≡ Err error). let g : ◌≡◌ {A = Result (List ℕ) FromHexError} (Err error) (Ok b) = sym f ∙ ap decode_of e ∙ bytes_read b is.bytes in cc)
    read

-- ---- cut at the first space

NoSpace : Text → Type 0
NoSpace [] = Unit {0}
NoSpace (x ∷ xs) = (x ≢ 32) × NoSpace xs

no_space_from_all : (xs : Text) → All (λ b. b ≢ 32) xs → NoSpace xs
unfolding NoSpace
no_space_from_all [] h = tt
no_space_from_all (x ∷ xs) h = (All-head (λ b. b ≢ 32) x xs h, no_space_from_all xs (All-tail (λ b. b ≢ 32) x xs h))

no_space_from_visible : (xs : Text) → Visible xs → NoSpace xs
unfolding NoSpace
no_space_from_visible [] v = tt
no_space_from_visible (x ∷ xs) v = ((λ e. let far : 33 ≤ x = v.0 in omega arith), no_space_from_visible xs v.1)

same_cut : (xs ys r s : Text) → NoSpace xs → NoSpace ys → xs ++ 32 ∷ r ≡ ys ++ 32 ∷ s → (xs ≡ ys) × (r ≡ s)
unfolding NoSpace
same_cut [] [] r s v w e = (refl, cc)
same_cut [] (y ∷ ys) r s v w e = absurd (w.0 (cc))
same_cut (x ∷ xs) [] r s v w e = absurd (v.0 (cc))
same_cut (x ∷ xs) (y ∷ ys) r s v w e =
    let ih : (xs ≡ ys) × (r ≡ s) = same_cut xs ys r s v.1 w.1 (cc) in
    (cc (ih.0), ih.1)

no_space_there : (xs r : Text) → NoSpace (xs ++ 32 ∷ r) → ⊥
unfolding NoSpace
no_space_there [] r v = v.0 refl
no_space_there (x ∷ xs) r v = no_space_there xs r v.1

-- a text that was cut at its first space
pub record IsCut (text front back : Text) : Type 0 where
  pub is : text ≡ front ++ 32 ∷ back
  pub first : All (λ b. b ≢ 32) front

-- two ways to split a text after visible bytes have the same parts
pub cut_parts : (text front back xs r : Text) → IsCut text front back → Visible xs → text ≡ xs ++ 32 ∷ r → (front ≡ xs) × (back ≡ r)
cut_parts text front back xs r h v e = same_cut front xs back r (no_space_from_all front h.first) (no_space_from_visible xs v) (sym h.is ∙ e)

-- a text without a space has none after visible bytes
pub never_cut : (text xs r : Text) → All (λ b. b ≢ 32) text → text ≡ xs ++ 32 ∷ r → ⊥
never_cut text xs r h e = no_space_there xs r (subst NoSpace e (no_space_from_all text h))

-- ---- guesses

pub no_guess : (v : Version) (text : Text) → ((l : Line) → IsLine v l → text ≡ spelled v l → ⊥) → Guesses v text None
no_guess v text h = record { valid = tt; complete = λ l is e. absurd (h l is e) }

-- the first letter and the rest of a line
letter : Version → Line → ℕ
letter v (DirectoryLine p at) = directory_letter v
letter v (FileLine p n at) = file_letter v
letter v (BlockLine i b) = 98

tail : Version → Line → Text
tail v (DirectoryLine p at) = path_text p ++ moment_text v at
tail v (FileLine p n at) = path_text p ++ (32 ∷ (decimal n ++ moment_text v at))
tail v (BlockLine i b) = decimal i ++ 32 ∷ flat_map (two_digits 87) b

opened : (v : Version) (l : Line) → spelled v l ≡ (letter v l ∷ []) ++ 32 ∷ tail v l
unfolding letter tail
opened v (DirectoryLine p at) = refl
opened v (FileLine p n at) = refl
opened v (BlockLine i b) = refl

letter_visible : (v : Version) (l : Line) → Visible (letter v l ∷ [])
unfolding letter
letter_visible First (DirectoryLine p at) = (omega arith, tt)
letter_visible First (FileLine p n at) = (omega arith, tt)
letter_visible First (BlockLine i b) = (omega arith, tt)
letter_visible Second (DirectoryLine p at) = (omega arith, tt)
letter_visible Second (FileLine p n at) = (omega arith, tt)
letter_visible Second (BlockLine i b) = (omega arith, tt)

pub no_space_no_line : (v : Version) (text : Text) → All (λ b. b ≢ 32) text → Guesses v text None
no_space_no_line v text h = no_guess v text (λ l is e. never_cut text (letter v l ∷ []) (tail v l) h (e ∙ opened v l))

pub other_letter : (v : Version) (text front back : Text) → IsCut text front back → front ≢ directory_letter v ∷ [] → front ≢ file_letter v ∷ [] → front ≢ codes "b" → Guesses v text None
unfolding letter
other_letter v text front back h d f b = no_guess v text (λ l is e. clash l (cut_parts text front back (letter v l ∷ []) (tail v l) h (letter_visible v l) (e ∙ opened v l)).0)
  where
    clash : (l : Line) → front ≡ letter v l ∷ [] → ⊥
    clash (DirectoryLine p at) e = d e
    clash (FileLine p n at) e = f e
    clash (BlockLine i b') e = b e

-- the first byte, and the text after the second
abbrev first : Text → ℕ
first [] = 0
first (x ∷ xs) = x

abbrev behind : Text → Text
behind [] = []
behind (x ∷ []) = []
behind (x ∷ y ∷ xs) = xs

module _ (v : Version) (words : Text) where
  pub no_directory : ((p : Path) (at : ℕ) → IsLine v (DirectoryLine p at) → words ≡ path_text p ++ moment_text v at → ⊥) → Guesses v (directory_letter v ∷ 32 ∷ words) None
  no_directory h = no_guess v (directory_letter v ∷ 32 ∷ words) go
    where
      go : (l : Line) → IsLine v l → directory_letter v ∷ 32 ∷ words ≡ spelled v l → ⊥
      go (DirectoryLine p at) is e = h p at is (ap behind e)
      go (FileLine p n at) is e = letters_differ v (ap first e)
      go (BlockLine i b) is e = (no_block_letter v).0 (ap first e)

  pub a_directory : (q : Path) (a : ℕ) → IsLine v (DirectoryLine q a) → ((p : Path) (at : ℕ) → IsLine v (DirectoryLine p at) → words ≡ path_text p ++ moment_text v at → (q ≡ p) × (a ≡ at))
      → Guesses v (directory_letter v ∷ 32 ∷ words) (Some (Directory q a))
  a_directory q a valid h = record { valid = valid; complete = go }
    where
      go : (l : Line) → IsLine v l → directory_letter v ∷ 32 ∷ words ≡ spelled v l → Some (DirectoryLine q a) ≡ Some l
      go (DirectoryLine p at) is e = let g : (q ≡ p) × (a ≡ at) = h p at is (ap behind e) in cc (g.0, g.1)
      go (FileLine p n at) is e = absurd (letters_differ v (ap first e))
      go (BlockLine i b) is e = absurd ((no_block_letter v).0 (ap first e))

  pub no_file : ((p : Path) (n at : ℕ) → IsLine v (FileLine p n at) → words ≡ path_text p ++ 32 ∷ (decimal n ++ moment_text v at) → ⊥) → Guesses v (file_letter v ∷ 32 ∷ words) None
  no_file h = no_guess v (file_letter v ∷ 32 ∷ words) go
    where
      go : (l : Line) → IsLine v l → file_letter v ∷ 32 ∷ words ≡ spelled v l → ⊥
      go (DirectoryLine p at) is e = letters_differ v (sym (ap first e))
      go (FileLine p n at) is e = h p n at is (ap behind e)
      go (BlockLine i b) is e = (no_block_letter v).1 (ap first e)

  pub a_file : (q : Path) (m a : ℕ) → IsLine v (FileLine q m a) → ((p : Path) (n at : ℕ) → IsLine v (FileLine p n at) → words ≡ path_text p ++ 32 ∷ (decimal n ++ moment_text v at) → (q ≡ p) × (m ≡ n) × (a ≡ at))
      → Guesses v (file_letter v ∷ 32 ∷ words) (Some (File q m a))
  a_file q m a valid h = record { valid = valid; complete = go }
    where
      go : (l : Line) → IsLine v l → file_letter v ∷ 32 ∷ words ≡ spelled v l → Some (FileLine q m a) ≡ Some l
      go (DirectoryLine p at) is e = absurd (letters_differ v (sym (ap first e)))
      go (FileLine p n at) is e = let g : (q ≡ p) × (m ≡ n) × (a ≡ at) = h p n at is (ap behind e) in cc (g.0, g.1, g.2)
      go (BlockLine i b) is e = absurd ((no_block_letter v).1 (ap first e))

  pub no_block : ((i : ℕ) (b : List ℕ) → IsLine v (BlockLine i b) → words ≡ decimal i ++ 32 ∷ flat_map (two_digits 87) b → ⊥) → Guesses v (98 ∷ 32 ∷ words) None
  no_block h = no_guess v (98 ∷ 32 ∷ words) go
    where
      go : (l : Line) → IsLine v l → 98 ∷ 32 ∷ words ≡ spelled v l → ⊥
      go (DirectoryLine p at) is e = (no_block_letter v).0 (sym (ap first e))
      go (FileLine p n at) is e = (no_block_letter v).1 (sym (ap first e))
      go (BlockLine i b) is e = h i b is (ap behind e)

  pub a_block : (j : ℕ) (c : List ℕ) → IsLine v (BlockLine j c) → ((i : ℕ) (b : List ℕ) → IsLine v (BlockLine i b) → words ≡ decimal i ++ 32 ∷ flat_map (two_digits 87) b → (j ≡ i) × (c ≡ b)) → Guesses v (98 ∷ 32 ∷ words) (Some (Block j c))
  a_block j c valid h = record { valid = valid; complete = go }
    where
      go : (l : Line) → IsLine v l → 98 ∷ 32 ∷ words ≡ spelled v l → Some (BlockLine j c) ≡ Some l
      go (DirectoryLine p at) is e = absurd ((no_block_letter v).0 (sym (ap first e)))
      go (FileLine p n at) is e = absurd ((no_block_letter v).1 (sym (ap first e)))
      go (BlockLine i b) is e = let g : (j ≡ i) × (c ≡ b) = h i b is (ap behind e) in cc (g.0, g.1)

-- ---- the words of a file's line, and of a block's

pub file_words : (words front back : Text) (p : Path) (rest : Text) → IsCut words front back → words ≡ path_text p ++ 32 ∷ rest → (front ≡ path_text p) × (back ≡ rest)
file_words words front back p rest h e = cut_parts words front back (path_text p) rest h (path_visible p) e

-- what ends a line of version 2, cut at its only space
pub moment_words : (words front back last : Text) (at : ℕ) → IsCut words front back → All (λ b. b ≢ 32) last → words ≡ last ++ (32 ∷ decimal at) → (front ≡ last) × (back ≡ decimal at)
moment_words words front back last at h free e = same_cut front last back (decimal at) (no_space_from_all front h.first) (no_space_from_all last free) (sym h.is ∙ e)

pub never_ends : (text last : Text) (at : ℕ) → All (λ b. b ≢ 32) text → text ≡ last ++ (32 ∷ decimal at) → ⊥
never_ends text last at h e = no_space_there last (decimal at) (subst NoSpace e (no_space_from_all text h))

-- texts without a space
pub path_free : (p : Path) → All (λ b. b ≢ 32) (path_text p)
path_free p = all_visible 32 (path_text p) (omega arith) (path_visible p)

pub decimal_free : (n : ℕ) → n < 2 ^ 64 → All (λ b. b ≢ 32) (decimal n)
decimal_free n h = all_visible 32 (decimal n) (omega arith) (decimal_visible n h)

pub block_words : (words front back : Text) (i : ℕ) (b : List ℕ) → IsCut words front back → i < 2 ^ 28 → words ≡ decimal i ++ 32 ∷ flat_map (two_digits 87) b → (front ≡ decimal i) × (back ≡ flat_map (two_digits 87) b)
block_words words front back i b h few e = cut_parts words front back (decimal i) (flat_map (two_digits 87) b) h (decimal_visible i (omega arith)) e

pub never_cut_number : (text : Text) (i : ℕ) (r : Text) → All (λ b. b ≢ 32) text → i < 2 ^ 28 → text ≡ decimal i ++ 32 ∷ r → ⊥
never_cut_number text i r h few e = no_space_there (decimal i) r (subst NoSpace e (no_space_from_all text h))

pub some_block : (guess : Option (List ℕ)) (b : List ℕ) → IfSome guess IsBlock → guess ≡ Some b → IsBlock b
some_block None b h e = absurd (cc)
some_block (Some c) b h e = let same : c ≡ b = cc in subst IsBlock same h

-- ---- the mtime at the end of a line

-- what was cut off is what was spelled
pub moment_cut : (v : Version) (words : Text) (cut : Option (Text × ℕ)) → CutsMoment v words cut → (front : Text) (a : ℕ) → cut ≡ Some (front, a) → (last : Text) (at : ℕ) → All (λ b. b ≢ 32) last → IsReported v at
    → words ≡ last ++ moment_text v at → (front ≡ last) × (a ≡ at)
moment_cut v words cut h front a is last at free reported e =
    let same : (front, a) ≡ (last, at) = same_Some {A = Text × ℕ} (front, a) (last, at) (sym is ∙ h.complete last at free reported e) in
    (ap (λ (p : Text × ℕ). p.0) same, ap (λ (p : Text × ℕ). p.1) same)

-- and something was, if the text spells something
pub no_moment_cut : (v : Version) (words : Text) (cut : Option (Text × ℕ)) → CutsMoment v words cut → cut ≡ None → (last : Text) (at : ℕ) → All (λ b. b ≢ 32) last → IsReported v at → words ≡ last ++ moment_text v at → ⊥
no_moment_cut v words cut h none last at free reported e = let clash : ◌≡◌ {A = Option (Text × ℕ)} None (Some (last, at)) = sym none ∙ h.complete last at free reported e in cc

pub moment_reported : (v : Version) (words : Text) (cut : Option (Text × ℕ)) → CutsMoment v words cut → (front : Text) (a : ℕ) → cut ≡ Some (front, a) → IsReported v a
moment_reported v words cut h front a is = go (subst (λ (o : Option (Text × ℕ)). IfSome o (λ c. IsReported v c.1)) is h.valid)
  where
    go : IfSome (Some (front, a)) (λ (c : Text × ℕ). IsReported v c.1) → IsReported v a
    go t = t

-- ---- lines as they are written

pub directory_spelled : (v : Version) (p : Path) (at : ℕ) → directory_text v p at ≡ spelled v (DirectoryLine p at) ++ 10 ∷ []
directory_spelled v p at = ap (λ (t : Text). directory_letter v ∷ 32 ∷ t) (sym (append_assoc (path_text p) (moment_text v at) (10 ∷ [])))

pub file_spelled : (v : Version) (p : Path) (n at : ℕ) → file_text v p n at ≡ spelled v (FileLine p n at) ++ 10 ∷ []
file_spelled v p n at =
    ap (λ (t : Text). file_letter v ∷ 32 ∷ (path_text p ++ (32 ∷ t))) (sym (append_assoc (decimal n) (moment_text v at) (10 ∷ [])))
    ∙ ap (λ (t : Text). file_letter v ∷ 32 ∷ t) (sym (append_assoc (path_text p) (32 ∷ (decimal n ++ moment_text v at)) (10 ∷ [])))

-- ---- the line of a root

pub root_read : (line : Text) (read : Option (Version × ℕ)) → IsRoot line read → (v : Version) (a : ℕ) → read ≡ Some (v, a) → IsReported v a × (line ≡ root_line v a)
root_read line read h v a is = go (subst (IsRoot line) is h)
  where
    go : IsRoot line (Some (v, a)) → IsReported v a × (line ≡ root_line v a)
    go t = t

pub root_unread : (line : Text) (read : Option (Version × ℕ)) → IsRoot line read → read ≡ None → (v : Version) (at : ℕ) → IsReported v at → line ≢ root_line v at
root_unread line read h none = subst (IsRoot line) none h

-- no line of version 1, nor one of version 2 without a number after its words
pub no_root : (line rest : Text) → line ≢ codes "d /" → rest ≡ drop (length (codes "D / ")) line → ((n : ℕ) → n < 2 ^ 64 → rest ≢ decimal n) → (v : Version) (at : ℕ) → IsReported v at → line ≢ root_line v at
no_root line rest other is none First at reported e = other e
no_root line rest other is none Second at reported e = none at reported (is ∙ ap (drop (length (codes "D / "))) e)

-- ---- how an mtime is split off

-- version 1 has none
pub cuts_nothing : (words : Text) → CutsMoment First words (Some (words, 0))
cuts_nothing words = record {
  valid = refl;
  complete = λ front at free reported e.
      let same : words ≡ front = e ∙ append-nil front in
      ap (λ (w : Text). Some (w, 0)) same ∙ ap (λ (n : ℕ). Some (front, n)) (sym reported);
}

-- version 2 has a space before it
pub cuts_no_space : (words : Text) → All (λ b. b ≢ 32) words → CutsMoment Second words None
cuts_no_space words h = record { valid = tt; complete = λ front at free reported e. absurd (never_ends words front at h e) }

-- and a number after that
pub cuts_no_number : (words front back : Text) → IsCut words front back → number_of back ≡ None → CutsMoment Second words None
cuts_no_number words front back h none = record {
  valid = tt;
  complete = λ last at free reported e.
      let parts = moment_words words front back last at h free e in
      let clash : ◌≡◌ {A = Option ℕ} None (Some at) = sym none ∙ number_reported back at reported parts.1 in absurd (cc);
}

pub cuts_last : (words front back : Text) (n : ℕ) → IsCut words front back → number_of back ≡ Some n → n < 2 ^ 64 → CutsMoment Second words (Some (front, n))
cuts_last words front back n h number few = record {
  valid = few;
  complete = λ last at free reported e.
      let parts = moment_words words front back last at h free e in
      let same : n ≡ at = same_Some n at (sym number ∙ number_reported back at reported parts.1) in
      ap (λ (w : Text). Some (w, n)) parts.0 ∙ ap (λ (k : ℕ). Some (last, k)) same;
}

-- the length and the mtime at the end of the line of a file
pub len_spelled : (v : Version) (numbers number : Text) (cut : Option (Text × ℕ)) → CutsMoment v numbers cut → (a : ℕ) → cut ≡ Some (number, a) → (n at : ℕ) → n ≤ 2 ^ 40 → IsReported v at → numbers ≡ decimal n ++ moment_text v at
    → (number_of number ≡ Some n) × (a ≡ at)
len_spelled v numbers number cut h a is n at few reported e =
    let small : n < 2 ^ 64 = omega arith in
    let parts = moment_cut v numbers cut h number a is (decimal n) at (decimal_free n small) reported e in
    (number_reported number n small parts.0, parts.1)
