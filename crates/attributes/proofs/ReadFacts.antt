-- The parser's guess is right if the text is a record.
use Rattle.std.proofs.Common.{◌≡◌, ◌≢◌, ◌⊎◌, ⊎_elim, eq-eqb, inl, inr, ℕ, ◌/◌, ◌%◌, ◌^◌, ◌<◌, ◌≤◌, List, [], ◌∷◌, ◌++◌, length, get_or, Bool, true, false, cond, ◌==◌, ◌&&◌, not, nat_lt, refl, sym, ap, subst, ◌∙◌, arith, append_assoc, append-nil, Option, Some, None, Ok, decimal, flat_map, codes, All}
use Rattle.std.specs.Prelude.{IfSome, slice_index, bytes_eq}
use Rattle.std.specs.List.{list_all, AllByRecursion}
use Rattle.std.specs.Char.{is_ascii_digit}
use Rattle.std.specs.Str.Parse.{digits_value}
use Rattle.std.proofs.lemmas.Bool.{and_parts, lt-ltb, cases_lt, eqb-true, false≢true}
use Rattle.std.proofs.lemmas.Fmt.{decimal_digit, first_decimal, digits_decimal, digits_value-decimal}
use Rattle.std.proofs.lemmas.List.{get_or_past}
use Rattle.std.proofs.lemmas.List.Elements.{All-from_recursion, All-head, All-tail, All-get_or}
use Rattle.hex.specs.Hex.{decode_of, IsBytes}
use Rattle.hex.proofs.HexLemmas.{decode_of-encode_lower}
use Rattle.percent_encoding.specs.Percent.{percent_decode, percent_encode_byte}
use Rattle.percent_encoding.proofs.PercentLemmas.{percent_decode-nil, percent_decode-percent_encode_byte, percent_decode_not_percent}
use Rattle.pathkey.specs.Heads.{AreBytes}
use Rattle.pathkey.proofs.Pieces.{not_empty}
use Rattle.reference.specs.Image.{digit, two_digits, percent}
use Rattle.reference.proofs.ImageTexts.{Visible, decimal_visible, hex_visible, name_visible, percent_cases}
use Rattle.textio.specs.Held.{IsFree}
use Rattle.textio.specs.Texts.{hex_text, number_line}
use Rattle.textio.specs.Values.{bytes_of, is_decimal, number_of as number_written}
use Rattle.textio.proofs.Written.{hex_text_visible, number_reported}
use Rattle.attributes.specs.declared.record.Kind.{Kind}
use Rattle.attributes.specs.declared.record.Kind.TheVariants.{Directory, File, SymbolicLink, Fifo, Socket, CharacterDevice, BlockDevice, NameOf}
use Rattle.attributes.specs.declared.record.MtimeOverride.{MtimeOverride}
use Rattle.attributes.specs.declared.record.BasicAttributes.{BasicAttributes}
use Rattle.attributes.specs.declared.record.ExtendedAttribute.{ExtendedAttribute}
use Rattle.attributes.specs.declared.record.Attributes.{Attributes}
use Rattle.attributes.specs.Attributes.{AreBytesOf, IsAttributes, IsTime, is_valid, number_of}
use Rattle.attributes.specs.Text.{Text, basic_lines, extended_line, extended_words, kind_text, kind_word, number_text, octal, printed, time_lines}

-- ---- texts cut at a byte

-- no byte of the text is this one
pub Lacks : ℕ → Text → Type 0
Lacks s [] = Unit {0}
Lacks s (x ∷ xs) = (x ≢ s) × Lacks s xs

lacks_from_free : (xs : Text) → IsFree xs → Lacks 10 xs
unfolding Lacks
lacks_from_free [] h = tt
lacks_from_free (x ∷ xs) h = (h.0, lacks_from_free xs h.1)

free_from_lacks : (xs : Text) → Lacks 10 xs → IsFree xs
unfolding Lacks
free_from_lacks [] h = tt
free_from_lacks (x ∷ xs) h = (h.0, free_from_lacks xs h.1)

pub lacks_from_all : (s : ℕ) (xs : Text) → All (λ b. b ≢ s) xs → Lacks s xs
unfolding Lacks
lacks_from_all s [] h = tt
lacks_from_all s (x ∷ xs) h = (All-head (λ b. b ≢ s) x xs h, lacks_from_all s xs (All-tail (λ b. b ≢ s) x xs h))

lacks_from_visible : (s : ℕ) (xs : Text) → s < 33 → Visible xs → Lacks s xs
unfolding Lacks
lacks_from_visible s [] lt v = tt
lacks_from_visible s (x ∷ xs) lt v = ((λ e. let far : 33 ≤ x = v.0 in omega arith), lacks_from_visible s xs lt v.1)

lacks-append : (s : ℕ) (xs ys : Text) → Lacks s xs → Lacks s ys → Lacks s (xs ++ ys)
unfolding Lacks
lacks-append s [] ys h k = k
lacks-append s (x ∷ xs) ys h k = (h.0, lacks-append s xs ys h.1 k)

pub same_cut : (s : ℕ) (xs ys r t : Text) → Lacks s xs → Lacks s ys → xs ++ s ∷ r ≡ ys ++ s ∷ t → (xs ≡ ys) × (r ≡ t)
unfolding Lacks
same_cut s [] [] r t h k e = (refl, cc)
same_cut s [] (y ∷ ys) r t h k e = absurd (k.0 (cc))
same_cut s (x ∷ xs) [] r t h k e = absurd (h.0 (cc))
same_cut s (x ∷ xs) (y ∷ ys) r t h k e =
    let ih : (xs ≡ ys) × (r ≡ t) = same_cut s xs ys r t h.1 k.1 (cc) in
    (cc (ih.0), ih.1)

pub not_there : (s : ℕ) (xs r : Text) → Lacks s (xs ++ s ∷ r) → ⊥
unfolding Lacks
not_there s [] r h = h.0 refl
not_there s (x ∷ xs) r h = not_there s xs r h.1

-- a line that was cut off is the one that was put in front
pub cut_value : (text front back value rest : Text) → text ≡ front ++ 10 ∷ back → All (λ b. b ≢ 10) front → IsFree value → text ≡ value ++ 10 ∷ rest → (front ≡ value) × (back ≡ rest)
cut_value text front back value rest is all free e = same_cut 10 front value back rest (lacks_from_all 10 front all) (lacks_from_free value free) (sym is ∙ e)

pub never_cut : (s : ℕ) (text value rest : Text) → All (λ b. b ≢ s) text → text ≡ value ++ s ∷ rest → ⊥
never_cut s text value rest all e = not_there s value rest (subst (Lacks s) e (lacks_from_all s text all))

-- a word, its value, and the rest
pub line_grouped : (word value rest : Text) → (word ++ value ++ 10 ∷ []) ++ rest ≡ word ++ (value ++ 10 ∷ rest)
line_grouped word value rest = simp append_assoc

-- ---- numbers

pub free_decimal : (n : ℕ) → n < 2 ^ 64 → IsFree (decimal n)
free_decimal n h = free_from_lacks (decimal n) (lacks_from_visible 10 (decimal n) (omega arith) (decimal_visible n h))

pub free_octal : (mode : ℕ) → IsFree (octal mode)
unfolding octal
free_octal mode = ((λ e. omega arith), ((λ e. omega arith), ((λ e. omega arith), ((λ e. omega arith), tt))))

-- ---- kinds

pub lacks_from_test : (s : ℕ) (xs : Text) → list_all (λ b. not (b == s)) xs ≡ true → Lacks s xs
unfolding Lacks
lacks_from_test s [] h = tt
lacks_from_test s (x ∷ xs) h =
    let both : (not (x == s) ≡ true) × (list_all (λ b. not (b == s)) xs ≡ true) = and_parts _ _ h in
    ((λ e. other x s e both.0), lacks_from_test s xs both.1)
  where
    other : (x s : ℕ) → x ≡ s → not (x == s) ≡ true → ⊥
    other x s e t = let same : (x == s) ≡ true = eq-eqb x s e in let clash : not true ≡ true = subst (λ (b : Bool). not b ≡ true) same t in false≢true clash

word_free : (s : ℕ) (k : Kind) → (s ≡ 10) ⊎ (s ≡ 32) → Lacks s (kind_word k)
word_free s k h = ⊎_elim
    (λ (e : s ≡ 10). subst (λ (t : ℕ). Lacks t (kind_word k)) (sym e) (no_feed k))
    (λ (e : s ≡ 32). subst (λ (t : ℕ). Lacks t (kind_word k)) (sym e) (no_space k))
    h
  where
    no_feed : (k : Kind) → Lacks 10 (kind_word k)
    no_feed Directory = lacks_from_test 10 (codes "directory") refl
    no_feed File = lacks_from_test 10 (codes "file") refl
    no_feed SymbolicLink = lacks_from_test 10 (codes "symbolic-link") refl
    no_feed Fifo = lacks_from_test 10 (codes "fifo") refl
    no_feed Socket = lacks_from_test 10 (codes "socket") refl
    no_feed (CharacterDevice n) = lacks_from_test 10 (codes "character-device") refl
    no_feed (BlockDevice n) = lacks_from_test 10 (codes "block-device") refl
    no_feed (NameOf n) = lacks_from_test 10 (codes "name-of") refl

    no_space : (k : Kind) → Lacks 32 (kind_word k)
    no_space Directory = lacks_from_test 32 (codes "directory") refl
    no_space File = lacks_from_test 32 (codes "file") refl
    no_space SymbolicLink = lacks_from_test 32 (codes "symbolic-link") refl
    no_space Fifo = lacks_from_test 32 (codes "fifo") refl
    no_space Socket = lacks_from_test 32 (codes "socket") refl
    no_space (CharacterDevice n) = lacks_from_test 32 (codes "character-device") refl
    no_space (BlockDevice n) = lacks_from_test 32 (codes "block-device") refl
    no_space (NameOf n) = lacks_from_test 32 (codes "name-of") refl

number_free : (o : Option ℕ) → IfSome o (λ n. n < 2 ^ 64) → Lacks 10 (number_text o)
unfolding Lacks
number_free None h = tt
number_free (Some n) h = ((λ e. omega arith), lacks_from_visible 10 (decimal n) (omega arith) (decimal_visible n h))

pub free_kind : (k : Kind) → IfSome (number_of k) (λ n. n < 2 ^ 64) → IsFree (kind_text k)
unfolding kind_text
free_kind k h = free_from_lacks (kind_text k) (lacks-append 10 (kind_word k) (number_text (number_of k)) (word_free 10 k (inl refl)) (number_free (number_of k) h))

module _ (words : Text) where
  split_words : (w : Text) (o : Option ℕ) (front back : Text) (r : Option ℕ) → Lacks 32 w → IfSome o (λ n. n < 2 ^ 64) → words ≡ w ++ number_text o → words ≡ front ++ 32 ∷ back → All (λ b. b ≢ 32) front
      → r ≡ number_written back → (front ≡ w) × (r ≡ o)
  split_words w None front back r lacks h e is all read = absurd (not_there 32 front back (subst (Lacks 32) (sym (append-nil w) ∙ sym e ∙ is) lacks))
  split_words w (Some n) front back r lacks h e is all read =
      let parts = same_cut 32 front w back (decimal n) (lacks_from_all 32 front all) lacks (sym is ∙ e) in
      (parts.0, read ∙ number_reported back n h parts.1)

  whole_word : (w : Text) (o : Option ℕ) → words ≡ w ++ number_text o → All (λ b. b ≢ 32) words → (words ≡ w) × (None ≡ o)
  whole_word w None e all = (e ∙ append-nil w, refl)
  whole_word w (Some n) e all = absurd (never_cut 32 words w (decimal n) all e)

  pub kind_split : (k : Kind) (front back : Text) (r : Option ℕ) → IfSome (number_of k) (λ n. n < 2 ^ 64) → words ≡ kind_text k → words ≡ front ++ 32 ∷ back → All (λ b. b ≢ 32) front → r ≡ number_written back
      → (front ≡ kind_word k) × (r ≡ number_of k)
  unfolding kind_text
  kind_split k front back r h e is all read = split_words (kind_word k) (number_of k) front back r (word_free 32 k (inr refl)) h e is all read

  pub kind_whole : (k : Kind) → words ≡ kind_text k → All (λ b. b ≢ 32) words → (words ≡ kind_word k) × (None ≡ number_of k)
  unfolding kind_text
  kind_whole k e all = whole_word (kind_word k) (number_of k) e all

-- ---- times

pub no_time : (text rest : Text) (t : Option MtimeOverride) → (slice_index text 0 ≡ 109 → ⊥) → text ≡ time_lines t ++ rest → (None ≡ t) × (text ≡ rest)
unfolding time_lines
no_time text rest None other e = (refl, e)
no_time text rest (Some t) other e = absurd (other (ap (λ (x : Text). slice_index x 0) e))

pub some_time : (text rest after end : Text) (m u : ℕ) (t : Option MtimeOverride) → slice_index text 0 ≡ 109 → IfSome t IsTime → slice_index rest 0 ≢ 109 → text ≡ time_lines t ++ rest
    → ((n : ℕ) (r : Text) → n < 2 ^ 64 → text ≡ number_line (codes "modified ") n ++ r → (m ≡ n) × (after ≡ r))
    → ((n : ℕ) (r : Text) → n < 2 ^ 64 → after ≡ number_line (codes "until ") n ++ r → (u ≡ n) × (end ≡ r))
    → (Some (record { modified = m; until = u }) ≡ t) × (end ≡ rest)
unfolding time_lines
some_time text rest after end m u None begins h other e first second = absurd (other (ap (λ (x : Text). slice_index x 0) (sym e) ∙ begins))
some_time text rest after end m u (Some t) begins h other e first second =
    let one = first t.modified (number_line (codes "until ") t.until ++ rest) h.0 (e ∙ append_assoc (number_line (codes "modified ") t.modified) (number_line (codes "until ") t.until) rest) in
    let two = second t.until rest h.1 one.1 in
    (ap (λ (n : ℕ). Some (record { modified = n; until = u })) one.0 ∙ ap (λ (n : ℕ). Some (record { modified = t.modified; until = n })) two.0, two.1)

-- ---- the lines that every record has

grouped : (h k m u w n t r : Text) → (h ++ k ++ m ++ u ++ w ++ n ++ t) ++ r ≡ h ++ (k ++ (m ++ (u ++ (w ++ (n ++ (t ++ r))))))
grouped h k m u w n t r = simp append_assoc

pub basic_grouped : (b : BasicAttributes) (rest : Text) → basic_lines b ++ rest ≡
    codes "doorvervain record 1\n" ++ ((codes "kind " ++ kind_text b.kind ++ codes "\n") ++ ((codes "mode " ++ octal b.mode ++ codes "\n")
    ++ (number_line (codes "user ") b.user ++ (number_line (codes "group ") b.group ++ (number_line (codes "names ") b.names ++ (time_lines b.modified ++ rest))))))
unfolding basic_lines
basic_grouped b rest = grouped (codes "doorvervain record 1\n") (codes "kind " ++ kind_text b.kind ++ codes "\n") (codes "mode " ++ octal b.mode ++ codes "\n")
    (number_line (codes "user ") b.user) (number_line (codes "group ") b.group) (number_line (codes "names ") b.names) (time_lines b.modified) rest

pub same_basic : (b : BasicAttributes) (k : Kind) (m u g n : ℕ) (t : Option MtimeOverride) → k ≡ b.kind → m ≡ b.mode → u ≡ b.user → g ≡ b.group → n ≡ b.names → t ≡ b.modified
    → ◌≡◌ {A = BasicAttributes} (record { kind = k; mode = m; user = u; group = g; names = n; modified = t }) b
same_basic b k m u g n t ek em eu eg en et =
    ap (λ (x : Kind). let r : BasicAttributes = record { kind = x; mode = m; user = u; group = g; names = n; modified = t } in r) ek
    ∙ ap (λ (x : ℕ). let r : BasicAttributes = record { kind = b.kind; mode = x; user = u; group = g; names = n; modified = t } in r) em
    ∙ ap (λ (x : ℕ). let r : BasicAttributes = record { kind = b.kind; mode = b.mode; user = x; group = g; names = n; modified = t } in r) eu
    ∙ ap (λ (x : ℕ). let r : BasicAttributes = record { kind = b.kind; mode = b.mode; user = b.user; group = x; names = n; modified = t } in r) eg
    ∙ ap (λ (x : ℕ). let r : BasicAttributes = record { kind = b.kind; mode = b.mode; user = b.user; group = b.group; names = x; modified = t } in r) en
    ∙ ap (λ (x : Option MtimeOverride). let r : BasicAttributes = record { kind = b.kind; mode = b.mode; user = b.user; group = b.group; names = b.names; modified = x } in r) et

-- ---- extended attributes

pub words_grouped : (e : ExtendedAttribute) → extended_words e ≡ codes "extended " ++ (flat_map percent e.name ++ 32 ∷ hex_text e.value)
unfolding extended_words
words_grouped e = regroup (codes "extended ") (flat_map percent e.name) (hex_text e.value)
  where
    regroup : (x p h : Text) → x ++ p ++ 32 ∷ [] ++ h ≡ x ++ (p ++ 32 ∷ h)
    regroup x p h = simp append_assoc

pub words_cut : (text front back : Text) (e : ExtendedAttribute) → text ≡ front ++ 32 ∷ back → All (λ b. b ≢ 32) front → text ≡ flat_map percent e.name ++ 32 ∷ hex_text e.value
    → (front ≡ flat_map percent e.name) × (back ≡ hex_text e.value)
words_cut text front back e is all same =
    same_cut 32 front (flat_map percent e.name) back (hex_text e.value) (lacks_from_all 32 front all) (lacks_from_visible 32 (flat_map percent e.name) (omega arith) (name_visible e.name)) (sym is ∙ same)

words_free : (e : ExtendedAttribute) → Lacks 10 (extended_words e)
unfolding Lacks
words_free e = subst (Lacks 10) (sym (words_grouped e))
    (lacks-append 10 (codes "extended ") (flat_map percent e.name ++ 32 ∷ hex_text e.value) (lacks_from_test 10 (codes "extended ") refl)
    (lacks-append 10 (flat_map percent e.name) (32 ∷ hex_text e.value) (lacks_from_visible 10 (flat_map percent e.name) (omega arith) (name_visible e.name)) (behind_space (hex_text e.value) (lacks_from_visible 10 (hex_text e.value) (omega arith) (hex_text_visible e.value)))))
  where
    behind_space : (h : Text) → Lacks 10 h → Lacks 10 (32 ∷ h)
    behind_space h l = ((λ e. omega arith), l)

pub same_extended : (e : ExtendedAttribute) (n v : List ℕ) → n ≡ e.name → v ≡ e.value → ◌≡◌ {A = ExtendedAttribute} (record { name = n; value = v }) e
same_extended e n v en ev =
    ap (λ (x : List ℕ). let r : ExtendedAttribute = record { name = x; value = v } in r) en
    ∙ ap (λ (x : List ℕ). let r : ExtendedAttribute = record { name = e.name; value = x } in r) ev

pub no_m : (es : List ExtendedAttribute) → slice_index (flat_map extended_line es) 0 ≢ 109
unfolding extended_words
no_m [] e = omega arith
no_m (one ∷ es) e = omega arith

pub same_attributes : (a : Attributes) (b : BasicAttributes) (es : List ExtendedAttribute) → b ≡ a.basic → es ≡ a.extended → ◌≡◌ {A = Attributes} (record { basic = b; extended = es }) a
same_attributes a b es eb ee =
    ap (λ (x : BasicAttributes). let r : Attributes = record { basic = x; extended = es } in r) eb
    ∙ ap (λ (x : List ExtendedAttribute). let r : Attributes = record { basic = a.basic; extended = x } in r) ee

-- what was read so far is the first of these, each in this form, and the rest is others that keep P
pub record Continues (P : ExtendedAttribute → Type 0) (form : ExtendedAttribute → Text) (es done : List ExtendedAttribute) (rest : Text) : Type 0 where
  pub others : List ExtendedAttribute
  pub keep : AllByRecursion P others
  pub split : es ≡ done ++ others
  pub here : rest ≡ flat_map form others

module _ (P : ExtendedAttribute → Type 0) (form : ExtendedAttribute → Text) where
  -- one more was read
  pub continues_more : (es done : List ExtendedAttribute) (rest after : Text) (one : ExtendedAttribute) → Continues P form es done rest → rest ≢ []
      → ((e : ExtendedAttribute) (behind : Text) → P e → rest ≡ form e ++ behind → (one ≡ e) × (after ≡ behind)) → Continues P form es (done ++ one ∷ []) after
  continues_more es done rest after one h some outcome = go h.others h.keep h.split h.here
    where
      go : (others : List ExtendedAttribute) → AllByRecursion P others → es ≡ done ++ others → rest ≡ flat_map form others → Continues P form es (done ++ one ∷ []) after
      go [] keep split here = absurd (some here)
      go (e ∷ others) keep split here =
          let parts = outcome e (flat_map form others) keep.0 here in
          record {
            others = others;
            keep = keep.1;
            split = split ∙ ap (λ (x : ExtendedAttribute). done ++ (x ∷ others)) (sym parts.0) ∙ sym (append_assoc done (one ∷ []) others);
            here = parts.1;
          }

  -- nothing more can be read
  pub continues_none : (es done : List ExtendedAttribute) (rest : Text) → Continues P form es done rest → ((e : ExtendedAttribute) (behind : Text) → P e → rest ≡ form e ++ behind → ⊥) → done ≡ es
  continues_none es done rest h never = go h.others h.keep h.split h.here
    where
      go : (others : List ExtendedAttribute) → AllByRecursion P others → es ≡ done ++ others → rest ≡ flat_map form others → done ≡ es
      go [] keep split here = sym (split ∙ append-nil done)
      go (e ∷ others) keep split here = absurd (never e (flat_map form others) keep.0 here)

pub line_reported : (rest line after : Text) (one : ExtendedAttribute) → rest ≡ line ++ 10 ∷ after → All (λ b. b ≢ 10) line
    → ((e : ExtendedAttribute) → AreBytesOf e → line ≡ extended_words e → one ≡ e) → (e : ExtendedAttribute) (behind : Text) → AreBytesOf e → rest ≡ extended_line e ++ behind → (one ≡ e) × (after ≡ behind)
line_reported rest line after one is all outcome e behind keep here =
    let parts = same_cut 10 line (extended_words e) after behind (lacks_from_all 10 line all) (words_free e) (sym is ∙ here ∙ append_assoc (extended_words e) (10 ∷ []) behind) in
    (outcome e keep parts.0, parts.1)

pub no_line : (rest : Text) → All (λ b. b ≢ 10) rest → (e : ExtendedAttribute) (behind : Text) → AreBytesOf e → rest ≡ extended_line e ++ behind → ⊥
no_line rest all e behind keep here = never_cut 10 rest (extended_words e) behind all (here ∙ append_assoc (extended_words e) (10 ∷ []) behind)

-- a text that was cut has bytes
pub some_bytes : (rest front back : Text) (b : ℕ) → rest ≡ front ++ b ∷ back → rest ≢ []
some_bytes rest front back b is e = not_empty front back b (sym is ∙ e)

-- ---- texts that are no record

module _ (text : Text) (parse_unchecked : Attributes) (outcome : (a : Attributes) → IsAttributes a → text ≡ printed a → parse_unchecked ≡ a) where
  pub not_valid : is_valid parse_unchecked ≡ false → (a : Attributes) → IsAttributes a → text ≡ printed a → ⊥
  not_valid bad a is e = false≢true (sym bad ∙ ap is_valid (outcome a is e) ∙ is.valid)

  pub not_printed : (text ≡ printed parse_unchecked → ⊥) → (a : Attributes) → IsAttributes a → text ≡ printed a → ⊥
  not_printed other a is e = other (e ∙ ap printed (sym (outcome a is e)))
