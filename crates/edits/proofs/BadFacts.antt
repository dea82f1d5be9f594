-- The first bad line of a text that is not one of edits.
use Rattle.std.proofs.Common.{◌≡◌, ◌≢◌, ◌⊎◌, inl, inr, ◌+◌, ◌≤◌, List, [], ◌∷◌, ◌++◌, length, map, codes, refl, sym, ap, subst, ◌∙◌, append_assoc, append-nil, arith, length-append}
use Rattle.std.specs.List.{All}
use Rattle.std.proofs.lemmas.List.{length-map}
use Rattle.std.proofs.lemmas.List.Elements.{All-cons, All-head, All-nil, All-push}
use Rattle.pathkey.proofs.Pieces.{not_lacking}
use Rattle.reference.specs.Image.{Text}
use Rattle.textio.specs.Lines.{IsBadBehind, IsFirstBad, IsLine, Line, text_of}
use Rattle.textio.proofs.LineFacts.{first_line, same_line, text_append}
use Rattle.textio.proofs.Spelled.{behind_values}
use Rattle.edits.specs.Lines.{AreEdits, AreSomeEdits, IsEdit, heading, listed, spelled}
use Rattle.edits.specs.declared.edit.Edit.{Edit}
use Rattle.edits.proofs.TextFacts.{end_is_no_edit, end_line, heading_line, spelled_line, spelled_lines}

-- ---- texts of edits

-- the text before the end, and the end
whole : (es : List Edit) → text_of (heading ∷ map spelled es) ++ text_of (codes "end" ∷ []) ≡ text_of (heading ∷ listed es)
whole es = sym (text_append (heading ∷ map spelled es) (codes "end" ∷ []))

-- edits, the end, and more text
pub behind_end : (es : List Edit) (text behind : Text) → text ≡ text_of (heading ∷ map spelled es) ++ (codes "end" ++ 10 ∷ behind) → text ≡ text_of (heading ∷ listed es) ++ behind
behind_end es text behind e = e ∙ sym (append_assoc (text_of (heading ∷ map spelled es)) (text_of (codes "end" ∷ [])) behind) ∙ ap (λ t. t ++ behind) (whole es)

pub all_edits : (es : List Edit) (text behind : Text) → All IsEdit es → text ≡ text_of (heading ∷ map spelled es) ++ (codes "end" ++ 10 ∷ behind) → behind ≡ [] → AreEdits text es
all_edits es text behind are e none = record { edits = are; is = behind_end es text behind e ∙ ap (λ b. text_of (heading ∷ listed es) ++ b) none ∙ append-nil (text_of (heading ∷ listed es)) }

-- a text has a byte for each line at least
pub many_bytes : (ls : List Line) → length ls ≤ length (text_of ls)
many_bytes [] = omega arith
many_bytes (l ∷ ls) = omega (arith, many_bytes ls, length-append l (10 ∷ text_of ls))

-- one edit more
pub one_more : (es : List Edit) (e : Edit) (text rest line behind : Text) → text ≡ text_of (heading ∷ map spelled es) ++ rest → rest ≡ line ++ 10 ∷ behind → line ≡ spelled e → text ≡ text_of (heading ∷ map spelled (es ++ e ∷ [])) ++ behind
one_more es e text rest line behind cut next is =
    let front : text_of (heading ∷ map spelled (es ++ e ∷ [])) ≡ text_of (heading ∷ map spelled es) ++ text_of (spelled e ∷ []) =
    ap (λ ls. text_of (heading ∷ ls)) (map_push es) ∙ text_append (heading ∷ map spelled es) (spelled e ∷ []) in
    let one : rest ≡ text_of (spelled e ∷ []) ++ behind = next ∙ ap (λ l. l ++ 10 ∷ behind) is ∙ sym (append_assoc (spelled e) (10 ∷ []) behind) in
    cut ∙ ap (λ r. text_of (heading ∷ map spelled es) ++ r) one ∙ sym (append_assoc (text_of (heading ∷ map spelled es)) (text_of (spelled e ∷ [])) behind) ∙ ap (λ t. t ++ behind) (sym front)
  where
    map_push : (fs : List Edit) → map spelled (fs ++ e ∷ []) ≡ map spelled fs ++ spelled e ∷ []
    map_push [] = refl
    map_push (f ∷ fs) = ap (λ ls. spelled f ∷ ls) (map_push fs)

-- the text behind the first line and some edits is edits and the end
goes_on : (es : List Edit) (rest : Text) → All IsEdit es → AreSomeEdits (text_of (heading ∷ map spelled es) ++ rest) → (fs : List Edit) × All IsEdit fs × (rest ≡ text_of (listed fs))
goes_on es rest are (fs, is) =
    let cut : heading ++ 10 ∷ (text_of (map spelled es) ++ rest) ≡ heading ++ 10 ∷ text_of (listed fs) = sym (append_assoc heading (10 ∷ text_of (map spelled es)) rest) ∙ is.is in
    let both = same_line heading heading (text_of (map spelled es) ++ rest) (text_of (listed fs)) heading_line heading_line cut in
    behind_values Edit IsEdit spelled (codes "end") spelled_line end_line end_is_no_edit es fs rest are is.edits (sym both.1)

-- it has a line feed
never_a_line : (fs : List Edit) → IsLine (text_of (listed fs)) → ⊥
never_a_line [] h = not_lacking 10 (codes "end") [] h
never_a_line (f ∷ fs) h = not_lacking 10 (spelled f) (text_of (listed fs)) h

-- ---- the first line

some_edits : AreSomeEdits (text_of (heading ∷ listed []))
some_edits = ([], record { edits = All-nil IsEdit; is = refl })

pub bad_start : (text : Text) → IsLine text → IsFirstBad AreSomeEdits 1 text
bad_start text free = record {
  front = [];
  rest = text;
  whole = All-nil IsLine;
  cut = refl;
  number = refl;
  begins = (text_of (heading ∷ listed []), some_edits);
  bad = inr (free, λ (es, is). not_lacking 10 heading (text_of (listed es)) (subst IsLine is.is free));
}

pub bad_heading : (text line behind : Text) → text ≡ line ++ 10 ∷ behind → IsLine line → line ≢ heading → IsFirstBad AreSomeEdits 1 text
bad_heading text line behind cut free other = record {
  front = [];
  rest = text;
  whole = All-nil IsLine;
  cut = refl;
  number = refl;
  begins = (text_of (heading ∷ listed []), some_edits);
  bad = inl (line, behind, free, cut, λ more (es, is). other (same_line line heading more (text_of (listed es)) free heading_line is.is).0);
}

-- ---- a line after some edits

module _ (es : List Edit) (text rest : Text) (are : All IsEdit es) (cut : text ≡ text_of (heading ∷ map spelled es) ++ rest) where
  bad_next : IsBadBehind AreSomeEdits (heading ∷ map spelled es) rest → IsFirstBad AreSomeEdits (length es + 2) text
  bad_next bad = record {
    front = heading ∷ map spelled es;
    rest = rest;
    whole = All-cons IsLine heading (map spelled es) heading_line (spelled_lines es are);
    cut = cut;
    number = omega (arith, length-map es spelled);
    begins = (text_of (codes "end" ∷ []), (es, record { edits = are; is = whole es }));
    bad = bad;
  }

  -- the text stops there
  pub bad_stop : IsLine rest → IsFirstBad AreSomeEdits (length es + 2) text
  bad_stop free = bad_next (inr (free, λ h. let (fs, all, e) = goes_on es rest are h in never_a_line fs (subst IsLine e free)))

  -- it is neither an edit nor the end
  pub bad_line : (line behind : Text) → rest ≡ line ++ 10 ∷ behind → IsLine line → line ≢ codes "end" → ((e : Edit) → IsEdit e → line ≢ spelled e) → IsFirstBad AreSomeEdits (length es + 2) text
  bad_line line behind next free end none =
      bad_next (inl (line, behind, free, next, λ more h. let (fs, all, e) = goes_on es (line ++ 10 ∷ more) are h in never fs all more e))
    where
      never : (fs : List Edit) → All IsEdit fs → (more : Text) → line ++ 10 ∷ more ≡ text_of (listed fs) → ⊥
      never [] all more e = end (same_line line (codes "end") more [] free end_line e).0
      never (f ∷ fs) all more e =
          let is = All-head IsEdit f fs all in
          none f is (same_line line (spelled f) more (text_of (listed fs)) free (spelled_line f is) e).0

  -- it is the end, and more text follows
  pub bad_behind : (behind : Text) → rest ≡ codes "end" ++ 10 ∷ behind → behind ≢ [] → IsFirstBad AreSomeEdits (length es + 3) text
  bad_behind behind next some = record {
    front = heading ∷ listed es;
    rest = behind;
    whole = All-cons IsLine heading (listed es) heading_line (All-push IsLine (map spelled es) (codes "end") (spelled_lines es are) end_line);
    cut = behind_end es text behind (cut ∙ ap (λ r. text_of (heading ∷ map spelled es) ++ r) next);
    number = omega (arith, length-append (map spelled es) (codes "end" ∷ []), length-map es spelled);
    begins = ([], (es, record { edits = are; is = append-nil (text_of (heading ∷ listed es)) }));
    bad = nothing_more (first_line behind);
  }
    where
      none_more : (x : Text) (fs : List Edit) → All IsEdit fs → codes "end" ++ 10 ∷ x ≡ text_of (listed fs) → x ≡ []
      none_more x [] all e = (same_line (codes "end") (codes "end") x [] end_line end_line e).1
      none_more x (f ∷ fs) all e = absurd (end_is_no_edit f (same_line (codes "end") (spelled f) x (text_of (listed fs)) end_line (spelled_line f (All-head IsEdit f fs all)) e).0)

      ends : (x : Text) → AreSomeEdits (text_of (heading ∷ listed es) ++ x) → x ≡ []
      ends x h =
          let back : text_of (heading ∷ listed es) ++ x ≡ text_of (heading ∷ map spelled es) ++ (codes "end" ++ 10 ∷ x) = sym (behind_end es (text_of (heading ∷ map spelled es) ++ (codes "end" ++ 10 ∷ x)) x refl) in
          let (fs, all, e) = goes_on es (codes "end" ++ 10 ∷ x) are (subst AreSomeEdits back h) in
          none_more x fs all e

      never : (line more : Text) → line ++ 10 ∷ more ≡ [] → ⊥
      never [] more e = cc
      never (b ∷ line) more e = cc

      nothing_more : ((line after : Text) × IsLine line × (behind ≡ line ++ 10 ∷ after)) ⊎ IsLine behind → IsBadBehind AreSomeEdits (heading ∷ listed es) behind
      nothing_more (inl (line, after, free, more)) = inl (line, after, free, more, λ next h. never line next (ends (line ++ 10 ∷ next) h))
      nothing_more (inr free) = inr (free, λ h. some (ends behind h))
