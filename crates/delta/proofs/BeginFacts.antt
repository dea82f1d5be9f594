-- A beginning of a delta: whatever was written of one, the rest of it can be had.
use Rattle.std.proofs.Common.{◌≡◌, inl, inr, ℕ, List, [], ◌∷◌, ◌++◌, map, refl, sym, ap, subst, ◌∙◌, append_assoc, arith, Bool, true, false, Option, Some, option_map}
use Rattle.std.specs.Io.KnownBytes.{Appends}
use Rattle.std.specs.List.{All}
use Rattle.std.proofs.KnownBytes.{Appends-nil, Appends-trans}
use Rattle.std.proofs.lemmas.List.Elements.{All-nil, All-cons, All-head, All-tail, All-append}
use Rattle.images.proofs.WholeLines.{ends_after}
use Rattle.images.specs.Image.{EndsLine}
use Rattle.reference.specs.Image.{Second, Text, image}
use Rattle.reference.specs.Tree.{Tree}
use Rattle.sha2.specs.Sha256.{sha256}
use Rattle.textio.specs.Lines.{lines_of}
use Rattle.textio.specs.Parts.{AppendsPart}
use Rattle.textio.proofs.Known.{all_is_part, part_after, part_before}
use Rattle.volume.specs.Volumes.{MeanRooted}
use Rattle.volume.specs.declared.fs_root.FsRoot.{FsRoot}
use Rattle.delta.specs.Applies.{BeginsDelta, BeginsLines, IsDifference}
use Rattle.delta.specs.Deltas.{Command, Come, Go, IsCommand, IsDigest, IsLine, Line, commands_text, heading, patched, spelled, text_of}
use Rattle.delta.specs.Texts.{end_text}
use Rattle.delta.specs.Walks.{BeginsAll, IsAtStart, Patches, Puts, PutsAll, PutsSome, left, lines_from}
use Rattle.delta.specs.declared.line_cursor.LineCursor.{LineCursor}
use Rattle.delta.proofs.PatchFacts.{come_made, go_made, lines_free}
use Rattle.delta.proofs.PrintFacts.{difference, heading_cut, mean_at, patches_none, puts_none}
use Rattle.delta.proofs.TextFacts.{commands_append}
use Rattle.delta.proofs.WalkFacts.{none_left, some_left}

-- ---- commands that make any lines of any others

-- the old lines are deleted, one by one, and the new ones are inserted
abbrev pub whole : List Line → List Line → List Command
whole [] new = map Come new
whole (l ∷ old) new = Go 1 ∷ whole old new

come_commands : (new : List Line) → All IsLine new → All IsCommand (map Come new)
come_commands [] free = All-nil IsCommand
come_commands (l ∷ new) free = All-cons IsCommand (Come l) (map Come new) (All-head IsLine l new free) (come_commands new (All-tail IsLine l new free))

pub whole_commands : (old new : List Line) → All IsLine new → All IsCommand (whole old new)
whole_commands [] new free = come_commands new free
whole_commands (l ∷ old) new free = All-cons IsCommand (Go 1) (whole old new) (omega arith, omega arith) (whole_commands old new free)

all_come : (new : List Line) → patched (map Come new) [] ≡ Some new
all_come [] = refl
all_come (l ∷ new) = ap (option_map (λ ls. l ∷ ls)) (all_come new)

pub whole_makes : (old new : List Line) → patched (whole old new) old ≡ Some new
whole_makes [] new = all_come new
whole_makes (l ∷ old) new = go_made 1 (l ∷ []) old (whole old new) refl ∙ whole_makes old new

-- the lines of an image have no line feeds
pub from_free : (t : Tree) (w : LineCursor) → All IsLine (lines_from t w)
from_free t w = go w.there refl
  where
    go : (b : Bool) → w.there ≡ b → All IsLine (lines_from t w)
    go true is = subst (All IsLine) (sym (some_left t w is)) (All-cons IsLine w.line.items (lines_of (left t w)) w.free (lines_free (left t w)))
    go false is = subst (All IsLine) (sym (none_left t w is)) (All-nil IsLine)

-- ---- commands of which a prefix was written

-- these commands were begun
pub begun : (cs : List Command) (h i : Option (List ℕ)) (a b x y : LineCursor) → All IsCommand cs → Patches cs a b x y → AppendsPart h i (commands_text cs) → BeginsAll h i a b
begun cs h i a b x y commands f text = λ t u m k.
    let rest : List Command = whole (lines_from t x) (lines_from u y) in
    record {
      list = cs ++ rest;
      commands = All-append IsCommand cs rest commands (whole_commands (lines_from t x) (lines_from u y) (from_free u y));
      text = subst (AppendsPart h i) (sym (commands_append cs rest)) (part_before h i (commands_text cs) (commands_text rest) text);
      all = f.patch t u rest m k (whole_makes (lines_from t x) (lines_from u y));
    }

-- nothing was written
pub begun_none : (h : Option (List ℕ)) (a b : LineCursor) → BeginsAll h h a b
begun_none h a b = begun [] h h a b a b (All-nil IsCommand) (patches_none a b) (all_is_part h h [] (Appends-nil h))

-- a prefix of the insertion of the new cursor's line was written
pub begun_come : (h i : Option (List ℕ)) (a b : LineCursor) → b.there ≡ true → AppendsPart h i (commands_text (Come b.line.items ∷ [])) → BeginsAll h i a b
begun_come h i a b there text = λ t u m k.
    let l : Line = b.line.items in
    let new : List Line = lines_of (left u b) in
    let rest : List Command = whole (lines_from t a) new in
    record {
      list = Come l ∷ rest;
      commands = All-cons IsCommand (Come l) rest b.free (whole_commands (lines_from t a) new (lines_free (left u b)));
      text = subst (AppendsPart h i) (sym (commands_append (Come l ∷ []) rest)) (part_before h i (commands_text (Come l ∷ [])) (commands_text rest) text);
      all = come_made (l ∷ []) (lines_from t a) new rest (whole_makes (lines_from t a) new) ∙ ap Some (sym (some_left u b there));
    }

-- commands were written, and after them a prefix of others
pub begun_then : (cs : List Command) (h i j : Option (List ℕ)) (a b x y : LineCursor) → Puts cs h i a b x y → BeginsAll i j x y → BeginsAll h j a b
begun_then cs h i j a b x y f more = λ t u m k.
    let g = more t u (mean_at a x t f.patches.old_tree m) (mean_at b y u f.patches.new_tree k) in
    record {
      list = cs ++ g.list;
      commands = All-append IsCommand cs g.list f.commands g.commands;
      text = subst (AppendsPart h j) (sym (commands_append cs g.list)) (part_after h i j (commands_text cs) (commands_text g.list) f.text g.text);
      all = f.patches.patch t u g.list m k g.all;
    }

-- ---- commands of which the first were written, each completely

pub some_put : (cs : List Command) (h i : Option (List ℕ)) (a b x y : LineCursor) → Puts cs h i a b x y → PutsSome h i a b
some_put cs h i a b x y f = λ t u m k.
    let rest : List Command = whole (lines_from t x) (lines_from u y) in
    record {
      done = cs;
      more = rest;
      commands = All-append IsCommand cs rest f.commands (whole_commands (lines_from t x) (lines_from u y) (from_free u y));
      text = f.text;
      all = f.patches.patch t u rest m k (whole_makes (lines_from t x) (lines_from u y));
    }

-- none was written
pub some_none : (h : Option (List ℕ)) (a b : LineCursor) → PutsSome h h a b
some_none h a b = some_put [] h h a b a b (puts_none h a b)

-- the insertion of the new cursor's line was written
pub some_come : (h i : Option (List ℕ)) (a b : LineCursor) → b.there ≡ true → Appends h i (commands_text (Come b.line.items ∷ [])) → PutsSome h i a b
some_come h i a b there text = λ t u m k.
    let l : Line = b.line.items in
    let new : List Line = lines_of (left u b) in
    let rest : List Command = whole (lines_from t a) new in
    record {
      done = Come l ∷ [];
      more = rest;
      commands = All-cons IsCommand (Come l) rest b.free (whole_commands (lines_from t a) new (lines_free (left u b)));
      text = text;
      all = come_made (l ∷ []) (lines_from t a) new rest (whole_makes (lines_from t a) new) ∙ ap Some (sym (some_left u b there));
    }

-- commands were written, and then the first of others
pub some_then : (cs : List Command) (h i j : Option (List ℕ)) (a b x y : LineCursor) → Puts cs h i a b x y → PutsSome i j x y → PutsSome h j a b
some_then cs h i j a b x y f later = λ t u m k.
    let g = later t u (mean_at a x t f.patches.old_tree m) (mean_at b y u f.patches.new_tree k) in
    let same : (cs ++ g.done) ++ g.more ≡ cs ++ (g.done ++ g.more) = append_assoc cs g.done g.more in
    record {
      done = cs ++ g.done;
      more = g.more;
      commands = subst (All IsCommand) (sym same) (All-append IsCommand cs (g.done ++ g.more) f.commands g.commands);
      text = subst (Appends h j) (sym (commands_append cs g.done)) (Appends-trans h i j (commands_text cs) (commands_text g.done) f.text g.text);
      all = ap (λ l. patched l (lines_from t a)) same ∙ f.patches.patch t u (g.done ++ g.more) m k g.all;
    }

-- lines end with a line feed
lines_end : (ls : List Line) → EndsLine (text_of ls)
lines_end [] = inl refl
lines_end (l ∷ ls) = subst EndsLine (append_assoc l (10 ∷ []) (text_of ls)) (ends_after (l ++ 10 ∷ []) (text_of ls) (inr (l, refl)) (lines_end ls))

-- ---- a delta of which a prefix was written

-- its first line was begun, or nothing was written
pub delta_heading : (h i : Option (List ℕ)) (digest : List ℕ) (t u : Tree) → IsDigest digest → digest ≡ sha256 (image Second t) → AppendsPart h i (text_of (heading digest ∷ [])) → BeginsDelta h i t u
delta_heading h i digest t u sum is first =
    let old : List Line = lines_of (image Second t) in
    let new : List Line = lines_of (image Second u) in
    let cs : List Command = whole old new in
    let rest : Text = commands_text cs ++ end_text in (
      heading digest ++ 10 ∷ rest,
      difference digest cs t u sum is (whole_commands old new (lines_free (image Second u))) (whole_makes old new),
      subst (AppendsPart h i) (heading_cut digest rest) (part_before h i (text_of (heading digest ∷ [])) rest first),
    )

pub delta_none : (h : Option (List ℕ)) (digest : List ℕ) (t u : Tree) → IsDigest digest → digest ≡ sha256 (image Second t) → BeginsDelta h h t u
delta_none h digest t u sum is = delta_heading h h digest t u sum is (part_before h h [] (text_of (heading digest ∷ [])) (all_is_part h h [] (Appends-nil h)))

-- no line was written
pub delta_no_line : (h : Option (List ℕ)) (digest : List ℕ) (t u : Tree) → IsDigest digest → digest ≡ sha256 (image Second t) → BeginsLines h h t u
delta_no_line h digest t u sum is = let (text, difference, part) = delta_none h digest t u sum is in (text, difference, ([], text, refl, Appends-nil h, inl refl))

-- after the first line
module _ (h i j : Option (List ℕ)) (digest : List ℕ) (a b : LineCursor) (r s : FsRoot) (t u : Tree) (at_a : IsAtStart r a) (at_b : IsAtStart s b) (m : MeanRooted r t) (n : MeanRooted s u)
    (sum : IsDigest digest) (is : digest ≡ sha256 (image Second t)) (first : Appends h i (text_of (heading digest ∷ []))) where
  mean_a : MeanRooted a.printing.tree t
  mean_a = subst (λ (r : FsRoot). MeanRooted r t) (sym at_a.same) m

  mean_b : MeanRooted b.printing.tree u
  mean_b = subst (λ (r : FsRoot). MeanRooted r u) (sym at_b.same) n

  -- all lines of the walks are those of the images
  pub of_images : (cs : List Command) → All IsCommand cs → patched cs (lines_from t a) ≡ Some (lines_from u b) → IsDifference (heading digest ++ 10 ∷ (commands_text cs ++ end_text)) t u
  of_images cs commands makes = difference digest cs t u sum is commands (ap (patched cs) (sym (at_a.all t m)) ∙ makes ∙ ap Some (at_b.all u n))

  -- its commands were begun
  pub delta_commands : BeginsAll i j a b → BeginsDelta h j t u
  delta_commands begins =
      let g = begins t u mean_a mean_b in
      let rest : Text = commands_text g.list ++ end_text in (
        heading digest ++ 10 ∷ rest,
        of_images g.list g.commands g.all,
        subst (AppendsPart h j) (heading_cut digest rest) (part_after h i j (text_of (heading digest ∷ [])) rest first (part_before i j (commands_text g.list) end_text g.text)),
      )

  -- the first of its commands were written, each whole
  pub delta_some : PutsSome i j a b → BeginsLines h j t u
  delta_some some =
      let g = some t u mean_a mean_b in
      let first_line : Text = text_of (heading digest ∷ []) in
      let done : Text = commands_text g.done in
      let more : Text = commands_text g.more in (
        heading digest ++ 10 ∷ (commands_text (g.done ++ g.more) ++ end_text),
        of_images (g.done ++ g.more) g.commands g.all,
        (
          first_line ++ done,
          more ++ end_text,
          sym (heading_cut digest (commands_text (g.done ++ g.more) ++ end_text))
              ∙ ap (λ l. first_line ++ (l ++ end_text)) (commands_append g.done g.more)
              ∙ ap (λ l. first_line ++ l) (append_assoc done more end_text)
              ∙ sym (append_assoc first_line done (more ++ end_text)),
          Appends-trans h i j first_line done first g.text,
          ends_after first_line done (lines_end (heading digest ∷ [])) (lines_end (map spelled g.done)),
        ),
      )

  -- its last line was begun
  pub delta_end : (k : Option (List ℕ)) (cs : List Command) → PutsAll cs i j a b → AppendsPart j k end_text → BeginsDelta h k t u
  delta_end k cs puts last =
      let rest : Text = commands_text cs ++ end_text in (
        heading digest ++ 10 ∷ rest,
        of_images cs puts.commands (puts.all t u mean_a mean_b),
        subst (AppendsPart h k) (heading_cut digest rest) (part_after h i k (text_of (heading digest ∷ [])) rest first (part_after i j k (commands_text cs) end_text puts.text last)),
      )
