-- A delta as it is written.
use Rattle.std.proofs.Common.{◌≡◌, ℕ, ◌<◌, ◌^◌, ◌==◌, cond, arith, List, [], ◌∷◌, ◌++◌, length, refl, sym, ap, subst, ◌∙◌, append_assoc, append-nil, Bool, true, false, Option, Some}
use Rattle.std.specs.Io.KnownBytes.{Appends}
use Rattle.std.specs.List.{All}
use Rattle.std.proofs.KnownBytes.{Appends-nil, Appends-trans}
use Rattle.std.proofs.lemmas.Bool.{eqb-false}
use Rattle.std.proofs.lemmas.List.Elements.{All-nil, All-cons, All-append}
use Rattle.reference.specs.Image.{Second, Text, image}
use Rattle.reference.specs.Tree.{Tree}
use Rattle.sha2.specs.Sha256.{sha256}
use Rattle.textio.specs.Lines.{lines_of}
use Rattle.volume.specs.Volumes.{MeanRooted}
use Rattle.volume.specs.declared.fs_root.FsRoot.{FsRoot}
use Rattle.delta.specs.Applies.{AppendsDelta, IsDifference}
use Rattle.delta.specs.Deltas.{Command, Come, Go, IsCommand, IsDigest, IsLine, Line, Stay, commands_text, heading, patched, run, text_of, parsed}
use Rattle.delta.specs.Texts.{end_text}
use Rattle.delta.specs.Walks.{IsAtStart, Patches, Puts, PutsAll, SameTree, Walks, lines_from}
use Rattle.delta.specs.declared.line_cursor.LineCursor.{LineCursor}
use Rattle.delta.proofs.PatchFacts.{come_made, run_go, run_stay}
use Rattle.delta.proofs.TextFacts.{commands_append, reported_text}

pub mean_at : (a b : LineCursor) (t : Tree) → SameTree a b → MeanRooted a.printing.tree t → MeanRooted b.printing.tree t
mean_at a b t same m = subst (λ (r : FsRoot). MeanRooted r t) (sym same) m

-- ---- one kind of command

pub patches_none : (a b : LineCursor) → Patches [] a b a b
patches_none a b = record { old_tree = refl; new_tree = refl; patch = λ t u ds m n e. e }

pub patches_same : (n : ℕ) (kept : List Line) (a b x y : LineCursor) → length kept ≡ n → Walks kept a x → Walks kept b y → Patches (run Stay n) a b x y
patches_same n kept a b x y size f g = record {
  old_tree = f.same;
  new_tree = g.same;
  patch = λ t u ds m k e. ap (patched (run Stay n ++ ds)) (f.over t m) ∙ run_stay n kept (lines_from t x) (lines_from u y) ds size e ∙ ap Some (sym (g.over u k));
}

pub patches_going : (n : ℕ) (gone : List Line) (a b x : LineCursor) → length gone ≡ n → Walks gone a x → Patches (run Go n) a b x b
patches_going n gone a b x size f = record {
  old_tree = f.same;
  new_tree = refl;
  patch = λ t u ds m k e. ap (patched (run Go n ++ ds)) (f.over t m) ∙ run_go n gone (lines_from t x) (lines_from u b) ds size e;
}

pub patches_coming : (l : Line) (a b y : LineCursor) → Walks (l ∷ []) b y → Patches (Come l ∷ []) a b a y
patches_coming l a b y g = record {
  old_tree = refl;
  new_tree = g.same;
  patch = λ t u ds m k e. come_made (l ∷ []) (lines_from t a) (lines_from u y) ds e ∙ ap Some (sym (g.over u k));
}

pub patches_then : (cs ds : List Command) (a b x y p q : LineCursor) → Patches cs a b x y → Patches ds x y p q → Patches (cs ++ ds) a b p q
patches_then cs ds a b x y p q f g = record {
  old_tree = g.old_tree ∙ f.old_tree;
  new_tree = g.new_tree ∙ f.new_tree;
  patch = λ t u es m k e.
      ap (λ c. patched c (lines_from t a)) (append_assoc cs ds es)
      ∙ f.patch t u (ds ++ es) m k (g.patch t u es (mean_at a x t f.old_tree m) (mean_at b y u f.new_tree k) e);
}

-- ---- written commands

pub puts_none : (h : Option (List ℕ)) (a b : LineCursor) → Puts [] h h a b a b
puts_none h a b = record { commands = All-nil IsCommand; text = Appends-nil h; patches = patches_none a b }

pub puts_then : (cs ds : List Command) (h i j : Option (List ℕ)) (a b x y p q : LineCursor) → Puts cs h i a b x y → Puts ds i j x y p q → Puts (cs ++ ds) h j a b p q
puts_then cs ds h i j a b x y p q f g = record {
  commands = All-append IsCommand cs ds f.commands g.commands;
  text = subst (Appends h j) (sym (commands_append cs ds)) (Appends-trans h i j (commands_text cs) (commands_text ds) f.text g.text);
  patches = patches_then cs ds a b x y p q f.patches g.patches;
}

pub run_commands : (c : ℕ → Command) (n : ℕ) → (0 < n → IsCommand (c n)) → All IsCommand (run c n)
run_commands c n is = go (n == 0) refl
  where
    go : (b : Bool) → (n == 0) ≡ b → All IsCommand (cond b [] (c n ∷ []))
    go true e = All-nil IsCommand
    go false e = All-cons IsCommand (c n) [] (is (let z = eqb-false n 0 e in omega (arith, z))) (All-nil IsCommand)

pub puts_stay : (n : ℕ) (h i : Option (List ℕ)) (a b x y : LineCursor) → n < 2 ^ 64 → Appends h i (commands_text (run Stay n)) → Patches (run Stay n) a b x y → Puts (run Stay n) h i a b x y
puts_stay n h i a b x y small text f = record { commands = run_commands Stay n (λ some. (some, small)); text = text; patches = f }

pub puts_go : (n : ℕ) (h i : Option (List ℕ)) (a b x y : LineCursor) → n < 2 ^ 64 → Appends h i (commands_text (run Go n)) → Patches (run Go n) a b x y → Puts (run Go n) h i a b x y
puts_go n h i a b x y small text f = record { commands = run_commands Go n (λ some. (some, small)); text = text; patches = f }

pub puts_come : (l : Line) (h i : Option (List ℕ)) (a b y : LineCursor) → IsLine l → Appends h i (commands_text (Come l ∷ [])) → Walks (l ∷ []) b y → Puts (Come l ∷ []) h i a b a y
puts_come l h i a b y whole text f = record { commands = All-cons IsCommand (Come l) [] whole (All-nil IsCommand); text = text; patches = patches_coming l a b y f }

pub puts_all : (cs : List Command) (h i : Option (List ℕ)) (a b x y : LineCursor) → Puts cs h i a b x y → ((t : Tree) → lines_from t x ≡ []) → ((u : Tree) → lines_from u y ≡ []) → PutsAll cs h i a b
puts_all cs h i a b x y f old new = record {
  commands = f.commands;
  text = f.text;
  all = λ t u m k.
      let last : patched [] (lines_from t x) ≡ Some (lines_from u y) = ap (patched []) (old t) ∙ ap Some (sym (new u)) in
      ap (λ c. patched c (lines_from t a)) (sym (append-nil cs)) ∙ f.patches.patch t u [] m k last;
}

-- ---- a delta

-- commands that make the one image of the other, as a delta
pub difference : (digest : List ℕ) (cs : List Command) (t u : Tree) → IsDigest digest → digest ≡ sha256 (image Second t) → All IsCommand cs → patched cs (lines_of (image Second t)) ≡ Some (lines_of (image Second u))
    → IsDifference (heading digest ++ 10 ∷ (commands_text cs ++ end_text)) t u
difference digest cs t u sum is commands makes = record {
  commands = cs;
  is = record {
    sum = subst IsDigest is sum;
    commands = commands;
    is = ap (λ b. heading digest ++ 10 ∷ b) (sym (reported_text cs)) ∙ ap (λ d. heading d ++ 10 ∷ text_of (parsed cs)) is;
  };
  lines = makes;
}

pub heading_cut : (digest : List ℕ) (rest : Text) → text_of (heading digest ∷ []) ++ rest ≡ heading digest ++ 10 ∷ rest
heading_cut digest rest = append_assoc (heading digest) (10 ∷ []) rest

pub delta_put : (h i j k : Option (List ℕ)) (digest : List ℕ) (cs : List Command) (a b : LineCursor) (r s : FsRoot) (t u : Tree) → IsAtStart r a → IsAtStart s b → MeanRooted r t → MeanRooted s u
    → IsDigest digest → digest ≡ sha256 (image Second t) → Appends h i (text_of (heading digest ∷ [])) → PutsAll cs i j a b → Appends j k end_text → AppendsDelta h k t u
delta_put h i j k digest cs a b r s t u at_a at_b m n sum is first puts last =
    let rest : Text = commands_text cs ++ end_text in
    let mean_a : MeanRooted a.printing.tree t = subst (λ (r : FsRoot). MeanRooted r t) (sym at_a.same) m in
    let mean_b : MeanRooted b.printing.tree u = subst (λ (r : FsRoot). MeanRooted r u) (sym at_b.same) n in (
      heading digest ++ 10 ∷ rest,
      difference digest cs t u sum is puts.commands (ap (patched cs) (sym (at_a.all t m)) ∙ puts.all t u mean_a mean_b ∙ ap Some (at_b.all u n)),
      subst (Appends h k) (heading_cut digest rest) (Appends-trans h i k (text_of (heading digest ∷ [])) rest first (Appends-trans i j k (commands_text cs) end_text puts.text last)),
    )
