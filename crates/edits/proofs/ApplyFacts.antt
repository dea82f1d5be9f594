-- A text of edits that is applied line by line.
use Rattle.std.proofs.Common.{◌≡◌, ◌≢◌, ℕ, ◌+◌, ◌≤◌, List, [], ◌∷◌, ◌++◌, length, map, take, codes, refl, sym, ap, subst, ◌∙◌, append-nil, arith, length-append, Result, Ok, Err}
use Rattle.std.specs.Prelude.{◌-◌, All, MatchResult}
use Rattle.std.proofs.Math.Seq.{take-append_seam}
use Rattle.std.proofs.lemmas.List.{length-map}
use Rattle.std.proofs.lemmas.List.Elements.{All-nil, All-push}
use Rattle.reference.specs.Image.{Text}
use Rattle.reference.specs.Tree.{Tree}
use Rattle.reference.specs.Worlds.{World}
use Rattle.textio.specs.Lines.{IsFirstBad, IsLine, Line, text_of}
use Rattle.volume.specs.Volumes.{Means, PVolume, live_of}
use Rattle.volume.proofs.Leading.{kept_all}
use Rattle.volume.proofs.Transacting.{kept_through}
use Rattle.edits.specs.Applies.{DoesEdits, FitsBefore, Stays}
use Rattle.edits.specs.Applying.{DoesLine, DoesText, HasDone}
use Rattle.edits.specs.Edits.{AreEdited}
use Rattle.edits.specs.Lines.{AreSomeEdits, IsEdit, heading, listed, spelled}
use Rattle.edits.specs.declared.apply.EditFault.{EditFault}
use Rattle.edits.specs.declared.apply.EditFault.TheVariants.{Memory, Bad, Unfit}
use Rattle.edits.specs.declared.edit.Edit.{Edit}
use Rattle.edits.proofs.BadFacts.{all_edits, bad_behind, bad_line, bad_stop, behind_end, many_bytes, one_more}
use Rattle.edits.proofs.Removals.{edited_append}

-- ---- edits that were done

stays_same : (v : PVolume) → Stays v v
stays_same v = record { snapshots = refl; marks = refl; kept = kept_all (live_of v) }

stays_through : (a b c : PVolume) → Stays a b → Stays b c → Stays a c
stays_through a b c h k = record {
  snapshots = k.snapshots ∙ h.snapshots;
  marks = k.marks ∙ h.marks;
  kept = kept_through (live_of a) (live_of b) (live_of c) h.marks k.marks h.kept k.kept;
}

done_none : (v : PVolume) → DoesEdits [] v v
done_none v = record { stays = stays_same v; means = λ w m. (w.live, refl, m) }

done_more : (es fs : List Edit) (a b c : PVolume) → DoesEdits es a b → DoesEdits fs b c → DoesEdits (es ++ fs) a c
done_more es fs a b c h k = record {
  stays = stays_through a b c h.stays k.stays;
  means = λ w m.
      let first = h.means w m in
      let second = k.means (record w { live = first.0 }) first.2 in
      (second.0, edited_append es fs w.live first.0 second.0 first.1 second.1, second.2);
}

-- ---- lines that were done

pub begun : (text lines : Text) (v : PVolume) → text ≡ heading ++ 10 ∷ lines → HasDone text lines 2 v v
begun text lines v cut = record { edits = []; are = All-nil IsEdit; cut = cut; count = refl; does = done_none v }

-- line numbers are small
pub few_lines : (text rest : Text) (number : ℕ) (old now : PVolume) → HasDone text rest number old now → number ≤ length text + 1
few_lines text rest number old now h =
    let lines = heading ∷ map spelled h.edits in
    omega (arith, h.count, ap length h.cut, length-append (text_of lines) rest, many_bytes lines, length-map h.edits spelled)

-- ---- a bad line

-- the lines before it are the first of these edits, which were done
fits_before : (es : List Edit) (text rest : Text) (n : ℕ) (front more : List Line) (t u : Tree) → All IsEdit es → AreEdited es t u → text ≡ text_of front ++ rest → heading ∷ listed es ≡ front ++ more → n ≡ length front + 1 → FitsBefore n text t
fits_before es text rest n front more t u are done cut lines number =
    let size : n - 1 ≡ length front = omega (arith, number) in
    let taken : take (n - 1) (heading ∷ listed es) ≡ front = ap (λ k. take k (heading ∷ listed es)) size ∙ ap (take (length front)) lines ∙ take-append_seam front more in
    record { edits = es; rest = rest; there = u; are = are; begins = cut ∙ ap (λ ls. text_of ls ++ rest) (sym taken); done = done }

-- the first line is bad
pub no_heading : (text : Text) (old new : PVolume) → IsFirstBad AreSomeEdits 1 text → DoesText text (Err (Bad 1)) old new
no_heading text old new bad = (bad, λ w m. fits_before [] text text 1 [] (heading ∷ listed []) w.live w.live (All-nil IsEdit) refl refl refl refl)

module _ (text rest : Text) (number : ℕ) (old now : PVolume) (h : HasDone text rest number old now) where
  fitted : (n : ℕ) (front more : List Line) (behind : Text) → text ≡ text_of front ++ behind → heading ∷ listed h.edits ≡ front ++ more → n ≡ length front + 1 → (w : World) → Means old w → FitsBefore n text w.live
  fitted n front more behind cut lines place w m = let done = h.does.means w m in fits_before h.edits text behind n front more w.live done.0 h.are done.1 cut lines place

  -- the next line is bad
  fitted_next : (n : ℕ) → length h.edits + 2 ≡ n → (w : World) → Means old w → FitsBefore n text w.live
  fitted_next n place = fitted n (heading ∷ map spelled h.edits) (codes "end" ∷ []) rest h.cut refl (omega (arith, place, length-map h.edits spelled))

  -- no line follows
  pub stopped : IsLine rest → DoesText text (Err (Bad number)) old now
  stopped free = (subst (λ (n : ℕ). IsFirstBad AreSomeEdits n text) (sym h.count) (bad_stop h.edits text rest h.are h.cut free), fitted_next number (sym h.count))

  module _ (line behind : Text) (next : rest ≡ line ++ 10 ∷ behind) where
    -- the end follows
    pub ended : line ≡ codes "end" → (r : Result (Unit {0}) EditFault) → MatchResult r (λ _. behind ≡ []) (λ fault. (fault ≡ Bad (number + 1)) × (behind ≢ [])) → DoesText text r old now
    ended end (Ok u) none = (h.edits, all_edits h.edits text behind h.are (h.cut ∙ ap (λ r. text_of (heading ∷ map spelled h.edits) ++ r) (next ∙ ap (λ l. l ++ 10 ∷ behind) end)) none, h.does)
    ended end (Err fault) (is, some) =
        let last : rest ≡ codes "end" ++ 10 ∷ behind = next ∙ ap (λ l. l ++ 10 ∷ behind) end in
        let place : length h.edits + 3 ≡ number + 1 = omega (arith, h.count) in
        let bad = subst (λ (n : ℕ). IsFirstBad AreSomeEdits n text) place (bad_behind h.edits text rest h.are h.cut behind last some) in
        let cut : text ≡ text_of (heading ∷ listed h.edits) ++ behind = behind_end h.edits text behind (h.cut ∙ ap (λ r. text_of (heading ∷ map spelled h.edits) ++ r) last) in
        let size : number + 1 ≡ length (heading ∷ listed h.edits) + 1 = omega (arith, h.count, length-append (map spelled h.edits) (codes "end" ∷ []), length-map h.edits spelled) in
        let fits = fitted (number + 1) (heading ∷ listed h.edits) [] behind cut (sym (append-nil (heading ∷ listed h.edits))) size in
        subst (λ (f : EditFault). DoesText text (Err f) old now) (sym is) (bad, fits)

    -- an edit follows, and was done
    pub one_done : (new : PVolume) → DoesLine line number (Ok tt) now new → HasDone text behind (number + 1) old new
    one_done new (e, is, does) = record {
      edits = h.edits ++ e ∷ [];
      are = All-push IsEdit h.edits e h.are is.edit;
      cut = one_more h.edits e text rest line behind h.cut next is.is;
      count = omega (arith, h.count, length-append h.edits (e ∷ []));
      does = done_more h.edits (e ∷ []) old now new h.does does;
    }

    -- a line follows that could not be done
    pub line_failed : (new : PVolume) (fault : EditFault) → IsLine line → line ≢ codes "end" → DoesLine line number (Err fault) now new → DoesText text (Err fault) old new
    line_failed new Memory free other does = tt
    line_failed new (Bad n) free other (same, is, none) =
        let place : length h.edits + 2 ≡ n = sym (is ∙ h.count) in
        (subst (λ (k : ℕ). IsFirstBad AreSomeEdits k text) place (bad_line h.edits text rest h.are h.cut line behind next free other none), fitted_next n place)
    line_failed new (Unfit n) free other (same, is, e, of, refuses) = λ w m.
        let done = h.does.means w m in
        record {
          before = h.edits;
          edit = e;
          rest = behind;
          are = All-push IsEdit h.edits e h.are of.edit;
          begins = one_more h.edits e text rest line behind h.cut next of.is;
          number = is ∙ h.count;
          refused = record { there = done.0; before = done.1; none = refuses (record w { live = done.0 }) done.2 };
        }
