-- The loop over the lines of a piece of an image: what was loaded up to a place, the next line, and what is left of it.
use Rattle.std.proofs.Common.{◌≡◌, ◌≢◌, ◌+◌, ◌≤◌, ◌<◌, ◌++◌, ◌∷◌, ℕ, [], length, refl, sym, ap, subst, ◌∙◌, append_assoc, append-nil}
use Rattle.std.specs.List.{All}
use Rattle.reference.specs.Image.{Text}
use Rattle.reference.specs.ImageLines.{IsBadAt}
use Rattle.images.specs.Loads.{HasRead, LoadsLine, LoadsPiece, RefusesLine, RefusesPiece, text_so_far}
use Rattle.textio.specs.Held.{Holds}
use Rattle.images.specs.declared.load.LoadState.{LoadState}
use Rattle.images.proofs.LoadFacts.{line_bad, line_read}
use Rattle.textio.proofs.HeldFacts.{hold_more, line_cut}

-- at the head of the loop: a beginning of the piece was loaded
abbrev pub LoadsFront : Text → Text → Text → Text → LoadState → LoadState → Type 0
LoadsFront piece rest items now old new = (front : Text) × (piece ≡ front ++ rest) × LoadsPiece items front now old new

-- before the first line
pub loads_nothing : (piece items : Text) (l : LoadState) → LoadsFront piece piece items items l l
loads_nothing piece items l = ([], refl, λ text h. subst (λ (t : Text). HasRead t items l) (sym (append-nil text)) h)

-- a piece after another
loads_then : (text piece items between now : Text) (old mid new : LoadState) → LoadsPiece items text between old mid → LoadsPiece between piece now mid new
    → LoadsPiece items (text ++ piece) now old new
loads_then text piece items between now old mid new f g before h =
    subst (λ (t : Text). HasRead t now new) (append_assoc before text piece) (g (before ++ text) (f before h))

-- one line more
pub loads_line : (piece rest end after items between now : Text) (old mid new : LoadState) → LoadsFront piece rest items between old mid → rest ≡ end ++ 10 ∷ after
    → LoadsPiece between (end ++ 10 ∷ []) now mid new → LoadsFront piece after items now old new
loads_line piece rest end after items between now old mid new (front, is, f) cut g =
    (front ++ (end ++ 10 ∷ []), line_cut piece front rest end after is cut, loads_then front (end ++ 10 ∷ []) items between now old mid new f g)

-- the next line failed
pub refused_at_line : (piece rest end after items between : Text) (n : ℕ) (old mid : LoadState) → LoadsFront piece rest items between old mid
    → rest ≡ end ++ 10 ∷ after → RefusesPiece between (end ++ 10 ∷ []) n mid → RefusesPiece items piece n old
refused_at_line piece rest end after items between n old mid (front, is, f) cut g text later h =
    let line : Text = end ++ 10 ∷ [] in
    let whole : text ++ (piece ++ later) ≡ (text ++ front) ++ (line ++ (after ++ later)) =
    ap (λ (t : Text). text ++ (t ++ later)) (line_cut piece front rest end after is cut)
    ∙ ap (λ (t : Text). text ++ t) (append_assoc (front ++ line) after later ∙ append_assoc front line (after ++ later))
    ∙ sym (append_assoc text front (line ++ (after ++ later)))
    in
    subst (IsBadAt n) (sym whole) (g (text ++ front) (after ++ later) (f text h))

-- more bytes of the line that is held
bytes_read : (text items now bytes : Text) (l : LoadState) → ((held : Text) → Holds held items → Holds (held ++ bytes) now) → HasRead text items l → HasRead (text ++ bytes) now l
bytes_read text items now bytes l more h = record {
  so_far = h.so_far;
  load_state = h.load_state;
  left = h.left ++ bytes;
  cut = ap (λ (t : Text). t ++ bytes) h.cut ∙ append_assoc (text_so_far h.so_far) h.left bytes;
  holds = more h.left h.holds;
}

-- what is left has no line feed, and is held
pub loads_rest : (piece rest items between now : Text) (old new : LoadState) → LoadsFront piece rest items between old new → All (λ b. b ≢ 10) rest
    → (length between + length rest ≤ 65536 → now ≡ between ++ rest) → (65536 < length between + length rest → 65536 < length now)
    → LoadsPiece items piece now old new
loads_rest piece rest items between now old new (front, is, f) free short long =
    subst (λ (p : Text). LoadsPiece items p now old new) (sym is)
    (loads_then front rest items between now old new new f
    (λ text h. bytes_read text between now rest new (λ held holds. hold_more held between now rest holds free short long) h))

-- the line was loaded
pub line_loaded : (end items line now : Text) (old new : LoadState) → ((held : Text) → Holds held items → Holds (held ++ end) line) → now ≡ []
    → length line ≤ 65536 → LoadsLine line old new → LoadsPiece items (end ++ 10 ∷ []) now old new
line_loaded end items line now old new whole none short loads text h =
    rw none
    (subst (λ (t : Text). HasRead t [] new) (append_assoc text end (10 ∷ []))
    (line_read (text ++ end) line old new short loads (bytes_read text items line end old whole h)))

-- the line failed
pub line_refused : (end items line : Text) (n : ℕ) (old : LoadState) → ((held : Text) → Holds held items → Holds (held ++ end) line) → n ≡ old.lines + 1
    → RefusesLine line old → RefusesPiece items (end ++ 10 ∷ []) n old
line_refused end items line n old whole count refuses text rest h =
    let is : text ++ ((end ++ 10 ∷ []) ++ rest) ≡ (text ++ end) ++ 10 ∷ rest =
    ap (λ (t : Text). text ++ t) (append_assoc end (10 ∷ []) rest) ∙ sym (append_assoc text end (10 ∷ rest))
    in
    subst (IsBadAt n) (sym is) (line_bad (text ++ end) line rest n old count refuses (bytes_read text items line end old whole h))
