-- An image on its way out.
use Rattle.std.specs.Prelude.{◌≡◌, ℕ, ◌<◌, ◌≤◌, List, [], ◌++◌, length, take, drop, refl}
use Rattle.std.specs.Coded.{Coded, code_by, coded×, coded_ℕ}
use Rattle.reference.specs.Image.{Text, Second, image}
use Rattle.reference.specs.Tree.{Tree}
use Rattle.images.specs.Spots.{IsAhead, IsAt, left_at}
use Rattle.images.specs.declared.ready.PrintedLines.{PrintedLines}
use Rattle.volume.specs.Codes.{coded_rooted}
use Rattle.volume.specs.Volumes.{MeanRooted}
use Rattle.volume.specs.declared.fs_root.FsRoot.{FsRoot}

-- a tree whose image is printed, and how many bytes of it were handed out
pub record PPrinting : Type 0 where
  pub tree : FsRoot
  pub done : ℕ

-- it is stored as the pair of both
abbrev pub printing_code : Coded PPrinting
printing_code = code_by (FsRoot × ℕ) (coded× coded_rooted coded_ℕ) (λ p. (p.tree, p.done)) (λ q. record { tree = q.0; done = q.1 }) (λ _. refl)

-- the bytes of a text after the first `done` are handed out: n of them are at the front of the buffer, and the rest of it is unchanged; n
-- is 0 only if the text is at its end or the buffer is empty
pub record HandsOver (text : Text) (done n : ℕ) (old new : List ℕ) : Type 0 where
  pub front : Text
  pub back : Text
  pub split : text ≡ front ++ (take n new ++ back)
  pub at : length front ≡ done
  pub fits : n ≤ length old
  pub rest : drop n new ≡ drop n old
  pub end : n ≡ 0 → 0 < length old → back ≡ []

-- ---- within a printing

-- what is ready to be handed out
abbrev pub ready_text : PrintedLines → Text
ready_text r = drop r.used r.text.items

-- what was handed out of the image of a tree, what is ready, and what is left after that are all of it; these entries were read ahead
pub record IsReadyFor (t : Tree) (r : PrintedLines) : Type 0 where
  pub front : Text
  pub count : length front ≡ r.done
  pub split : image Second t ≡ front ++ (ready_text r ++ left_at t r.spot)
  pub at : IsAt t r.spot
  pub ahead : IsAhead t r.spot.last r.ahead

-- the same for each tree of the indexes, and not more was handed out than the text has
pub record IsReady (i : FsRoot) (r : PrintedLines) : Type 0 where
  pub fits : r.used ≤ length r.text.items
  pub for_tree : (t : Tree) → MeanRooted i t → IsReadyFor t r

-- so many bytes of what was ready are at the front of a buffer
pub record HandsOut (n : ℕ) (r : PrintedLines) (old new : List ℕ) : Type 0 where
  pub fits : n ≤ length old
  pub ready : n ≤ length (ready_text r)
  pub front : take n new ≡ take n (ready_text r)
  pub rest : drop n new ≡ drop n old
  pub some : n ≡ 0 → 0 < length old → ready_text r ≡ []
