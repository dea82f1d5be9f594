-- Texts that are whole lines.
use Rattle.std.proofs.Common.{inl, inr, ℕ, List, [], ◌∷◌, ◌++◌, refl, sym, ap, subst, ◌∙◌, append_assoc, append-nil, codes, decimal}
use Rattle.std.specs.List.{flat_map}
use Rattle.images.specs.Image.{EndsLine, directory_text, entry_text, file_text}
use Rattle.reference.specs.Image.{Text, Version, Second, block_line, directory_letter, file_letter, moment_text, path_text, two_digits}
use Rattle.reference.specs.Tree.{Path}
use Rattle.reference.specs.declared.reply.Meta.{Meta}
use Rattle.reference.specs.declared.reply.Meta.TheVariants.{Dir as DirMeta, File as FileMeta}

-- ---- texts that end with a line feed

-- a text after another
pub ends_after : (x y : Text) → EndsLine x → EndsLine y → EndsLine (x ++ y)
ends_after x y ends (inl none) = subst EndsLine (sym (ap (λ (l : Text). x ++ l) none ∙ append-nil x)) ends
ends_after x y ends (inr (front, is)) = inr (x ++ front, ap (λ (l : Text). x ++ l) is ∙ sym (append_assoc x front (10 ∷ [])))

directory_ends : (v : Version) (p : Path) (at : ℕ) → EndsLine (directory_text v p at)
directory_ends v p at = inr (
  directory_letter v ∷ 32 ∷ (path_text p ++ moment_text v at),
  ap (λ (l : Text). directory_letter v ∷ 32 ∷ l) (sym (append_assoc (path_text p) (moment_text v at) (10 ∷ []))),
)

file_ends : (v : Version) (p : Path) (len at : ℕ) → EndsLine (file_text v p len at)
file_ends v p len at =
    let numbers : Text = decimal len ++ moment_text v at in
    inr (
      file_letter v ∷ 32 ∷ (path_text p ++ (32 ∷ numbers)),
      ap (λ (l : Text). file_letter v ∷ 32 ∷ (path_text p ++ (32 ∷ l))) (sym (append_assoc (decimal len) (moment_text v at) (10 ∷ [])))
          ∙ ap (λ (l : Text). file_letter v ∷ 32 ∷ l) (sym (append_assoc (path_text p) (32 ∷ numbers) (10 ∷ []))),
    )

pub block_ends : (i : ℕ) (b : List ℕ) → EndsLine (block_line i b)
block_ends i [] = inl refl
block_ends i (x ∷ b) = inr (codes "b " ++ decimal i ++ 32 ∷ flat_map (two_digits 87) (x ∷ b), refl)

-- the line of an entry
pub entry_ends : (p : Path) (m : Meta) → EndsLine (entry_text p m)
entry_ends p (DirMeta at) = directory_ends Second p at
entry_ends p (FileMeta len at) = file_ends Second p len at
