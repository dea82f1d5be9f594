-- The worked rows with images: numbers in text by lemmas, the rest computes.
use Rattle.std.proofs.Common.{◌≡◌, [], ◌∷◌, ◌++◌, ap, ◌∙◌, refl, arith}
use Rattle.std.specs.Prelude.{codes, decimal}
use Rattle.std.proofs.lemmas.Fmt.{decimal_digit, decimal_step}
use Rattle.reference.specs.Calls.{changed, does}
use Rattle.reference.specs.Image.{Text, First, Second, image}
use Rattle.reference.specs.Rows.{cut_and_lengthened, image_after, CutAndLengthenedImage, EmptyImage, does_each, written_early, MomentsInImages}
use Rattle.reference.specs.Tree.{Dir, nothing}

decimal_9000 : decimal 9000 ≡ codes "9000"
decimal_9000 =
    decimal_step 9000 (omega arith) (omega arith)
    ∙ ap (λ (z : Text). z ++ 48 ∷ []) (decimal_step 900 (omega arith) (omega arith)
    ∙ ap (λ (z : Text). z ++ 48 ∷ []) (decimal_step 90 (omega arith) (omega arith)
    ∙ ap (λ (z : Text). z ++ 48 ∷ []) (decimal_digit 9 (omega arith))))

decimal_zero : decimal 0 ≡ codes "0"
decimal_zero = decimal_digit 0 (omega arith)

-- the image by the texts of its numbers
abbrev image_with : Text → Text → Text
image_with length_text zero =
    (codes "D / " ++ zero ++ 10 ∷ [])
    ++ ((((codes "F /f " ++ (length_text ++ 32 ∷ zero)) ++ 10 ∷ []) ++ ((codes "b " ++ zero ++ 32 ∷ codes "ffffffffff" ++ 10 ∷ []) ++ [] ++ [])) ++ [])

image_is : image_after cut_and_lengthened ≡ image_with (decimal 9000) (decimal 0)
unfolding does changed
image_is = refl

pub cut_and_lengthened_image : CutAndLengthenedImage
cut_and_lengthened_image = image_is ∙ ap (λ (z : Text). image_with z (decimal 0)) decimal_9000 ∙ ap (image_with (codes "9000")) decimal_zero

pub empty_image : EmptyImage
empty_image = ap (λ (z : Text). (codes "D / " ++ z ++ 10 ∷ []) ++ []) decimal_zero

-- ---- moments
-- the image of a file in a directory by the texts of its moments, its length and its block's number
abbrev dated_image : Text → Text → Text → Text → Text → Text
dated_image root directory long file index =
    ((codes "D / " ++ root) ++ 10 ∷ [])
    ++ ((((codes "D /a " ++ directory) ++ 10 ∷ [])
    ++ ((((codes "F /a/f " ++ (long ++ 32 ∷ file)) ++ 10 ∷ []) ++ (codes "b " ++ index ++ 32 ∷ codes "aa" ++ 10 ∷ [])) ++ [])) ++ [])

dated_is : image Second (does_each (Dir 0 nothing) written_early).0 ≡ dated_image (decimal 5) (decimal 9) (decimal 1) (decimal 7) (decimal 0)
unfolding does changed
dated_is = refl

-- the same without moments
abbrev plain_image : Text → Text → Text
plain_image long index =
    codes "d /" ++ 10 ∷ []
    ++ (((codes "d /a" ++ 10 ∷ []) ++ ((((codes "f /a/f " ++ (long ++ [])) ++ 10 ∷ []) ++ (codes "b " ++ index ++ 32 ∷ codes "aa" ++ 10 ∷ [])) ++ [])) ++ [])

plain_is : image First (does_each (Dir 0 nothing) written_early).0 ≡ plain_image (decimal 1) (decimal 0)
unfolding does changed
plain_is = refl

pub moments_in_images : MomentsInImages
moments_in_images = (
  dated_is
      ∙ ap (λ (z : Text). dated_image z (decimal 9) (decimal 1) (decimal 7) (decimal 0)) (decimal_digit 5 (omega arith))
      ∙ ap (λ (z : Text). dated_image (codes "5") z (decimal 1) (decimal 7) (decimal 0)) (decimal_digit 9 (omega arith))
      ∙ ap (λ (z : Text). dated_image (codes "5") (codes "9") z (decimal 7) (decimal 0)) (decimal_digit 1 (omega arith))
      ∙ ap (λ (z : Text). dated_image (codes "5") (codes "9") (codes "1") z (decimal 0)) (decimal_digit 7 (omega arith))
      ∙ ap (λ (z : Text). dated_image (codes "5") (codes "9") (codes "1") (codes "7") z) decimal_zero,
  plain_is ∙ ap (λ (z : Text). plain_image z (decimal 0)) (decimal_digit 1 (omega arith)) ∙ ap (λ (z : Text). plain_image (codes "1") z) decimal_zero,
)
