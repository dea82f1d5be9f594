-- How long a line of an image is.
use Rattle.std.proofs.Common.{◌≡◌, ◌≢◌, ⊎_elim, ℕ, ◌+◌, ◌*◌, ◌^◌, ◌<◌, ◌≤◌, List, [], ◌∷◌, ◌++◌, length, ap, arith, length-append, decimal, flat_map}
use Rattle.std.proofs.lemmas.Fmt.{length-decimal-le}
use Rattle.pathkey.specs.Names.{Name, Path, text_len}
use Rattle.reference.specs.Image.{path_text, percent, two_digits, Version, First, Second, moment_text, root_line}
use Rattle.reference.specs.ImageLines.{Line, DirectoryLine, FileLine, BlockLine, spelled, IsReported, IsLine}
use Rattle.reference.proofs.ImageTexts.{percent_cases}

percent_length : (b : ℕ) → length (percent b) ≤ 3
percent_length b = ⊎_elim
    (λ (f : percent b ≡ 37 ∷ two_digits 55 b). let e : length (percent b) ≡ length (37 ∷ two_digits 55 b) = ap length f in omega arith)
    (λ (f : (33 ≤ b) × (b ≢ 37) × (percent b ≡ b ∷ [])). let e : length (percent b) ≡ length (b ∷ []) = ap length f.2 in omega arith)
    (percent_cases b)

name_length : (n : Name) → length (flat_map percent n) ≤ 3 * length n
name_length [] = omega arith
name_length (b ∷ n) =
    let first : length (percent b) ≤ 3 = percent_length b in
    let rest : length (flat_map percent n) ≤ 3 * length n = name_length n in
    let both : length (percent b ++ flat_map percent n) ≡ length (percent b) + length (flat_map percent n) = length-append (percent b) (flat_map percent n) in
    omega arith

path_length : (p : Path) → length (path_text p) ≤ 3 * text_len p
path_length [] = omega arith
path_length (n ∷ p) =
    let first : length (flat_map percent n) ≤ 3 * length n = name_length n in
    let rest : length (path_text p) ≤ 3 * text_len p = path_length p in
    let both : length (flat_map percent n ++ path_text p) ≡ length (flat_map percent n) + length (path_text p) = length-append (flat_map percent n) (path_text p) in
    omega arith

hex_length : (b : List ℕ) → length (flat_map (two_digits 87) b) ≡ 2 * length b
hex_length [] = omega arith
hex_length (x ∷ b) =
    let rest : length (flat_map (two_digits 87) b) ≡ 2 * length b = hex_length b in
    let both : length (two_digits 87 x ++ flat_map (two_digits 87) b) ≡ length (two_digits 87 x) + length (flat_map (two_digits 87) b) = length-append (two_digits 87 x) (flat_map (two_digits 87) b) in
    omega arith

moment_length : (v : Version) (at : ℕ) → IsReported v at → length (moment_text v at) ≤ 21
moment_length First at h = omega arith
moment_length Second at h = let number : length (decimal at) ≤ 20 = length-decimal-le 20 at (omega arith) (omega arith) (omega arith) in omega arith

-- no line is longer than those of the longest paths and of full blocks
pub line_length : (v : Version) (l : Line) → IsLine v l → length (spelled v l) ≤ 65536
line_length v (DirectoryLine p at) h =
    let few : text_len p ≤ 1023 = h.0.fits in
    let path : length (path_text p) ≤ 3 * text_len p = path_length p in
    let date : length (moment_text v at) ≤ 21 = moment_length v at h.2 in
    let both : length (path_text p ++ moment_text v at) ≡ length (path_text p) + length (moment_text v at) = length-append (path_text p) (moment_text v at) in
    omega arith
line_length v (FileLine p n at) h =
    let few : text_len p ≤ 1023 = h.0.fits in
    let small : n ≤ 2 ^ 40 = h.2 in
    let path : length (path_text p) ≤ 3 * text_len p = path_length p in
    let number : length (decimal n) ≤ 13 = length-decimal-le 13 n (omega arith) (omega arith) (omega arith) in
    let date : length (moment_text v at) ≤ 21 = moment_length v at h.3 in
    let end : length (decimal n ++ moment_text v at) ≡ length (decimal n) + length (moment_text v at) = length-append (decimal n) (moment_text v at) in
    let both : length (path_text p ++ 32 ∷ (decimal n ++ moment_text v at)) ≡ length (path_text p) + length (32 ∷ (decimal n ++ moment_text v at)) = length-append (path_text p) (32 ∷ (decimal n ++ moment_text v at)) in
    omega arith
line_length v (BlockLine i b) h =
    let small : i < 2 ^ 28 = h.0 in
    let few : length b ≤ 4096 = h.1.most in
    let number : length (decimal i) ≤ 9 = length-decimal-le 9 i (omega arith) (omega arith) (omega arith) in
    let hex : length (flat_map (two_digits 87) b) ≡ 2 * length b = hex_length b in
    let both : length (decimal i ++ 32 ∷ flat_map (two_digits 87) b) ≡ length (decimal i) + length (32 ∷ flat_map (two_digits 87) b) = length-append (decimal i) (32 ∷ flat_map (two_digits 87) b) in
    omega arith

-- the root's line is short
pub root_length : (v : Version) (root : ℕ) → IsReported v root → length (root_line v root) ≤ 65536
root_length v root h = let date : length (moment_text v root) ≤ 21 = moment_length v root h in omega arith
