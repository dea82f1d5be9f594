-- The worked row at the greatest file: its length and its last byte by lemmas, the rest computes.
use Rattle.std.proofs.Common.{◌≡◌, ℕ, ◌+◌, ◌-◌, List, [], ◌∷◌, ◌++◌, length, take, drop, replicate, Bool, true, false, max, ap, ◌∙◌, refl, arith, append_assoc, length-append, length-take}
use Rattle.std.specs.Prelude.{codes, nat_lt}
use Rattle.std.proofs.lemmas.List.{length-replicate, drop_at, drop_all}
use Rattle.pathkey.specs.declared.errno.Errno.TheVariants.{EFBIG}
use Rattle.reference.specs.Tree.{Tree, Dir, File, nothing, entry, over}
use Rattle.reference.specs.Calls.{Outcome, when, unless, greatest_file, changed, does}
use Rattle.reference.specs.Rows.{path, does_all, answers, AtTheGreatestFile}
use Rattle.reference.specs.declared.call.Call.{Call}
use Rattle.reference.specs.declared.call.Call.TheVariants.{Create, Write, Read, Stat as AskStat}
use Rattle.reference.specs.declared.reply.Kind.TheVariants.{File as Plain}
use Rattle.reference.specs.declared.reply.Reply.{Reply}
use Rattle.reference.specs.declared.reply.Reply.TheVariants.{Done, Count, Data, Stat, Fault}
use Rattle.reference.proofs.Contents.{length-over}

-- what is read from where one byte was written into an empty file
read_back : (off : ℕ) → take 2 (drop off (over [] off (1 ∷ []))) ≡ 1 ∷ []
read_back off =
    let l : length (take {A = ℕ} off [] ++ replicate (off - 0) 0) ≡ off = simp (length-append, length-take, length-replicate) (omega arith) in
    ap (λ (z : List ℕ). take 2 (drop off z)) (append_assoc (take off [] ++ replicate (off - 0) 0) (1 ∷ []) (drop (off + 1) []))
    ∙ ap (take 2) (drop_at (take off [] ++ replicate (off - 0) 0) (1 ∷ drop (off + 1) []) off l)
    ∙ ap (λ (z : List ℕ). take 2 (1 ∷ z)) (drop_all (off + 1) [] (omega arith))

-- a tree with the one file `/f`
abbrev file_tree : List ℕ → Tree
file_tree b = Dir 0 (entry (codes "f") (File 0 b) nothing)

abbrev answers_from : Outcome → List Call → List Reply
answers_from o rest = o.1 ∷ (does_all o.0 rest).1

first_written : (off : ℕ) (rest : List Call) → nat_lt greatest_file (off + 1) ≡ false → answers (Create (path "/f") ∷ Write (path "/f") off (1 ∷ []) ∷ rest) ≡ Done ∷ Count 1 ∷ (does_all (file_tree (over [] off (1 ∷ []))) rest).1
unfolding does changed
first_written off rest h = ap (λ (x : Bool). Done ∷ answers_from (unless (file_tree []) (when x EFBIG ∷ []) (file_tree (over [] off (1 ∷ [])), Count 1)) rest) h

second_refused : (b : List ℕ) (next : ℕ) (rest : List Call) → nat_lt greatest_file (next + 1) ≡ true → (does_all (file_tree b) (Write (path "/f") next (1 ∷ []) ∷ rest)).1 ≡ Fault EFBIG ∷ (does_all (file_tree b) rest).1
unfolding does changed
second_refused b next rest h = ap (λ (x : Bool). answers_from (unless (file_tree b) (when x EFBIG ∷ []) (file_tree (over b next (1 ∷ [])), Count 1)) rest) h

last_answers : (b : List ℕ) (off next : ℕ) → (does_all (file_tree b) (Write (path "/f") next [] ∷ AskStat (path "/f") ∷ Read (path "/f") off 2 ∷ [])).1 ≡ Count 0 ∷ Stat Plain (length b) 0 ∷ Data (take 2 (drop off b)) ∷ []
unfolding does changed
last_answers b off next = refl

-- the row at any offset whose byte is the last that a file may have
row_at : (off next : ℕ) → off + 1 ≡ next → nat_lt greatest_file (off + 1) ≡ false → nat_lt greatest_file (next + 1) ≡ true
    → answers (Create (path "/f") ∷ Write (path "/f") off (1 ∷ []) ∷ Write (path "/f") next (1 ∷ []) ∷ Write (path "/f") next [] ∷ AskStat (path "/f") ∷ Read (path "/f") off 2 ∷ [])
    ≡ Done ∷ Count 1 ∷ Fault EFBIG ∷ Count 0 ∷ Stat Plain next 0 ∷ Data (1 ∷ []) ∷ []
row_at off next is low high =
    let b : List ℕ = over [] off (1 ∷ []) in
    let m : length (over [] off (1 ∷ [])) ≡ max 0 (off + 1) = length-over [] off (1 ∷ []) in
    let l : length (over [] off (1 ∷ [])) ≡ next = omega arith in
    let last : List Call = Write (path "/f") next [] ∷ AskStat (path "/f") ∷ Read (path "/f") off 2 ∷ [] in
    first_written off (Write (path "/f") next (1 ∷ []) ∷ last) low
    ∙ ap (λ (r : List Reply). Done ∷ Count 1 ∷ r) (second_refused b next last high ∙ ap (λ (r : List Reply). Fault EFBIG ∷ r) (last_answers b off next))
    ∙ ap (λ (k : ℕ). Done ∷ Count 1 ∷ Fault EFBIG ∷ Count 0 ∷ Stat Plain k 0 ∷ Data (take 2 (drop off b)) ∷ []) l
    ∙ ap (λ (d : List ℕ). Done ∷ Count 1 ∷ Fault EFBIG ∷ Count 0 ∷ Stat Plain next 0 ∷ Data d ∷ []) (read_back off)

pub at_the_greatest_file : AtTheGreatestFile
at_the_greatest_file = row_at 1099511627775 1099511627776 (omega arith) refl refl
