-- Texts of paths, and the sizes of the parts of a change.
use Rattle.std.proofs.Common.{◌≡◌, ◌≢◌, ⊎_elim, ℕ, ◌<◌, ◌≤◌, List, [], ◌∷◌, ◌++◌, length, get_or, nat_le, true, Fits, w8, refl, ap, sym, ◌∙◌, arith, Ok, Err, IsOk, length-append}
use Rattle.std.specs.List.{list_all}
use Rattle.std.proofs.lemmas.Bool.{and_parts}
use Rattle.std.proofs.lemmas.Bool.Decides.{nat_tests}
use Rattle.std.proofs.lemmas.List.Elements.{All-from_recursion}
use Rattle.pathkey.proofs.HeadFacts.{are_bytes}
use Rattle.pathkey.specs.Names.{Path, IsPath, text_len}
use Rattle.pathkey.specs.Outcomes.{IsOrLacksMemory}
use Rattle.pathkey.specs.SnapNames.{is_between, is_snap_byte, is_snap_name}
use Rattle.pathkey.specs.Texts.{parsed, slashed, text_of}
use Rattle.pathkey.specs.declared.errno.Errno.{Errno}
use Rattle.pathkey.specs.declared.errno.Errno.TheVariants.{ENOMEM}
use Rattle.pathkey.proofs.TextFacts.{only_texts, read_back}
use Rattle.wal.specs.declared.wal_entry.WalEntry.{WalEntry}
use Rattle.wal.specs.declared.wal_entry.WalEntry.TheVariants.{OnPath, Rename, Truncate, Write, Punch, SetMtime, CopyRange, Keep, Edits}
use Rattle.wal.specs.declared.wal_entry.SnapshotCall.TheVariants.{Snapshot, Remove, Restore}
use Rattle.reference.specs.declared.path_call.PathCall.TheVariants.{Mkdir, Create, Unlink, Rmdir, Rmtree}
use Rattle.wal.specs.Entries.{IsChange, IsHead, IsNoTarget, IsNoText, IsWord, first_of, head_of, second_of, word}
use Rattle.wal.proofs.Cuts.{after_word, word_once}

-- ---- texts of paths

pub text_read : (text : List ℕ) (p : Path) → ((i : ℕ) → Fits w8 (get_or text i 0)) → IsOrLacksMemory (Ok p) (parsed text) → text_of p ≡ text
text_read text p bytes reported = ⊎_elim
    (λ (e : Ok p ≡ parsed text). sym (only_texts text p (All-from_recursion (λ b. b < 256) text (are_bytes text bytes)) (sym e)).1)
    (λ (u : (Ok p ≡ Err ENOMEM) × IsOk (parsed text)). let e = u.0 in cc)
    reported

-- the text is that of this path
pub text_names : (text : List ℕ) (p : Path) → ((i : ℕ) → Fits w8 (get_or text i 0)) → IsOrLacksMemory (Ok p) (parsed text) → (parsed text ≡ Ok p) × (text_of p ≡ text)
text_names text p bytes reported = (
  ⊎_elim
      (λ (e : Ok p ≡ parsed text). sym e)
      (λ (u : (Ok p ≡ Err ENOMEM) × IsOk (parsed text)). let e = u.0 in cc)
      reported,
  text_read text p bytes reported,
)

pub no_text : (text : List ℕ) (e : Errno) → IsOrLacksMemory (Err e) (parsed text) → e ≢ ENOMEM → IsNoText text
no_text text e reported other = λ p is same. ⊎_elim
    (λ (r : Err e ≡ parsed text). let back : parsed text ≡ Ok p = ap parsed (sym same) ∙ read_back p is in cc)
    (λ (u : (Err e ≡ Err ENOMEM) × IsOk (parsed text)). other (let r = u.0 in cc))
    reported

len_slashed : (p : Path) → length (slashed p) ≡ text_len p
len_slashed [] = refl
len_slashed (n ∷ p) = omega (arith, length-append n (slashed p), len_slashed p)

few_bytes : (p : Path) → IsPath p → length (text_of p) ≤ 1023
few_bytes [] h = omega arith
few_bytes (n ∷ p) h = let size = len_slashed (n ∷ p) in let few = h.fits in omega arith

short_text : (p : Path) → IsPath p → IsWord (length (text_of p))
short_text p h = let few = few_bytes p h in omega arith

short_target : (n : ℕ) (p : Path) → IsPath p → IsWord (length (word n ++ text_of p))
short_target n p h = let few = few_bytes p h in let size = after_word n (word n ++ text_of p) (text_of p) refl in omega arith

-- ---- offsets before texts of paths

pub no_offset : (text : List ℕ) → length text < 8 → IsNoTarget text
no_offset text few = λ n p fits is same. let size = after_word n text (text_of p) (sym same) in omega (arith, size, few)

pub no_target : (text rest : List ℕ) (m : ℕ) → text ≡ word m ++ rest → IsWord m → IsNoText rest → IsNoTarget text
no_target text rest m split small none = λ n p fits is same. let parts = word_once n m (text_of p) rest fits small (same ∙ split) in none p is parts.1

-- ---- sizes

-- the parts of a change fit an entry
pub record Fit (c : WalEntry) : Type 0 where
  pub head : IsHead (head_of c)
  pub first_fits : IsWord (length (first_of c))
  pub second_fits : IsWord (length (second_of c))

short_name : (s : List ℕ) → is_snap_name s ≡ true → IsWord (length s)
short_name s h =
    let outer : (is_between 1 64 (length s) ≡ true) × (list_all is_snap_byte s ≡ true) = and_parts _ _ h in
    let inner : (nat_le 1 (length s) ≡ true) × (nat_le (length s) 64 ≡ true) = and_parts _ _ outer.0 in
    let few : length s ≤ 64 = grind (arith, nat_tests, inner.1) in
    omega arith

pub fit : (c : WalEntry) → IsChange c → Fit c
fit (OnPath Mkdir p at) h = record { head = record { kind = omega arith; at = h.1; offset = omega arith; count = omega arith }; first_fits = short_text p h.0; second_fits = omega arith }
fit (OnPath Create p at) h = record { head = record { kind = omega arith; at = h.1; offset = omega arith; count = omega arith }; first_fits = short_text p h.0; second_fits = omega arith }
fit (OnPath Unlink p at) h = record { head = record { kind = omega arith; at = h.1; offset = omega arith; count = omega arith }; first_fits = short_text p h.0; second_fits = omega arith }
fit (OnPath Rmdir p at) h = record { head = record { kind = omega arith; at = h.1; offset = omega arith; count = omega arith }; first_fits = short_text p h.0; second_fits = omega arith }
fit (OnPath Rmtree p at) h = record { head = record { kind = omega arith; at = h.1; offset = omega arith; count = omega arith }; first_fits = short_text p h.0; second_fits = omega arith }
fit (Rename o n at) h = record { head = record { kind = omega arith; at = h.2; offset = omega arith; count = omega arith }; first_fits = short_text o h.0; second_fits = short_text n h.1 }
fit (Truncate p len at) h = record { head = record { kind = omega arith; at = h.2; offset = h.1; count = omega arith }; first_fits = short_text p h.0; second_fits = omega arith }
fit (Write p off w at) h = record { head = record { kind = omega arith; at = h.3; offset = h.1; count = omega arith }; first_fits = short_text p h.0; second_fits = h.2 }
fit (Punch p off n at) h = record { head = record { kind = omega arith; at = h.3; offset = h.1; count = h.2 }; first_fits = short_text p h.0; second_fits = omega arith }
fit (SetMtime p at) h = record { head = record { kind = omega arith; at = h.1; offset = omega arith; count = omega arith }; first_fits = short_text p h.0; second_fits = omega arith }
fit (CopyRange p off q to n at) h = record { head = record { kind = omega arith; at = h.5; offset = h.1; count = h.4 }; first_fits = short_text p h.0; second_fits = short_target to q h.2 }
fit (Keep Snapshot s) h = record { head = record { kind = omega arith; at = omega arith; offset = omega arith; count = omega arith }; first_fits = short_name s h; second_fits = omega arith }
fit (Keep Remove s) h = record { head = record { kind = omega arith; at = omega arith; offset = omega arith; count = omega arith }; first_fits = short_name s h; second_fits = omega arith }
fit (Keep Restore s) h = record { head = record { kind = omega arith; at = omega arith; offset = omega arith; count = omega arith }; first_fits = short_name s h; second_fits = omega arith }
fit (Edits w) h = record { head = record { kind = omega arith; at = omega arith; offset = omega arith; count = omega arith }; first_fits = h; second_fits = omega arith }
