-- What a rename sends.
use Rattle.std.specs.Prelude.{◌≡◌, ◌+◌, ◌≤◌, ℕ, List, [], ◌∷◌, ◌++◌, Bool, true, false, cond, Option, Some, None, length, drop, map, nat_lt}
use Rattle.block_index.specs.declared.index.BlockIndex.{BlockIndex}
use Rattle.block_index.specs.declared.update.BlockUpdate.{BlockUpdate}
use Rattle.block_index.specs.Means.{blocks}
use Rattle.block_index.specs.Updates.{means as block_means}
use Rattle.message.specs.declared.msg.Msg.{Msg}
use Rattle.message.specs.declared.msg.Msg.TheVariants.{Put, DelRange}
use Rattle.message.specs.Effects.{effects, point_key}
use Rattle.meta_index.specs.declared.at.At as reported
use Rattle.meta_index.specs.declared.index.MetaIndex.{MetaIndex}
use Rattle.meta_index.specs.declared.update.MetaUpdate.{MetaUpdate}
use Rattle.meta_index.specs.Means.{IsMeantBy, lookup_answer, metadata}
use Rattle.meta_index.specs.Updates.{means as meta_means}
use Rattle.pathkey.specs.Keys.{Key, enc, subtree, blocks_from, is_in}
use Rattle.pathkey.specs.Names.{Path, text_len}
use Rattle.reference.specs.Tree.{Tree, At, entry_at}
use Rattle.reference.specs.Calls.{is_file, deepest_at}
use Rattle.reference.specs.Shape.{IsTree}
use Rattle.reference.specs.declared.reply.Meta.{Meta}
use Rattle.scan.specs.Pairs.{IsScan, HasAll}

-- these are the first pairs that f has at or below p, in key order
abbrev pub AreFirstBelow : {V : Type 0} → (Key → Option V) → Path → List (Key × V) → Type 0
AreFirstBelow f p ps = IsScan f (subtree p).lo (subtree p).hi (length ps) ps

-- these are all of them
pub record AreBelow {V : Type 0} (f : Key → Option V) (p : Path) (ps : List (Key × V)) : Type 0 where
  pub scan : AreFirstBelow f p ps
  pub all : HasAll f (subtree p).lo (subtree p).hi ps

-- the pair put under the key that it has when o is moved to n
abbrev pub put_under : {U V : Type 0} → Path → Path → Key × V → Msg U V
put_under o n p = Put (enc n ++ drop (length (enc o)) p.0) p.1

-- after the messages `first`, each pair that f has at or below o is put under the key that it has when o is moved to n
abbrev pub Puts : {U V : Type 0} → (Key → Option V) → Path → Path → List (Msg U V) → List (Msg U V) → Type 0
Puts {U} {V} f o n first msgs = (ps : List (Key × V)) × AreBelow f o ps × (msgs ≡ first ++ map (put_under o n) ps)

-- the messages remove each value that f has at or below o, and change no value elsewhere
pub record Clears {U V : Type 0} (means : U → Option V → Option V) (f : Key → Option V) (o : Path) (msgs : List (Msg U V)) : Type 0 where
  pub inside : (k : Key) → is_in (subtree o) k ≡ true → effects means msgs k (f k) ≡ None
  pub outside : (k : Key) (v : Option V) → is_in (subtree o) k ≡ false → effects means msgs k v ≡ v

-- after the messages `first`, the first pairs that f has at or below o are put under the keys that they have when o is moved to
-- n, and then at most one message follows. If the premise holds, these are all pairs there, and that message removes them.
pub record Moves {U V : Type 0} (means : U → Option V → Option V) (f : Key → Option V) (o n : Path) (Premise : Type 0) (first msgs : List (Msg U V)) : Type 0 where
  pub pairs : List (Key × V)
  pub gone : List (Msg U V)
  pub list : msgs ≡ first ++ map (put_under o n) pairs ++ gone
  pub few : length gone ≤ 1
  pub scan : AreFirstBelow f o pairs
  pub all : Premise → HasAll f (subtree o).lo (subtree o).hi pairs
  pub clears : Premise → Clears means f o gone

-- the key, if there is one, is longer than a path's text and key may be
abbrev pub is_too_long : Option Key → Bool
is_too_long None = false
is_too_long (Some k) = nat_lt 1023 (length k)

-- the message has such a key; a range-delete has none
abbrev pub is_key_too_long : {U V : Type 0} → Msg U V → Bool
is_key_too_long m = is_too_long (point_key m)

-- a text at or below o gets longer than a path's may be, if o is moved to n
abbrev pub gets_too_long : Tree → Path → Path → Bool
gets_too_long t o n = nat_lt 1023 (text_len n + deepest_at (entry_at t o))

-- if there is a file at n, a range-delete of its blocks
abbrev pub replaced : {U V : Type 0} → At → Path → List (Msg U V)
replaced here n = cond (is_file here) (DelRange (blocks_from n 0) ∷ []) []

-- the index abstracts to the tree, and this was found at p
abbrev pub IsFoundAt : MetaIndex → Path → reported.At → Tree → Type 0
IsFoundAt m p found t = IsMeantBy t m × (found ≡ lookup_answer (entry_at t p))

-- the messages move the entries at or below o, where `from` was found
abbrev pub MovesEntries : MetaIndex → Path → Path → reported.At → List (Msg MetaUpdate Meta) → Type 0
MovesEntries m o n from msgs = Moves meta_means (metadata m) o n ((t : Tree) × IsFoundAt m o from t) [] msgs

-- the messages move the blocks there, and first delete those of a file at n, where `to` was found
pub record MovesBlocks (b : BlockIndex) (o n : Path) (to : reported.At) (msgs : List (Msg BlockUpdate (List ℕ))) : Type 0 where
  pub first : List (Msg BlockUpdate (List ℕ))
  pub few : length first ≤ 1
  pub replaces : (t : Tree) → IsTree t → to ≡ lookup_answer (entry_at t n) → first ≡ replaced (entry_at t n) n
  pub moves : Moves block_means (blocks b) o n (Unit {0}) first msgs
