-- Edits on their way out.
use Rattle.std.specs.Prelude.{◌≡◌, ◌+◌, ◌≤◌, ℕ, List, Option, None, Some, IfSome, length, option_map, refl}
use Rattle.std.specs.Coded.{Coded, code_by, coded×, coded_list, coded_ℕ, coded_option}
use Rattle.std.specs.Global.{Vec}
use Rattle.call_compiler.specs.declared.indexes.Indexes.{Indexes}
use Rattle.change_log.specs.declared.touched_keys.Changes.{Changes}
use Rattle.images.specs.Printings.{HandsOver}
use Rattle.reference.specs.Image.{Text}
use Rattle.reference.specs.Tree.{Tree}
use Rattle.volume.specs.Codes.{coded_rooted}
use Rattle.volume.specs.Differences.{AgreeBeside}
use Rattle.volume.specs.Volumes.{MeanRooted}
use Rattle.volume.specs.declared.fs_root.FsRoot.{FsRoot}
use Rattle.delta.specs.Changed.{PrintsEdits}

-- two trees, the text of their edits once it was printed, and how many bytes of it were handed out
pub record PEdits : Type 0 where
  pub from : FsRoot
  pub to : FsRoot
  pub text : Option Text
  pub handed : ℕ

-- it is stored as its fields
abbrev pub edits_code : Coded PEdits
edits_code = code_by (FsRoot × (FsRoot × (Option Text × ℕ))) (coded× coded_rooted (coded× coded_rooted (coded× (coded_option (coded_list coded_ℕ)) coded_ℕ))) (λ p. (p.from, (p.to, (p.text, p.handed)))) (λ q. record { from = q.0; to = q.1.0; text = q.1.1.0; handed = q.1.1.1 }) (λ _. refl)

abbrev pub text_items : Option (Vec ℕ) → Option Text
text_items o = option_map (λ v. v.items) o

-- the trees may differ from some third one only at the noted keys
abbrev pub IsPair : Changes → Changes → FsRoot → FsRoot → Type 0
IsPair before after old new = (i : Indexes) × AgreeBeside before old.indexes i × AgreeBeside after new.indexes i

-- edits that make the second tree of the first
abbrev pub ArePrinted : FsRoot → FsRoot → Text → Type 0
ArePrinted old new text = (t u : Tree) → MeanRooted old t → MeanRooted new u → PrintsEdits text t u

-- the text, if it was printed, is that of such edits, and no more of it was handed out than it has
abbrev pub IsText : FsRoot → FsRoot → Option Text → ℕ → Type 0
IsText old new None handed = handed ≡ 0
IsText old new (Some text) handed = (handed ≤ length text) × ArePrinted old new text

-- the next bytes of the text were handed out, which is that of such edits and stays once it was printed
pub record HandsOn (p : PEdits) (n : ℕ) (q : PEdits) (before after : List ℕ) : Type 0 where
  pub text : Text
  pub are : ArePrinted p.from p.to text
  pub same : IfSome p.text (λ x. x ≡ text)
  pub on : q ≡ record p { text = Some text; handed = p.handed + n }
  pub piece : HandsOver text p.handed n before after
