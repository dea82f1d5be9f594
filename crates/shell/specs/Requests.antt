-- The request of a line of a script.
use Rattle.std.specs.Prelude.{◌≡◌, ◌⊎◌, ⊤, ℕ, nat_lt, List, [], ◌∷◌, length, codes, bytes_eq, Option, Some, None, Result, Ok, Err, ◌==◌, if◌then◌else◌}
use Rattle.pathkey.specs.Names.{Path}
use Rattle.pathkey.specs.SnapNames.{snap_parsed}
use Rattle.pathkey.specs.declared.errno.Errno.{Errno}
use Rattle.pathkey.specs.declared.errno.Errno.TheVariants.{ENOMEM}
use Rattle.reference.specs.declared.call.Call.{Call}
use Rattle.reference.specs.declared.call.Call.TheVariants.{Mkdir, Create, Write, Truncate, Unlink, Rmdir, Rename, Rmtree, Read, Stat as AskStat, Readdir}
use Rattle.textio.specs.Lines.{at_sign, words_of}
use Rattle.textio.specs.Values.{bytes_of, number_of, path_of}
use Rattle.shell.specs.declared.request.PathVerb.{PathVerb}
use Rattle.shell.specs.declared.request.PathVerb.TheVariants as verb
use Rattle.shell.specs.declared.request.ReadCall.{ReadCall}
use Rattle.shell.specs.declared.request.ReadCall.TheVariants as look
use Rattle.shell.specs.declared.request.Request.{Request}
use Rattle.shell.specs.declared.request.Request.TheVariants.{Silent, Overlong, Malformed, Refused, Moment, Wanted, Snapshot, DropSnapshot, Restore, Past}

-- the call on a path, or the path's error
abbrev pub on_path : (Path → Call) → Result Path Errno → Request
on_path call (Ok p) = Wanted (call p)
on_path call (Err e) = Refused e

-- the request with the value of a word, if it has one
abbrev pub with_value : {A : Type 0} → (A → Request) → Option A → Request
with_value ask (Some a) = ask a
with_value ask None = Malformed

-- the request with the parsed word, or the word's error
abbrev pub with_named : {A : Type 0} → (A → Request) → Result A Errno → Request
with_named ask (Ok a) = ask a
with_named ask (Err e) = Refused e

-- the read of a path, or the path's error
abbrev pub looking : (Path → ReadCall) → Result Path Errno → Result ReadCall Errno
looking at (Ok p) = Ok (at p)
looking at (Err e) = Err e

-- a read of a snapshot: the error of its name is reported before that of the path
abbrev pub past : List ℕ → Result ReadCall Errno → Request
past s l = with_named (λ name. with_named (Past name) l) (snap_parsed s)

-- the reads of two words: the call and the snapshot's name, and the path
abbrev pub past_path_command : List ℕ × List ℕ → List ℕ → Request
past_path_command name p =
    if bytes_eq name.0 (codes "stat") then past name.1 (looking look.Stat (path_of p))
    else if bytes_eq name.0 (codes "readdir") then past name.1 (looking look.Readdir (path_of p))
    else Malformed

-- the commands of a snapshot's name, and that of a timestamp; if another tree than the live one is read, its name is after an
-- `@`
abbrev pub named_command : List ℕ → List ℕ → Request
named_command name s =
    if bytes_eq name (codes "snapshot") then with_named Snapshot (snap_parsed s)
    else if bytes_eq name (codes "drop") then with_named DropSnapshot (snap_parsed s)
    else if bytes_eq name (codes "restore") then with_named Restore (snap_parsed s)
    else if bytes_eq name (codes "at") then with_value Moment (number_of s)
    else with_value (λ cut. past_path_command cut s) (at_sign name)

-- the command of this name, if its only argument is the path of a call
abbrev pub path_verb : List ℕ → Option PathVerb
path_verb name =
    if bytes_eq name (codes "mkdir") then Some verb.Mkdir
    else if bytes_eq name (codes "create") then Some verb.Create
    else if bytes_eq name (codes "unlink") then Some verb.Unlink
    else if bytes_eq name (codes "rmdir") then Some verb.Rmdir
    else if bytes_eq name (codes "rmtree") then Some verb.Rmtree
    else if bytes_eq name (codes "stat") then Some verb.Stat
    else if bytes_eq name (codes "readdir") then Some verb.Readdir
    else None

-- the command's call at the path
abbrev pub call_at : PathVerb → Path → Call
call_at verb.Mkdir p = Mkdir p
call_at verb.Create p = Create p
call_at verb.Unlink p = Unlink p
call_at verb.Rmdir p = Rmdir p
call_at verb.Rmtree p = Rmtree p
call_at verb.Stat p = AskStat p
call_at verb.Readdir p = Readdir p

-- the commands of two words
abbrev pub path_command : List ℕ → List ℕ → Request
path_command name p = elim (path_verb name) as (λ _. Request) [
  | Some v ↦ on_path (call_at v) (path_of p)
  | None ↦ named_command name p
]

-- to cut or lengthen a file
abbrev pub truncate_command : List ℕ → List ℕ → Request
truncate_command p len = with_value (λ n. on_path (λ path. Truncate path n) (path_of p)) (number_of len)

-- a rename between two paths, or the error of the first that is not a path
abbrev pub rename_of : Result Path Errno → Result Path Errno → Result Call Errno
rename_of (Ok o) (Ok n) = Ok (Rename o n)
rename_of (Ok o) (Err e) = Err e
rename_of (Err e) n = Err e

-- the call, or its error
abbrev pub asked : Result Call Errno → Request
asked (Ok c) = Wanted c
asked (Err e) = Refused e

-- the commands of a path and a third word
abbrev pub third_command : List ℕ → List ℕ → List ℕ → Request
third_command name p third =
    if bytes_eq name (codes "truncate") then truncate_command p third
    else if bytes_eq name (codes "rename") then asked (rename_of (path_of p) (path_of third))
    else Malformed

-- to write bytes from an offset on
abbrev pub write_command : List ℕ → List ℕ → List ℕ → Request
write_command p off hex = with_value (λ at. with_value (λ bytes. on_path (λ path. Write path at bytes) (path_of p)) (bytes_of hex)) (number_of off)

-- to read at most so many bytes from an offset on
abbrev pub read_command : List ℕ → List ℕ → List ℕ → Request
read_command p off count = with_value (λ at. with_value (λ n. on_path (λ path. Read path at n) (path_of p)) (number_of count)) (number_of off)

-- to read from an offset on in a snapshot
abbrev pub past_read_command : List ℕ × List ℕ → List ℕ → List ℕ → List ℕ → Request
past_read_command name p off count =
    if bytes_eq name.0 (codes "read") then with_value (λ at. with_value (λ n. past name.1 (looking (λ path. look.Read path at n) (path_of p))) (number_of count)) (number_of off)
    else Malformed

-- the commands of a path, an offset, and bytes or a number of them
abbrev pub offset_command : List ℕ → List ℕ → List ℕ → List ℕ → Request
offset_command name p off what =
    if bytes_eq name (codes "write") then write_command p off what
    else if bytes_eq name (codes "read") then read_command p off what
    else with_value (λ cut. past_read_command cut p off what) (at_sign name)

-- the commands by their number of words
abbrev pub command_of : List (List ℕ) → Request
command_of (name ∷ p ∷ []) = path_command name p
command_of (name ∷ p ∷ third ∷ []) = third_command name p third
command_of (name ∷ p ∷ off ∷ what ∷ []) = offset_command name p off what
command_of _ = Malformed

-- a line that begins with `#` is a note
abbrev pub short_request : List ℕ → Request
short_request [] = Silent
short_request (b ∷ line) = if b == 35 then Silent else command_of (words_of (b ∷ line))

-- the request of a line: one of more than 65,536 bytes is not parsed
abbrev pub request_of : List ℕ → Request
request_of line = if nat_lt 65536 (length line) then Overlong else short_request line

-- the line is a command: a request, or words that fail with an errno
abbrev pub IsAsked : Request → Type 0
IsAsked Silent = ⊥
IsAsked Overlong = ⊥
IsAsked Malformed = ⊥
IsAsked _ = ⊤

-- the request was parsed; or an allocation failed, which is the reply of a command
abbrev pub IsReadAs : Request → Request → Type 0
IsReadAs wanted read = (read ≡ wanted) ⊎ ((read ≡ Refused ENOMEM) × IsAsked wanted)
