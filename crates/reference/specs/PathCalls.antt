-- The calls that create or remove an entry at one path.
use Rattle.reference.specs.Tree.{Path}
use Rattle.reference.specs.declared.call.Call.{Call}
use Rattle.reference.specs.declared.call.Call.TheVariants.{Mkdir, Create, Unlink, Rmdir, Rmtree}
use Rattle.reference.specs.declared.path_call.PathCall.{PathCall}
use Rattle.reference.specs.declared.path_call.PathCall.TheVariants as on

-- the call that creates or removes an entry at a path
abbrev pub call_at : PathCall → Path → Call
call_at on.Mkdir p = Mkdir p
call_at on.Create p = Create p
call_at on.Unlink p = Unlink p
call_at on.Rmdir p = Rmdir p
call_at on.Rmtree p = Rmtree p
