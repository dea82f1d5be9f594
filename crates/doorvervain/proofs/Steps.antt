-- The names that the walks of this crate use.
pub use Rattle.std.proofs.Common.{◌≡◌, ℕ, List, [], ◌∷◌, ◌++◌, refl, sym, ap, ◌∙◌, subst, lit<}
pub use Rattle.std.proofs.raw_atomic.Walks.{proved, proved_at}
pub use Rattle.std.proofs.VecSteps.Shapes.{after}
pub use base.Fraction.{full_share}
pub use base.Logic.{SProp, ent, id⊢, never, fst∗, sep}
pub use base.Fml.{Fml, Lft, Share, GName, ftrue, flft, fsep, fex}
pub use mir.Syntax.{Fn, named, ty_ptr, Args, a_type, dcons, dnil}
pub use mir.MapTy.{inst_fn}
pub use mir.Val.{Val, vptr, vnull, vstruct, vcons, vnil, of_list, has_ty, WT, vunit}
pub use mir.Raw.{raw as bare}
pub use lib.Dec.{T}
pub use prog.Wp.{WpFn}
pub use contract.Monad.{fact}
pub use contract.BorrowLft.{◌⊑◌}
pub use contract.Running.{tables}
pub use types.Logic.{Logic, sem}
pub use types.Kit.{Goal, Item, Seq, ‵, raw, ◌⊛◌, some, later, at_ret, ◌$◌, ◌∵◌, !, qed, move, keep, drop, use1, split, split3, join, pick, fsplit, fsplit3, fjoin, fpick, fpack, feq_i, feq_l, await, rewrite, suffices, frame, group, done, fjoin3}
pub use types.Part.{whole, sub, look_in, agg, store_in}
pub use types.Run.{enter, of_opd, lit, addr, load, stop, fld, no_more, and_then, first, blocks, exec, returns, assigns, unit_lit}
pub use types.ByLocal.{alloc_all, pass_all, free_all, look_at, get, get_in, through, sets, sets_last, lands_last, env, lands_as}
pub use denote.Exit.{yes, no}
pub use denote.Laws.{shows}
pub use denote.Memory.{part_at, mem, cell_at, lone}
pub use denote.RattleType.{RattleType, Valss}
pub use denote.RawPtr.{Ptr, block_ptr, null_ptr, ptr_val, in_a_block, RawPtr}
pub use denote.Ref.{MutRef, mut_vals, mut_Tells}
pub use denote.Signature.{plain, mut_ref_to, type_at, Slot}
pub use denote.Steps.{nothing, opens, peeks, heard, only, closes}
pub use denote.Triple.Call.{calls_at_last, calls_at}
pub use denote.Triple.Spec.{triple_of}
pub use denote.Triple.Table.{framed}
pub use denote.Triple.Clauses.{Ended, Lasts, lasts}
pub use denote.Triple.Walked.{Stays, walk_of, says, stay_dropped, ends_at, Goes-dropped, Goes-spent_ref, stay_ref, Goes-ref}
pub use Rattle.std.proofs.alloc.Calls.{token, handle_tells, Goes-blank}
pub use Rattle.std.specs.Box.Ownership.{box_owns}
pub use denote.Struct.Struct.{within, Struct}
pub use Rattle.std.specs.Prelude.{Some, None}
pub use Rattle.std.specs.Global.{Global}
pub use seplogic.Ra.Ura.{Ura}
pub use denote.Follow.{follows, lends_Part}
pub use mathlib.Core.Bool.{Bool, true, false, ◌&&◌}
pub use denote.Param.{bounded}
pub use denote.Struct.Tuple.{Tuple}
