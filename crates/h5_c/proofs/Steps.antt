-- What the walks of a slot cite.
pub use Rattle.std.proofs.Common.{◌≡◌, ℕ, List, [], ◌∷◌, refl, sym, ap, ◌∙◌}
pub use mathlib.Core.Bool.{Bool, true, false}
pub use Rattle.std.proofs.raw_atomic.Walks.{proved}
pub use base.Fraction.{full_share}
pub use base.Logic.{id⊢, never, fst∗}
pub use base.Fml.{ftrue, flft}
pub use mir.Syntax.{named}
pub use mir.Val.{Val, vbool, vunit, vptr, vstruct, vcons, vnil}
pub use contract.Monad.{fact}
pub use contract.Running.{tables}
pub use types.Logic.{sem}
pub use types.Kit.{‵, raw, ◌⊛◌, at_ret, ◌$◌, ◌∵◌, !, qed, done, move, keep, drop, use1, split, join, fsplit, fsplit3, fjoin, fpack, feq_i, rewrite, suffices, frame, group}
pub use types.Run.{enter, of_opd, true_lit, false_lit, unit_lit, load, stop, fld, no_more, and_then, assigns, returns, exec, first, blocks}
pub use types.ByLocal.{alloc_all, pass_all, free_all, look_at, get, get_in, through, sets, sets_last, env}
pub use types.Part.{whole, sub, agg, look_in, store_in}
pub use denote.Laws.{shows}
pub use denote.Memory.{cell_at}
pub use denote.RattleType.{Valss}
pub use denote.RawPtr.{Ptr, block_ptr, null_ptr, in_a_block}
pub use denote.Ref.{MutRef, mut_vals, mut_Tells}
pub use denote.Signature.{plain, type_at}
pub use denote.Steps.{nothing, opens, closes, heard, peeks, only}
pub use denote.Struct.Struct.{within}
pub use denote.Struct.Owning.{shape}
pub use denote.Triple.Walked.{Stays, walk_of, says, stay_dropped, Goes-dropped, stay_ref, Goes-ref, ends_at}
