-- What the proofs by hand cite.
pub use Rattle.std.proofs.Common.{◌≡◌, ℕ, ◌+◌, ◌≤◌, List, [], ◌∷◌, ◌++◌, length, take, Bool, true, false, not, T, IsTrue, ◌↔◌, Some, None, refl, sym, ap, lit<, true≢false, ◌∙◌, w64, Bor, MutBor, arith}
pub use Rattle.std.proofs.raw_atomic.Walks.{proved}
pub use base.Fraction.{full_share}
pub use base.Logic.{SProp, ent, sep, emp, wand, id⊢, snd∗, ex_e, apply∗, all_e}
pub use base.Fml.{Fml, Lft, GName, Share, ftrue, flft, fobs, fres}
pub use mir.Syntax.{named, erased}
pub use mir.Val.{Val, vint, vptr, vbool, vstruct, vcons, vnil, of_list}
pub use contract.Monad.{fact, fact_i}
pub use contract.Running.{tables}
pub use types.Logic.{Logic, sem}
pub use seplogic.Ra.Ura.{Ura}
pub use types.Kit.{‵, raw, ◌⊛◌, some, later, prop, at_ret, Sq, ◌$◌, ◌∵◌, !, qed, by, done, each, assume, fpick, move, keep, drop, use0, use1, use2, use3, split, join, fsplit, fsplit3, fjoin, feq_i, feq_l, fpack, pick, await, rewrite, suffices, frame, group}
pub use types.Match.{live}
pub use types.Part.{whole, sub, look_in, agg}
pub use types.Run.{enter, of_opd, lit, un, bin, addr, from, fld, hop, stop, no_more, and_then, first, branches, skips, exec, returns, returns_within}
pub use types.ByLocal.{alloc_all, pass_all, free_all, look_at, look_in_at, get, get_in, through, sets, sets_last, lands_as, env}
pub use types.Tokens.{lft_new, lft_end}
pub use denote.Builtin.{u8, u64, usize, bool}
pub use denote.Exit.{yes, no}
pub use denote.Follow.{follows, followed}
pub use denote.FollowSlice.{heres_id}
pub use denote.Array.{Array}
pub use denote.Laws.{Is, shows}
pub use denote.Lend.{lends_again, comes_back, LentAgain}
pub use denote.Param.Laws.{Laws}
pub use denote.Plain.{uint_vals, uint_Tells, uint_Makes}
pub use denote.RattleType.{owns}
pub use denote.Ref.{MutRef, mut_vals, mut_Tells}
pub use denote.Shares.{Shares-less}
pub use denote.Signature.{plain, mut_ref_to}
pub use denote.Slice.{MutSlice, slice_val, mut_slice_vals, mut_slice_Tells}
pub use denote.Steps.{nothing, owned, heard, facts, peeks, only}
pub use denote.Triple.Call.{calls_at}
pub use denote.Triple.Clauses.{ensured, lasts}
pub use denote.Triple.Spec.{triple_of}
pub use denote.Triple.Table.{framed}
pub use denote.Triple.Walked.{Stays, walk_of, says, stay_dropped, Goes-dropped, Goes-spent_ref, ends_at}
pub use borrow.Rule.Reshare.{ref_Share}
