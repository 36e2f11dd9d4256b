-- What the proofs over memory of a C caller cite.
pub use Rattle.std.proofs.Common.{◌≡◌, ℕ, true, false, List, [], ◌∷◌, ◌+◌, ◌≤◌, length, refl, ap, w32, w64, MutBor, Bor}
pub use Rattle.std.proofs.raw_atomic.Walks.{proved}
pub use base.Fraction.{full_share}
pub use base.Logic.{id⊢, sep}
pub use base.Fml.{ftrue, flft, flent, Incl-refl, fat, froom}
pub use mir.Syntax.{named}
pub use mir.Val.{Val, vint, vptr, vunit}
pub use contract.BorrowLft.{⊑_static}
pub use contract.Monad.{fact}
pub use contract.Running.{tables}
pub use prog.Wp.{WpFn}
pub use types.Logic.{sem}
pub use types.Kit.{‵, raw, ◌⊛◌, some, later, prop, ◌$◌, ◌∵◌, !, qed, done, move, keep, drop, use1, use2, use3, split, join, fsplit, feq_i, feq_l, pick, await, regoal, suffices, frame, group, show}
pub use types.SemTy.{Body}
pub use types.Tokens.{lft_new, lft_end, lent_back}
pub use types.Run.{enter, of_opd, addr, stop, unit_lit, no_more, and_then, returns, assigns, init, load, look}
pub use types.ByLocal.{alloc_all, pass_all, free_all, look_at, get, through, sets, lands_as}
pub use denote.Builtin.{u8, u32, u64, unit}
pub use denote.Exit.{yes}
pub use denote.Laws.{Is, shows}
pub use denote.Lend.{lends_ref, ref_back, lends_shr}
pub use denote.Memory.{mem, part_at, lone}
pub use denote.Plain.{uint_Lawful, uint_vals, uint_Tells}
pub use denote.RawPtr.{Ptr, ptr_val, RawPtr, block_ptr, lies_at, room_at, in_a_block, rawptr_vals, rawptr_Tells}
pub use denote.Ref.{MutRef, mut_vals, mut_Tells, ShrRef}
pub use denote.Signature.{plain}
pub use denote.Slice.{ShrSlice, slice_val, shr_slice_vals, shr_slice_Tells}
pub use denote.Steps.{nothing, heard, peeks, only}
pub use denote.Triple.Call.{calls_at}
pub use denote.Triple.Clauses.{lasts}
pub use denote.Triple.Spec.{triple_of}
pub use denote.Triple.Table.{framed}
pub use denote.Triple.Walked.{Stays, walk_of, says, stay_dropped, Goes-dropped, gave_ref, Goes-gave_ref, ends_at}
pub use borrow.Table.OneValue.{part_in, part_out}
pub use denote.RattleType.{RattleType, owns}
pub use denote.Triple.Entry.{alive}
