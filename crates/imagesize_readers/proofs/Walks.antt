-- What the proofs of the refusing allocator cite.
pub use Rattle.std.proofs.Common.{◌≡◌, ℕ, List, [], ◌∷◌, refl, ap, ◌+◌, ◌^◌, ◌<◌, true, false, Ok, Err, w64, Bor}
pub use mathlib.Core.Bool.{Bool}
pub use seplogic.Ra.Ura.{Ura}
pub use mir.Val.{Val, vbool, vunit, vptr, vint}
pub use base.Logic.{SProp, ent, ex, sep, guard, id⊢, never_e}
pub use base.Fml.{Lft, Share, ftrue, fsep, flft, ffalse, froom}
pub use prog.Memory.{Memory, size, align, capped, up}
pub use prog.Routine.{Routine}
pub use types.Logic.{Logic, sem}
pub use contract.Monad.{Fun, fact}
pub use types.Kit.{‵, raw, ◌⊛◌, some, later, ◌$◌, ◌∵◌, !, qed, move, keep, use1, split, join, pick, fjoin, feq_i, feq_l, check, show, await, updating, now as at_once, done, given, learn, at_ret, use0, use2, fsplit, suffices, Item, by, split3}
pub use denote.RattleType.{RattleType, owns}
pub use denote.Memory.{hidden_shr}
pub use denote.Builtin.{bool, unit, usize, RefOf, RawPtr}
pub use denote.Steps.{nothing, only, heard}
pub use denote.Triple.Statement.{Contract, Triple}
pub use denote.Triple.Spec.{triple_of}
pub use mir.Syntax.{Ty, Args, Fn, a_type, dnil, dcons}
pub use mir.MapTy.{inst_fn}
pub use prog.Wp.{WpFn, Tables}
pub use contract.BorrowLft.{◌⊑◌, ⊑_trans}
pub use contract.Running.{tables}
pub use sound.WpLaws.{fm_of, WpFn-mono}
pub use types.Run.{stop, fld, lit, addr, no_more, and_then, first, branches, skips, exec, returns, returns_within, enter, of_opd, unit_lit}
pub use types.Part.{agg}
pub use Rattle.std.proofs.VecSteps.Shapes.{after}
pub use denote.Exit.{yes}
pub use denote.Ref.{shr_vals}
pub use denote.Opens.{unhide}
pub use denote.Param.{bounded, param}
pub use denote.Plain.{uint_vals, uint_Tells}
pub use denote.Signature.{Slot, plain, types_at}
pub use denote.Triple.Clauses.{Ended, Clauses}
pub use denote.Triple.Table.{entered, cited}
pub use denote.Triple.Walked.{Stays, stay_dropped, walk_of, ends_at, walked, Goes-dropped, walk_Meets}
pub use types.ByLocal.{alloc_all, pass_all, free_all, look_at, get, through, sets, lands_as, env}
pub use denote.RawPtr.{block_ptr, Ptr, null_ptr, ptr_val, rawptr_vals, rawptr_Tells}
pub use denote.Triple.Call.{calls_at}
pub use Rattle.std.proofs.alloc.Calls.{Al, α, seen, Answer, answer_val, Answer-typed, Answer-Ok, Answer-err, takes_key, Takes, at_takes, Answered, Takes-goes, Takes-gives, answers, token, gives_key, Gives, at_gives, Gives-goes, Gives-Gives}
