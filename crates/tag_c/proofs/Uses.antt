-- The names that several proofs use, of the library, the crates below and the definitions here.
pub use Rattle.std.proofs.Common.{[], All, ap, append_assoc, arith, Bool, Err, false, IfNone, IfOk, IfSome, inl, inr, IsOkAnd, IsSome, IsTrue, length, List, min, MutBor, None, Ok, OnOk, Option, pos, refl, Result, rules, Some, subst, suc, sym, take, true, unwrap_or, vec_capacity, vec_len, zero, ℕ, ℤ}
pub use Rattle.std.proofs.Common.{⊎_elim, ◌∙◌}
pub use Rattle.std.proofs.lemmas.List.Elements.{All-cons, All-get_or, All-head, All-nil, All-push, All-tail, All-take, All-weaker}
pub use Rattle.std.proofs.raw_atomic.Walks.{leaves, proved, proved_at}
pub use Rattle.std.specs.Arc.{arc_value}
pub use Rattle.std.specs.Prelude.{nat_eq, reverse}
pub use Rattle.std_alloc.proofs.BoxSteps.Steps.{box_in, box_out}
pub use Rattle.std_alloc.proofs.ResultValues.{and_tt}
pub use Rattle.std_alloc.specs.Box.Ownership.{box_owns}
pub use Rattle.std_heap.proofs.Global.TheLaws.{the_row_laws}
pub use Rattle.std_heap.specs.contracts.GlobalAllocator.TheImpl.{ghosts}
pub use native.Mathlib.Nat.{ℕ_set}
pub use lib.Dec.{lit<, T}
pub use lib.Signed.{mag}
pub use denote.Builtin.{RawPtr}
pub use denote.Exit.{no, yes}
pub use denote.Memory.{cell_at, lone, mem, part_at}
pub use denote.Param.{bounded, layout, param}
pub use denote.Param.Laws.{Laws, param_laws}
pub use denote.RattleType.{owns, RattleType, Valss}
pub use denote.RawPtr.{block_ptr, in_a_block, null_ptr, Ptr, ptr_val}
pub use denote.Signature.{mut_ref_to, plain, types_at}
pub use denote.Steps.{heard, nothing, only, opens}
pub use denote.Triple.Call.{calls_at, calls_at_last}
pub use denote.Triple.Spec.{triple_of}
pub use denote.Triple.Walked.{ends_at, Goes-dropped, Goes-spent_ref, says, stay_dropped, Stays, walk_of}
pub use Rattle.core.proofs.alloc.Calls.{Al, Goes-blank, handle_tells}
pub use Rattle.core.proofs.atomic.Steps.{fm}
pub use Rattle.core.proofs.cell.Inside.{Good, one}
pub use Rattle.refusals.specs.Refusals.{Checks, FailsFirst, PassesAll, RefusesBy}
pub use Rattle.tag_layout.specs.declared.layout.TheConstants.{MAX_DEPTH}
pub use Rattle.tag_search.specs.declared.found.Found.{Found}
pub use Rattle.tag_search.specs.declared.search.Unfinished.{Unfinished}
pub use base.Fml.{flft, Fml, fsep, ftrue, GName}
pub use base.Logic.{emp, ent, fst∗, id⊢, never, sep, SProp}
pub use contract.Monad.{fact, fact_i}
pub use contract.Running.{tables}
pub use mir.MapTy.{inst_fn}
pub use mir.Raw.{raw as bare}
pub use mir.Syntax.{a_type, dcons, dnil, impl, named, tnil, w32}
pub use mir.Val.{has_ty, of_list, of_z, to_z, Val, vcons, vnil, vptr, vstruct, WT}
pub use prog.Wp.{Env, WpFn}
pub use seplogic.Ra.Ura.{Ura}
pub use types.ByLocal.{alloc_all, env, free_all, get, get_in, lands_as, lands_last, look_at, pass_all, sets, sets_last, through}
pub use types.Kit.{ !, at_ret, await, by, done, drop, feq_i, feq_l, fjoin, fjoin3, fpack, fpick, frame, fsplit, fsplit3, Goal, group, Item, join, keep, later, move, pick, qed, raw, rewrite, Seq, some, split, split3, Step, step, suffices, use0, use1, ‵, ◌$◌, ◌∵◌, ◌⊛◌}
pub use types.Logic.{Logic, sem}
pub use types.Part.{agg, look_in, sub, whole}
pub use types.Run.{addr, and_then, blocks, enter, exec, first, fld, lit, load, no_more, of_opd, returns, stop}
pub use Rattle.tag_model.specs.declared.totals.Totals.{Totals}
pub use Rattle.tag_pool.specs.declared.resizes.ResizeCause.{ResizeCause}
pub use Rattle.tag_pool.specs.Gathering.{IsGathered, numbers_of}
pub use Rattle.tag_pool.specs.Gets.{GetsBatch, IsAnswer, IsTagIn, whole_run}
pub use Rattle.tag_pool.specs.Hands.{hands_of, hint_of, IsHandOf, layout_of, number_of, reserved_of, total_of}
pub use Rattle.tag_pool.specs.Refusals.{batch_checks, CountsBatch, open_checks}
pub use Rattle.tag_pool.specs.Resizing.{IsOutOfRange, IsRefusedFor, IsResized, MayResize}
pub use Rattle.tag_pool.specs.Using.{AreUnchanged}
pub use Rattle.tag_pool.specs.declared.fault.OpenFault.TheVariants.{CallerCount, LifeTooLong, Memory, ReservedTooLarge, ShiftTooLarge, TotalTooLarge}
pub use Rattle.tag_pool.specs.declared.fault.TagFault.{TagFault}
pub use Rattle.tag_pool.specs.declared.hand.Hand.{Hand}
pub use Rattle.tag_pool.specs.declared.pool.Pool.{Pool}
pub use Rattle.tag_c.specs.Calls.{DoesClear, DoesGet, DoesRead, HandCalls, Through}
pub use Rattle.tag_c.specs.Codes.{code_of, code_of_done, code_of_found, code_of_get, code_of_open_fault, IsRefusal}
pub use Rattle.tag_c.specs.Exports.{ClosesPool, Ends, GaveBack, GaveBackBy, HasHand, HasPool, IsHandIn, IsMemberIn, IsPoolIn, IsPoolOf, JoinsKind, JoinsPool, OpensPool, options_of, Refuses, RefusesClose, RefusesHand, RefusesHandOf, RefusesJoin, RefusesLeave, RefusesOpen, spare_in, spare_of, sums_of}
pub use Rattle.tag_c.specs.Held.{flag_of, held}
pub use Rattle.tag_c.specs.Holders.{Bare, Caching, Either, Holder, Holds, IsUnchanged}
pub use Rattle.tag_c.specs.Joins.{BeginsInPart, Gives, JoinsAs, Takes}
pub use Rattle.tag_c.specs.Left.{answer_of}
pub use Rattle.tag_c.specs.Lending.{with_object}
pub use Rattle.tag_c.specs.Pools.{Gathers, HasHands, LacksHand, Opens}
pub use Rattle.tag_c.specs.Sharing.{SharesTags}
pub use Rattle.tag_c.specs.declared.erased.ErasedPointer.{ErasedPointer}
pub use Rattle.tag_c.specs.declared.handle.Handle.{Handle}
pub use Rattle.tag_c.specs.declared.member.Member.{Member}
pub use Rattle.tag_c.specs.declared.object.Kind.{Kind}
pub use Rattle.tag_c.specs.declared.object.Object.{Object}
pub use Rattle.tag_c.specs.declared.pool.OpenPool.{OpenPool}
pub use Rattle.tag_c.specs.declared.pool_state.PoolState.{PoolState}
pub use Rattle.tag_c.specs.declared.status.Status.{Status}
pub use Rattle.tag_c.specs.declared.status.Status.TheVariants.{BadFlag, BadHandle, CacheTooLarge, HandLost, HandsOut, NoHand, NotEmpty, NotOpened}
