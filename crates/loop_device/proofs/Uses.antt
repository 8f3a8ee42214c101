-- The names that several proofs use, of the library, the crates below and the definitions here.
pub use Rattle.std.proofs.Common.{[], add-zero, ap, append_assoc, arith, Bool, Box, cond, count_by, Err, false, filter, filter_map, get_or, IfOk, inl, inr, IsTrue, length, length-append, List, map, max, min, nat_le, nat_lt, None, not, Ok, OnOk, Option, refl, replicate, Result, rules, set, Some, SomeIff, subst, suc, sym, take, true, vec_capacity, vec_len, zero, zero-add, ℕ, ⊎_elim, ◌∙◌}
pub use Rattle.std.proofs.Crossing.{crosses}
pub use Rattle.std.proofs.lemmas.Bool.Decides.{nat_tests}
pub use Rattle.std.proofs.lemmas.Cmp.{ranked}
pub use Rattle.std.proofs.lemmas.Grind.{common_steps, get_or_default_zero}
pub use Rattle.std.proofs.lemmas.List.{ext_get_or, get_or-map, get_or_default, length-map, length-take, map-append, nil_from_length, take_all, take_more}
pub use Rattle.std.proofs.lemmas.List.Elements.{All-cons, All-more, All-nil, All-push, at_from_Contains, Contains-append_cases, Contains-append_right, Contains-get_or, filter-append, filter_map-append}
pub use Rattle.std.proofs.lemmas.List.Sorted.{answers_always, IsNonDecreasingBy-from_default}
pub use Rattle.std.proofs.lemmas.List.Sums.{count_by-le-length, count_by_more_no, count_by_more_yes, fold-append, sum_by-append, sum_by-cons, sum_by-set, sum_by_push}
pub use Rattle.std.specs.List.{AllWithin, Contains, enumerate_from, HoldsAt, position, position_or_len, prefix_len, sum_by}
pub use Rattle.std.specs.List.Sorted.{IsBinarySearchResult, IsNonDecreasingBy}
pub use Rattle.std.specs.Ordering.{nat_cmp, ordering_index}
pub use Rattle.crossbeam_queue.specs.Passes.{IsPassOf, ruled_capacity, view}
pub use denote.Param.Send.{IsSend, IsSync, param_send, recorded_sync, sendable, struct_sync}
pub use denote.Struct.Field.{u32-field, u64-field}
pub use Rattle.loop_device.specs.Completing.{Ends, Serves, ServesPopped}
pub use Rattle.loop_device.specs.DeviceQueue.{after_pop, after_push, AreHandedOn, IsSeenBy, times_in, times_popped, times_pushed, WasFull, worker}
pub use Rattle.loop_device.specs.History.{Answers, AnswersAs, covers, done_of, IsGreatest, IsHistory, leaves_stamp, stamp_after, stamp_of, stamps_sector}
pub use Rattle.loop_device.specs.Keys.{AreStampsOf, end_key, first_key, FitsTypes, IsKept, key}
pub use Rattle.loop_device.specs.Lines.{LinesAscend}
pub use Rattle.loop_device.specs.LogLines.{entry_of, index_of, names_after, names_of, range_action, range_words, TellsCause}
pub use Rattle.loop_device.specs.LogProgress.{Progress, progress_of, ReadsLine}
pub use Rattle.loop_device.specs.Logs.{entries_of, io_in, is_wait, names_in, Says}
pub use Rattle.loop_device.specs.Promises.{AreJoined, HavePromised, IsPart, KeepInTurn, Keeps}
pub use Rattle.loop_device.specs.Requests.{Completes, EndsRequest, EndsWithout, IsLineOf, IsRequestFault}
pub use Rattle.loop_device.specs.Runs.{AreTagsFor, DidParts, DoesPart, HasRun, IsFreshOf, IsRun, IsSeen, Returns, SaysSeen, submitter_at}
pub use Rattle.loop_device.specs.Segments.{beside, greatest_of, is_sound, is_split_at, IsGreatestWithin, IsStampedWithin, stamp_at}
pub use Rattle.loop_device.specs.Submitting.{PostsLine, share_of, Submits, SubmitsShare}
pub use Rattle.loop_device.specs.TimedLogs.{AreTimed, behind, IsTimed, IsTimedFaultOf, last_time, NeverFall, none, SaysTimed, timed, timed_entry}
pub use Rattle.loop_device.specs.TimedProgress.{FailsTimed, ReadsTimed}
pub use Rattle.loop_device.specs.Verdict.{AreOfLog, CarriesEachOnce, IsLost, IsPlayFault, IsTwice, times}
pub use Rattle.loop_device.specs.Working.{added, begins, clean, ends, noted, State, TakesTurns}
pub use Rattle.loop_device.specs.declared.device_queue.Worker.{Worker}
pub use Rattle.loop_device.specs.declared.fault.PlayFault.{PlayFault}
pub use Rattle.loop_device.specs.declared.fault.PlayFault.TheVariants.{Lost, Memory, Setup, Spurious, Twice}
pub use Rattle.loop_device.specs.declared.io.Done.{Done}
pub use Rattle.loop_device.specs.declared.io.Io.{Io}
pub use Rattle.loop_device.specs.declared.io.IoKind.{IoKind}
pub use Rattle.loop_device.specs.declared.io.Log.{Log}
pub use Rattle.loop_device.specs.declared.log_line.Entry.{Entry}
pub use Rattle.loop_device.specs.declared.segments.Segments.{Segments}
pub use Rattle.loop_device.specs.declared.threads.Part.{Part}
pub use Rattle.loop_device.specs.declared.workers.Faults.{Faults}
pub use Rattle.tag_lines.proofs.LineFacts.{first_part}
pub use Rattle.tag_lines.specs.Lines.{has_gap, line_words, lines_of, number_below, parts_of}
pub use Rattle.tag_pool.specs.Hands.{total_of}
pub use Rattle.tag_queue.specs.Hands.{in_pool, IsHandOf, pool_of, SameCounts}
pub use Rattle.tag_queue.specs.declared.hand.QueueHand.{QueueHand}
pub use Rattle.tag_queue.specs.declared.queue.Queue.{Queue}
