-- The names that several proofs use, of the library, the crates below and the definitions here.
pub use Rattle.std.proofs.Math.Logic.{∥∥₁_elim}
pub use Rattle.std.proofs.lemmas.Bool.{and_from, and_parts, both_ways, cases_Bool, cases_lt, false_from_ne_true, false≢true, le-leb, le-ltb, leb-true, lt-ltb, ltb-false, ltb-true, not-true, not_from_false, or_cases, or_left, or_right}
pub use Rattle.std.proofs.lemmas.List.{append-nil, drop_all, get_or-map, get_or_past, length-map, map-set, set-get_or, take_at}
pub use Rattle.std.proofs.lemmas.Nat.{one_shl, pow_pos}
pub use Rattle.std.proofs.lemmas.Nat.Bits.{bit_at-lt, bit_at-zero, bit_at_above}
pub use Rattle.std.specs.Int.{bit_at, div_ceil}
pub use Rattle.std.specs.List.{list_any}
pub use mathlib.Core.Logic.{dite}
pub use mathlib.Core.Option.{some, some-injective}
pub use native.Mathlib.Decide.{dec_lt, ℕ_discrete}
pub use lib.ListN.{get_elem?}
pub use Rattle.atomic_table.proofs.Lists.{at_map}
pub use Rattle.sums.proofs.Laws.{count_below-same, le-sum_below, one_if-bit, one_if-le, sum_below-first, sum_below-same, sum_below-split}
pub use Rattle.sums.specs.Below.{count_below, one_if, sum_below}
pub use Rattle.step_ledger.specs.Gather.{HasAll}
pub use Rattle.step_ledger.specs.History.{total}
pub use Rattle.tag_layout.proofs.PlaceFacts.{word_bits-le, word_of-below}
pub use Rattle.tag_layout.specs.Layout.{Layout, place_of, word_bits, word_depth, word_of, words}
pub use Rattle.tag_core.proofs.Entries.{all_at, entry, entry_or}
pub use Rattle.tag_core.specs.Callers.{record_of}
pub use Rattle.tag_core.specs.Records.{record_after, tag_bit}
pub use Rattle.tag_core.specs.Sizes.{size_of, total_of as sum_of}
pub use Rattle.tag_core.specs.declared.caller.Caller.{Caller}
pub use Rattle.tag_core.specs.declared.map.Map.{Map}
pub use Rattle.tag_core.specs.declared.record.Record.{Record}
pub use Rattle.tag_core.specs.declared.shape.Shape.{Shape}
pub use Rattle.tag_core.specs.declared.step.Step.{Step}
pub use Rattle.tag_core.specs.declared.step.Step.TheVariants.{Word}
pub use Rattle.tag_core.specs.declared.word_step.WordStep.TheVariants.{Give, Look, LookAside}
pub use Rattle.tag_search.proofs.AloneCallers.{own_found, place_small, state_after}
pub use Rattle.tag_search.proofs.Pools.{and_false, and_true, or_false, pool_ext}
pub use Rattle.tag_search.specs.Alone.{IsAlone}
pub use Rattle.tag_search.specs.AloneLaws.{cells_left, own_after, words_left}
pub use Rattle.tag_search.specs.Gains.{count_of, count_of_run}
pub use Rattle.tag_search.specs.Pool.{free_at, is_busy, Pool as Places, pool_of as places_of}
pub use Rattle.tag_search.specs.Search.{Visit}
pub use Rattle.tag_search.specs.declared.found.Found.{Found}
pub use Rattle.tag_search.specs.declared.hint.Hint.{Hint}
pub use Rattle.wake_book.specs.Waits.{moved_by, waiting}
pub use Rattle.wake_book.specs.declared.charge.Charge.{Charge}
pub use Rattle.wake_book.specs.declared.charge.Charge.TheVariants.{Below, Busy, Full, Won}
pub use Rattle.wake_book.specs.declared.steps.GroupStep.{GroupStep}
pub use Rattle.wake_book.specs.declared.waiting.Left.{Left}
pub use Rattle.tag_pool.proofs.Numbering.{IsOrdinary, IsReserved, ordinary_above, reserved_below, stands}
pub use Rattle.tag_pool.proofs.RunMasks.{same_shape}
pub use Rattle.tag_pool.specs.Bits.{bit_in}
pub use Rattle.tag_pool.specs.Gathering.{records_of, shape_of}
pub use Rattle.tag_pool.specs.Hands.{back_of, caller_of, HasRoom, hint_of, Holds, IsHandOf as IsPoolHandOf, IsTagOf, layout_of, least_of, reserved_of, split_of, total_of}
pub use Rattle.tag_pool.specs.Holding.{HoldsLess, HoldsMore, HoldsSame}
pub use Rattle.tag_pool.specs.Lending.{side_of}
pub use Rattle.tag_pool.specs.Looks.{looks_from, MakesLooks, word_in}
pub use Rattle.tag_pool.specs.Resizing.{held_in_both, posted_in_both}
pub use Rattle.tag_pool.specs.Runs.{AreRuns, CountsTags, IsRun, record_after_runs, Run}
pub use Rattle.tag_pool.specs.Sets.{first_of, kind_of, number_in_set, other_kind}
pub use Rattle.tag_pool.specs.Sides.{caller_of as caller_in, hint_of as hint_in}
pub use Rattle.tag_pool.specs.Tallies.{back_in_both, won_of}
pub use Rattle.tag_pool.specs.declared.fault.TagFault.{TagFault}
pub use Rattle.tag_pool.specs.declared.fault.TagFault.TheVariants.{BadCount, NoSuchTag, NotHeld, NotPosted}
pub use Rattle.tag_pool.specs.declared.hand.Hand.{Hand}
pub use Rattle.tag_pool.specs.declared.kind.Kind.{Kind}
pub use Rattle.tag_pool.specs.declared.kind.Kind.TheVariants.{Ordinary, Reserved}
pub use Rattle.tag_pool.specs.declared.options.Options.{Options}
pub use Rattle.tag_pool.specs.declared.pool.Pool.{Pool}
pub use Rattle.tag_pool.specs.declared.shown.Shown.{Shown}
pub use Rattle.tag_pool.specs.declared.side.Side.{Side}
pub use Rattle.tag_queue.specs.Hands.{all_in_pool, book_steps, group_steps, hands_of, in_pool, IsHandOf, IsStillOf, number_of, numbers_of, pool_of, SameCounts, SameTags, standing_of, teller_of, waiter_of as group_waiter_of}
pub use Rattle.tag_queue.specs.Resizing.{BalanceInBoth, HasMap, standing_count}
pub use Rattle.tag_queue.specs.declared.hand.QueueHand.{QueueHand}
pub use Rattle.tag_queue.specs.declared.queue.Queue.{Queue}
pub use Rattle.tag_board.specs.AloneSets.{AloneBatch, AloneClearsList, AloneDumps, AloneGets, AloneListsBusy, AloneResizes, AloneSet, AloneSets, AloneShows, AloneTakes, AreUntouched, ChangesOne, ChangesTag, freed, give_back, is_busy_in, is_busy_tag, is_named, IsLaidOut, plain, post_in, put_back, set_left, shallow, take_in, untouched}
pub use Rattle.tag_board.specs.Boards.{state_of}
pub use Rattle.tag_board.specs.Looks.{depth_of, Dumps, ListsBusy}
pub use Rattle.tag_board.specs.Parts.{AreOrdered, has, holds, no_sets, part_of, record_in, sets_in, sets_of, state_of_all, terms_of, waiter_of}
pub use Rattle.tag_board.specs.Refusals.{AreHeldOnce, AreOrdinary, leave_checks, list_checks, MayWin, tag_checks, wait_checks}
pub use Rattle.tag_board.specs.Replays.{Answers, as_before, AsBefore, Changes, cleared, Gets, GetsBatch, GetsShallow, HoldsAll, is_answer, is_in_list, is_in_run, IsOf, joined, left, left as parted, NobodyElseHolds, NobodyHolds, standing, Takes, Wins, won, won_more}
pub use Rattle.tag_board.specs.States.{back_in, got_in, idle, newcomer, Part, posted_in, standing_in, State, Waiter}
pub use Rattle.tag_board.specs.Wakeups.{Enters, Finds, GrantsFor, GrantsForTag, Leaves, Starts}
pub use Rattle.tag_board.specs.declared.board.Board.{Board}
