-- The names that several definitions use, of the library and the crates below.
pub use Rattle.std.specs.Prelude.{[], Bool, codes, count_ones, Err, false, filter, flat_map, IfSome, IsSomeAnd, length, List, map, max, nat_eq, nat_lt, None, Ok, Option, Result, slice_index, Some, true, unwrap_or, ℕ}
pub use Rattle.sums.specs.Below.{count_below}
pub use Rattle.tag_board.specs.States.{State}
pub use Rattle.tag_layout.specs.Layout.{HasShift, Layout, word_bits, word_of, words}
pub use Rattle.tag_layout.specs.declared.layout.TheConstants.{MAX_DEPTH, MAX_SHIFT}
pub use Rattle.tag_lines.specs.Readings.{AreReadings, IsFirstFaulty}
pub use Rattle.tag_lines.specs.declared.fault.FaultyLine.{FaultyLine}
pub use Rattle.tag_lines.specs.declared.order.Command.{Command}
pub use Rattle.tag_lines.specs.declared.order.Order.{Order}
pub use Rattle.tag_lines.specs.declared.refusal.Place.TheVariants.{Whole, Word}
pub use Rattle.tag_model.specs.declared.event.Event.{Event}
pub use Rattle.tag_model.specs.declared.event.EventFault.{EventFault}
pub use Rattle.tag_model.specs.declared.totals.Totals.{Totals}
pub use Rattle.tag_pool.specs.Texts.{dump_text, field, shown_text}
pub use Rattle.tag_pool.specs.declared.fault.TagFault.{TagFault}
pub use Rattle.tag_pool.specs.declared.resizes.ResizeCause.{ResizeCause}
pub use Rattle.tag_pool.specs.declared.shown.Shown.{Shown}
pub use Rattle.tag_queue.specs.declared.fault.QueueOpenFault.{QueueOpenFault}
pub use Rattle.tag_queue.specs.declared.fault.WaitFault.{WaitFault}
pub use Rattle.tag_queue.specs.declared.waits.Wakes.{Wakes}
pub use Rattle.tag_search.specs.Hints.{reduced}
pub use Rattle.tag_search.specs.Pool.{is_busy, Pool, set_aside}
pub use Rattle.tag_search.specs.Search.{Visit}
pub use Rattle.tag_search.specs.Visits.{plain_visits, shallow_visits}
