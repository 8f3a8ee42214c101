-- The names that several definitions use, of the library and the crates below.
pub use Rattle.std.specs.Int.{bit_at, div_ceil}
pub use Rattle.std.specs.List.{list_any}
pub use Rattle.std.specs.Prelude.{[], All, AllPairs, Bool, cond, Err, false, is_some, IsTrue, length, List, map, max, nat_eq, nat_le, nat_lt, None, not, Ok, Option, Result, slice_index, slice_index_or, Some, true, unwrap_or, ℕ}
pub use Rattle.refusals.specs.Refusals.{Checks, FailsFirst, PassesAll}
pub use Rattle.sums.specs.Below.{count_below, sum_below}
pub use Rattle.tag_layout.specs.Layout.{Layout, place_of, word_bits, word_of, words}
pub use Rattle.tag_search.specs.AloneLaws.{cells_left, words_left}
pub use Rattle.tag_search.specs.declared.hint.Hint.{Hint}
pub use Rattle.tag_pool.specs.Bits.{bit_in}
pub use Rattle.tag_pool.specs.Opening.{HasShiftOf}
pub use Rattle.tag_pool.specs.Sets.{first_of, kind_of, number_in_set, other_kind}
pub use Rattle.tag_pool.specs.declared.fault.TagFault.{TagFault}
pub use Rattle.tag_pool.specs.declared.fault.TagFault.TheVariants.{BadCount, NoReserved, NoSuchTag, NotHeld, NotPosted, Spent, TooShallow}
pub use Rattle.tag_pool.specs.declared.kind.Kind.{Kind}
pub use Rattle.tag_pool.specs.declared.kind.Kind.TheVariants.{Ordinary, Reserved}
pub use Rattle.tag_pool.specs.declared.options.Options.{Options}
pub use Rattle.tag_pool.specs.declared.shown.Shown.{Shown}
pub use Rattle.tag_queue.specs.declared.fault.WaitFault.{WaitFault}
pub use Rattle.tag_queue.specs.declared.fault.WaitFault.TheVariants.{NotWaiting, Waiting}
pub use Rattle.tag_queue.specs.declared.waits.Wakes.{Wakes}
pub use Rattle.wake_book.specs.declared.waiting.Left.{Left}
