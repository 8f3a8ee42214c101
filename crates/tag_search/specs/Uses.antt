-- The names that several definitions use, of the library and the crates below.
pub use Rattle.std.proofs.Common.{ap, arith, subst, sym, ◌∙◌}
pub use Rattle.std.specs.Int.{bit_at}
pub use Rattle.std.specs.List.{AllByRecursion, list_any}
pub use Rattle.std.specs.Prelude.{[], All, bit_and, Bool, cond, count_ones, false, length, List, map, nat_eq, nat_le, nat_lt, None, not, Option, refl, slice_index, slice_index_or, Some, suc, true, ℕ}
pub use Rattle.step_ledger.specs.History.{total}
pub use Rattle.tag_layout.specs.Layout.{Layout, place_of, shallow_limit, tag_at, word_bits, word_depth, word_of, words}
pub use Rattle.tag_core.specs.Callers.{Holds, record_of, SameMap, slot_of}
pub use Rattle.tag_core.specs.Records.{joined, record_after}
pub use Rattle.tag_core.specs.Steps.{Quiet, without, Words, words_after, words_after_all}
pub use Rattle.tag_core.specs.declared.caller.Caller.{Caller}
pub use Rattle.tag_core.specs.declared.record.Record.{Record}
pub use Rattle.tag_core.specs.declared.shape.Shape.{Shape}
pub use Rattle.tag_core.specs.declared.step.Step.{Step}
pub use Rattle.tag_core.specs.declared.step.Step.TheVariants.{Word}
pub use Rattle.tag_core.specs.declared.word_step.WordStep.{WordStep}
pub use Rattle.tag_core.specs.declared.word_step.WordStep.TheVariants.{Claimed, Give, Keep, Look, LookAside, Put, Spill, Swap}
