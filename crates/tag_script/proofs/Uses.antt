-- The names that several proofs use, of the library, the crates below and the definitions here.
pub use Rattle.std.proofs.Common.{[], ap, append-nil, append_assoc, arith, bit_and, bit_or, Bool, cond, count_ones, eq-eqb, false, get_or, IfOk, inl, inr, length, List, map, min, nat_eq, nat_lt, ne_eqb, not, refl, rules, slice_index, slice_index_or, subst, suc, sym, take, true, zero, ℕ, ◌∙◌}
pub use Rattle.std.proofs.lemmas.Bool.{eqb-true, false_from_ne_true, false≢true, lt-ltb, or_right}
pub use Rattle.std.proofs.lemmas.Grind.{get_or_default_zero}
pub use Rattle.std.proofs.lemmas.List.{get_or-take, get_or_at, length-take, map-append, take_all, take_more}
pub use Rattle.std.proofs.lemmas.Nat.{and_le_l, and_le_r, one_shl, ones-le, or_lt, pow_below, pow_pos}
pub use Rattle.std.proofs.lemmas.Nat.Bits.{bit_at-lt, bit_at-pow_other, bit_at-pow_same, bit_at-zero, bit_at_and, bit_at_not, bit_at_or}
pub use Rattle.std.specs.Int.{bit_at, bit_not, w64}
pub use Rattle.std.specs.List.{All, Any}
pub use Rattle.std.specs.Prelude.{codes, filter, flat_map, IsTrue, MatchBool, Ok}
pub use Rattle.sums.specs.Below.{count_below, sum_below}
pub use Rattle.tag_board.specs.Boards.{state_of}
pub use Rattle.tag_layout.proofs.PlaceFacts.{place_of-tag_at, tag_at-back, word-start, word_bits-le, word_of-tag_at}
pub use Rattle.tag_layout.specs.Layout.{IsWithin, Layout, tag_at, word_bits, word_depth, word_of, words}
pub use Rattle.tag_lines.specs.declared.order.Order.{Order}
pub use Rattle.tag_model.specs.Runs.{StopsAt}
pub use Rattle.tag_script.specs.Answers.{hindrance_text, line_of, text_of}
pub use Rattle.tag_script.specs.Dump.{bit_value, held_byte, is_held_tag, range}
pub use Rattle.tag_script.specs.Outputs.{IsRun, obeyed, ObeysAll, over}
pub use Rattle.tag_script.specs.PlainCallers.{plain_world_of}
pub use Rattle.tag_script.specs.PlainWorld.{aside_in, bad_count, cleared, Clears, ClearsBatch, freed, give_back, held_in, is_aside, is_held, is_named, no_such_tag, none_around, not_held, PlainWorld, put_back, side_by_side}
pub use Rattle.tag_script.specs.Script.{answered, dialect_of, faulty, IsRefusedSetup, IsTold, Owed, refused}
pub use Rattle.tag_script.specs.SharedCommands.{AreSharedTotals, is_marked, ObeysBy, ObeysShared}
pub use Rattle.tag_script.specs.Texts.{faulty_text, setup_text, total_line}
pub use Rattle.tag_search.specs.Plain.{is_busy_tag, IsTaken, Plain, plain_words}
pub use Rattle.tag_search.specs.Pool.{free_at, is_busy, Pool, pool_of}
pub use Rattle.tag_pool.proofs.Tallies.{all_words, count_word, narrow_word}
pub use Rattle.tag_pool.specs.Texts.{field}
