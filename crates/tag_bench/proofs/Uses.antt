-- The names that several proofs use, of the library, the crates below and the definitions here.
pub use Rattle.std.proofs.Common.{All, ap, arith, eqb-true, length, List, None, Option, refl, Some, subst, suc, sym, vec_capacity, vec_len, ℕ, ◌∙◌}
pub use Rattle.std.proofs.Crossing.{crosses}
pub use Rattle.std.proofs.lemmas.Nat.{div-add-mod', mod_below, one_shl, pow_pos}
pub use Rattle.std.specs.Int.{bit_at}
pub use Rattle.std.specs.Prelude.{IfSome}
pub use Rattle.std.specs.Vec.Iter.{into_iter_items}
pub use denote.Param.Send.{IsSync, recorded_sync, sendable, struct_sync}
pub use Rattle.tag_cache.specs.Caches.{IsCacheOf}
pub use Rattle.tag_cache.specs.declared.cache.Cache.{Cache}
pub use Rattle.tag_core.proofs.Crossing.{caller_send, map_sync}
pub use Rattle.tag_core.specs.Callers.{layout_of}
pub use Rattle.tag_core.specs.declared.caller.Caller.{Caller}
pub use Rattle.tag_layout.specs.Layout.{IsWithin, Layout, place_of, word_bits, word_depth, word_of}
pub use Rattle.tag_queue.proofs.Crossing.{hand_send as queue_hand_send, queue_sync}
pub use Rattle.tag_search.specs.Gains.{Gains, GainsRun}
pub use Rattle.tag_pool.proofs.Crossing.{hand_send, pool_field_sync, pool_sync}
pub use Rattle.tag_pool.specs.Hands.{IsHandOf}
pub use Rattle.wake_book.specs.Book.{IsTellerOf}
pub use Rattle.wake_book.specs.Groups.{IsWaiterOf}
