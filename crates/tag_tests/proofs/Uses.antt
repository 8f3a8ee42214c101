-- The names that several proofs use, of the library, the crates below and the definitions here.
pub use Rattle.std.proofs.Common.{[], All, ap, arith, length, List, Some, subst, suc, sym, ℕ, ◌∙◌}
pub use Rattle.std.proofs.Crossing.{crosses}
pub use Rattle.std.proofs.lemmas.List.Elements.{All-pop, All-push, All-set}
pub use Rattle.std.specs.Vec.Iter.{into_iter_items}
pub use denote.Param.Send.{enum_send, IsSend, IsSync, recorded_send, recorded_sync, sendable, struct_sync}
pub use denote.Struct.Field.{u64-field}
pub use Rattle.tag_pool.proofs.Crossing.{hand_field_send, pool_field_sync}
pub use Rattle.tag_pool.specs.Hands.{IsHandOf}
pub use Rattle.tag_pool.specs.declared.hand.Hand.{Hand}
pub use Rattle.tag_pool.specs.declared.pool.Pool.{Pool}
pub use Rattle.tag_tests.specs.Shared.{hand_in, IsOwn}
pub use Rattle.tag_tests.specs.declared.caller.Caller.{Caller}
