-- The slots so far are taken and in the list, in order, and the others are still full. Each round takes one.
use Rattle.std.specs.Prelude.{◌-◌, ◌<◌, ◌≡◌, ◌≤◌}
use Rattle.tag_core.proofs.Uses.{false, slice_index_or, slots_filled, slots_items, slots_len, take, true, vec_capacity, vec_len, ℕ}
use Rattle.tag_core.proofs.gather.take_out.Given as goal

abbrev pub invariant-loop-i : goal.invariant-loop-i
invariant-loop-i g l = record {
  empty : (n : ℕ) → n < l.i → slice_index_or (slots_filled l.ended.slots) n false ≡ false;
  full : (n : ℕ) → l.i ≤ n → n < slots_len l.ended.slots → slice_index_or (slots_filled l.ended.slots) n false ≡ true;
  near : l.i ≤ slots_len l.ended.slots;
  items : slots_items l.ended.slots ≡ slots_items l.fn.ended.slots;
  len : slots_len l.ended.slots ≡ slots_len l.fn.ended.slots;
  capacity : vec_capacity l.room ≡ vec_capacity l.fn.room;
  count : vec_len l.room ≡ l.i;
  out : l.room.items ≡ take l.i (slots_items l.fn.ended.slots);
}

abbrev pub decreases-loop-i : goal.decreases-loop-i
decreases-loop-i g l = slots_len l.ended.slots - l.i
