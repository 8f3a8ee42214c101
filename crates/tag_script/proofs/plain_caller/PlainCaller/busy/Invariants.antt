-- The list has the held tags of the words so far; the inner loop adds those of the places so far of the next word.
use Rattle.tag_script.proofs.Uses.{filter, is_held_tag, min, plain_world_of, range, word_bits}
use Rattle.std.proofs.Common.{◌≡◌, ◌+◌, ◌*◌}
use Rattle.tag_script.proofs.plain_caller.PlainCaller.busy.Given as goal

abbrev pub invariant-loop-word : goal.invariant-loop-word
invariant-loop-word l = record {
  same : plain_world_of l.self ≡ plain_world_of l.fn.self;
  listed : l.tags.items ≡ filter (is_held_tag (plain_world_of l.fn.self))
      (range (min (l.word * word_bits (plain_world_of l.fn.self).layout) (plain_world_of l.fn.self).layout.depth));
}

abbrev pub invariant-loop-place : goal.invariant-loop-place
invariant-loop-place l = record {
  same : plain_world_of l.self ≡ plain_world_of l.fn.self;
  listed : l.tags.items ≡ filter (is_held_tag (plain_world_of l.fn.self))
      (range (l.word * word_bits (plain_world_of l.fn.self).layout + l.place));
}
