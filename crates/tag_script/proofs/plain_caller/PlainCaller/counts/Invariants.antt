-- The counts are those over the tags of the words so far, and the world is unchanged.
use Rattle.tag_script.proofs.Uses.{count_below, is_aside, is_held, min, plain_world_of, word_bits}
use Rattle.std.proofs.Common.{◌≡◌, ◌≤◌, ◌*◌}
use Rattle.tag_script.proofs.plain_caller.PlainCaller.counts.Given as goal

-- the counts are those below the first tag of the next word, and at most 64 for each word so far
abbrev pub invariant-loop-word : goal.invariant-loop-word
invariant-loop-word l = record {
  same : plain_world_of l.self ≡ plain_world_of l.fn.self;
  held : l.held ≡ count_below (is_held (plain_world_of l.self))
      (min (l.word * word_bits l.self.port.layout) l.self.port.layout.depth);
  aside : l.aside ≡ count_below (is_aside (plain_world_of l.self))
      (min (l.word * word_bits l.self.port.layout) l.self.port.layout.depth);
  few_held : l.held ≤ 64 * l.word;
  few_aside : l.aside ≤ 64 * l.word;
}
