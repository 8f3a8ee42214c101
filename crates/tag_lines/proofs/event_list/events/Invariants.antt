-- The events so far and what the rest says are what all lines say.
use Rattle.std.proofs.Common.{◌≡◌, ◌≤◌, ◌+◌, ◌++◌, map, length, vec_len, Ok}
use Rattle.tag_lines.specs.Readings.{readings}
use Rattle.tag_lines.specs.EventList.{event_of}
use Rattle.tag_lines.proofs.event_list.events.Given as goal

-- the events so far and what the rest says are what all lines say
abbrev pub invariant-loop-rest : goal.invariant-loop-rest
invariant-loop-rest l = record {
  said : map Ok l.events.items ++ readings event_of l.rest ≡ readings event_of l.fn.text;
  room : vec_len l.events + length l.rest ≤ length l.fn.text;
}

abbrev pub decreases-loop-rest : goal.decreases-loop-rest
decreases-loop-rest l = length l.rest
