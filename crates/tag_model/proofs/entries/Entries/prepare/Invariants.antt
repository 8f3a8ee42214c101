-- Of the tags that were visited, each one that the event names is where the event needs it, and its next place is
-- ready.
use Rattle.std.specs.Prelude.{◌<◌, ◌≡◌}
use Rattle.tag_model.proofs.Uses.{brings, Free, get_or, IsTrue, names, Needs, SamePlaces, ℕ}
use Rattle.tag_model.proofs.entries.Entries.prepare.Given as goal

abbrev pub invariant-loop-tag : goal.invariant-loop-tag
invariant-loop-tag l = record {
  same : SamePlaces l.initial.self l.self;
  ready : (k : ℕ) → k < l.tag → k < l.layout.depth → IsTrue (names l.layout l.event k)
      → Needs l.event (get_or l.initial.self.places k Free)
      × (get_or l.self.ready k Free ≡ brings l.event (get_or l.initial.self.places k Free));
}
