-- The event that stops a run, by its place in the list.
use Rattle.tag_script.proofs.Uses.{ap, get_or_at, Layout, List, refl, slice_index_or, StopsAt, sym, ℕ, ◌∙◌}
use Rattle.std.proofs.Common.{◌≡◌, ◌+◌}
use Rattle.tag_model.specs.declared.event.Event.{Event}
use Rattle.tag_model.specs.declared.event.EventFault.{EventFault}
use Rattle.tag_model.specs.World.{World}
use Rattle.tag_script.specs.Check.{IsStopped}
use Rattle.tag_script.specs.Refusals.{wrong_word}

-- the word is wrong in the event at this index
pub stopped_at : (l : Layout) (callers : ℕ) (w : World) (events : List Event) (index word : ℕ) (fault : EventFault)
    (d : Event) → StopsAt l callers w events index fault
    → word ≡ wrong_word l (slice_index_or events index d) fault → IsStopped l callers w events (index + 1) word fault
stopped_at l callers w events index word fault d stops is = record {
  index = index;
  line_is = refl;
  stops = stops;
  word_is = is ∙ ap (λ event. wrong_word l event fault) (ap (λ all. slice_index_or all index d) stops.parts
      ∙ get_or_at stops.before stops.event stops.rest d index (sym stops.index_is));
}
