-- Two entries for each tag, of which a bit of the tag's word says which counts.
use Rattle.std.specs.Prelude.{◌≡◌, ℕ, ◌<◌, List, Bool, false, ◌==◌, cond, IsTrue, map, length, slice_index, slice_index_or}
use Rattle.std.specs.Int.{bit_at}
use Rattle.std.specs.List.{range_with_len}
use Rattle.tag_layout.specs.Layout.{Layout, words, word_of, place_of}
use Rattle.tag_model.specs.declared.place.Place.{Place}
use Rattle.tag_model.specs.declared.place.Place.TheVariants.{Free}
use Rattle.tag_model.specs.declared.event.Event.{Event}
use Rattle.tag_model.specs.Event.{is_in_mask, names, Needs, brings}

-- the places of the tags, and beside each the one that was made ready for the tag
pub record KeptEntries : Type 0 where
  pub layout : Layout
  pub places : List Place
  pub ready : List Place

-- the tag's bit in the words is 1
abbrev pub is_turned : Layout → List ℕ → ℕ → Bool
is_turned l turned tag = bit_at (slice_index turned (word_of l tag)) (place_of l tag) == 1

-- each tag's entry in the first list, or where the tag's bit is 1 in the second
abbrev pub chosen : Layout → List ℕ → List Place → List Place → List Place
chosen l turned first second =
    map (λ tag. cond (is_turned l turned tag) (slice_index_or second tag Free) (slice_index_or first tag Free))
    (range_with_len 0 l.depth)

-- there is a place ready for each tag that the event names: where the event brings it from where it has to be
abbrev pub AreReady : Event → KeptEntries → Type 0
AreReady event kept =
    (tag : ℕ) → tag < kept.layout.depth → IsTrue (names kept.layout event tag)
    → Needs event (slice_index_or kept.places tag Free)
    × (slice_index_or kept.ready tag Free ≡ brings event (slice_index_or kept.places tag Free))

-- nothing changed but what is ready
pub record SamePlaces (old new : KeptEntries) : Type 0 where
  pub layout : new.layout ≡ old.layout
  pub places : new.places ≡ old.places

-- what was ready for the tags of the mask counts, and nothing else changed
pub record Turns (word mask : ℕ) (old new : KeptEntries) : Type 0 where
  pub layout : new.layout ≡ old.layout
  pub tags : length new.places ≡ length old.places
  pub moved :
      (tag : ℕ) → tag < old.layout.depth
      → slice_index_or new.places tag Free ≡ cond (is_in_mask old.layout word mask tag)
      (slice_index_or old.ready tag Free) (slice_index_or old.places tag Free)

-- the event names no tag
abbrev pub NamesNone : Layout → Event → Type 0
NamesNone l event = (tag : ℕ) → tag < l.depth → names l event tag ≡ false

-- the event names the tags of this mask of this word
abbrev pub NamesMask : Layout → Event → ℕ → ℕ → Type 0
NamesMask l event word mask = (word < words l) × ((tag : ℕ) → tag < l.depth
    → names l event tag ≡ is_in_mask l word mask tag)
