-- Which word of an event's line is wrong, and how a refusal ends a run.
use Rattle.tag_script.specs.Uses.{Event, EventFault, Layout, nat_lt, words, ℕ}
use Rattle.std.specs.Prelude.{◌≡◌, if◌then◌else◌}
use Rattle.tag_lines.specs.declared.refusal.Place.{Place}
use Rattle.tag_model.specs.declared.event.Event.TheVariants.{Look, Win, Put, Give, Sweep, Keep, Spill, Post, Take}
use Rattle.tag_model.specs.declared.event.EventFault.TheVariants.{NoSuchTag, NoSuchCaller, Spent, NotFree, NotHeld, NotPosted, NotSwept}
use Rattle.tag_script.specs.declared.ending.Ending.{Ending}
use Rattle.tag_script.specs.declared.ending.Ending.TheVariants.{Done, Refused}

-- the word that names the tags: a mask stands behind its word of the map
abbrev pub tags_word : Event → ℕ
tags_word Look = 3
tags_word (Win caller word mask) = 4
tags_word (Put caller tag) = 3
tags_word (Give caller word mask) = 4
tags_word (Sweep caller word) = 3
tags_word (Keep caller word mask) = 4
tags_word (Spill caller word) = 3
tags_word (Post caller tag) = 3
tags_word (Take caller tag) = 3

-- the word that names what the layout does not have: the mask if the layout has its word
abbrev pub unknown_word : Layout → Event → ℕ
unknown_word l Look = 3
unknown_word l (Win caller word mask) = if nat_lt word (words l) then 4 else 3
unknown_word l (Put caller tag) = 3
unknown_word l (Give caller word mask) = if nat_lt word (words l) then 4 else 3
unknown_word l (Sweep caller word) = 3
unknown_word l (Keep caller word mask) = if nat_lt word (words l) then 4 else 3
unknown_word l (Spill caller word) = 3
unknown_word l (Post caller tag) = 3
unknown_word l (Take caller tag) = 3

-- the word that is wrong; the caller is the second one
abbrev pub wrong_word : Layout → Event → EventFault → ℕ
wrong_word l event NoSuchTag = unknown_word l event
wrong_word l event NoSuchCaller = 2
wrong_word l event Spent = 2
wrong_word l event NotFree = tags_word event
wrong_word l event NotHeld = tags_word event
wrong_word l event NotPosted = tags_word event
wrong_word l event NotSwept = tags_word event

-- the run ended with a refusal, and this is where the input is wrong
abbrev pub IsRefusedAt : Place → Ending → Type 0
IsRefusedAt place Done = ⊥
IsRefusedAt place (Refused refusal) = refusal.place ≡ place
