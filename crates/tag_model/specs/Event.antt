-- The table of events: who makes one, which tags it names, what it asks of them and what it makes of them.
use Rattle.std.specs.Prelude.{◌≡◌, ℕ, ◌<◌, Bool, false, ◌==◌, ◌&&◌, cond, count_ones}
use Rattle.std.specs.Int.{bit_at}
use Rattle.tag_layout.specs.Layout.{Layout, words, word_of, place_of, IsWithin}
use Rattle.tag_model.specs.declared.place.Place.{Place}
use Rattle.tag_model.specs.declared.place.Place.TheVariants.{Free, Held, Posted, Aside, Sweep as Swept}
use Rattle.tag_model.specs.declared.event.Event.{Event}
use Rattle.tag_model.specs.declared.event.Event.TheVariants.{Look, Win, Put, Give, Sweep, Keep, Spill, Post, Take}

-- who makes the event; a look is anybody's, so the first caller's
abbrev pub caller_of : Event → ℕ
caller_of Look = 0
caller_of (Win caller word mask) = caller
caller_of (Put caller tag) = caller
caller_of (Give caller word mask) = caller
caller_of (Sweep caller word) = caller
caller_of (Keep caller word mask) = caller
caller_of (Spill caller word) = caller
caller_of (Post caller tag) = caller
caller_of (Take caller tag) = caller

-- the tag's bit in this mask of this word is 1
abbrev pub is_in_mask : Layout → ℕ → ℕ → ℕ → Bool
is_in_mask l word mask tag = (word_of l tag == word) && (bit_at mask (place_of l tag) == 1)

-- whether the event names the tag
abbrev pub names : Layout → Event → ℕ → Bool
names l Look t = false
names l (Win caller word mask) t = is_in_mask l word mask t
names l (Put caller tag) t = t == tag
names l (Give caller word mask) t = is_in_mask l word mask t
names l (Sweep caller word) t = word_of l t == word
names l (Keep caller word mask) t = is_in_mask l word mask t
names l (Spill caller word) t = word_of l t == word
names l (Post caller tag) t = t == tag
names l (Take caller tag) t = t == tag

-- the event names no tag, word or bit of a mask that the layout has not
abbrev pub IsInLayout : Layout → Event → Type 0
IsInLayout l Look = Unit {0}
IsInLayout l (Win caller word mask) = (word < words l) × IsWithin l word mask
IsInLayout l (Put caller tag) = tag < l.depth
IsInLayout l (Give caller word mask) = (word < words l) × IsWithin l word mask
IsInLayout l (Sweep caller word) = word < words l
IsInLayout l (Keep caller word mask) = (word < words l) × IsWithin l word mask
IsInLayout l (Spill caller word) = word < words l
IsInLayout l (Post caller tag) = tag < l.depth
IsInLayout l (Take caller tag) = tag < l.depth

-- where a tag that the event names has to be
abbrev pub Needs : Event → Place → Type 0
Needs Look place = Unit {0}
Needs (Win caller word mask) place = place ≡ Free
Needs (Put caller tag) place = place ≡ Held caller
Needs (Give caller word mask) place = place ≡ Held caller
Needs (Sweep caller word) place = Unit {0}
Needs (Keep caller word mask) place = place ≡ Swept caller
Needs (Spill caller word) place = Unit {0}
Needs (Post caller tag) place = place ≡ Held caller
Needs (Take caller tag) place = place ≡ Posted

-- the caller takes what is aside
abbrev pub swept_by : ℕ → Place → Place
swept_by caller Free = Free
swept_by caller (Held other) = Held other
swept_by caller Posted = Posted
swept_by caller Aside = Swept caller
swept_by caller (Swept other) = Swept other

-- what the caller swept becomes free
abbrev pub spilled_by : ℕ → Place → Place
spilled_by caller Free = Free
spilled_by caller (Held other) = Held other
spilled_by caller Posted = Posted
spilled_by caller Aside = Aside
spilled_by caller (Swept other) = cond (other == caller) Free (Swept other)

-- where the event brings a tag that it names
abbrev pub brings : Event → Place → Place
brings Look place = place
brings (Win caller word mask) place = Held caller
brings (Put caller tag) place = Aside
brings (Give caller word mask) place = Free
brings (Sweep caller word) place = swept_by caller place
brings (Keep caller word mask) place = Held caller
brings (Spill caller word) place = spilled_by caller place
brings (Post caller tag) place = Posted
brings (Take caller tag) place = Held caller

-- how many tags the event's caller wins by it
abbrev pub won_by : Event → ℕ
won_by (Win caller word mask) = count_ones mask
won_by (Keep caller word mask) = count_ones mask
won_by _ = 0

-- how many tags the event's caller gives back by it
abbrev pub back_by : Event → ℕ
back_by (Put caller tag) = 1
back_by (Give caller word mask) = count_ones mask
back_by _ = 0
