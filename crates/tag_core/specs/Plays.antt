-- What each kind of step on the table tells the caller that makes it.
use Rattle.std.specs.Prelude.{◌*◌, ◌+◌, ◌/◌, ◌<◌, ◌∷◌, ◌≡◌, ◌≢◌, ◌≤◌}
use Rattle.tag_core.specs.Uses.{[], back_by, bit_at, get_elem?, length, List, map, Me, MOST_WON, None, own_view, place_of, slice_index, Some, some, Totals, viewing, word_of, ℕ}
use Rattle.atomic_table.specs.Table as table
use Rattle.tag_core.specs.Views.{View}
use Rattle.tag_core.specs.declared.step.Step.{Step}
use Rattle.tag_core.specs.declared.step.Step.TheVariants.{Word, Post, Take, ReadNote, Bell}
use Rattle.tag_core.specs.declared.bell_step.BellStep.TheVariants.{Enlist, Enter, GetUp, Leave, LookAll, LookAt, TakeTurn, Tell}
use Rattle.tag_core.specs.declared.berth.Waiter.{Waiter}
use Rattle.tag_core.specs.declared.berth.Berth.TheVariants.{Listed}
use Rattle.tag_core.specs.declared.word_step.WordStep.TheVariants.{Look, LookAside, Claimed, Give, Put, Swap, Keep, Spill}
use Rattle.tag_core.specs.declared.record.Record.{Record}
use Rattle.tag_core.specs.Berths.{berth_of, berth_word}
use Rattle.tag_core.specs.Steps.{least_bit}
use Rattle.tag_core.specs.Spacing.{aside_at, berth_at, clock_at, state_at, waiters_at, word_at}
use Rattle.tag_core.specs.Histories.{event_of}
use Rattle.tag_core.specs.Records.{record_after, held_after, tag_bit, value_of, tags_from, but, Carries}
use Rattle.tag_core.specs.Meeting.{HasHistory, ShareHistory, AreApart}
use Rattle.tag_core.specs.Settling.{HasRecords, AreSettled, LeavesWaiters}

-- the caller of this record made the step: the slots of its tags are with it, and those of tags that it keeps have
-- their values
pub record Stepped {R : Type 0} (step : Step R) (r : Record R) (me me' : Me R (View R)) : Type 0 where
  pub view : me'.0 ≡ own_view (record_after step r)
  pub carries : Carries r.shape.layout (held_after r.shape.layout step r.held) me'.1
  pub values :
      (tag : ℕ) → tag < r.shape.layout.depth → tag_bit r.shape.layout r.held tag ≡ 1
      → tag_bit r.shape.layout (held_after r.shape.layout step r.held) tag ≡ 1 → value_of me'.1 tag ≡ value_of me.1 tag
  pub few_back : r.back + back_by (event_of r.shape.layout r.number step) ≤ r.shape.callers * MOST_WON
  pub shown : HasHistory r.shape (record_after step r)

-- each tag of this word that the caller holds has this bit in what was found
abbrev pub FindsHeld : {R : Type 0} → Record R → ℕ → ℕ → ℕ → Type 0
FindsHeld r i found bit =
    (tag : ℕ) → tag < r.shape.layout.depth → word_of r.shape.layout tag ≡ i → tag_bit r.shape.layout r.held tag ≡ 1
    → bit_at found (place_of r.shape.layout tag) ≡ bit

module _ {R : Type 0} (st : table.Step R) (me : Me R (View R)) (found : ℕ) (me' : Me R (View R)) where
  -- a load of a word
  abbrev pub looked : Type 0
  looked =
      (i : ℕ) (r : Record R) → st.word ≡ word_at i → me.0 ≡ own_view r
      → Stepped (Word (Look i found)) r me me' × FindsHeld r i found 1

  -- a load of a cleared set
  abbrev pub looked_aside : Type 0
  looked_aside =
      (i : ℕ) (r : Record R) → st.word ≡ aside_at i → me.0 ≡ own_view r
      → Stepped (Word (LookAside i found)) r me me' × FindsHeld r i found 0

  -- an or of a word
  abbrev pub claimed : Type 0
  claimed =
      (i : ℕ) (r : Record R) → st.word ≡ word_at i → me.0 ≡ own_view r
      → Stepped (Word (Claimed i st.first found)) r me me' × FindsHeld r i found 1

  -- a word less a mask of held tags
  abbrev pub gave : Type 0
  gave =
      (i : ℕ) (r : Record R) → st.word ≡ word_at i → me.0 ≡ own_view r
      → Stepped (Word (Give i st.first found)) r me me'

  -- a sum of a cleared set and the bit of a held tag
  abbrev pub put_aside : Type 0
  put_aside =
      (i : ℕ) (r : Record R) → st.word ≡ aside_at i → me.0 ≡ own_view r
      → Stepped (Word (Put i st.first found)) r me me'

  -- a swap of a cleared set with 0
  abbrev pub swapped : Type 0
  swapped = (i : ℕ) (r : Record R) → st.word ≡ aside_at i → me.0 ≡ own_view r → Stepped (Word (Swap i found)) r me me'

  -- a swap of a cleared set with 0, of which the caller keeps the least tag, if anything was aside
  abbrev pub kept_least : Type 0
  kept_least =
      (i : ℕ) (r : Record R) → st.word ≡ aside_at i → me.0 ≡ own_view r
      → FindsHeld r i found 0 × (found ≡ 0 → Stepped (Word (Swap i 0)) r me me')
      × (found ≢ 0 → (mid : Me R (View R)) × Stepped (Word (Swap i found)) r me mid
      × Stepped (Word (Keep i (least_bit found))) (record_after (Word (Swap i found)) r) mid me')

  -- a word less what the caller swept
  abbrev pub spilled : Type 0
  spilled =
      (i : ℕ) (r : Record R) → st.word ≡ word_at i → me.0 ≡ own_view r
      → Stepped (Word (Spill i (slice_index r.swept i) found)) r me me'

  -- a store of one more than a note in a held tag's state
  abbrev pub posted : Type 0
  posted =
      (tag note : ℕ) (value : R) (r : Record R) → st.word ≡ state_at r.shape.layout tag → st.first ≡ note + 1
      → value_of me.1 tag ≡ some value → me.0 ≡ own_view r
      → Stepped (Post tag note value) r me me'

  -- a swap of a state with 0: where it was not 0, the slot that came has the value of the tag's last Post, and the tag was
  -- not the caller's
  abbrev pub took : Type 0
  took =
      (tag : ℕ) (r : Record R) → st.word ≡ state_at r.shape.layout tag → me.0 ≡ own_view r
      → (found ≢ 0 → (value : R) × (value_of me'.1 tag ≡ some value) × Stepped (Take tag 1 (Some value)) r me me'
      × (tag_bit r.shape.layout r.held tag ≢ 1))
      × (found ≡ 0 → Stepped (Take tag 0 None) r me me')

  -- a load of a state
  abbrev pub note_read : Type 0
  note_read =
      (tag : ℕ) (r : Record R) → st.word ≡ state_at r.shape.layout tag → me.0 ≡ own_view r
      → tag < r.shape.layout.depth → Stepped (ReadNote tag found) r me me'

  -- an or of the word of all who wait and the caller's bit
  abbrev pub entered : Type 0
  entered =
      (r : Record R) → st.word ≡ waiters_at → me.0 ≡ own_view r → Stepped (Bell (Enter r.number found)) r me me'

  -- an and of the word of all who wait and the complement of the caller's bit
  abbrev pub left : Type 0
  left = (r : Record R) → st.word ≡ waiters_at → me.0 ≡ own_view r → Stepped (Bell (Leave r.number found)) r me me'

  -- a load of the word of all who wait
  abbrev pub looked_all : Type 0
  looked_all = (r : Record R) → st.word ≡ waiters_at → me.0 ≡ own_view r → Stepped (Bell (LookAll found)) r me me'

  -- a sum of the clock and 8
  abbrev pub turn_taken : Type 0
  turn_taken = (r : Record R) → st.word ≡ clock_at → me.0 ≡ own_view r → Stepped (Bell (TakeTurn (found / 8))) r me me'

  -- a swap of the caller's own berth
  abbrev pub enlisted : Type 0
  enlisted =
      (waiter : Waiter) (turn : ℕ) (r : Record R) → st.word ≡ berth_at r.number
      → st.first ≡ berth_word (Listed waiter turn) → me.0 ≡ own_view r
      → Stepped (Bell (Enlist r.number waiter turn (berth_of found))) r me me'

  -- a load of a berth
  abbrev pub looked_at : Type 0
  looked_at =
      (whom : ℕ) (r : Record R) → st.word ≡ berth_at whom → me.0 ≡ own_view r
      → Stepped (Bell (LookAt whom (berth_of found))) r me me'

  -- an exchange of a berth that is listed so for one that is told
  abbrev pub told : Type 0
  told =
      (whom : ℕ) (waiter : Waiter) (turn : ℕ) (r : Record R) → st.word ≡ berth_at whom
      → st.first ≡ berth_word (Listed waiter turn) → me.0 ≡ own_view r
      → Stepped (Bell (Tell whom waiter turn (berth_of found))) r me me'

  -- a swap of the caller's own berth with 0
  abbrev pub got_up : Type 0
  got_up =
      (r : Record R) → st.word ≡ berth_at r.number → me.0 ≡ own_view r
      → Stepped (Bell (GetUp r.number (berth_of found))) r me me'

  -- a load that brings a held tag's slot to the front
  abbrev pub fronted : Type 0
  fronted =
      (tag : ℕ) (r : Record R) → st.word ≡ state_at r.shape.layout tag → me.0 ≡ own_view r
      → tag < r.shape.layout.depth → tag_bit r.shape.layout r.held tag ≡ 1
      → (value : R) × (slots : List (ℕ × R)) × (me'.0 ≡ me.0) × (me'.1 ≡ (tag, value) ∷ slots)
      × (value_of me.1 tag ≡ some value)
      × (map (λ x. x.0) slots ≡ tags_from (but (tag_bit r.shape.layout r.held) tag) 0 r.shape.layout.depth)
      × ((other : ℕ) → other < r.shape.layout.depth → other ≢ tag → tag_bit r.shape.layout r.held other ≡ 1
      → value_of slots other ≡ value_of me.1 other)

  -- a load that puts it back into its order
  abbrev pub ordered : Type 0
  ordered =
      (tag : ℕ) (value : R) (slots : List (ℕ × R)) (r : Record R)
      → st.word ≡ state_at r.shape.layout tag → me.0 ≡ own_view r
      → me.1 ≡ (tag, value) ∷ slots
      → map (λ x. x.0) slots ≡ tags_from (but (tag_bit r.shape.layout r.held) tag) 0 r.shape.layout.depth
      → tag_bit r.shape.layout r.held tag ≡ 1
      → (me'.0 ≡ me.0) × Carries r.shape.layout r.held me'.1 × (value_of me'.1 tag ≡ some value)
      × ((other : ℕ) → other < r.shape.layout.depth → other ≢ tag → tag_bit r.shape.layout r.held other ≡ 1
      → value_of me'.1 other ≡ value_of slots other)

  -- a load by a seat that has several callers' records: there are no more than the map has callers
  abbrev pub counted : Type 0
  counted = (me' ≡ me) × ((r : Record R) (rs : List (Record R)) → me.0 ≡ viewing (r ∷ rs)
      → length (r ∷ rs) ≤ r.shape.callers)

  -- a load by a seat that has two callers' records: they are of two callers, who hold no tag in common, in one history
  abbrev pub met : Type 0
  met =
      (me' ≡ me)
      × ((first second : Record R) → me.0 ≡ viewing (first ∷ second ∷ [])
      → (first.number ≢ second.number) × AreApart first.shape first second × ShareHistory first.shape first second)

  -- a load by a seat that has the records of all callers: one history shows them, with their totals
  abbrev pub settled : Type 0
  settled =
      (me' ≡ me)
      × ((r : Record R) → get_elem? me.0.records.value 0 ≡ some r → HasRecords r.shape.callers me.0.records.value
      → (totals : Totals) × AreSettled r.shape me.0.records.value totals)

  -- a load of the word of all who wait by a seat that has the records of all callers: one history shows them, and leaves
  -- the word so
  abbrev pub waiters_settled : Type 0
  waiters_settled =
      (me' ≡ me)
      × ((r : Record R) → st.word ≡ waiters_at → get_elem? me.0.records.value 0 ≡ some r
      → HasRecords r.shape.callers me.0.records.value → LeavesWaiters r.shape me.0.records.value found)
