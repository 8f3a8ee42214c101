-- What is known of one caller, how its own steps change it, and the slots that it carries.
use Rattle.std.specs.Prelude.{◌+◌, ◌^◌, ◌∷◌, ◌≡◌}
use Rattle.tag_core.specs.Uses.{[], back_by, bit_at, bit_or, cond, Layout, List, map, nat_eq, none, place_of, replicate, slice_index, slice_set, some, suc, won_by, word_of, words, zero, ℕ}
use mathlib.Core.Option as maybe
use Rattle.tag_core.specs.declared.shape.Shape.{Shape}
use Rattle.tag_core.specs.declared.step.Step.{Step}
use Rattle.tag_core.specs.declared.step.Step.TheVariants.{Word, Post, Take, ReadNote, Bell}
use Rattle.tag_core.specs.declared.word_step.WordStep.{WordStep}
use Rattle.tag_core.specs.declared.word_step.WordStep.TheVariants.{Look, LookAside, Claimed, Give, Put, Swap, Keep, Spill}
use Rattle.tag_core.specs.declared.record.Record.{Record}
use Rattle.tag_core.specs.Steps.{without}
use Rattle.tag_core.specs.Histories.{event_of}

-- the masks with more bits of one word
abbrev pub joined : List ℕ → ℕ → ℕ → List ℕ
joined masks i mask = slice_set masks i (bit_or (slice_index masks i) mask)

-- the masks with fewer bits of one word
abbrev pub parted : List ℕ → ℕ → ℕ → List ℕ
parted masks i mask = slice_set masks i (without (slice_index masks i) mask)

-- the held set after a step on a word
abbrev pub held_after_word : WordStep → List ℕ → List ℕ
held_after_word (Look i found) held = held
held_after_word (LookAside i found) held = held
held_after_word (Claimed i mask found) held = joined held i (without mask found)
held_after_word (Give i mask found) held = parted held i mask
held_after_word (Put i mask found) held = parted held i mask
held_after_word (Swap i found) held = held
held_after_word (Keep i mask) held = joined held i mask
held_after_word (Spill i mask found) held = held

-- the held set after the caller's step, one mask for each word
abbrev pub held_after : {R : Type 0} → Layout → Step R → List ℕ → List ℕ
held_after l (Word step) held = held_after_word step held
held_after l (Post tag note value) held = parted held (word_of l tag) (2 ^ place_of l tag)
held_after l (Take tag zero value) held = held
held_after l (Take tag (suc found) value) held = joined held (word_of l tag) (2 ^ place_of l tag)
held_after l (ReadNote tag found) held = held
held_after l (Bell step) held = held

-- the sweep after a step on a word
abbrev pub swept_after_word : WordStep → List ℕ → List ℕ
swept_after_word (Swap i found) swept = joined swept i found
swept_after_word (Keep i mask) swept = parted swept i mask
swept_after_word (Spill i mask found) swept = slice_set swept i 0
swept_after_word _ swept = swept

-- the sweep after the caller's step, one mask for each word
abbrev pub swept_after : {R : Type 0} → Step R → List ℕ → List ℕ
swept_after (Word step) swept = swept_after_word step swept
swept_after (Post tag note value) swept = swept
swept_after (Take tag found value) swept = swept
swept_after (ReadNote tag found) swept = swept
swept_after (Bell step) swept = swept

-- the record after the caller's step
abbrev pub record_after : {R : Type 0} → Step R → Record R → Record R
record_after step r = record {
  shape = r.shape;
  number = r.number;
  held = held_after r.shape.layout step r.held;
  swept = swept_after step r.swept;
  won = r.won + won_by (event_of r.shape.layout r.number step);
  back = r.back + back_by (event_of r.shape.layout r.number step);
  steps = step ∷ r.steps;
}

-- the tag's bit in masks of which each word has one
abbrev pub tag_bit : Layout → List ℕ → ℕ → ℕ
tag_bit l masks tag = bit_at (slice_index masks (word_of l tag)) (place_of l tag)

-- the record of a caller of a new map
abbrev pub fresh_record : {R : Type 0} → Shape → ℕ → Record R
fresh_record k caller = record {
  shape = k;
  number = caller;
  held = replicate (words k.layout) 0;
  swept = replicate (words k.layout) 0;
  won = slice_index k.won_before.value caller;
  back = slice_index k.back_before.value caller;
  steps = [];
}

-- nobody had won a tag or given one back before the map
abbrev pub StartsAtZero : Shape → Type 0
StartsAtZero k = ((caller : ℕ) → slice_index k.won_before.value caller ≡ 0)
    × ((caller : ℕ) → slice_index k.back_before.value caller ≡ 0)

-- the value beside a tag
abbrev pub value_of : {R : Type 0} → List (ℕ × R) → ℕ → maybe.Option R
value_of [] tag = none
value_of (x ∷ slots) tag = cond (nat_eq x.0 tag) (some x.1) (value_of slots tag)

-- of `count` tags from the first on, those whose bit is 1, in order
abbrev pub tags_from : (ℕ → ℕ) → ℕ → ℕ → List ℕ
tags_from bit first zero = []
tags_from bit first (suc count) =
    cond (nat_eq (bit first) 1) (first ∷ tags_from bit (suc first) count) (tags_from bit (suc first) count)

-- the bits of all tags but one
abbrev pub but : (ℕ → ℕ) → ℕ → ℕ → ℕ
but bit tag other = cond (nat_eq other tag) 0 (bit other)

-- there is a slot for each tag of the masks, in the order of the tags
abbrev pub Carries : {R : Type 0} → Layout → List ℕ → List (ℕ × R) → Type 0
Carries l held slots = map (λ x. x.0) slots ≡ tags_from (tag_bit l held) 0 l.depth
