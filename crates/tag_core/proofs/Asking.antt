-- What the table asks of a call, and what a caller knows after it.
use Rattle.std.specs.Prelude.{◌*◌, ◌+◌, ◌<◌, ◌≡◌, ◌≤◌}
use Rattle.tag_core.proofs.Uses.{Allows, ap, arith, back_by, bit_at, Caller, Carries, event_of, FindsHeld, HasHistory, held_after, Holds, IsCallerOf, layout_of, length, List, Map, MAX_CALLERS, Me, MOST_WON, mul-le-mul_right, none, own_view, place_of, Record, record_after, record_of, replicate}
use Rattle.tag_core.proofs.Uses.{same_record, Shape, Shown, Step, step, Stepped, steps_of, subst, swept_after, sym, tag_bit, value_of, View, won_by, word_of, words, ℕ, ◌∙◌}
use Rattle.atomic_table.specs.Table as table
use Rattle.tag_core.specs.Spacing.{table_width, state_at}

-- what the table asks of a step at this index
abbrev pub Asks : {R : Type 0} → Map R → ℕ → Me R (View R) → ℕ → (ℕ → ℕ) → ℕ → ℕ
    → (table.Step R → Me R (View R) → ℕ → Me R (View R) → Type 0) → Type 0
Asks m id me index f a b then = (index < m.table.shared.table_id.words) × Allows
    (Shown m.table.shared.key) m.table.shared.table_id.slots id me index f
    (then (step m.table.shared.table_id.slots index a b none) me)

module _ {R : Type 0} (m : Map R) (w : Caller R) (own : IsCallerOf m w) where
  abbrev k : Shape
  k = w.shape.value

  -- the words have at most 64 bits
  pub narrow : w.shape.value.layout.shift ≤ 6
  narrow = subst (λ (z : Shape). z.layout.shift ≤ 6) (sym own.1) m.small.1

  -- a word of the map is one of the caller's layout
  pub in_words : (i : ℕ) → i < words m.shape.layout → i < words w.shape.value.layout
  in_words i = subst (λ (z : Shape). i < words z.layout) (sym own.1)

  -- what a step finds of the tags that the caller holds, in the map's layout
  pub found : (i n bit : ℕ) → FindsHeld (record_of w) i n bit → (tag : ℕ) → Holds w tag
      → word_of (layout_of m) tag ≡ i → bit_at n (place_of (layout_of m) tag) ≡ bit
  found i n bit finds tag has here = subst (λ (z : Shape). bit_at n (place_of z.layout tag) ≡ bit) own.1
      (finds tag has.0 (ap (λ (z : Shape). word_of z.layout tag) own.1 ∙ here) has.1)

  -- the table accepts a step at an index that it has, if the rule allows the step for the caller's record
  pub asked : (id : ℕ) (me : Me R (View R)) (at place : ℕ) (f : ℕ → ℕ) (a b : ℕ)
      (then : table.Step R → Me R (View R) → ℕ → Me R (View R) → Type 0) → place ≡ at
      → at < table_width w.shape.value.layout
      → Allows (Shown w.shape.value) w.shape.value.layout.depth id me at f
      (then (step w.shape.value.layout.depth at a b none) me)
      → Asks m id me place f a b then
  asked id me at place f a b then is low allowed = (
    subst (λ (z : ℕ × ℕ). z.0 < z.1)
        (λ j. (sym is j, (ap (λ (z : Shape). table_width z.layout) own.1 ∙ sym m.wide.0) j)) low,
    subst (λ (z : Shape × ℕ × ℕ). Allows (Shown z.0) z.1 id me z.2 f (then (step z.1 z.2 a b none) me))
        (λ j. ((own.1 ∙ sym m.told) j, (ap (λ (z : Shape). z.layout.depth) own.1 ∙ sym m.wide.1) j, sym is j)) allowed,
  )

-- after a step one history shows what the caller knows
pub shows : {R : Type 0} (st : Step R) (r : Record R) (me me' : Me R (View R)) → Stepped st r me me' → (q : Record R)
    → me'.0 ≡ own_view q → ∥ HasHistory r.shape q ∥₁
shows st r me me' did q is = ∣ subst (HasHistory r.shape)
    (same_record (record_after st r) q (sym did.view ∙ is)) did.shown ∣₁

-- the record that these fields give, of a caller that is this one otherwise
abbrev pub record_with : {R : Type 0} → Caller R → List ℕ → ℕ → ℕ → View R → Record R
record_with w held won back view = record {
  shape = w.shape.value;
  number = w.number;
  held = held;
  swept = replicate (words w.shape.value.layout) 0;
  won = won;
  back = back;
  steps = steps_of view;
}

-- what such a caller promises of its fields and its seat
abbrev pub Promises : {R : Type 0} → Caller R → List ℕ → ℕ → ℕ → Me R (View R) → Type 0
Promises {R} w held won back me = record {
  told : (w.layout ≡ w.shape.value.layout) × (w.life ≡ w.shape.value.life) × (w.states ≡ state_at w.layout 0);
  knows : me.0 ≡ own_view (record_with w held won back me.0);
  shown : (r : Record R) → me.0 ≡ own_view r → ∥ HasHistory w.shape.value r ∥₁;
  carries : Carries w.shape.value.layout held me.1;
  wide : length held ≡ words w.shape.value.layout;
  unspent : (won ≤ w.life) × (w.life ≤ MOST_WON);
  few_back : back ≤ MAX_CALLERS * MOST_WON;
}

-- what a call leaves of its caller: a seat that made this step, and the fields that the record has after it
pub record Left {R : Type 0} (w : Caller R) (st : Step R) (me' : Me R (View R)) (held' : List ℕ) (won' back' : ℕ)
    : Type 0 where
  pub did : Stepped st (record_of w) w.seat.me me'
  pub held_is : held_after w.shape.value.layout st w.held.items ≡ held'
  pub swept_is : swept_after st (replicate {A = ℕ} (words w.shape.value.layout) 0)
      ≡ replicate (words w.shape.value.layout) 0
  pub won_is : w.won + won_by (event_of w.shape.value.layout w.number st) ≡ won'
  pub back_is : w.back + back_by (event_of w.shape.value.layout w.number st) ≡ back'

-- it leaves the fields to which the step leads
pub left : {R : Type 0} (w : Caller R) {st : Step R} {me' : Me R (View R)} {held' : List ℕ} {won' back' : ℕ}
    → Stepped st (record_of w) w.seat.me me' → held_after w.shape.value.layout st w.held.items ≡ held'
    → swept_after st (replicate {A = ℕ} (words w.shape.value.layout) 0) ≡ replicate (words w.shape.value.layout) 0
    → w.won + won_by (event_of w.shape.value.layout w.number st) ≡ won'
    → w.back + back_by (event_of w.shape.value.layout w.number st) ≡ back' → Left w st me' held' won' back'
left w did held_is swept_is won_is back_is = record {
  did = did;
  held_is = held_is;
  swept_is = swept_is;
  won_is = won_is;
  back_is = back_is;
}

module _ {R : Type 0} {w : Caller R} {st : Step R} {me' : Me R (View R)} {held' : List ℕ} {won' back' : ℕ}
    (l : Left w st me' held' won' back') where
  -- it is the record after the step
  pub recorded : record_with w held' won' back' me'.0 ≡ record_after st (record_of w)
  recorded j = record {
    shape = w.shape.value;
    number = w.number;
    held = sym l.held_is j;
    swept = sym l.swept_is j;
    won = sym l.won_is j;
    back = sym l.back_is j;
    steps = steps_of (l.did.view j);
  }

  -- the seat has the record that the new fields give
  knows : me'.0 ≡ own_view (record_with w held' won' back' me'.0)
  knows = l.did.view ∙ sym (ap own_view recorded)

  -- it carries the slots of the tags that it holds now
  carries : Carries w.shape.value.layout held' me'.1
  carries = subst (λ (z : List ℕ). Carries w.shape.value.layout z me'.1) l.held_is l.did.carries

  -- one history shows what the caller knows now
  shown : (q : Record R) → me'.0 ≡ own_view q → ∥ HasHistory w.shape.value q ∥₁
  shown = shows st (record_of w) w.seat.me me' l.did

  -- it gave back no more than all callers may win
  pub few : back' ≤ w.shape.value.callers * MOST_WON
  few = subst (λ (z : ℕ). z ≤ w.shape.value.callers * MOST_WON) l.back_is l.did.few_back

  -- so the caller is what its type promises
  pub after : length held' ≡ words w.shape.value.layout → (won' ≤ w.life) × (w.life ≤ MOST_WON)
      → back' ≤ MAX_CALLERS * MOST_WON → Promises w held' won' back' me'
  after wide unspent few_back = record {
    told = w.told;
    knows = knows;
    shown = shown;
    carries = carries;
    wide = wide;
    unspent = unspent;
    few_back = few_back;
  }

  -- the slots of tags that it keeps have their values
  pub slots : (tag : ℕ) → Holds w tag → (tag < w.shape.value.layout.depth)
      × (tag_bit w.shape.value.layout held' tag ≡ 1)
      → value_of me'.1 tag ≡ value_of w.seat.me.1 tag
  slots tag was is = l.did.values tag was.0 was.1
      (ap (λ (z : List ℕ). tag_bit w.shape.value.layout z tag) l.held_is ∙ is.1)

-- what a caller may have given back in all
pub bounded : {R : Type 0} (m : Map R) (w : Caller R) → IsCallerOf m w → (n : ℕ) → n ≤ w.shape.value.callers * MOST_WON
    → n ≤ MAX_CALLERS * MOST_WON
bounded m w own n h =
    let few : w.shape.value.callers ≤ MAX_CALLERS =
    subst (λ (z : Shape). z.callers ≤ MAX_CALLERS) (sym own.1) m.few.1 in
    let more : w.shape.value.callers * MOST_WON ≤ MAX_CALLERS * MOST_WON = mul-le-mul_right MOST_WON few in omega arith

pub plus_none : (n : ℕ) → n + 0 ≡ n
plus_none n = omega arith
