-- What a call knows of its caller between the load that brings a held tag's slot to the front of the seat and the load
-- that puts it back, and after both.
use Rattle.std.specs.Prelude.{◌∷◌, ◌≡◌, ◌≢◌}
use Rattle.tag_core.proofs.Uses.{ap, Caller, Carries, fronted, get_elem?, Holds, IsCallerOf, Layout, List, Map, Me, none, ordered, own_view, record_of, rest, slot_of, some, some-injective, step, sym, value_of, View, ℕ, ◌∙◌}
use Rattle.tag_core.specs.Spacing.{state_at}
use Rattle.tag_core.proofs.Stand.{state_in}
use Rattle.tag_core.proofs.Fronts.{front_allowed, order_allowed}
use Rattle.tag_core.proofs.Asking.{Asks, asked, record_with, Promises}

-- the caller has the slots that it had, but for the value of one tag
pub record Exchanged {R : Type 0} (w : Caller R) (u : ℕ) (old new : R) (me : Me R (View R)) : Type 0 where
  pub found : slot_of w u ≡ some old
  pub view : me.0 ≡ w.seat.me.0
  pub carries : Carries w.shape.value.layout w.held.items me.1
  pub put : value_of me.1 u ≡ some new
  pub others : (t : ℕ) → Holds w t → t ≢ u → value_of me.1 t ≡ slot_of w t

module _ {R : Type 0} {w : Caller R} {u : ℕ} {old new : R} {me : Me R (View R)} (done : Exchanged w u old new me) where
  -- its record is the one that it had
  pub recorded : record_with w w.held.items w.won w.back me.0 ≡ record_of w
  recorded = ap (record_with w w.held.items w.won w.back) done.view

  -- so the caller is what its type promises
  pub after : Promises w w.held.items w.won w.back me
  after = record {
    told = w.told;
    knows = done.view ∙ w.knows ∙ sym (ap own_view recorded);
    shown = λ r is. w.shown r (sym done.view ∙ is);
    carries = done.carries;
    wide = w.wide;
    unspent = w.unspent;
    few_back = w.few_back;
  }

module _ {R : Type 0} (w : Caller R) (u spot : ℕ) (at : spot ≡ state_at w.layout u) (held : Holds w u) where
  spot_is : spot ≡ state_at w.shape.value.layout u
  spot_is = at ∙ ap (λ (z : Layout). state_at z u) w.told.0

  -- the table has what it asks of the first load
  pub front_asked : (m : Map R) → IsCallerOf m w → Asks m w.seat.id w.seat.me spot (λ n. n) 0 0 fronted
  front_asked m own = asked m w own w.seat.id w.seat.me (state_at w.shape.value.layout u) spot (λ n. n) 0 0 fronted
      spot_is (state_in w.shape.value.layout u held.0)
      (front_allowed R w.shape.value w.seat.id w.seat.me (record_of w) w.knows u held.0 held.1 w.carries)

  module _ (me : Me R (View R)) (first : fronted (step 0 spot 0 0 none) w.seat.me 0 me) where
    -- the tag's slot is at the front
    pub in_front : (value : R) × (me.1 ≡ (u, value) ∷ rest me.1)
    in_front = let front = first u (record_of w) spot_is w.knows held.0 held.1 in
        (front.0, front.3 ∙ (λ j. (u, front.0) ∷ rest (sym front.3 j)))

    module _ (old new : R) (me' : Me R (View R)) (found : me.1 ≡ (u, old) ∷ rest me.1)
        (now : me' ≡ (me.0, (u, new) ∷ rest me.1)) where
      -- the table has what it asks of the second load
      pub order_asked : (m : Map R) → IsCallerOf m w → (id : ℕ) → Asks m id me' spot (λ n. n) 0 0 ordered
      order_asked m own id = let front = first u (record_of w) spot_is w.knows held.0 held.1 in
          let list : me'.1 ≡ (u, new) ∷ front.1 = ap (λ (z : Me R (View R)). z.1) now
          ∙ ap (λ (z : List (ℕ × R)). (u, new) ∷ rest z) front.3 in
          asked m w own id me' (state_at w.shape.value.layout u) spot (λ n. n) 0 0 ordered spot_is
          (state_in w.shape.value.layout u held.0) (order_allowed R w.shape.value id me' (record_of w)
          (ap (λ (z : Me R (View R)). z.0) now ∙ front.2 ∙ w.knows) u held.0 held.1 new front.1 list front.5)

      -- after it the slot is back in its place, with the new value
      pub exchanged : (me'' : Me R (View R)) → ordered (step 0 spot 0 0 none) me' 0 me'' → Exchanged w u old new me''
      exchanged me'' second = let front = first u (record_of w) spot_is w.knows held.0 held.1 in
          let got : front.0 ≡ old = ap (λ (z : ℕ × R). z.1) (some-injective (u, front.0) (u, old)
          (ap (λ (z : List (ℕ × R)). get_elem? z 0) (sym front.3 ∙ found))) in
          let view : me'.0 ≡ w.seat.me.0 = ap (λ (z : Me R (View R)). z.0) now ∙ front.2 in
          let back = second u new front.1 (record_of w) spot_is (view ∙ w.knows) (ap (λ (z : Me R (View R)). z.1) now
          ∙ ap (λ (z : List (ℕ × R)). (u, new) ∷ rest z) front.3) front.5 held.1 in record {
            found = front.4 ∙ ap some got;
            view = back.0 ∙ view;
            carries = back.1;
            put = back.2;
            others = λ t has ne. back.3 t has.0 ne has.1 ∙ front.6 t has.0 ne has.1;
          }
