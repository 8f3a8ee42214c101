-- A seat that has the record of one caller more: the caller that it makes holds nothing and has made no step.
use Rattle.std.specs.Prelude.{◌+◌, ◌-◌, ◌<◌, ◌≡◌}
use Rattle.tag_core.proofs.Uses.{[], ap, Carries, first_view, fresh, fresh_record, HasHistory, length, length-replicate, List, Map, Me, next_first, next_is, other_views, own_view, Record, replicate, same_record, Shape, Shown, slice_index, Splits, Step, steps_of, subst, sym, View, viewing, words, ℕ}
use Rattle.tag_core.proofs.Uses.{◌∙◌}
use Rattle.tag_core.proofs.Passing.{carries_none, fresh_history}
use Rattle.tag_core.proofs.SeatMoves.{splits_off}

-- the next caller's record may leave the seat
pub splits_next : {R : Type 0} (m : Map R) (id : ℕ) (v : View R) (n : ℕ) → n < m.shape.callers
    → v ≡ viewing (fresh m.shape n (m.shape.callers - n))
    → Splits (Shown m.table.shared.key) id v (other_views v) (first_view v)
splits_next {R} m id v n low is = let k = m.shape in
    splits_off m id v (fresh_record k n) (fresh k (n + 1) (k.callers - (n + 1)))
    (next_is (fresh_record {R = R} k) n k.callers low v is)

module _ {R : Type 0} (k : Shape) (n won back : ℕ) (low : n < k.callers)
    (counts : (slice_index k.won_before.value n ≡ won) × (slice_index k.back_before.value n ≡ back))
    (v : View R) (is : v ≡ viewing (fresh k n (k.callers - n))) (me : Me R (View R)) (now : me ≡ (first_view v, []))
    (shape : Shape) (of : shape ≡ k) (held : List ℕ) (blank : held ≡ replicate (words k.layout) 0) where
  -- the caller's record as contracts see it
  abbrev seated : List (Step R) → Record R
  seated steps = record {
    shape = shape;
    number = n;
    held = held;
    swept = replicate (words shape.layout) 0;
    won = won;
    back = back;
    steps = steps;
  }

  alone : me.0 ≡ own_view (fresh_record k n)
  alone = ap (λ x. x.0) now ∙ next_first (fresh_record {R = R} k) n k.callers low v is

  same : fresh_record k n ≡ seated []
  same j = record {
    shape = sym of j;
    number = n;
    held = sym blank j;
    swept = replicate (words (sym of j).layout) 0;
    won = counts.0 j;
    back = counts.1 j;
    steps = [];
  }

  first : me.0 ≡ own_view (seated [])
  first = alone ∙ ap own_view same

  pub knows : me.0 ≡ own_view (seated (steps_of me.0))
  knows = first ∙ (λ j. own_view (seated (sym (ap steps_of first) j)))

  pub shown : (r : Record R) → me.0 ≡ own_view r → ∥ HasHistory shape r ∥₁
  shown r e = ∣ subst (λ (z : Shape). HasHistory z r) (sym of)
      (subst (HasHistory k) (same_record (fresh_record k n) r (sym alone ∙ e)) (fresh_history R k n low)) ∣₁

  pub carries : Carries shape.layout held me.1
  carries = subst (λ (z : Shape × List ℕ × List (ℕ × R)). Carries z.0.layout z.1 z.2)
      (λ j. (sym of j, sym blank j, sym (ap (λ x. x.1) now) j)) (carries_none R k (words k.layout))

  pub wide : length held ≡ words shape.layout
  wide = ap length blank ∙ length-replicate (words k.layout) 0 ∙ ap (λ (z : Shape). words z.layout) (sym of)

  pub is_fresh : seated (steps_of me.0) ≡ fresh_record k n
  is_fresh = ap (λ (z : View R). seated (steps_of z)) first ∙ sym same
