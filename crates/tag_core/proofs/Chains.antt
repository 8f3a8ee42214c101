-- What was won along a chain of maps.
use Rattle.std.specs.Prelude.{◌+◌, ◌<◌, ◌∷◌, ◌≡◌}
use Rattle.tag_core.proofs.Uses.{[], after, after_history, ap, AreTotals, arith, back_by, caller_of, CountsChain, Epoch, Event, events_of, GoesOn, HasChain, History, IsChain, IsHistory, IsLawful, Layout, List, opened, opening_world, plus_at, refl, reopened, Shape, StartsAtZero, sum_below}
use Rattle.tag_core.proofs.Uses.{sum_below-none, sum_below-plus_at, sum_below-same, total_of, Totals, won_by, World, world_of, ℕ, ◌∙◌}

-- what is counted of callers, either tags won or tags given back: it grows by what each event adds, from nothing before
-- the first map, and a next map begins with what the one before it left
record Counting (R : Type 0) (count : World → ℕ → ℕ) (added : Event → ℕ) : Type 0 where
  grows : (l : Layout) (e : Event) (w : World) → count (after l e w) ≡ plus_at (caller_of e) (added e) (count w)
  starts : (k : Shape) → StartsAtZero k → (c : ℕ) → count (opening_world k) c ≡ 0
  goes_on : (last : Epoch R) (next : Shape) → GoesOn last next → (c : ℕ) → c < last.shape.callers
      → count (opening_world next) c ≡ count (world_of last.shape last.history) c

-- tags won are such a count
won_counting : {R : Type 0} → Counting R (λ w. w.won) won_by
won_counting = record { grows = λ l e w. refl; starts = λ k is. is.0; goes_on = λ last next on. on.won }

-- and so are tags given back
back_counting : {R : Type 0} → Counting R (λ w. w.back) back_by
back_counting = record { grows = λ l e w. refl; starts = λ k is. is.1; goes_on = λ last next on. on.back }

module _ {R : Type 0} {count : World → ℕ → ℕ} {added : Event → ℕ} (counting : Counting R count added) where
  -- a history adds what its events do
  adds : (l : Layout) (callers : ℕ) (h : List Event) (w : World) → IsHistory l callers w h
      → sum_below (count (after_history l h w)) callers ≡ sum_below (count w) callers + total_of added h
  adds l callers [] w is = omega arith
  adds l callers (e ∷ h) w is =
      let older = adds l callers h w is.1 in
      let more = sum_below-plus_at (count (after_history l h w)) callers (caller_of e) (added e) is.0.caller in
      ap (λ (f : ℕ → ℕ). sum_below f callers) (counting.grows l e (after_history l h w)) ∙ omega arith

  -- what the steps of these maps added
  abbrev along : List (Epoch R) → ℕ
  along epochs = total_of (λ (e : Epoch R). total_of added (events_of e.shape.layout e.history)) epochs

  -- a map opens with what was added in the maps before it
  before : (k : Shape) (older : List (Epoch R)) → IsChain k older
      → sum_below (count (opening_world k)) k.callers ≡ along older
  before k [] (opened zero) = sum_below-none (count (opening_world k)) k.callers (λ c l. counting.starts k zero c)
  before k (last ∷ older) (reopened on leads) =
      let shape = last.shape in let rest = before shape older leads in
      let grown = adds shape.layout shape.callers (events_of shape.layout last.history) (opening_world shape)
      on.lawful.happens in
      ap (sum_below (count (opening_world k))) on.callers
      ∙ sum_below-same (count (opening_world k)) (count (world_of shape last.history)) shape.callers
      (counting.goes_on last k on) ∙ omega arith

  -- and ends with that and what its own steps added
  in_all : (k : Shape) (h : History R) → IsLawful k h → (total : ℕ)
      → total ≡ sum_below (count (world_of k h)) k.callers → (older : List (Epoch R)) → IsChain k older
      → total ≡ along (record { shape = k; history = h } ∷ older)
  in_all k h lawful total same older is =
      let rest = before k older is in
      let more = adds k.layout k.callers (events_of k.layout h) (opening_world k) lawful.happens in omega arith

-- the totals of a map's world count the whole chain
pub count_chain : {R : Type 0} (k : Shape) (h : History R) (totals : Totals) → HasChain R k → IsLawful k h
    → AreTotals k.layout k.callers (world_of k h) totals → CountsChain k h totals
count_chain k h totals leads lawful are = record {
  leads = leads;
  counts = λ older is. record {
    got = in_all won_counting k h lawful totals.got are.got older is;
    back = in_all back_counting k h lawful totals.back are.back older is;
  };
}
