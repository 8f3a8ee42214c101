-- Maps one after another: each goes on where the one before it ended.
use Rattle.std.specs.Prelude.{◌<◌, ◌∷◌, ◌≡◌}
use Rattle.tag_core.specs.Uses.{[], back_by, held_in, List, posted_in, Totals, won_by, ℕ}
use Rattle.tag_core.specs.declared.shape.Shape.{Shape}
use Rattle.tag_core.specs.Histories.{History, IsLawful, events_of, opening_world, world_of}
use Rattle.tag_core.specs.Records.{StartsAtZero}
use Rattle.tag_core.specs.Sizes.{total_of}

-- one map of a chain: its shape, and its history from its opening to its end
pub record Epoch (R : Type 0) : Type 0 where
  pub shape : Shape
  pub history : History R

-- the map ended with no tag held or posted; in the next one each caller starts with what it had won and given back
pub record GoesOn {R : Type 0} (last : Epoch R) (next : Shape) : Type 0 where
  pub lawful : IsLawful last.shape last.history
  pub none_held : held_in last.shape.layout (world_of last.shape last.history) ≡ 0
  pub none_posted : posted_in last.shape.layout (world_of last.shape last.history) ≡ 0
  pub callers : next.callers ≡ last.shape.callers
  pub life : next.life ≡ last.shape.life
  pub won : (c : ℕ) → c < last.shape.callers → (opening_world next).won c ≡ (world_of last.shape last.history).won c
  pub back : (c : ℕ) → c < last.shape.callers → (opening_world next).back c ≡ (world_of last.shape last.history).back c

-- these are the maps before this one, the newest first; before the first of all nobody had won a tag or given one back
pub data IsChain {R : Type 0} : Shape → List (Epoch R) → Type 0 where
  opened : {k : Shape} → StartsAtZero k → IsChain k []
  reopened :
      {k : Shape} {last : Epoch R} {older : List (Epoch R)}
      → GoesOn last k → IsChain last.shape older → IsChain k (last ∷ older)

-- some chain of maps leads to this one
abbrev pub HasChain : (R : Type 0) → Shape → Type 0
HasChain R k = ∥ ((older : List (Epoch R)) × IsChain k older) ∥₁

-- tags won by the steps of these maps
abbrev pub won_along : {R : Type 0} → List (Epoch R) → ℕ
won_along {R} epochs = total_of (λ (e : Epoch R). total_of won_by (events_of e.shape.layout e.history)) epochs

-- tags given back by the steps of these maps
abbrev pub back_along : {R : Type 0} → List (Epoch R) → ℕ
back_along {R} epochs = total_of (λ (e : Epoch R). total_of back_by (events_of e.shape.layout e.history)) epochs

-- the totals count what the steps of these maps won and gave back
pub record CountsAll {R : Type 0} (epochs : List (Epoch R)) (totals : Totals) : Type 0 where
  pub got : totals.got ≡ won_along epochs
  pub back : totals.back ≡ back_along epochs

-- a chain leads to this map; and whichever leads to it, the totals count its maps and, after them, this one
pub record CountsChain {R : Type 0} (k : Shape) (h : History R) (totals : Totals) : Type 0 where
  pub leads : HasChain R k
  pub counts : (older : List (Epoch R)) → IsChain k older → CountsAll (record { shape = k; history = h } ∷ older) totals
