-- A next map, in which the callers of one that has ended go on.
use Rattle.std.specs.Prelude.{◌∷◌, ◌≡◌}
use Rattle.tag_core.specs.Uses.{[], Free, get_elem?, Layout, length, List, map, replicate, slice_index, some, words, ℕ}
use Rattle.tag_core.specs.declared.shape.Shape.{Shape}
use Rattle.tag_core.specs.declared.record.Record.{Record}
use Rattle.tag_core.specs.declared.caller.Caller.{Caller}
use Rattle.tag_core.specs.declared.map.Map.{Map}
use Rattle.tag_core.specs.declared.settled.Settled.{Settled}
use Rattle.tag_core.specs.Histories.{History, IsLawful, world_of, steps_by}
use Rattle.tag_core.specs.Callers.{IsCallerOf, record_of}
use Rattle.tag_core.specs.Chain.{Epoch, GoesOn, IsChain}
use Rattle.tag_core.specs.Settling.{AreSettled}

-- as a next map opens, the caller has its number, what it won and what it gave back
abbrev pub reopened_record : {R : Type 0} → Shape → Record R → Record R
reopened_record k r = record {
  shape = k;
  number = r.number;
  held = replicate (words k.layout) 0;
  swept = replicate (words k.layout) 0;
  won = r.won;
  back = r.back;
  steps = [];
}

-- the next map has this layout, as many callers and the same life
pub record IsNext (layout : Layout) (k next : Shape) : Type 0 where
  pub layout_is : next.layout ≡ layout
  pub callers_is : next.callers ≡ k.callers
  pub life_is : next.life ≡ k.life

-- each caller's counts are those with which the next map opens
pub record HasCounts {R : Type 0} (callers : List (Caller R)) (next : Shape) : Type 0 where
  pub won : (i : ℕ) (c : Caller R) → get_elem? callers i ≡ some c
      → slice_index next.won_before.value c.number ≡ c.won
  pub back : (i : ℕ) (c : Caller R) → get_elem? callers i ≡ some c
      → slice_index next.back_before.value c.number ≡ c.back

-- in the same order, each caller goes on with the next map
pub record AreReopened {R : Type 0} (map : Map R) (old new : List (Caller R)) : Type 0 where
  pub count : length new ≡ length old
  pub each :
      (n : ℕ) (a b : Caller R) → get_elem? old n ≡ some a → get_elem? new n ≡ some b
      → IsCallerOf map b × (record_of b ≡ reopened_record map.shape (record_of a))

-- the next map goes on from the very history that showed the callers as they settled
abbrev pub GoesOnFrom : {R : Type 0} → Settled R → Shape → Type 0
GoesOnFrom old next =
    (known : AreSettled old.tags.shape (map record_of old.callers.items) old.totals)
    → GoesOn (record { shape = old.tags.shape; history = known.history }) next

-- in each lawful history in which these lists of own steps stand all tags are free
abbrev pub AllFree : {R : Type 0} → Shape → List (Record R) → Type 0
AllFree {R} k rs =
    (h : History R) → IsLawful k h → ((i : ℕ) (r : Record R) → get_elem? rs i ≡ some r → r.steps ≡ steps_by r.number h)
    → (tag : ℕ) → (world_of k h).place tag ≡ Free

-- the callers' own lists stand in a history, through which each chain that led to their map leads to the next one
pub record LeadsOn {R : Type 0} (old : Map R) (callers : List (Caller R)) (next : Map R) : Type 0 where
  pub history : History R
  pub lists : (i : ℕ) (c : Caller R) → get_elem? callers i ≡ some c → (record_of c).steps ≡ steps_by c.number history
  pub chain :
      (older : List (Epoch R)) → IsChain old.shape older
      → IsChain next.shape (record { shape = old.shape; history = history } ∷ older)
