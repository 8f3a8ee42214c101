-- A new map, and its callers.
use Rattle.std.specs.Prelude.{◌≡◌}
use Rattle.tag_core.specs.Uses.{get_elem?, Layout, length, List, some, ℕ}
use Rattle.tag_core.specs.declared.caller.Caller.{Caller}
use Rattle.tag_core.specs.declared.map.Map.{Map}
use Rattle.tag_core.specs.Records.{fresh_record, StartsAtZero}
use Rattle.tag_core.specs.Callers.{IsCallerOf, record_of}

-- the map has this layout, number of callers and life, and nobody has won a tag before
pub record IsNew {R : Type 0} (layout : Layout) (callers life : ℕ) (map : Map R) : Type 0 where
  pub layout_is : map.shape.layout ≡ layout
  pub callers_is : map.shape.callers ≡ callers
  pub life_is : map.shape.life ≡ life
  pub starts : StartsAtZero map.shape

-- the callers of the map in the order of their numbers, each with nothing won, held or done
pub record AreNew {R : Type 0} (map : Map R) (callers : List (Caller R)) : Type 0 where
  pub count : length callers ≡ map.shape.callers
  pub each :
      (n : ℕ) (caller : Caller R) → get_elem? callers n ≡ some caller
      → IsCallerOf map caller × (record_of caller ≡ fresh_record map.shape n)
