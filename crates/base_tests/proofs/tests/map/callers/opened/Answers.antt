-- Each caller of a new map is one of the map's own.
use Rattle.base_tests.proofs.Uses.{[], All, arith, get_or, IsCallerOf, length, List, refl, some, suc, zero, ℕ}
use Rattle.std.proofs.Common.{◌≡◌, ◌<◌, ◌∷◌}
use lib.ListN.{get_elem?}
use Rattle.tag_core.specs.declared.caller.Caller.{Caller}
use Rattle.tag_core.specs.declared.map.Map.{Map}
use Rattle.tag_core.specs.Opening.{AreNew}
use Rattle.base_tests.proofs.tests.map.callers.opened.Goals as goal

stands : {A : Type 0} (l : List A) (i : ℕ) (d : A) → i < length l → get_elem? l i ≡ some (get_or l i d)
stands [] i d h = absurd (omega arith)
stands (x ∷ xs) zero d h = refl
stands (x ∷ xs) (suc i) d h = stands xs i d (omega arith)

own : {R : Type 0} (map : Map R) (callers : List (Caller R)) → AreNew map callers → All (IsCallerOf map) callers
own map callers new i d h = (new.each i (get_or callers i d) (stands callers i d h)).0

pub returns : goal.returns
returns c = own c.in_ok-open.field-0.0 c.in_ok-open.field-0.1.items c.in_ok-open.ensures.callers
