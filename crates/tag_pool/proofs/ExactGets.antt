-- What a get of one given tag in its set is for the hand.
use Rattle.std.specs.Prelude.{◌+◌, ◌-◌, ◌<◌, ◌≡◌, ◌≤◌}
use Rattle.tag_pool.proofs.Uses.{ap, arith, Caller, Err, first_of, Found, Hand, IfOk, IfSome, IsHandOf, Kind, kind_of, Layout, layout_of, length, Makes, map_of, None, number_in_set, Ok, OnErr, Option, Ordinary, Pool, record_of, Reserved, reserved_of, Result, Side, side_of, Some, subst, sym, whole, with_side, ℕ, ◌∙◌}
use Rattle.tag_search.specs.Exact.{IsExactGet, most_exact_steps}
use Rattle.tag_pool.specs.Sides as side
use Rattle.tag_pool.specs.Exact.{GetsExactly}
use Rattle.tag_pool.specs.Gets.{GetsBy}
use Rattle.tag_pool.proofs.Getting.{few_steps, gets_by}
use Rattle.tag_pool.proofs.Numbering.{ordinary_above, reserved_below}

-- the get adds few steps, and none if it is refused
pub exact_few : {R Fault : Type 0} (l : Layout) (tag : ℕ) (old new : Caller R) (result : Result (Found ℕ) Fault)
    → IfOk result (λ found. Makes old new (IsExactGet l tag found.answer)) → OnErr result (new ≡ old)
    → length (record_of new).steps ≤ most_exact_steps + length (record_of old).steps
exact_few l tag old new (Ok found) made same = few_steps most_exact_steps (λ steps h. h.bound) made
exact_few l tag old new (Err fault) made same =
    let e = ap (λ (c : Caller _). length (record_of c).steps) same in omega arith

-- the tag's number in its set, if it was won, stands for the tag
whole_only : (first number tag : ℕ) (found : Option ℕ) → first + number ≡ tag → IfSome found (λ n. n ≡ number)
    → IfSome (whole first found) (λ won. won ≡ tag)
whole_only first number tag None back only = tt
whole_only first number tag (Some n) back only = ap (λ (m : ℕ). first + m) only ∙ back

-- the tag is in this set, and has this number there
pub record IsIn (reserved tag : ℕ) (kind : Kind) (number : ℕ) : Type 0 where
  pub kind_is : kind ≡ kind_of reserved tag
  pub number_is : number ≡ number_in_set reserved tag
  pub back : first_of reserved kind + number ≡ tag

pub in_reserved : (reserved tag : ℕ) → tag < reserved → IsIn reserved tag Reserved tag
in_reserved reserved tag below = let r = reserved_below reserved tag below in
    record { kind_is = sym r.kind; number_is = sym r.number; back = omega arith }

pub in_ordinary : (reserved tag : ℕ) → reserved ≤ tag → IsIn reserved tag Ordinary (tag - reserved)
in_ordinary reserved tag above = let o = ordinary_above reserved tag above in let n = o.number in
    record { kind_is = sym o.kind; number_is = omega arith; back = omega arith }

-- the get of the number in this set is the hand's get of the tag
pub exact_of : {R : Type 0} (pool : Pool R) (hand : Hand R) → IsHandOf pool hand → (tag number : ℕ) (kind : Kind)
    → IsIn (reserved_of pool) tag kind number → (new : Side R) → side.IsSideOf (map_of pool kind) new
    → (found : Option ℕ) → side.GetsExactly (layout_of pool kind) number found (side_of hand kind) new
    → GetsExactly pool tag (whole (first_of (reserved_of pool) kind) found) hand (with_side hand kind new)
exact_of pool hand own tag number kind is new still found got = let first : ℕ = first_of (reserved_of pool) kind in record {
  only = whole_only first number tag found is.back got.steps.holds.only;
  gets = subst (λ (x : Kind × ℕ). GetsBy pool x.0 (side.GetsExactly (layout_of pool x.0) x.1) (whole first found) hand
      (with_side hand kind new)) (λ z. (is.kind_is z, is.number_is z))
      (gets_by pool hand own kind new still (side.GetsExactly (layout_of pool kind) number) found got got.gains.acquires);
}
