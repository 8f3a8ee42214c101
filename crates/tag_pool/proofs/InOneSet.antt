-- What a change of the side that was lent is for the hand.
use Rattle.std.specs.Prelude.{◌+◌, ◌≡◌, ◌≤◌}
use Rattle.tag_pool.proofs.Uses.{ap, arith, Caller, Changes, Hand, HoldsSame, IsHandOf, IsStillOf, Kind, length, length-append, Map, map_of, Ordinary, Pool, Record, record_of, refl, Reserved, Side, side_of, step_count, subst, sym, with_side, ℕ, ◌∙◌}
use Rattle.tag_pool.specs.Sides as side
use Rattle.tag_bell.specs.Calls.{Tells}
use Rattle.tag_bell.specs.declared.told.Told.{Told}
use Rattle.tag_pool.proofs.Lifting as lifting
use Rattle.tag_pool.proofs.Passing.{beside, here, parted}

-- a call that tells others makes few steps
pub told_few : {R : Type 0} (most : ℕ) (told : Told) (old new : Caller R) → Tells most told old new
    → length (record_of new).steps ≤ most + length (record_of old).steps
told_few most told old new tells =
    let all = ap (λ (r : Record _). length r.steps) tells.only.known ∙ length-append tells.steps (record_of old).steps in
    let few = tells.few in omega arith

module _ {R : Type 0} (hand : Hand R) (kind : Kind) (was new : Side R) (lent : was ≡ side_of hand kind) where
  -- what holds of the side before and after
  pub both_sides : (P : Side R → Side R → Type 0) → P was new → P (side_of hand kind) (side_of (with_side hand kind new) kind)
  both_sides P h = subst (λ (s : Side R). P s (side_of (with_side hand kind new) kind)) lent
      (subst (P was) (sym (here hand kind new)) h)

  -- it is a change in that set
  pub changes : (change : Side R → Side R → Type 0) → change was new → Changes kind change hand (with_side hand kind new)
  changes change h = record {
    changed = both_sides change h;
    other = beside hand kind new;
    split = parted hand kind new;
  }

  -- a hand whose side holds the same tags holds the same
  pub holds_same : side.HoldsSame was new → HoldsSame hand (with_side hand kind new)
  holds_same h = lifting.same hand (with_side hand kind new) kind (beside hand kind new) (parted hand kind new)
      (both_sides side.HoldsSame h)

  -- if the side is unchanged, so is the hand
  pub unchanged : new ≡ was → with_side hand kind new ≡ hand
  unchanged same = ap (with_side hand kind) (same ∙ lent) ∙ of kind
    where
      of : (k : Kind) → with_side hand k (side_of hand k) ≡ hand
      of Ordinary = refl
      of Reserved = refl

  -- the hand has made as many steps more as its side
  pub counts : step_count (with_side hand kind new) + side.step_count was ≡ side.step_count new + step_count hand
  counts = subst (λ (s : Side R). step_count (with_side hand kind new) + side.step_count s
      ≡ side.step_count new + step_count hand) (sym lent) (of kind)
    where
      of : (k : Kind) → step_count (with_side hand k new) + side.step_count (side_of hand k)
          ≡ side.step_count new + step_count hand
      of Ordinary = omega arith
      of Reserved = omega arith

  pub makes_none : side.step_count new ≡ side.step_count was → step_count (with_side hand kind new) ≡ step_count hand
  makes_none none = let all = counts in omega arith

  pub makes : (n : ℕ) → side.step_count new ≡ n + side.step_count was → step_count (with_side hand kind new) ≡ n + step_count hand
  makes n made = let all = counts in omega arith

  pub makes_few : (n : ℕ) → side.step_count new ≤ n + side.step_count was
      → step_count (with_side hand kind new) ≤ n + step_count hand
  makes_few n few = let all = counts in omega arith

  -- the hand is still the pool's if its side is still the map's
  module _ (pool : Pool R) (own : IsHandOf pool hand) (map : Map R) (is : map ≡ map_of pool kind) where
    pub still : side.IsSideOf map new → side.number_of new ≡ side.number_of was → IsStillOf pool hand (with_side hand kind new)
    still of_map number = of kind (subst (λ (m : Map R). side.IsSideOf m new) is of_map)
        (number ∙ ap (λ (s : Side R). side.number_of s) lent)
      where
        of : (k : Kind) → side.IsSideOf (map_of pool k) new → side.number_of new ≡ side.number_of (side_of hand k)
            → IsStillOf pool hand (with_side hand k new)
        of Ordinary here same = ((own.0, here, own.2, own.3 ∙ sym same), same)
        of Reserved here same = ((here, own.1, own.2, same ∙ own.3), refl)

    -- what holds of the map and the side that were lent holds of the set
    pub in_set : (P : Map R → Side R → Type 0) → P map was → P (map_of pool kind) (side_of hand kind)
    in_set P = subst (λ (z : Map R × Side R). P z.0 z.1) (λ j. (is j, lent j))
