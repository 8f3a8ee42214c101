-- The effect of clears of several ordinary tags on the hand that makes them.
use Rattle.std.specs.Prelude.{◌+◌, ◌-◌, ◌≡◌, ◌≤◌}
use Rattle.tag_pool.specs.Uses.{Contains, count_ones, length, List, OnOk, RefusesBy, Result, ℕ, ⊤}
use Rattle.tag_bell.specs.declared.sleeping.Woken.{Woken}
use Rattle.tag_pool.specs.declared.fault.TagFault.{TagFault}
use Rattle.tag_pool.specs.declared.hand.Hand.{Hand}
use Rattle.tag_pool.specs.declared.kind.Kind.TheVariants.{Ordinary}
use Rattle.tag_pool.specs.declared.pool.Pool.{Pool}
use Rattle.tag_pool.specs.Sides as side
use Rattle.tag_pool.specs.Hands.{back_of, Changes, layout_of, reserved_of, step_count}
use Rattle.tag_pool.specs.Holding.{HoldsLess}
use Rattle.tag_pool.specs.Masks.{tags_in, words_over}
use Rattle.tag_pool.specs.Refusals.{list_checks, mask_checks}
use Rattle.tag_pool.specs.Runs.{Gives}
use Rattle.tag_pool.specs.Sets.{numbers_of}

-- the hand no longer holds the tags in the list: gives in the ordinary set freed them, and its hint followed the last
pub record GivesBack {R : Type 0} (pool : Pool R) (list : List ℕ) (old new : Hand R) : Type 0 where
  pub less : HoldsLess (Contains list) old new
  pub set : Changes Ordinary (Gives (layout_of pool Ordinary) (numbers_of (reserved_of pool) list)) old new

-- clears the tags of a list, and tells nobody
pub record DoesClearBatch {R : Type 0} (list : List ℕ) (pool : Pool R) (result : Result ⊤ TagFault) (old new : Hand R)
    : Type 0 where
  pub refusals : RefusesBy (list_checks pool old list) (new ≡ old) result
  pub gives : OnOk result (GivesBack pool list old new)
  pub back : OnOk result (back_of new Ordinary ≡ back_of old Ordinary + length list)
  pub bound : OnOk result (step_count new ≤ length list + step_count old)

-- the words of the ordinary set from that of a mask's first tag to that of its last
abbrev pub mask_words : {R : Type 0} → Pool R → ℕ → ℕ → ℕ
mask_words pool first mask = words_over (layout_of pool Ordinary) (first - reserved_of pool)
    (numbers_of (reserved_of pool) (tags_in first mask))

-- clears the tags of a mask, and tells nobody
pub record DoesClearMask {R : Type 0} (first mask : ℕ) (pool : Pool R) (result : Result ⊤ TagFault) (old new : Hand R)
    : Type 0 where
  pub refusals : RefusesBy (mask_checks pool old first mask) (new ≡ old) result
  pub gives : OnOk result (GivesBack pool (tags_in first mask) old new)
  pub back : OnOk result (back_of new Ordinary ≡ back_of old Ordinary + count_ones mask)
  pub bound : OnOk result (step_count new ≤ mask_words pool first mask + step_count old)

-- the hand cleared the tags in the list, of which there are n, and then told up to n of each kind that waits, and
-- woke the sleepers among them
pub record GivesBackAndWakes {R : Type 0} (pool : Pool R) (list : List ℕ) (n : ℕ) (woken : Woken) (old new : Hand R)
    : Type 0 where
  pub between : Hand R
  pub gives : GivesBack pool list old between
  pub wakes : Changes Ordinary (side.SeesToAndWakes n side.see_to_steps woken) between new
  pub less : HoldsLess (Contains list) old new
  pub back : back_of new Ordinary ≡ back_of old Ordinary + n
