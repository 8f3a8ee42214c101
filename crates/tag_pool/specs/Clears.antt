-- The effect of clears on the hand that makes them.
use Rattle.std.specs.Prelude.{◌+◌, ◌≡◌, ◌≤◌}
use Rattle.tag_pool.specs.Uses.{IfOk, OnOk, RefusesBy, Result, ℕ}
use Rattle.tag_bell.specs.declared.sleeping.Woken.{Woken}
use Rattle.tag_pool.specs.declared.fault.TagFault.{TagFault}
use Rattle.tag_pool.specs.declared.hand.Hand.{Hand}
use Rattle.tag_pool.specs.declared.kind.Kind.{Kind}
use Rattle.tag_pool.specs.declared.pool.Pool.{Pool}
use Rattle.tag_pool.specs.Sets.{kind_of}
use Rattle.tag_pool.specs.Sides as side
use Rattle.tag_pool.specs.Hands.{reserved_of, layout_of, step_count, back_of, Changes, ChangesAt}
use Rattle.tag_pool.specs.Holding.{HoldsLess}
use Rattle.tag_pool.specs.Refusals.{tag_checks}

-- the hand no longer holds the tag: one put set it aside in its set, and the hint of that set followed
pub record Clears {R : Type 0} (pool : Pool R) (tag : ℕ) (old new : Hand R) : Type 0 where
  pub less : HoldsLess (λ other. other ≡ tag) old new
  pub set : ChangesAt tag (λ kind number. side.Puts (layout_of pool kind) number) old new

-- clears a tag, and tells nobody
pub record DoesClear {R : Type 0} (tag : ℕ) (pool : Pool R) (result : Result Kind TagFault) (old new : Hand R)
    : Type 0 where
  pub refusals : RefusesBy (tag_checks pool old tag) (new ≡ old) result
  pub clears : OnOk result (Clears pool tag old new)
  pub back : IfOk result (λ kind. back_of new kind ≡ back_of old kind + 1)
  pub kind : IfOk result (λ kind. kind ≡ kind_of (reserved_of pool) tag)
  pub bound : step_count new ≤ 1 + step_count old

-- the hand cleared the tag, and then saw to what it had to see to in the tag's set, and woke those whom this told
pub record ClearsAndWakes {R : Type 0} (pool : Pool R) (tag : ℕ) (woken : Woken) (old new : Hand R) : Type 0 where
  pub between : Hand R
  pub clears : Clears pool tag old between
  pub wakes : Changes (kind_of (reserved_of pool) tag) (side.SeesToAndWakes 1 side.see_to_steps woken) between new
  pub less : HoldsLess (λ other. other ≡ tag) old new
  pub back : let kind = kind_of (reserved_of pool) tag in back_of new kind ≡ back_of old kind + 1

-- the most steps of such a clear
abbrev pub clear_steps : ℕ
clear_steps = 1 + side.see_to_steps
