-- What all hands have in use, as their records tell.
use Rattle.std.specs.Prelude.{◌*◌, ◌+◌, ◌∷◌, ◌≡◌, ◌≤◌}
use Rattle.std.proofs.Math.Nat.{mul-le-mul_right, suc-mul}
use Rattle.tag_pool.proofs.Uses.{[], ap, arith, Hand, Kind, length, List, Ordinary, Pool, Record, refl, Reserved, suc}
use Rattle.tag_core.specs.Sizes.{total_of}
use Rattle.tag_model.specs.declared.world.TheConstants.{MOST_WON}
use Rattle.tag_pool.specs.Gathering.{records_of, shape_of}
use Rattle.tag_pool.specs.Hands.{caller_of}
use Rattle.tag_pool.specs.Resizing.{BalanceInBoth, held_in_both, posted_in_both}
use Rattle.tag_pool.specs.Using.{IsUsage}
use Rattle.tag_pool.specs.declared.usage.Usage.{Usage}
use Rattle.tag_pool.proofs.NextMaps.{balance_is, posted_is}

module _ {R : Type 0} where
  pub length-records : (hands : List (Hand R)) (kind : Kind) → length (records_of hands kind) ≡ length hands
  length-records [] kind = refl
  length-records (a ∷ hands) kind = ap suc (length-records hands kind)

  won-le : (hands : List (Hand R)) (kind : Kind)
      → total_of (λ (r : Record R). r.won) (records_of hands kind) ≤ length hands * MOST_WON
  won-le [] kind = omega arith
  won-le (a ∷ hands) kind = let rest = won-le hands kind in let own = (caller_of a kind).unspent in
      let next : length (a ∷ hands) * MOST_WON ≡ length hands * MOST_WON + MOST_WON = suc-mul (length hands) MOST_WON in
      omega arith

  module _ (pool : Pool R) (hands : List (Hand R)) (usage : Usage) (u : IsUsage pool (records_of hands) usage) where
    -- there are at most 64 hands
    pub few_hands : length hands ≤ 64
    few_hands = let few = u.ordinary.settled.few in let long = length-records hands Ordinary in
        let most = pool.ordinary.few.1 in omega arith

    most_won : (kind : Kind) → total_of (λ (r : Record R). r.won) (records_of hands kind) ≤ 64 * MOST_WON
    most_won kind = let won = won-le hands kind in
        let product : length hands * MOST_WON ≤ 64 * MOST_WON = mul-le-mul_right MOST_WON few_hands in omega arith

    -- so the sums over both sets fit
    pub small_sums : (usage.ordinary.totals.held + usage.reserved.totals.held ≤ 128 * MOST_WON)
        × (usage.ordinary.totals.posted + usage.reserved.totals.posted ≤ 128 * MOST_WON)
    small_sums =
        let a = most_won Ordinary in let b = most_won Reserved in
        let x = u.ordinary.settled.got in let y = u.reserved.settled.got in
        let p = u.ordinary.settled.balance in let q = u.reserved.settled.balance in (omega arith, omega arith)

    -- they are those of the records
    pub held_is : usage.ordinary.totals.held + usage.reserved.totals.held ≡ held_in_both hands
    held_is = (λ j. u.ordinary.settled.held j + u.reserved.settled.held j)

    pub posted_are : usage.ordinary.totals.posted + usage.reserved.totals.posted ≡ posted_in_both hands
    posted_are = (λ j.
        posted_is (shape_of pool Ordinary) (records_of hands Ordinary) usage.ordinary.totals u.ordinary.settled j
        + posted_is (shape_of pool Reserved) (records_of hands Reserved) usage.reserved.totals u.reserved.settled j)

    pub balances : BalanceInBoth hands
    balances = (
      balance_is (shape_of pool Ordinary) (records_of hands Ordinary) usage.ordinary.totals u.ordinary.settled,
      balance_is (shape_of pool Reserved) (records_of hands Reserved) usage.reserved.totals u.reserved.settled,
    )
