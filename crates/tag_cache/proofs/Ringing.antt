-- Steps by which hands wait win no tags and give none back.
use Rattle.tag_cache.proofs.Uses.{ap, arith, Bool, Changes, Hand, Kind, OnlyAdds, Record, Side, Told, Turn, Waiter, ℕ}
use Rattle.tag_core.specs.declared.step.Step.{Step}
use Rattle.std.specs.Prelude.{List}
use Rattle.tag_pool.specs.Bell as bell
use Rattle.tag_pool.specs.Sides as side
use Rattle.tag_pool.specs.Holding.{HoldsSame}
use Rattle.tag_cache.proofs.Steady.{Rests}
use Rattle.tag_cache.proofs.Tallying.{MovesSide, moves_in}

module _ {R : Type 0} where
  pub adds_rests : (steps : List (Step R)) (a b : Side R) → OnlyAdds steps (side.caller_of a) (side.caller_of b)
      → MovesSide 0 0 a b
  adds_rests steps a b only = let w = ap (λ (r : Record R). r.won) only.known in
      let k = ap (λ (r : Record R). r.back) only.known in record { won_is = omega arith; back_is = omega arith }

module _ {R : Type 0} (kind : Kind) where
  pub lists_rests : (waiter : Waiter) (turn : Turn) (a b : Hand R) → HoldsSame a b
      → Changes kind (bell.ListsSelf waiter turn) a b → Rests a b
  lists_rests waiter turn a b held x = record {
    held = held;
    moves = moves_in kind 0 0 _ a b (λ c d (l : bell.ListsSelf waiter turn c d). adds_rests _ c d l.lists.only) x;
  }

  pub gets_up_rests : (told : Bool) (a b : Hand R) → HoldsSame a b
      → Changes kind (bell.GetsUp told) a b → Rests a b
  gets_up_rests told a b held x = record {
    held = held;
    moves = moves_in kind 0 0 _ a b (λ c d (l : bell.GetsUp told c d). adds_rests _ c d l.leaves.only) x;
  }

  pub asks_rests : (told : Bool) (a b : Hand R) → HoldsSame a b
      → Changes kind (bell.LooksIfTold told) a b → Rests a b
  asks_rests told a b held x = record {
    held = held;
    moves = moves_in kind 0 0 _ a b (λ c d (l : bell.LooksIfTold told c d). adds_rests _ c d l.step.1) x;
  }

  pub sleeps_rests : (a b : Hand R) → HoldsSame a b → Changes kind bell.SleepsUntilTold a b
      → Rests a b
  sleeps_rests a b held x = record {
    held = held;
    moves = moves_in kind 0 0 _ a b (λ c d (l : bell.SleepsUntilTold c d). adds_rests _ c d l.sleeps.looks) x;
  }

  pub looks_rests : (found : Bool) (a b : Hand R) → HoldsSame a b
      → Changes kind (bell.LooksForWaiters found) a b → Rests a b
  looks_rests found a b held x = record {
    held = held;
    moves = moves_in kind 0 0 _ a b (λ c d (l : bell.LooksForWaiters found c d). adds_rests _ c d l.finds.look) x;
  }

  pub sees_rests : (limit most : ℕ) (told : Told) (a b : Hand R) → HoldsSame a b
      → Changes kind (side.SeesTo limit most told) a b → Rests a b
  sees_rests limit most told a b held x = record {
    held = held;
    moves = moves_in kind 0 0 _ a b (λ c d (l : side.SeesTo limit most told c d). adds_rests _ c d l.tells.only) x;
  }
