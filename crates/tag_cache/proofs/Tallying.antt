-- What the calls of the hand add to what it won and gave back.
use Rattle.std.specs.Prelude.{◌+◌, ◌≡◌}
use Rattle.tag_cache.proofs.Uses.{answered, ap, arith, back_in_both, Cache, Caller, Changes, Hand, KeepsSame, Kind, kind_of, Layout, layout_of, None, Option, Ordinary, Pool, Record, record_of, Reserved, SameHand, Side, Some, split_of, subst, sym, Tallies}
use Rattle.tag_cache.proofs.Uses.{whole, won_by, won_in_both, ℕ}
use Rattle.tag_pool.specs.Sides as side
use Rattle.tag_pool.specs.Clears.{Clears}
use Rattle.tag_pool.specs.Gets as hand_gets

-- that many more tags were won and that many more given back
pub record Moves {R : Type 0} (won back : ℕ) (old new : Hand R) : Type 0 where
  pub won_is : won_in_both new ≡ won_in_both old + won
  pub back_is : back_in_both new ≡ back_in_both old + back

-- the same in one set
pub record MovesSide {R : Type 0} (won back : ℕ) (old new : Side R) : Type 0 where
  pub won_is : (record_of (side.caller_of new)).won ≡ (record_of (side.caller_of old)).won + won
  pub back_is : (record_of (side.caller_of new)).back ≡ (record_of (side.caller_of old)).back + back

-- as many tags as the number in the set answers
pub as_many : (first : ℕ) (answer number : Option ℕ) → answer ≡ whole first number → won_by number ≡ answered answer
as_many first answer None e = sym (ap answered e)
as_many first answer (Some number) e = sym (ap answered e)

module _ {R : Type 0} where
  -- a side that is as it was
  pub rests : (a b : Side R) → b ≡ a → MovesSide 0 0 a b
  rests a b e = let w = ap (λ (x : Side R). (record_of (side.caller_of x)).won) e in
      let k = ap (λ (x : Side R). (record_of (side.caller_of x)).back) e in
      record { won_is = omega arith; back_is = omega arith }

  -- a change in one set is one of the hand
  pub moves_in : (kind : Kind) (won back : ℕ) (change : Side R → Side R → Type 0) (old new : Hand R)
      → ((a b : Side R) → change a b → MovesSide won back a b) → Changes kind change old new → Moves won back old new
  moves_in Ordinary won back change old new moves c = let m = moves old.ordinary new.ordinary c.changed in
      let s = rests old.reserved new.reserved c.other in
      let mw = m.won_is in let mb = m.back_is in let sw = s.won_is in let sb = s.back_is in
      record { won_is = omega arith; back_is = omega arith }
  moves_in Reserved won back change old new moves c = let m = moves old.reserved new.reserved c.changed in
      let s = rests old.ordinary new.ordinary c.other in
      let mw = m.won_is in let mb = m.back_is in let sw = s.won_is in let sb = s.back_is in
      record { won_is = omega arith; back_is = omega arith }

  -- a side whose record is as it was
  pub record_rests : (a b : Side R) → record_of (side.caller_of b) ≡ record_of (side.caller_of a) → MovesSide 0 0 a b
  record_rests a b e = let w = ap (λ (r : Record R). r.won) e in let k = ap (λ (r : Record R). r.back) e in
      record { won_is = omega arith; back_is = omega arith }

  pub caller_rests : (a b : Side R) → side.caller_of b ≡ side.caller_of a → MovesSide 0 0 a b
  caller_rests a b e = record_rests a b (ap (λ (x : Caller R). record_of x) e)

  puts_side : (l : Layout) (number : ℕ) (a b : Side R) → side.Puts l number a b → MovesSide 0 1 a b
  puts_side l number a b p = record {
    won_is = ap (λ (r : Record R). r.won) p.put.known;
    back_is = ap (λ (r : Record R). r.back) p.put.known;
  }

  pub clears_moves : (pool : Pool R) (tag : ℕ) (old new : Hand R) → Clears pool tag old new → Moves 0 1 old new
  clears_moves pool tag old new c = let kind = kind_of (split_of old) tag in
      moves_in kind 0 1 _ old new (λ a b p. puts_side (layout_of pool kind) _ a b p) c.set

  gains_side : (l : Layout) (answer : Option ℕ) (a b : Side R) → side.GetsPlain l answer a b
      → MovesSide (won_by answer) 0 a b
  gains_side l answer a b g = let k = g.searches.gains.back in record {
    won_is = g.searches.gains.count;
    back_is = omega arith;
  }

  pub gets_moves : (pool : Pool R) (kind : Kind) (answer : Option ℕ) (old new : Hand R)
      → hand_gets.Gets pool kind answer old new → Moves (answered answer) 0 old new
  gets_moves pool kind answer old new g = subst (λ (n : ℕ). Moves n 0 old new)
      (as_many _ answer g.number g.answer_is)
      (moves_in kind (won_by g.number) 0 _ old new
      (λ a b x. gains_side (layout_of pool kind) g.number a b x) g.set)

  -- what the hand won was handed out, if the same tags are kept
  pub moves_tallies : (won back : ℕ) (old new : Cache R) → KeepsSame old new → Moves won back old.hand new.hand
      → Tallies won back old new
  moves_tallies won back old new s m = let w = m.won_is in let k = m.back_is in let reused = s.reused in
      let count = s.count in record { handed = omega arith; taken = omega arith }

  -- an unchanged cache adds nothing
  pub unchanged_tallies : (old new : Cache R) → SameHand old new → Tallies 0 0 old new
  unchanged_tallies old new u = let w = ap (λ (h : Hand R). won_in_both h) u.hand in
      let k = ap (λ (h : Hand R). back_in_both h) u.hand in let reused = u.kept.reused in
      let count = u.kept.count in record { handed = omega arith; taken = omega arith }

  -- what came to pass before an unchanged cache, and after one
  pub tallies_on : (out back : ℕ) (a b c : Cache R) → Tallies out back a b → Tallies 0 0 b c → Tallies out back a c
  tallies_on out back a b c s t = let sh = s.handed in let st = s.taken in let th = t.handed in let more = t.taken in
      record { handed = omega arith; taken = omega arith }
