-- Looks at the words of a set win nothing and give nothing back.
use Rattle.std.specs.Prelude.{◌+◌, ◌∷◌, ◌≡◌}
use Rattle.tag_cache.proofs.Uses.{[], ap, arith, Hand, Kind, Layout, layout_of, List, Look, LookAside, Ordinary, Pool, Record, record_of, refl, Reserved, Side, suc, Word, ℕ}
use Rattle.tag_core.specs.Records.{record_after}
use Rattle.tag_search.specs.Shared.{record_after_all}
use Rattle.tag_pool.specs.Sides as side
use Rattle.tag_pool.specs.Looks.{looks_from, MakesLooks}
use Rattle.tag_pool.specs.Shows.{LooksAround}
use Rattle.tag_pool.specs.Busy.{ListsBusy}
use Rattle.tag_cache.proofs.Steady.{Rests, rests_then}
use Rattle.tag_cache.proofs.Tallying.{MovesSide, moves_in}

module _ {R : Type 0} where
  -- looks win nothing and give nothing back
  looks_rest : (word : ℕ) (found : List (ℕ × ℕ)) (r : Record R)
      → ((record_after_all (looks_from word found) r).won ≡ r.won)
      × ((record_after_all (looks_from word found) r).back ≡ r.back)
  looks_rest word [] r = (refl, refl)
  looks_rest word (pair ∷ found) r =
      let mid = record_after (Word (LookAside word pair.1)) (record_after (Word (Look word pair.0)) r) in
      let rest = looks_rest (suc word) found mid in
      let w : mid.won ≡ r.won + 0 + 0 = refl in let k : mid.back ≡ r.back + 0 + 0 = refl in
      let rw = rest.0 in let rk = rest.1 in (omega arith, omega arith)

  looks_side : (found : List (ℕ × ℕ)) (a b : Side R) → MakesLooks (looks_from 0 found) a b → MovesSide 0 0 a b
  looks_side found a b m = let rest = looks_rest 0 found (record_of (side.caller_of a)) in
      let rw = rest.0 in let rk = rest.1 in
      let w = ap (λ (r : Record R). r.won) m.known in let k = ap (λ (r : Record R). r.back) m.known in
      record { won_is = omega arith; back_is = omega arith }

  pub around_rests : (l : Layout) (kind : Kind) (found : List (ℕ × ℕ)) (a b : Hand R) → LooksAround l kind found a b
      → Rests a b
  around_rests l kind found a b x = record {
    held = x.same;
    moves = moves_in kind 0 0 _ a b (λ c d m. looks_side found c d m) x.looks;
  }

  pub busy_rests : (pool : Pool R) (bits : List ℕ) (count : ℕ) (a b : Hand R) → ListsBusy pool bits count a b
      → Rests a b
  busy_rests pool bits count a b x = rests_then a x.between b
      (around_rests (layout_of pool Reserved) Reserved x.reserved a x.between x.first)
      (around_rests (layout_of pool Ordinary) Ordinary x.ordinary x.between b x.second)
