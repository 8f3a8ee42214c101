-- Laws of a plain world.
use Rattle.std.specs.Prelude.{ℕ, ◌≤◌}
use Rattle.std.proofs.Common.{arith}
use Rattle.tag_script.specs.PlainCallers.{IsReadyFor}
use Rattle.tag_script.specs.PlainWorld.{PlainWorld}

-- room for the counts of n commands is room for those of fewer
pub ready_for_fewer : (w : PlainWorld) (m n : ℕ) → m ≤ n → IsReadyFor n w → IsReadyFor m w
ready_for_fewer w m n few ready = record
    { won = Prim.omega (arith, few, ready.won); back = Prim.omega (arith, few, ready.back) }
