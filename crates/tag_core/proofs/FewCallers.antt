-- A caller's number is below 64, since a history shows its record.
use Rattle.std.specs.Prelude.{◌<◌, ◌≤◌}
use Rattle.tag_core.proofs.Uses.{arith, Caller, IsCallerOf, le_prop, Map, MAX_CALLERS, record_of, Shape, subst, sym, ∥∥₁_elim}

pub few : {R : Type 0} (m : Map R) (w : Caller R) → IsCallerOf m w → w.number < MAX_CALLERS
few m w own = ∥∥₁_elim (w.shown (record_of w) w.knows) le_prop (λ z. let low = z.known.number in
    let most = subst (λ (k : Shape). k.callers ≤ MAX_CALLERS) (sym own.1) m.few.1 in omega arith)
