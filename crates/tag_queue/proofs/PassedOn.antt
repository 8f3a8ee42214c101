-- A call that passes on a refusal of the pool is refused by the same checks.
use Rattle.std.specs.Prelude.{◌≡◌}
use Rattle.std.specs.Result.{IsErrAnd}
use Rattle.tag_queue.proofs.Uses.{Err, Ok, Result, sym, subst}
use Rattle.refusals.specs.Refusals.{Checks, FailsFirst, RefusesBy}

pub passed_on : {A F : Type 0} (checks : Checks F) (unchanged : Type 0) (told : Result A F) (fault : F)
    → IsErrAnd told (λ f. f ≡ fault) → FailsFirst checks fault → unchanged → RefusesBy checks unchanged told
passed_on checks unchanged (Ok x) fault is first same = absurd is
passed_on checks unchanged (Err f) fault is first same = record {
  first = subst (FailsFirst checks) (sym is) first;
  passes = tt;
  same = same;
}
