-- A seat from which members are handed out gives its first record to the next member and keeps the others.
use Rattle.std.specs.Prelude.{◌+◌, ◌<◌, ◌≡◌}
use Rattle.wake_book.proofs.Uses.{[], ap, first_view, fresh_record, Me, other_views, Records, steps_of, ℕ, ◌∙◌}
use Rattle.step_ledger.proofs.Fresh.{next_first, next_others}
use Rattle.wake_book.specs.Rest.{HasRestFrom}

module _ {S T : Type 0} {number n : ℕ} {old : Me S (Records T)} (comes : number < n)
    (rest : HasRestFrom number n old) where
  -- the next member is new
  pub next_member : {me : Me S (Records T)} → me ≡ (first_view old.0, [])
      → record { number = number; steps = steps_of me.0 } ≡ fresh_record {T = T} number
  next_member is = ap (λ (z : Me S (Records T)). record { number = number; steps = steps_of z.0 }) is
      ∙ ap (λ (z : Records T). record { number = number; steps = steps_of z })
      (next_first fresh_record number n comes old.0 (ap (λ (z : Me S (Records T)). z.0) rest))

  -- and the others are still to come
  pub still_rest : {me : Me S (Records T)} → me ≡ (other_views old.0, old.1) → HasRestFrom (number + 1) n me
  still_rest is = is ∙ (λ j. (
    next_others fresh_record number n comes old.0 (ap (λ (z : Me S (Records T)). z.0) rest) j,
    ap (λ (z : Me S (Records T)). z.1) rest j,
  ))
