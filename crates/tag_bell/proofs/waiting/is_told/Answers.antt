-- One look at its berth changes nothing else that is said of the caller.
use Rattle.std.specs.Prelude.{◌↔◌, ◌∷◌}
use Rattle.std.proofs.lemmas.Bool.{false≢true}
use Rattle.tag_bell.proofs.Uses.{[], Bool, false, IsTrue, LookAt, not, record_of, refl, true}
use Rattle.tag_bell.proofs.Looking.{looks_owe, looks_try, looks_wait}
use Rattle.tag_bell.proofs.Rung.{rung}
use Rattle.tag_bell.proofs.waiting.is_told.Goals as goal

-- what holds if a test fails
turned : (b : Bool) (P : Type 0) → (IsTrue b ↔ P) → IsTrue (not b) ↔ ¬ P
turned true P is = (λ yes. absurd (false≢true yes), λ no. absurd (no (is.0 refl)))
turned false P is = (λ yes p. false≢true (is.1 p), λ no. refl)

pub returns-clause-waits : goal.returns-clause-waits
returns-clause-waits g c = let look = c.look_at_own-berth in let old = c.args.caller.now in let who = (record_of old).number in
    looks_wait who (look.result ∷ []) old look.new.caller (rung (LookAt who look.result) old look.new.caller look.ensures.step)

pub returns-clause-tried : goal.returns-clause-tried
returns-clause-tried g c = let look = c.look_at_own-berth in let old = c.args.caller.now in let who = (record_of old).number in
    looks_try who (look.result ∷ []) old look.new.caller (rung (LookAt who look.result) old look.new.caller look.ensures.step)

pub returns-clause-owes : goal.returns-clause-owes
returns-clause-owes g c = let look = c.look_at_own-berth in let old = c.args.caller.now in let who = (record_of old).number in
    looks_owe who (look.result ∷ []) old look.new.caller (rung (LookAt who look.result) old look.new.caller look.ensures.step)

pub returns-clause-step : goal.returns-clause-step
returns-clause-step g c = let look = c.look_at_own-berth in let old = c.args.caller.now in let who = (record_of old).number in (
  look.result,
  rung (LookAt who look.result) old look.new.caller look.ensures.step,
  turned c.is_listed.result _ c.is_listed.ensures,
)
