-- The hands that an opening makes belong to its pool.
use Rattle.std.proofs.Common.{◌≡◌, All, IfOk, Result, Ok, Err, refl, subst}
use Rattle.std.proofs.lemmas.Result.{IfOk-weaker}
use Rattle.std.specs.Result.{MatchResult}
use Rattle.tag_pool.specs.Hands.{IsHandOf}
use Rattle.request_pool.proofs.pool.serve_all.Goals as goal

-- a value that is passed on is the one that was returned
passed_on : {A E F : Type 0} (r : Result A E) (told : Result A F) (x : A) (Q : E → Type 0) (P : A → Type 0)
    → told ≡ Ok x → ((e : E) → Q e → ⊥) → MatchResult r (λ y. told ≡ Ok y) Q → IfOk r P → P x
passed_on (Ok y) told x Q P is never same h = let one : y ≡ x = cc in subst P one h
passed_on (Err e) told x Q P is never wrong h = absurd (never e wrong)

pub serve_by_threads-hands-requires-after_bounds : goal.serve_by_threads-hands-requires-after_bounds
serve_by_threads-hands-requires-after_bounds g c κs within =
    passed_on c.open.result (Ok (c.in_ok-pool.pool, c.in_ok-pool.hands)) (c.in_ok-pool.pool, c.in_ok-pool.hands) _
    (λ opened. All (IsHandOf opened.0) opened.1.items) refl (λ e wrong. wrong) c.in_ok-pool.ensures.cases
    (IfOk-weaker c.open.result _ _ (λ opened made. made.own) c.open.ensures.ok)
