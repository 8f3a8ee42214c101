-- The first tag of a batch, and a single tag, is below the total, so its number fits.
use Rattle.std.specs.Prelude.{◌+◌, ◌<◌, ◌≡◌, ◌≤◌}
use Rattle.tag_c.proofs.Uses.{answer_of, ap, arith, batch_checks, Bool, CountsBatch, Err, false, Found, GetsBatch, Hand, hint_of, IfOk, IfSome, IsAnswer, IsOkAnd, IsTagIn, IsTrue, layout_of, MAX_DEPTH, None, Ok, OnOk, Option, PassesAll, PoolState, refl, reserved_of, Result, Some}
use Rattle.tag_c.proofs.Uses.{subst, sym, TagFault, total_of, true, unwrap_or, whole_run, ℕ}
use Rattle.tag_pool.specs.Sides as side
use Rattle.tag_pool.specs.declared.kind.Kind.{Kind}
use Rattle.tag_pool.specs.declared.kind.Kind.TheVariants.{Ordinary}
use Rattle.tag_pool.proofs.Getting.{run_low}

few : (shared : PoolState) → total_of shared.tags ≤ MAX_DEPTH
few shared = omega (arith, shared.total_is.0, shared.total_is.1)

module _ (shared : PoolState) (old new : Hand ℕ) (n : ℕ) where
  -- the first tag of a run that a batch get answers is at most `MAX_DEPTH`
  low_by : (answer number : Option (ℕ × ℕ)) → answer ≡ whole_run (reserved_of shared.tags) number
      → side.GetsBatch (layout_of shared.tags Ordinary) n number old.ordinary new.ordinary
      → IfSome answer (λ won. won.0 ≤ MAX_DEPTH)
  low_by None number is gets = tt
  low_by (Some won) None is gets = absurd (let no = is in cc)
  low_by (Some won) (Some run) is gets =
      let low = run_low (layout_of shared.tags Ordinary) n gets.steps.holds.search in let few = few shared in
      let first : won.0 ≡ reserved_of shared.tags + run.0 = ap (λ (o : Option (ℕ × ℕ)). (unwrap_or o (0, 0)).0) is in
      omega arith

  -- and so is that of any batch get, since under round robin it answers none
  run_fits : {same : Type 0} (found : Result (Found (ℕ × ℕ)) TagFault)
      → OnOk found (PassesAll (batch_checks shared.tags old n))
      → (CountsBatch shared.tags n → IsTrue (hint_of old Ordinary).round_robin
      → IsOkAnd found (λ known. known.answer ≡ None) × same)
      → ((hint_of old Ordinary).round_robin ≡ false
      → IfOk found (λ known. GetsBatch shared.tags n known.answer old new))
      → IfOk (answer_of found) (λ run. IfSome run (λ won. won.0 ≤ MAX_DEPTH))
  run_fits (Err fault) passes round_robin gets = tt
  run_fits (Ok known) passes round_robin gets = elim ((hint_of old Ordinary).round_robin) as
      (λ (b : Bool). (hint_of old Ordinary).round_robin ≡ b → IfSome known.answer (λ won. won.0 ≤ MAX_DEPTH)) [
        | true ↦ (λ t. rw (round_robin passes.0 t).0 tt)
        | false ↦ (λ f. let g = gets f in low_by known.answer g.number g.answer_is g.set.changed)
      ] refl

-- the same of a batch get by a hand of the pool
pub batch_fits : (shared : PoolState) (old new : Hand ℕ) {n : ℕ} {same : Type 0}
    {answer : Result (Option (ℕ × ℕ)) TagFault} (found : Result (Found (ℕ × ℕ)) TagFault) → answer ≡ answer_of found
    → OnOk found (PassesAll (batch_checks shared.tags old n))
    → (CountsBatch shared.tags n → IsTrue (hint_of old Ordinary).round_robin
    → IsOkAnd found (λ known. known.answer ≡ None) × same)
    → ((hint_of old Ordinary).round_robin ≡ false → IfOk found (λ known. GetsBatch shared.tags n known.answer old new))
    → IfOk answer (λ run. IfSome run (λ won. won.0 ≤ MAX_DEPTH))
batch_fits shared old new {n} found is passes round_robin gets =
    subst (λ (a : Result (Option (ℕ × ℕ)) TagFault). IfOk a (λ run. IfSome run (λ won. won.0 ≤ MAX_DEPTH))) (sym is)
    (run_fits shared old new n found passes round_robin gets)

-- what follows from a fact about the value of an answer holds of it too
pub each : {A E : Type 0} {P Q : A → Type 0} (answer : Result A E) → ((x : A) → P x → Q x) → IfOk answer P
    → IfOk answer Q
each (Ok x) f p = f x p
each (Err e) f p = tt

fits : (shared : PoolState) {kind : Kind} (answer : Option ℕ)
    → ((tag : ℕ) → IsAnswer answer tag → IsTagIn shared.tags kind tag)
    → IfSome answer (λ tag. tag ≤ MAX_DEPTH)
fits shared None low = tt
fits shared (Some tag) low = let below = (low tag refl).0 in let few = few shared in omega arith

-- a tag of either kind that a get answers is at most `MAX_DEPTH`
pub tag_fits : (shared : PoolState) (kind : Kind) {answer : Result (Option ℕ) TagFault} (found : Result (Found ℕ) TagFault)
    → answer ≡ answer_of found
    → IfOk found (λ known. (tag : ℕ) → IsAnswer known.answer tag → IsTagIn shared.tags kind tag)
    → IfOk answer (λ known. IfSome known (λ tag. tag ≤ MAX_DEPTH))
tag_fits shared kind (Ok known) is low = rw is (fits shared known.answer low)
tag_fits shared kind (Err fault) is low = rw is tt

only_fits : (shared : PoolState) (tag : ℕ) (answer : Option ℕ) → tag < total_of shared.tags
    → IfSome answer (λ won. won ≡ tag) → IfSome answer (λ won. won ≤ MAX_DEPTH)
only_fits shared tag None low only = tt
only_fits shared tag (Some won) low only = let few = few shared in omega (arith, low, only)

-- a get of one given tag of the pool answers no other
pub exact_fits : (shared : PoolState) (tag : ℕ) (Room : Type 0) {answer : Result (Option ℕ) TagFault}
    (found : Result (Found ℕ) TagFault) → answer ≡ answer_of found → OnOk found ((tag < total_of shared.tags) × Room)
    → IfOk found (λ known. IfSome known.answer (λ won. won ≡ tag))
    → IfOk answer (λ known. IfSome known (λ won. won ≤ MAX_DEPTH))
exact_fits shared tag Room (Ok known) is passes only = rw is (only_fits shared tag known.answer passes.0 only)
exact_fits shared tag Room (Err fault) is passes only = rw is tt
