-- There is one claim if the word has n places from its first clear one on, and otherwise none.
use Rattle.std.specs.Prelude.{◌++◌, ◌+◌, ◌∷◌, ◌≤◌}
use Rattle.tag_search.proofs.Uses.{[], arith, Claimed, IsBatchVisit, no_run, run_lost, run_mask, run_taken, Some, subst, sym, word_depth, ℕ}
use Rattle.tag_search.proofs.Batches.{no_first_clear, same_first_clear}
use Rattle.tag_search.proofs.batch.visit_for_run.Goals as goal

pub returns-in_err-place-clause-visit : goal.returns-in_err-place-clause-visit
returns-in_err-place-clause-visit g c =
    let d : ℕ = word_depth c.args.layout c.args.word in let found = c.sweep_and_look-found.result in
    let a = c.sweep_and_look-found.ensures.steps in
    let set = rw c.word_depth-depth.ensures.value at c.in_err-place.ensures in
    rw c.from_residual.ensures (record {
      steps = a.steps;
      added = a.added;
      holds = no_run a.holds (no_first_clear found d c.args.n set);
    })

pub returns-then-place-n-clause-visit : goal.returns-then-place-n-clause-visit
returns-then-place-n-clause-visit g c =
    let d : ℕ = word_depth c.args.layout c.args.word in let found = c.sweep_and_look-found.result in
    let a = c.sweep_and_look-found.ensures.steps in
    let first = rw c.word_depth-depth.ensures.value at c.in_ok-place.ensures in
    let e = c.word_depth-depth.ensures.value in
    let past = c.if-place-n.true in
    record {
      steps = a.steps;
      added = a.added;
      holds = no_run a.holds (λ place other. let same =
          same_first_clear found d c.in_ok-place.place place first other in
          omega arith);
    }

pub returns-in_err-bits-clause-visit : goal.returns-in_err-bits-clause-visit
returns-in_err-bits-clause-visit g c =
    let d : ℕ = word_depth c.args.layout c.args.word in let found = c.sweep_and_look-found.result in
    let a = c.sweep_and_look-found.ensures.steps in
    let first = rw c.word_depth-depth.ensures.value at c.in_ok-place.ensures in
    let e = c.word_depth-depth.ensures.value in
    let claim = c.in_err-bits.ensures.lost in
    let step = Claimed c.args.word (run_mask c.args.n c.in_ok-place.place) claim.0 in
    let fits : c.in_ok-place.place + c.args.n ≤ d = let f = c.if-place-n.false in omega arith in
    rw c.from_residual-in_err-bits.ensures (record {
      steps = a.steps ++ step ∷ [];
      added = g.met.P.Port.adds_more c.args.port.now c.sweep_and_look-found.new.port c.claim_run.new.port a.steps
          (step ∷ []) a.added claim.3;
      holds = run_lost claim.0 a.holds (record { first = first; fits = fits }) claim.1;
    })

pub returns-clause-visit : goal.returns-clause-visit
returns-clause-visit g c =
    let d : ℕ = word_depth c.args.layout c.args.word in let found = c.sweep_and_look-found.result in
    let a = c.sweep_and_look-found.ensures.steps in
    let first = rw c.word_depth-depth.ensures.value at c.in_ok-place.ensures in
    let e = c.word_depth-depth.ensures.value in
    let claim = c.in_ok-bits.ensures.won in
    let step = Claimed c.args.word (run_mask c.args.n c.in_ok-place.place) claim.0 in
    let fits : c.in_ok-place.place + c.args.n ≤ d = let f = c.if-place-n.false in omega arith in
    record {
      steps = a.steps ++ step ∷ [];
      added = g.met.P.Port.adds_more c.args.port.now c.sweep_and_look-found.new.port c.claim_run.new.port a.steps
          (step ∷ []) a.added claim.3;
      holds = subst (λ (bits : ℕ). IsBatchVisit c.args.word d c.args.n (a.steps ++ step ∷ [])
          (Some (c.in_ok-place.place, bits))) (sym claim.2)
          (run_taken claim.0 a.holds (record { first = first; fits = fits }) claim.1);
    }
