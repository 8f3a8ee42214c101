-- All who wait, found to be nobody, end what the caller has to see to.
use Rattle.std.specs.Prelude.{◌↔◌, ◌∷◌, ◌≡◌}
use Rattle.tag_bell.proofs.Uses.{[], ap, arith, Bell, bit_at, bit_at-zero, false, IsTrue, LookAll, nat_eq, not, refl, suc, sym, zero, ℕ, ◌∙◌}
use Rattle.std.proofs.lemmas.Bool.{true≢false, false≢true}
use Rattle.std.proofs.Math.Dec.{eqb-suc-zero}
use Rattle.tag_bell.proofs.Rung.{owes_no_spot, rung}
use Rattle.tag_bell.proofs.telling.finds_waiters.Goals as goal

is_zero : (n : ℕ) → not (nat_eq n 0) ≡ false → n ≡ 0
is_zero zero none = refl
is_zero (suc n) none = absurd (true≢false (sym (ap not (eqb-suc-zero n)) ∙ none))

is_some : (n : ℕ) → IsTrue (not (nat_eq n 0)) ↔ ¬ (n ≡ 0)
is_some zero = (λ a none. false≢true a, λ a. absurd (a refl))
is_some (suc n) = (λ a none. omega arith, λ a. ap not (eqb-suc-zero n))

pub returns-clause-done : goal.returns-clause-done
returns-clause-done g c none kind = let look = c.look_all in let old = c.args.caller.now in
    owes_no_spot kind (Bell (LookAll look.result) ∷ []) old look.new.caller
    (rung (LookAll look.result) old look.new.caller look.ensures.step)
    (λ spot e owes. owes.0 (ap (λ (n : ℕ). bit_at n e) (is_zero look.result none) ∙ bit_at-zero e))

pub returns-clause-finds : goal.returns-clause-finds
returns-clause-finds g c = let look = c.look_all in record {
  waiting = look.result;
  look = rung (LookAll look.result) c.args.caller.now look.new.caller look.ensures.step;
  says = is_some look.result;
}
