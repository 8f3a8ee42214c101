-- The book has two tellers, so the two numbers that the test checks are all.
use Rattle.base_tests.proofs.Uses.{[], ap, arith, HasAll, List, Record, some, subst, suc, sym, zero, ℕ, ◌∙◌}
use Rattle.std.proofs.Common.{◌≡◌, ◌∷◌}
use Rattle.step_ledger.specs.Records.{numbers}
use Rattle.wake_book.specs.declared.steps.BookStep.{BookStep}
use Rattle.wake_book.specs.Book.{record_of}
use Rattle.base_tests.proofs.tests.wakeups.book.tellers_come_together_one_after_another.Goals as goal

two : (a b : ℕ) → a ≡ 0 → b ≡ 1 → HasAll (a ∷ b ∷ []) 2
two a b ea eb zero l = (0, ap some ea)
two a b ea eb (suc zero) l = (1, ap some eb)
two a b ea eb (suc (suc n)) l = absurd (omega arith)

pub finish-requires-clause-all : goal.finish-requires-clause-all
finish-requires-clause-all g c =
    let records = c.add.ensures.gathered
    ∙ ap (λ (z : List (Record BookStep)). record_of c.in-Some-Some.first ∷ z) c.start_gathering-all.ensures.gathered
    in
    let first : c.in-Some-Some.first.number ≡ 0 = sym c.number.ensures ∙ c.if-number-ne0.false in
    let second : c.count-charge.new.teller.number ≡ 1 = sym c.number-else-number-ne0.ensures ∙ c.if-number-ne1.false in
    let all : c.in_ok-book.book.limits.tellers ≡ 2 = sym c.tellers-2.ensures.value ∙ c.if-tellers-ne2.false in
    subst (λ (z : List ℕ). HasAll z c.in_ok-book.book.limits.tellers) (sym (ap numbers records))
    (subst (λ (z : ℕ). HasAll (c.in-Some-Some.first.number ∷ c.count-charge.new.teller.number ∷ []) z) (sym all)
    (two _ _ first second))
