-- Each turn so far found a batch due and lost its exchange, so nothing was charged; the completions are counted once.
use Rattle.std.specs.Prelude.{◌+◌, ◌∷◌, ◌≡◌, ◌≤◌}
use Rattle.wake_book.proofs.Uses.{Add, added, charged_by, IsTellerOf, LosesTries, number_of, total, ℕ}
use Rattle.wake_book.specs.Book.{steps_of}
use Rattle.wake_book.proofs.book.Book.count.Given as goal

abbrev pub invariant-loop : goal.invariant-loop
invariant-loop l = record {
  book : IsTellerOf l.self l.teller × (number_of l.teller ≡ number_of l.fn.teller);
  counts : (l.teller.count ≡ l.fn.teller.count + l.fn.n) × (l.teller.charges ≡ l.fn.teller.charges);
  charged : charged_by l.teller ≡ charged_by l.fn.teller;
  room : total added (steps_of l.fn.teller) + l.fn.n ≤ l.self.limits.cap;
  tries : (found : ℕ) × LosesTries l.counter l.self.batch (Add l.fn.n found ∷ steps_of l.fn.teller) (steps_of l.teller);
}
