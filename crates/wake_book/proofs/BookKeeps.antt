-- Each kind of step on the book preserves its rule, and the teller learns from it what its play says.
use Rattle.std.specs.Prelude.{◌%◌, ◌*◌, ◌+◌, ◌<◌, ◌^◌, ◌∷◌, ◌≡◌, ◌≤◌}
use Rattle.wake_book.proofs.Uses.{Add, added, adding, Advance, advancing, Allows, allows, ap, arith, BookRule, BookStep, completions_at, completions_in, either, eqb, exchange_to, exchanged, Lawful, Limits, List, LookCompletions, looked_completions, looked_wakeups, LookWakeups, Me, none}
use Rattle.wake_book.proofs.Uses.{opening_words, own_steps, own_view, Record, Records, refl, set, set-get_or, step, steps_of, subst, sum_below-bound, sym, total, wakeups_at, wakeups_in, ℕ, ◌∙◌}
use Rattle.wake_book.specs.Charges.{words_after, words_in}
use Rattle.wake_book.specs.Charges.{MayStep}
use Rattle.wake_book.proofs.Counting.{capped, counted, charged_le, saw, saw_wakeups, own_le, moves, misses}

module _ {S : Type 0} (k : Limits) (few : k.tellers ≤ 64) (low : k.cap ≤ 2 ^ 56) (slots id : ℕ)
    (m : Me S (Records BookStep)) (r : Record BookStep) (is : m.0 ≡ own_view r) where
  own : r.steps ≡ steps_of m.0
  own = ap steps_of (sym is)

  small : (h : List (ℕ × BookStep)) → Lawful k.tellers (MayStep k) h → completions_in h ≤ 64 * 2 ^ 56
  small h l = let a = counted k h l in let b = sum_below-bound (λ c. total added (own_steps c h)) k.tellers (2 ^ 56)
      (λ c _. let z = capped k h l c in omega arith) in omega arith

  pub look_completions : Allows (BookRule k) slots id m completions_at (λ n. n)
      (looked_completions (step slots completions_at 0 0 none) m)
  look_completions s kept deep at lw =
      let z = allows k.tellers opening_words words_after (MayStep k) slots id m r is completions_at
      (λ n. n) LookCompletions
      (λ v. (v < 2 ^ 63) × (total added (steps_of m.0) ≤ v)
      × ((w : ℕ) (before : List BookStep) → steps_of m.0 ≡ LookWakeups w ∷ before → w ≤ v))
      (λ h l kn st lw'. (
        refl,
        set-get_or (words_in h) completions_at 0,
        (
          let z = small h l in omega arith,
          (let z = own_le k r.number h l kn in let y = ap (total added) (sym own ∙ st) in omega arith),
          λ w before e. let z = saw_wakeups k r.number w before h l (sym st ∙ own ∙ e) in let y = charged_le k h l in
              omega arith,
        ),
      )) s kept deep at lw in
      (z.0, z.1, z.2, z.3, (z.4.0, z.4.1.0, z.4.1.1, z.4.1.2))

  pub look_wakeups : Allows (BookRule k) slots id m wakeups_at (λ n. n)
      (looked_wakeups (step slots wakeups_at 0 0 none) m)
  look_wakeups = allows k.tellers opening_words words_after (MayStep k) slots id m r is wakeups_at (λ n. n) LookWakeups
      (λ v. v < 2 ^ 63)
      (λ h l kn st lw. (
        refl,
        set-get_or (words_in h) wakeups_at 0,
        let z = small h l in let y = charged_le k h l in
            omega arith,
      ))

  pub add : (a : ℕ) → total added r.steps + a ≤ k.cap → Allows (BookRule k) slots id m completions_at
      (λ n. (n + a) % 2 ^ 64)
      (adding (step slots completions_at a 0 none) m)
  add a room s kept deep at lw =
      let z = allows k.tellers opening_words words_after (MayStep k) slots id m r is completions_at
      (λ n. (n + a) % 2 ^ 64)
      (λ v. Add a v) (λ v. Unit {0})
      (λ h l kn st low'. let b = small h l in
      let fits : (completions_in h + a) % 2 ^ 64 ≡ completions_in h + a = omega arith in (
        (refl, subst (λ (x : List BookStep). total added x + a ≤ k.cap) st room),
        ap (set (words_in h) completions_at) fits,
        tt,
      )) s
      kept deep at lw in
      (z.0, z.1, z.2, z.3, z.4.0)

  pub advance : (start end seen : ℕ) (before : List BookStep) → r.steps ≡ LookCompletions seen ∷ before → start < end
      → end ≤ start + 8 → end ≤ seen
      → Allows (BookRule k) slots id m wakeups_at (λ n. either (eqb n start) end n)
      (advancing (step slots wakeups_at start end none) m)
  advance start end seen before looked less short le s kept deep at lw =
      let z = allows k.tellers opening_words words_after (MayStep k) slots id m r is wakeups_at
      (λ n. either (eqb n start) end n) (λ v. Advance start end v) (λ v. Unit {0})
      (λ h l kn st low'. let b = saw k r.number seen before h l (sym st ∙ looked) in let w : ℕ = wakeups_in h in (
        (refl, less, short, omega arith),
        ap (set (words_in h) wakeups_at) (exchanged w start end (λ (x : ℕ). x ≡ exchange_to start end w)
            (λ e. sym (moves start end w e)) (λ ne. sym (misses start end w ne))),
        tt,
      )) s kept deep at lw in
      (z.0, z.1, z.2, z.3, z.4.0)
