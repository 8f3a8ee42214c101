-- What the book's last words say once all tellers are gathered.
use Rattle.std.specs.Prelude.{◌-◌, ◌^◌, ◌∷◌, ◌≡◌, ◌≤◌}
use Rattle.wake_book.proofs.Uses.{[], added, ap, arith, BookRule, BookStep, charged, completions_at, completions_in, covers, Final, gathered, get_elem?, get_or, HasAll, Limits, List, min, numbers, opening_words, own_steps, Record, Records, Seen, some, some-injective, some-ne-none, suc}
use Rattle.wake_book.proofs.Uses.{sum_below-bound, sum_over, sum_turned, sym, taken, total, totals, turned, wakeups_at, wakeups_in, zero, ℕ, ◌∙◌}
use Rattle.wake_book.specs.Charges.{words_after}
use Rattle.wake_book.specs.Charges.{MayStep}
use Rattle.wake_book.specs.Booked.{IsBooked}
use Rattle.wake_book.proofs.Counting.{capped, counted, tiles, charged_le, charges_le, taken_is}

-- an entry that is there is the one that a clause reads
pub read : (l : List ℕ) (i x : ℕ) → get_elem? l i ≡ some x → get_or l i 0 ≡ x
read [] i x e = absurd (some-ne-none x (sym e))
read (a ∷ l) zero x e = some-injective a x e
read (a ∷ l) (suc i) x e = read l i x e

pub booked : {S : Type 0} (k : Limits) → k.tellers ≤ 64 → k.cap ≤ 2 ^ 56
    → (id : ℕ) (v : Records BookStep) (ws : List ℕ) (xs : List S) (tellers : List (Record BookStep))
    (completions wakeups charges : ℕ)
    → Final (Seen (BookRule k) id v) ws xs → v.records.value ≡ turned tellers → HasAll (numbers tellers) k.tellers
    → charges ≡ min (sum_over (total charged) v.records.value) (2 ^ 64 - 1)
    → get_elem? ws completions_at ≡ some completions → get_elem? ws wakeups_at ≡ some wakeups
    → IsBooked k tellers record { counted = completions; charged = wakeups; charges = charges }
booked k few low id v ws xs tellers completions wakeups charges last is all sum at_completions at_wakeups =
    let g = gathered k.tellers opening_words words_after (MayStep k) id v ws xs tellers last is all in
    let h = g.history in let l = g.lawful in
    let c_is : completions ≡ completions_in h = sym (read ws completions_at completions at_completions)
    ∙ ap (λ (z : List ℕ). get_or z completions_at 0) g.words_are in
    let w_is : wakeups ≡ wakeups_in h = sym (read ws wakeups_at wakeups at_wakeups)
    ∙ ap (λ (z : List ℕ). get_or z wakeups_at 0) g.words_are in
    let n_is = g.sums (total added) in let n_all = counted k h l in
    let most = sum_below-bound (λ c. total added (own_steps c h)) k.tellers (2 ^ 56) (λ c _. let z = capped k h l c in
    omega arith) in
    let q_is = g.sums (total charged) in let q_all = totals k.tellers (MayStep k) charged h l in
    let q_most = charges_le k h l in let below = charged_le k h l in
    let same = ap (sum_over (total charged)) is ∙ sum_turned (total charged) tellers in record {
      history = h;
      lawful = l;
      lists = g.lists;
      counted = c_is ∙ sym n_all ∙ sym n_is;
      tiled = λ y. g.sums (total (covers y)) ∙ tiles k h l y ∙ ap (λ (z : ℕ). min 1 (z - y)) (sym w_is);
      taken = w_is ∙ sym (taken_is k h l) ∙ sym (totals k.tellers (MayStep k) taken h l) ∙ sym (g.sums (total taken));
      charges = (let q : sum_over (total charged) tellers ≤ wakeups_in h = omega arith in omega arith);
      within = omega arith;
    }
