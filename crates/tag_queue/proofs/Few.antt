-- How many members with numbers below a count there can be, and how many there are if each number is there.
use Rattle.std.specs.Prelude.{◌<◌, ◌≡◌, ◌≢◌, ◌≤◌, All, AllPairs}
use Rattle.std.proofs.Common.{ap, arith, Bool, cond, eq-eqb, get_or, length, List, nat_eq, ne_eqb, refl, suc, sym, zero, ℕ, ◌∙◌}
use mathlib.Core.Logic.{dite}
use mathlib.Core.Option.{some, some-injective}
use native.Mathlib.Decide.{dec_lt, ℕ_discrete}
use lib.ListN.{get_elem?}
use Rattle.step_ledger.proofs.Seats.{within}
use Rattle.step_ledger.specs.Gather.{HasAll}
use Rattle.sums.proofs.Laws.{sum_below-le, sum_below-none, sum_below-only, sum_below-same, sum_below-swap}
use Rattle.sums.specs.Below.{sum_below}

-- counted by number, each of several distinct numbers occurs at most once
module _ (number : ℕ → ℕ) where
  abbrev hits : ℕ → ℕ → ℕ
  hits c n = cond (nat_eq (number n) c) 1 0

  hit : (c n : ℕ) → number n ≡ c → hits c n ≡ 1
  hit c n e = ap (λ (b : Bool). cond b 1 0) (eq-eqb (number n) c e)

  miss : (c n : ℕ) → number n ≢ c → hits c n ≡ 0
  miss c n e = ap (λ (b : Bool). cond b 1 0) (ne_eqb (number n) c e)

  at_most_once : (count c : ℕ) → ((j k : ℕ) → j < k → k < count → number j ≢ number k) → sum_below (hits c) count ≤ 1
  at_most_once zero c differ = omega arith
  at_most_once (suc n) c differ = dite (ℕ_discrete (number n) c)
      (λ (e : number n ≡ c). let one = hit c n e in
      let none = sum_below-none (hits c) n (λ k less. miss c k (λ is. differ k n less (omega arith) (is ∙ sym e))) in
      omega arith)
      (λ (ne : number n ≢ c). let nothing = miss c n ne in
      let before = at_most_once n c (λ j k less low. differ j k less (omega arith)) in omega arith)

  few_below : (count most : ℕ) → ((n : ℕ) → n < count → number n < most)
      → ((j k : ℕ) → j < k → k < count → number j ≢ number k) → count ≤ most
  few_below count most low differ =
      let ones = sum_below-same (λ n. 1) (λ n. sum_below (λ c. hits c n) most) count
      (λ n less. sym (sum_below-only (λ c. hits c n) most (number n) (low n less) (λ c l ne. miss c n (λ e. ne (sym e)))
      ∙ hit (number n) n refl)) in
      let turned = sum_below-swap (λ c n. hits c n) count most in
      let less = sum_below-le (λ c. sum_below (hits c) count) (λ c. 1) most (λ c l. at_most_once count c differ) in
      let long = all_ones count in let wide = all_ones most in omega arith
    where
      all_ones : (n : ℕ) → sum_below (λ k. 1) n ≡ n
      all_ones zero = refl
      all_ones (suc n) = let before = all_ones n in omega arith

-- distinct numbers below a bound are at most that many
pub few_distinct : (numbers : List ℕ) (most : ℕ) → AllPairs (λ a b. a ≢ b) numbers → All (λ n. n < most) numbers
    → length numbers ≤ most
few_distinct numbers most differ low =
    few_below (λ n. get_or numbers n 0) (length numbers) most (λ n less. low n 0 less)
    (λ j k less l. differ j k 0 less l)

place_in : (ns : List ℕ) (count : ℕ) → HasAll ns count → (n : ℕ) → (i : ℕ) × (n < count → get_elem? ns i ≡ some n)
place_in ns count all n = dite (dec_lt n count)
    (λ (l : n < count). let h = all n l in (h.0, λ low. h.1)) (λ no. (0, λ low. absurd (no low)))

-- a list that has each number below a count has at least that many entries
pub enough : (ns : List ℕ) (count : ℕ) → HasAll ns count → count ≤ length ns
enough ns count all = few_below (λ n. (place_in ns count all n).0) count (length ns)
    (λ n less. within ns (place_in ns count all n).0 n ((place_in ns count all n).1 less))
    (λ j k less low e. let a = (place_in ns count all j).1 (omega arith) in let b = (place_in ns count all k).1 low in
    let same : j ≡ k = some-injective j k (sym a ∙ ap (λ (p : ℕ). get_elem? ns p) e ∙ b) in absurd (omega arith))
