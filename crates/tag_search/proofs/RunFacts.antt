-- A batch get over a shared map adds the tags that it won to its caller's held set, and keeps the rest.
use Rattle.std.specs.Prelude.{◌%◌, ◌*◌, ◌+◌, ◌-◌, ◌<◌, ◌^◌, ◌∷◌, ◌≡◌, ◌≤◌}
use Rattle.tag_search.proofs.Uses.{[], and_le_l, and_mod, and_zero_l, ap, arith, batch_over, batch_passed, batch_won, bit_and, bit_at, bit_at-shr, bit_at_above, cases_lt, Claimed, count_of_run, count_ones, count_ones-zero, div-mul-le_self, held_with_run, IfSome, IsBatchSearch, IsBatchVisit}
use Rattle.tag_search.proofs.Uses.{IsSweptLook, joined, Layout, List, Look, mod-eq-sub-div-mul, mul-mod_left, no_run, None, ones_cat, Option, place_of, place_of-tag_at, pow_pos, Record, record_after, record_after_all, refl, run_lost, run_mask, run_taken, run_won, Some, subst, swept_look, sym}
use Rattle.tag_search.proofs.Uses.{tag_at, without, Word, word_bits, word_depth, word_of, word_of-tag_at, WordStep, ℕ, ⊎_elim, ◌∙◌}
use Rattle.tag_search.proofs.Runs.{run_below}
use Rattle.tag_search.proofs.SharedFacts.{Took, TookNone, took_more, took_none, took_look, sweep_took, took_lost}

-- the bits of a run that were won, shifted back to their places, are the mask that was won
module _ (n place found : ℕ) where
  abbrev taken : ℕ
  taken = without (run_mask n place) found

  low : taken % 2 ^ place ≡ 0
  low =
      and_mod (run_mask n place) (2 ^ 64 - 1 - found) place
      ∙ ap (λ (x : ℕ). bit_and x ((2 ^ 64 - 1 - found) % 2 ^ place)) (mul-mod_left (2 ^ n - 1) (2 ^ place))
      ∙ and_zero_l ((2 ^ 64 - 1 - found) % 2 ^ place)

  back : run_won n place found * 2 ^ place ≡ taken
  back = let none = low in let most = div-mul-le_self taken (2 ^ place) in
      let rest = mod-eq-sub-div-mul taken (2 ^ place) in omega arith

  as_many : count_ones taken ≡ count_ones (run_won n place found)
  as_many =
      let b : ℕ = run_won n place found in let e : taken ≡ b * 2 ^ place + 0 = let z = back in omega arith in
      let sum = ones_cat place b 0 (pow_pos place) in let none = count_ones-zero in ap count_ones e ∙ sum ∙ omega arith

  -- a bit won is a place within the word's depth
  pub inside : (depth k : ℕ) → place + n ≤ depth → bit_at (run_won n place found) k ≡ 1 → place + k < depth
  inside depth k fits one = ⊎_elim (λ (h : place + k < depth). h)
      (λ (past : depth ≤ place + k). absurd (
      let small : taken < 2 ^ depth = let a = and_le_l (run_mask n place) (2 ^ 64 - 1 - found) in
      let b = run_below n place depth fits in omega arith in
      let here : bit_at taken (place + k) ≡ 1 = sym (bit_at-shr taken place k) ∙ one in
      let none = bit_at_above taken depth (place + k) small past in omega arith)) (cases_lt (place + k) depth)

-- the held set with the run won in a word, if there is one
abbrev run_at : ℕ → Option (ℕ × ℕ) → List ℕ → List ℕ
run_at i None held = held
run_at i (Some won) held = joined held i (won.1 * 2 ^ won.0)

-- the run is below the depth of its word
abbrev pub IsBelow : ℕ → ℕ × ℕ → Type 0
IsBelow depth won = (won.0 < depth) × ((k : ℕ) → bit_at won.1 k ≡ 1 → won.0 + k < depth)

-- the caller won this run of the word, below the depth, if there is one, and nothing else
abbrev TookRun : {R : Type 0} → ℕ → ℕ → Option (ℕ × ℕ) → Record R → Record R → Type 0
TookRun depth i answer old new = Took (run_at i answer) (count_of_run answer) (IfSome answer (IsBelow depth)) old new

module _ {R : Type 0} (depth i : ℕ) where
  swept_took : {found : ℕ} {steps : List WordStep} (r : Record R) → IsSweptLook i found steps
      → TookNone r (record_after_all steps r)
  swept_took {found = found} r (swept_look {sweep = sweep} is small) =
      took_more r sweep (Look i found ∷ []) (sweep_took r is) (took_look i found (record_after_all sweep r))

  claim_won : (n place found : ℕ) (r : Record R) → place < depth → place + n ≤ depth
      → TookRun depth i (Some (place, run_won n place found)) r
      (record_after (Word (Claimed i (run_mask n place) found)) r)
  claim_won n place found r first fits = record {
    shape = refl;
    number = refl;
    held = ap (joined r.held i) (sym (back n place found));
    won = ap (λ (x : ℕ). r.won + x) (as_many n place found);
    back = omega arith;
    fact = (first, λ k one. inside n place found depth k fits one);
  }

  -- a visit wins the run that it answers, and nothing else
  visit_took_run : {n : ℕ} {steps : List WordStep} {answer : Option (ℕ × ℕ)} (r : Record R)
      → IsBatchVisit i depth n steps answer → TookRun depth i answer r (record_after_all steps r)
  visit_took_run r (no_run sweep none) = swept_took r sweep
  visit_took_run {n = n} r (run_lost {place = place} {steps = steps} next sweep run none) =
      took_more r steps (Claimed i (run_mask n place) next ∷ []) (swept_took r sweep)
      (took_lost i (run_mask n place) next (record_after_all steps r) none)
  visit_took_run {n = n} r (run_taken {place = place} {steps = steps} next sweep run some) =
      took_more r steps (Claimed i (run_mask n place) next ∷ []) (swept_took r sweep)
      (claim_won n place next (record_after_all steps r) run.first.within run.fits)

-- as `GainsRun`, for the records alone, with tags of one word
abbrev pub WonRun : {R : Type 0} → Layout → Option (ℕ × ℕ) → Record R → Record R → Type 0
WonRun l answer old new = Took (held_with_run l answer) (count_of_run answer)
    (IfSome answer (λ won. IsBelow (word_depth l (word_of l won.0)) (place_of l won.0, won.1))) old new

module _ {R : Type 0} (l : Layout) where
  won_run : (i place bits : ℕ) (r s : Record R) → TookRun (word_depth l i) i (Some (place, bits)) r s
      → WonRun l (Some (tag_at l i place, bits)) r s
  won_run i place bits r s took =
      let near : place < word_depth l i = took.fact.0 in let small : place < word_bits l = omega arith in
      let word = word_of-tag_at l i place small in let at = place_of-tag_at l i place small in record {
        shape = took.shape;
        number = took.number;
        held = took.held ∙ sym (λ z. joined r.held (word z) (bits * 2 ^ at z));
        won = took.won;
        back = took.back;
        fact = subst (λ (w : ℕ). IsBelow (word_depth l w) (place_of l (tag_at l i place), bits)) (sym word)
            (subst (λ (p : ℕ). IsBelow (word_depth l i) (p, bits)) (sym at) took.fact);
      }

  -- a batch search wins the tags that it answers, and nothing else
  pub batch_wins : {n : ℕ} {is : List ℕ} {steps : List WordStep} {answer : Option (ℕ × ℕ)} (r : Record R)
      → IsBatchSearch l n is steps answer → WonRun l answer r (record_after_all steps r)
  batch_wins r batch_over = took_none r
  batch_wins r (batch_won {i = i} {steps = steps} {place = place} {bits = bits} v) =
      won_run i place bits r (record_after_all steps r) (visit_took_run (word_depth l i) i r v)
  batch_wins r (batch_passed {i = i} {steps = steps} {rest = rest} v search) =
      took_more r steps rest (visit_took_run (word_depth l i) i r v) (batch_wins (record_after_all steps r) search)
