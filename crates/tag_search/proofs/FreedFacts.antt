-- The tags that a caller's sweeps freed are those that its port counted.
use Rattle.std.specs.Prelude.{◌*◌, ◌+◌, ◌-◌, ◌<◌, ◌^◌, ◌∷◌, ◌≡◌, ◌≤◌, ◌⊎◌}
use Rattle.tag_search.proofs.Uses.{[], AddsAll, AddsThrough, AllByRecursion, ap, arith, bit_at, bit_at-lt, Caller, Claimed, count_ones, div-le_self, FindsWord, freed_of, Give, held_of, inl, inr, Keep, latest_after_all, latest_in, latest_of, Layout, layout_of, left_free, length, List, Look}
use Rattle.tag_search.proofs.Uses.{LookAside, Put, Record, record_after, record_after_all, record_of, refl, Shared, Spill, spilled_by, suc, Swap, sym, total, Word, word_bits, word_bits-le, words, WordStep, zero, ℕ, ◌∙◌}
use Rattle.sums.proofs.Laws.{sum_below-bound}
use Rattle.tag_model.proofs.MaskFacts.{sum_below-bits}
use Rattle.tag_search.specs.Freed.{spilled}

-- steps on words add what they spill to what their caller has freed
total_after : {R : Type 0} (steps : List WordStep) (r : Record R)
    → total spilled_by (record_after_all steps r).steps ≡ total spilled steps + total spilled_by r.steps
total_after [] r = omega arith
total_after (step ∷ steps) r = let rest = total_after steps (record_after (Word step) r) in omega arith

-- the latest sweep after steps on words, from the one before them
latest_after-record : {R : Type 0} (steps : List WordStep) (r : Record R)
    → latest_in (record_after_all steps r).steps ≡ latest_after_all steps (latest_in r.steps)
latest_after-record [] r = refl
latest_after-record (step ∷ steps) r = latest_after-record steps (record_after (Word step) r)

-- if the steps freed any tag, their latest sweep does not depend on the one before them
latest_of_some : (steps : List WordStep) (one other : ℕ × ℕ) → 1 ≤ total spilled steps
    → latest_after_all steps one ≡ latest_after_all steps other
latest_of_some [] one other some = absurd (omega arith)
latest_of_some (Spill i mask found ∷ steps) one other some = refl
latest_of_some (Look i found ∷ steps) one other some = latest_of_some steps one other (omega arith)
latest_of_some (LookAside i found ∷ steps) one other some = latest_of_some steps one other (omega arith)
latest_of_some (Claimed i mask found ∷ steps) one other some = latest_of_some steps one other (omega arith)
latest_of_some (Give i mask found ∷ steps) one other some = latest_of_some steps one other (omega arith)
latest_of_some (Put i mask found ∷ steps) one other some = latest_of_some steps one other (omega arith)
latest_of_some (Swap i found ∷ steps) one other some = latest_of_some steps one other (omega arith)
latest_of_some (Keep i mask ∷ steps) one other some = latest_of_some steps one other (omega arith)

-- steps that free no tag leave what their caller has freed
pub freed_same : {R : Type 0} (old new : Caller R) (steps : List WordStep) → AddsAll steps old new
    → total spilled steps ≡ 0 → freed_of new ≡ freed_of old
freed_same old new steps all none =
    let sum = ap (λ (r : Record _). total spilled_by r.steps) all.known ∙ total_after steps (record_of old) in omega arith

-- a caller that freed no tag leaves none free
pub none_left : {R : Type 0} (old new : Caller R) → freed_of new ≡ freed_of old → 0 ≡ left_free old new
none_left old new same = omega arith

-- what is left free since a caller had freed no further tag
pub left_since : {R : Type 0} (old middle new : Caller R) → freed_of middle ≡ freed_of old
    → left_free middle new ≡ left_free old new
left_since old middle new same =
    ap (λ (n : ℕ). (freed_of new - n) - held_of new (latest_in (record_of new).steps)) same

zero_or : (n : ℕ) → (n ≡ 0) ⊎ (1 ≤ n)
zero_or zero = inl refl
zero_or (suc n) = inr (omega arith)

few_ones : (mask : ℕ) → mask < 2 ^ 64 → count_ones mask ≤ 64
few_ones mask fits =
    let each = sum_below-bound (bit_at mask) 64 1 (λ k _. let b = bit_at-lt mask k in omega arith) in
    let same = sum_below-bits 64 mask fits in omega arith

spilled_most : (step : WordStep) → FindsWord step → spilled step ≤ 64
spilled_most (Spill i mask found) fits = few_ones mask fits
spilled_most (Look i found) fits = omega arith
spilled_most (LookAside i found) fits = omega arith
spilled_most (Claimed i mask found) fits = omega arith
spilled_most (Give i mask found) fits = omega arith
spilled_most (Put i mask found) fits = omega arith
spilled_most (Swap i found) fits = omega arith
spilled_most (Keep i mask) fits = omega arith

-- a step spills at most one word
total_most : (steps : List WordStep) → AllByRecursion FindsWord steps → total spilled steps ≤ 64 * length steps
total_most [] finds = omega arith
total_most (step ∷ steps) finds = let one = spilled_most step finds.0 in let rest = total_most steps finds.1 in
    omega arith

-- a get makes so few steps that the count has room for what they spill
few_steps : (l : Layout) → l.depth ≤ 10240 → l.shift ≤ 6
    → 64 * (2 * l.depth + 5 * words l + 3 * (word_bits l + 4)) < 2 ^ 64
few_steps l small narrow = let bits = word_bits-le l narrow in
    let some = div-le_self (l.depth + word_bits l - 1) (word_bits l) in omega arith

module _ {R : Type 0} (caller : Caller R) (old new : Shared R) (steps : List WordStep) (same : old.caller.now ≡ caller)
    (none : old.freed ≡ 0) (all : AddsThrough old steps new) where
  freed_is : freed_of new.caller.now ≡ total spilled steps + freed_of caller
  freed_is = ap (λ (r : Record R). total spilled_by r.steps) all.added.known
      ∙ total_after steps (record_of old.caller.now) ∙ ap (λ (n : ℕ). total spilled steps + n) (ap freed_of same)

  -- if the port counted any tag as freed, it knows its caller's latest sweep
  latest_is : 1 ≤ total spilled steps → latest_in (record_of new.caller.now).steps ≡ latest_of new
  latest_is some = ap (λ (r : Record R). latest_in r.steps) all.added.known
      ∙ latest_after-record steps (record_of old.caller.now)
      ∙ latest_of_some steps (latest_in (record_of old.caller.now).steps) (latest_of old) some ∙ sym all.latest

  -- what a new port counted, less what its caller holds of the latest sweep, is what the caller left free, if there
  -- were no more steps than a get makes
  pub left_is : (left : ℕ)
      → let l = layout_of old.map.now in length steps ≤ 2 * l.depth + 5 * words l + 3 * (word_bits l + 4)
      → left ≡ new.freed - held_of new.caller.now (latest_of new) → left ≡ left_free caller new.caller.now
  left_is left bound is =
      let most = total_most steps all.added.finds in
      let few = few_steps (layout_of old.map.now) old.map.now.small.0 old.map.now.small.1 in
      let count = all.freed (omega arith) in let sum = freed_is in
      elim (zero_or (total spilled steps)) [
        | inl unfreed ↦ omega arith
        | inr some ↦ (let held = ap (held_of new.caller.now) (latest_is some) in omega arith)
      ]
