-- The lowest bit is one of them, and each of the others is compared with the one kept.
use Rattle.std.specs.Prelude.{◌+◌, ◌<◌, ◌≡◌, ◌≢◌, ◌≤◌, slice_index}
use Rattle.std.specs.Int.{w64}
use Rattle.std.proofs.lemmas.Nat.Bits.{bit_at-trailing_zeros}
use Rattle.tag_bell.proofs.Uses.{arith, bit_at, dec_le, dite, List, MAX_CALLERS, shr_and_one, subst, sym, ℕ, ℕ_discrete, ◌∙◌}
use Rattle.tag_bell.proofs.telling.earliest.Goals.{then-callers-number-eq1+then-turns-number, else-callers-number-eq1, else-callers-number-eq1-via-then-callers-number-eq1+else-turns-number, else-callers-number-eq1-via-else-callers-number-eq1}
use Rattle.tag_bell.proofs.telling.earliest.Goals as goal

-- no caller below a number has a lower turn than this one
abbrev Leads : ℕ → List ℕ → ℕ → ℕ → Type 0
Leads callers turns first n = (e : ℕ) → e < n → bit_at callers e ≡ 1 → slice_index turns first ≤ slice_index turns e

leads_on : (callers : ℕ) (turns : List ℕ) (first n next : ℕ) → Leads callers turns first n
    → slice_index turns next ≤ slice_index turns first → (bit_at callers n ≡ 1 → slice_index turns next ≤ slice_index turns n)
    → Leads callers turns next (n + 1)
leads_on callers turns first n next before less here e low on = dite (ℕ_discrete e n)
    (λ (it : e ≡ n). subst (λ (z : ℕ). bit_at callers z ≡ 1 → slice_index turns next ≤ slice_index turns z) (sym it) here on)
    (λ (ne : e ≢ n). let was = before e (omega arith) on in omega arith)

pub loop-number-init : goal.loop-number-init
loop-number-init c = let tz = bit_at-trailing_zeros w64 c.args.callers (omega arith) (omega arith) in
    record { low = tz.0; among = tz.1; first = λ e low on. absurd (omega arith) }

pub loop-number-preserved : goal.loop-number-preserved
loop-number-preserved c =
    let callers : ℕ = c.args.callers in let turns : List ℕ = c.args.turns.now in let n : ℕ = c.loop-number.number in
    let first : ℕ = c.loop-number.first in let before = c.loop-number.invariant in let test = c.loop-number-test.true in
    let on = shr_and_one callers n in elim c.if-callers-number-eq1.branch [
      | then-callers-number-eq1+then-turns-number w ↦ let less = w.if-turns-number.true in let set = w.if-callers-number-eq1.true in
          subst (λ (z : ℕ). record { low : z < MAX_CALLERS; among : bit_at callers z ≡ 1; first : Leads callers turns z (n + 1) })
          (sym w.first-is) (record {
            low = omega arith;
            among = sym on ∙ set;
            first = leads_on callers turns first n n before.first (omega arith) (λ is. omega arith);
          })
      | else-callers-number-eq1 w ↦
          let here : bit_at callers n ≡ 1 → slice_index turns first ≤ slice_index turns n =
          elim w.else-callers-number-eq1.branch [
            | else-callers-number-eq1-via-then-callers-number-eq1+else-turns-number v ↦
                let less = v.if-turns-number.false in λ is. omega arith
            | else-callers-number-eq1-via-else-callers-number-eq1 v ↦ λ is. absurd (v.if-callers-number-eq1.false (on ∙ is))
          ] in
          subst (λ (z : ℕ). record { low : z < MAX_CALLERS; among : bit_at callers z ≡ 1; first : Leads callers turns z (n + 1) })
          (sym w.first-is)
          (record { low = before.low; among = before.among; first = leads_on callers turns first n first before.first (omega arith) here })
    ]

pub returns-clause-first : goal.returns-clause-first
returns-clause-first c e on = c.loop-number.invariant.first e below on
  where
    below : e < c.loop-number.number
    below = let test = c.loop-number-test.false in dite (dec_le c.bits_of-number-end.result e)
        (λ (high : c.bits_of-number-end.result ≤ e). let off = c.bits_of-number-end.ensures.above e high in
        absurd (omega arith))
        (λ (under : ¬ (c.bits_of-number-end.result ≤ e)). omega arith)
