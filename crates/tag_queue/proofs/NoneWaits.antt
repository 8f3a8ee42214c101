-- Of hands that wait in no set none waits.
use Rattle.std.specs.Prelude.{◌+◌, ◌∷◌, ◌≡◌, ◌↔◌, cond, count_by}
use Rattle.tag_queue.proofs.Uses.{[], All, arith, false, Hand, List, Ordinary, refl, Reserved, suc, ℕ, ⊎_elim, ◌∙◌}
use Rattle.std.proofs.Common.{ne_eqb}
use Rattle.std.proofs.lemmas.List.Sums.{sum_by-cons}
use Rattle.std.specs.Int.{bit_at}
use Rattle.tag_pool.specs.Gathering.{numbers_of}
use Rattle.tag_pool.specs.Hands.{number_of}
use Rattle.tag_pool.specs.Resizing.{has_bit, HaveWaiters, Waits}
use Rattle.tag_queue.specs.Bell.{WaitsNowhere}

module _ {R : Type 0} (mask : ℕ) where
  none_in : (hands : List (Hand R)) → All WaitsNowhere hands
      → All (λ hand. (bit_at mask (number_of hand) ≡ 1) ↔ Waits hand) hands
      → count_by (has_bit mask) (numbers_of hands) ≡ 0
  none_in [] up is = refl
  none_in (hand ∷ hands) up is =
      let mine = up 0 hand (omega arith) in let its = is 0 hand (omega arith) in
      let off : has_bit mask (number_of hand) ≡ false = ne_eqb (bit_at mask (number_of hand)) 1
      (λ on. ⊎_elim (λ now. mine Ordinary now) (λ now. mine Reserved now) (its.0 on)) in
      let rest = none_in hands (λ i d low. up (suc i) d (omega arith)) (λ i d low. is (suc i) d (omega arith)) in
      sum_by-cons (λ (n : ℕ). cond {A = ℕ} (has_bit mask n) 1 0) (number_of hand) (numbers_of hands)
      ∙ (λ j. cond {A = ℕ} (off j) 1 0 + rest j)

pub none_waits : {R : Type 0} (hands : List (Hand R)) → All WaitsNowhere hands → (count : ℕ) → HaveWaiters hands count
    → count ≡ 0
none_waits hands up count are = are.count_is ∙ none_in are.mask hands up are.mask_is
