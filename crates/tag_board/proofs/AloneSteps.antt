-- What one step of a set's only caller changes in it.
use Rattle.std.proofs.Common.{◌≡◌, ℕ, Bool, true, false, not, ◌&&◌, ◌||◌, ◌∷◌, cond, nat_eq, nat_lt, List, [], Some, None, refl, sym, ap, ◌∙◌}
use Rattle.tag_board.proofs.Uses.{bit_at-zero, Hint, Layout, Step, cells_left, words_left, places_of, pool_ext, or_false, and_true, and_false, set_left, post_in, take_in, untouched}
use Rattle.tag_core.specs.declared.step.Step.TheVariants.{Post, Take}
use Rattle.tag_search.proofs.AloneFacts.{EachFound}

or_true : (a : Bool) → (a || true) ≡ true
or_true true = refl
or_true false = refl

-- a number that becomes 1 at one tag, and one that becomes 0
posted_bit : (b : Bool) (x : ℕ) → nat_eq (cond b 1 x) 1 ≡ (nat_eq x 1 || b)
posted_bit true x = sym (or_true (nat_eq x 1))
posted_bit false x = sym (or_false (nat_eq x 1))

taken_bit : (b : Bool) (x : ℕ) → nat_eq (cond b 0 x) 1 ≡ (nat_eq x 1 && not b)
taken_bit true x = sym (and_false (nat_eq x 1))
taken_bit false x = sym (and_true (nat_eq x 1))

module _ (l : Layout) (hint : Hint) where
  -- each place of a map without steps is free
  blank_pool : places_of (words_left {R = ℕ} []) ≡ (untouched l false).pool
  blank_pool = pool_ext (places_of (words_left {R = ℕ} [])) (untouched l false).pool
      (λ i k. ap (λ (x : ℕ). nat_lt k 64 && nat_eq x 0) (bit_at-zero k) ∙ and_true (nat_lt k 64))
      (λ i k. ap (λ (x : ℕ). nat_lt k 64 && nat_eq x 1) (bit_at-zero k) ∙ and_false (nat_lt k 64))

  -- a set on which no step was made
  pub fresh : set_left l [] hint ≡ record (untouched l false) { hint = hint }
  fresh = λ j. record { layout = l; pool = blank_pool j; posted = λ tag. false; hint = hint }

  module _ (older : List (Step ℕ)) (number : ℕ) where
    pub post : (note value : ℕ) → set_left l (Post number note value ∷ older) hint
        ≡ post_in number (set_left l older hint)
    post note value = λ j. record (set_left l older hint) {
      posted = λ other. posted_bit (nat_eq other number) ((cells_left older).state other) j;
    }

    -- the exchange of a take finds what the older steps left
    pub take : (value : ℕ) → EachFound (Take number 1 (Some value) ∷ older)
        → ((set_left l older hint).posted number ≡ true)
        × (set_left l (Take number 1 (Some value) ∷ older) hint ≡ take_in number (set_left l older hint))
    take value found = (
      sym (ap (λ (n : ℕ). nat_eq n 1) found.0),
      λ j. record (set_left l older hint) {
        posted = λ other. taken_bit (nat_eq other number) ((cells_left older).state other) j;
      },
    )

    pub miss : EachFound {R = ℕ} (Take number 0 None ∷ older) → (set_left l older hint).posted number ≡ false
    miss found = sym (ap (λ (n : ℕ). nat_eq n 1) found.0)
