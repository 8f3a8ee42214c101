-- Whether a hand holds a tag, as a test.
use Rattle.std.proofs.Common.{◌≡◌, ℕ, Bool, true, false, not, ◌&&◌, ◌||◌, nat_eq, nat_lt, ⊎_elim, eq-eqb, eqb-true, refl, sym}
use Rattle.tag_board.proofs.Uses.{ltb-true, lt-ltb, and_parts, and_from, or_cases, or_left, or_right, both_ways, not-true, not_from_false, false_from_ne_true, tag_bit, Hand, Holds, split_of, HoldsMore, HoldsLess, HoldsSame, kind_of, number_in_set, holds, record_in}

-- two tests that imply each other are equal
pub same_test : (a b : Bool) → (a ≡ true → b ≡ true) → (b ≡ true → a ≡ true) → a ≡ b
same_test true true there back = refl
same_test true false there back = sym (there refl)
same_test false true there back = back refl
same_test false false there back = refl

-- the test is true of exactly the named tags
abbrev pub Names : (ℕ → Bool) → (ℕ → Type 0) → Type 0
Names test named = (tag : ℕ) → (test tag ≡ true → named tag) × (named tag → test tag ≡ true)

module _ {R : Type 0} where
  -- the test is true of exactly the tags that the hand holds
  pub holds_true : (hand : Hand R) (tag : ℕ) → holds hand tag ≡ true → Holds hand tag
  holds_true hand tag e =
      let r = record_in hand (kind_of (split_of hand) tag) in let n : ℕ = number_in_set (split_of hand) tag in
      let both = and_parts (nat_lt n r.shape.layout.depth) (nat_eq (tag_bit r.shape.layout r.held n) 1) e in
      (ltb-true n r.shape.layout.depth both.0, eqb-true (tag_bit r.shape.layout r.held n) 1 both.1)

  pub true_holds : (hand : Hand R) (tag : ℕ) → Holds hand tag → holds hand tag ≡ true
  true_holds hand tag h =
      let r = record_in hand (kind_of (split_of hand) tag) in let n : ℕ = number_in_set (split_of hand) tag in
      and_from (nat_lt n r.shape.layout.depth) (nat_eq (tag_bit r.shape.layout r.held n) 1)
      (lt-ltb n r.shape.layout.depth h.0) (eq-eqb (tag_bit r.shape.layout r.held n) 1 h.1)

  pub not_holds : (hand : Hand R) (tag : ℕ) → ¬ (Holds hand tag) → holds hand tag ≡ false
  not_holds hand tag free = false_from_ne_true (holds hand tag) (λ e. free (holds_true hand tag e))

  module _ (old new : Hand R) (test : ℕ → Bool) (named : ℕ → Type 0) (names : Names test named) where
    pub holds_more : HoldsMore named old new → (tag : ℕ) → holds new tag ≡ (holds old tag || test tag)
    holds_more more tag = same_test (holds new tag) (holds old tag || test tag)
        (λ e. ⊎_elim (λ (h : Holds old tag). or_left (holds old tag) (test tag) (true_holds old tag h))
        (λ (n : named tag). or_right (holds old tag) (test tag) ((names tag).1 n))
        (more.none_else tag (holds_true new tag e)))
        (λ e. ⊎_elim (λ (h : holds old tag ≡ true). true_holds new tag (more.kept tag (holds_true old tag h)).0)
        (λ (t : test tag ≡ true). true_holds new tag (more.joined tag ((names tag).0 t)))
        (or_cases (holds old tag) (test tag) e))

    pub holds_less : HoldsLess named old new → (tag : ℕ) → holds new tag ≡ (holds old tag && not (test tag))
    holds_less less tag = same_test (holds new tag) (holds old tag && not (test tag))
        (λ e. let h = holds_true new tag e in
        and_from (holds old tag) (not (test tag)) (true_holds old tag (less.none_else tag h))
        (not_from_false (test tag) (false_from_ne_true (test tag) (λ t. less.gone tag ((names tag).0 t) h))))
        (λ e. let both = and_parts (holds old tag) (not (test tag)) e in
        true_holds new tag (less.kept tag (λ n. both_ways (test tag) (not-true (test tag) both.1) ((names tag).1 n))
        (holds_true old tag both.0)).0)

  pub holds_same : (old new : Hand R) → HoldsSame old new → (tag : ℕ) → holds new tag ≡ holds old tag
  holds_same old new same tag = same_test (holds new tag) (holds old tag)
      (λ e. true_holds old tag (same.none_else tag (holds_true new tag e)))
      (λ e. true_holds new tag (same.kept tag (holds_true old tag e)).0)
