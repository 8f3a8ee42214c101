-- What is noted of a berth.
use Rattle.std.specs.Prelude.{◌+◌, ◌<◌, ◌^◌, ◌≡◌, ◌≢◌, ◌≤◌, ◌⊎◌, slice_index}
use Rattle.std.proofs.Common.{length, set}
use Rattle.std.proofs.lemmas.Bool.{false≢true}
use Rattle.std.proofs.lemmas.List.{get_or-set_same, get_or-set_other}
use Rattle.tag_bell.proofs.Uses.{ap, arith, Berth, bit_at, bit_at-lt, bit_at-pow_other, bit_at_or, bit_or, Bool, cond, count_ones, false, inl, inr, IsListed, IsListedAs, IsTrue, List, Listed, Listener, or_zero_r, refl, same_waiter, Sleeper, subst, sym, Told, true, Up, Waiter, ℕ, ⊎_elim, ◌∙◌}
use Rattle.tag_core.proofs.Berths.{same_waiter-is}
use Rattle.tag_core.proofs.ListedBits.{with-in}
use Rattle.tag_bell.specs.Lines.{IsNoted, listed_bit}
use Rattle.tag_bell.proofs.Ones.{ones_with}

-- a mask that this leaves as it is
pub none_marked : (mask bit : ℕ) → bit ≡ 0 → mask ≡ bit_or mask bit
none_marked mask bit none = sym (ap (bit_or mask) none ∙ or_zero_r mask)

-- the mask has the bit of this number unless the berth is not listed as this waiter; all others are as they were
pub record IsMarked (waiter : Waiter) (number : ℕ) (berth : Berth) (old new : ℕ) : Type 0 where
  pub rest : (e : ℕ) → e ≢ number → bit_at new e ≡ bit_at old e
  pub other : bit_at new number ≢ 1 → ¬ IsListed (same_waiter waiter) berth

-- if it is listed, then with this turn
abbrev pub HasTurn : ℕ → Berth → Type 0
HasTurn turn Up = Unit {0}
HasTurn turn (Listed w t) = t ≡ turn
HasTurn turn (Told w t) = Unit {0}

pub any_turn : (turn : ℕ) (b : Berth) → ((w : Waiter) (t : ℕ) → ¬ (b ≡ Listed w t)) → HasTurn turn b
any_turn turn Up not = tt
any_turn turn (Listed w t) not = absurd (not w t refl)
any_turn turn (Told w t) not = tt

bit_if : (number : ℕ) (b : Bool) → ((cond b (2 ^ number) 0 ≡ 2 ^ number) × IsTrue b)
    ⊎ ((cond b (2 ^ number) 0 ≡ 0) × ¬ IsTrue b)
bit_if number true = inl (refl, refl)
bit_if number false = inr (refl, λ no. false≢true no)

module _ (waiter : Waiter) (number : ℕ) where
  its_bit : (b : Berth) → ((listed_bit waiter number b ≡ 2 ^ number) × IsListed (same_waiter waiter) b)
      ⊎ ((listed_bit waiter number b ≡ 0) × ¬ IsListed (same_waiter waiter) b)
  its_bit Up = inr (refl, λ no. no)
  its_bit (Listed w turn) = bit_if number (same_waiter waiter w)
  its_bit (Told w turn) = inr (refl, λ no. no)

  -- it is listed with the turn of its berth
  with_turn : (turn : ℕ) (b : Berth) → HasTurn turn b → IsListed (same_waiter waiter) b → IsListedAs waiter turn b
  with_turn turn Up has is = is
  with_turn turn (Listed w t) has is = (sym (same_waiter-is waiter w is), has)
  with_turn turn (Told w t) has is = is

  module _ (b : Berth) (old new : ℕ) (is : new ≡ bit_or old (listed_bit waiter number b)) where
    pub marked : IsMarked waiter number b old new
    marked = ⊎_elim
        (λ one. subst (λ (mask : ℕ). IsMarked waiter number b old mask) (sym (is ∙ ap (bit_or old) one.0))
        (record { rest = others; other = λ off. absurd (off (with-in old number)) }))
        (λ none. subst (λ (mask : ℕ). IsMarked waiter number b old mask)
        (none_marked old (listed_bit waiter number b) none.0 ∙ sym is)
        (record { rest = λ e ne. refl; other = λ off. none.1 })) (its_bit b)
      where
        others : (e : ℕ) → e ≢ number → bit_at (bit_or old (2 ^ number)) e ≡ bit_at old e
        others e ne = let both = bit_at_or old (2 ^ number) e in let off = bit_at-pow_other number e ne in
            let low = bit_at-lt old e in omega arith

    -- with its turn, if it had no bit
    pub noted : (was turns : List ℕ) → bit_at old number ≡ 0
        → ((e : ℕ) → e ≢ number → slice_index turns e ≡ slice_index was e)
        → HasTurn (slice_index turns number) b → IsNoted waiter number b old was new turns
    noted was turns clear rest has = record {
      rest = λ e ne. (marked.rest e ne, rest e ne);
      listed = λ on. with_turn (slice_index turns number) b has (⊎_elim (λ one. one.1)
          (λ none. let same = ap (λ (mask : ℕ). bit_at mask number)
          (none_marked old (listed_bit waiter number b) none.0 ∙ sym is) in absurd (omega arith)) (its_bit b));
      other = marked.other;
    }

pub noted_marks : (waiter : Waiter) (number : ℕ) (b : Berth) (old : ℕ) (was : List ℕ) (new : ℕ) (turns : List ℕ)
    → IsNoted waiter number b old was new turns → IsMarked waiter number b old new
noted_marks waiter number b old was new turns noted =
    record { rest = λ e ne. (noted.rest e ne).0; other = noted.other }

-- at most one of two masks gets one bit more
pub few_marked : (sleepers listeners s l number : ℕ) (b : Berth)
    → (bit_at sleepers number ≡ 0) × (bit_at listeners number ≡ 0)
    → s ≡ bit_or sleepers (listed_bit Sleeper number b) → l ≡ bit_or listeners (listed_bit Listener number b)
    → count_ones s + count_ones l ≤ count_ones sleepers + count_ones listeners + 1
few_marked sleepers listeners s l number Up clear is are = let a = ap count_ones (is ∙ or_zero_r sleepers) in
    let b = ap count_ones (are ∙ or_zero_r listeners) in omega arith
few_marked sleepers listeners s l number (Listed Sleeper turn) clear is are = let a = ap count_ones is in
    let one = ones_with sleepers number clear.0 in let b = ap count_ones (are ∙ or_zero_r listeners) in omega arith
few_marked sleepers listeners s l number (Listed Listener turn) clear is are =
    let a = ap count_ones (is ∙ or_zero_r sleepers) in let b = ap count_ones are in
    let one = ones_with listeners number clear.1 in omega arith
few_marked sleepers listeners s l number (Told w turn) clear is are =
    let a = ap count_ones (is ∙ or_zero_r sleepers) in let b = ap count_ones (are ∙ or_zero_r listeners) in omega arith

-- a turn that was stored
module _ (was : List ℕ) (number turn : ℕ) where
  pub stored_rest : (e : ℕ) → e ≢ number → slice_index (set was number turn) e ≡ slice_index was e
  stored_rest e ne = get_or-set_other was number e turn 0 ne

  pub stored_here : number < length was → turn ≡ slice_index (set was number turn) number
  stored_here low = sym (get_or-set_same was number turn 0 low)
