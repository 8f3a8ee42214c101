-- The number of tags that a hand holds is the number of ones in its masks.
use Rattle.std.proofs.Common.{◌≡◌, ℕ, ◌+◌, ◌<◌, ◌≤◌, Bool, false, cond, ◌&&◌, nat_eq, sym, ap, ◌∙◌, arith, ⊎_elim}
use Rattle.tag_board.proofs.Uses.{∥∥₁_elim, lt-ltb, le-ltb, cases_lt, bit_at-lt, sum_below, sum_below-same, sum_below-split, count_below, Caller, Record, Shape, record_of, tag_bit, size_of, Hand, Kind, Ordinary, Pool, Reserved, IsPoolHandOf, caller_of, layout_of, reserved_of, total_of, split_of, kind_of, number_in_set, reserved_below, ordinary_above, record_in, has, holds, one_if-bit, le-sum_below}
use native.Mathlib.Nat.{ℕ_set}
use Rattle.tag_core.proofs.Ends.{by_tags}
use Rattle.tag_board.proofs.Ranges.{shape_there}

module _ {R : Type 0} where
  -- the tag's bit in the masks of a record, and the number of tags
  abbrev bit_in : Record R → ℕ → ℕ
  bit_in r n = tag_bit r.shape.layout r.held n

  abbrev depth_in : Record R → ℕ
  depth_in r = r.shape.layout.depth

  -- the ones in a caller's masks, summed over its tags
  bits_are : (c : Caller R) → size_of (record_of c).held ≡ sum_below (bit_in (record_of c)) (depth_in (record_of c))
  bits_are c = ∥∥₁_elim (c.shown (record_of c) c.knows) (ℕ_set _ _)
      (λ h. by_tags c.shape.value (record_of c).held h.known.held_wide h.known.within)

  has_bit : (r : Record R) (n : ℕ) → n < depth_in r → cond (has r n) 1 0 ≡ bit_in r n
  has_bit r n low = ap (λ (b : Bool). cond (b && nat_eq (bit_in r n) 1) 1 0) (lt-ltb n (depth_in r) low)
      ∙ one_if-bit (bit_in r n) (bit_at-lt _ _)

  -- as many tags of a set pass the test as the caller's masks have ones
  size_has : (c : Caller R) → count_below (has (record_of c)) (depth_in (record_of c)) ≡ size_of (record_of c).held
  size_has c = let r = record_of c in
      sum_below-same (λ n. cond (has r n) 1 0) (bit_in r) (depth_in r) (has_bit r) ∙ sym (bits_are c)

  -- a caller whose masks are zero has no tag
  has_none : (c : Caller R) → size_of (record_of c).held ≡ 0 → (n : ℕ) → has (record_of c) n ≡ false
  has_none c none n = let r = record_of c in ⊎_elim
      (λ (low : n < depth_in r). let most = le-sum_below (bit_in r) (depth_in r) n low in let all = bits_are c in
      let zero_bit : bit_in r n ≡ 0 = omega arith in
      ap (λ (b : Bool). b && nat_eq (bit_in r n) 1) (lt-ltb n (depth_in r) low) ∙ ap (λ (b : ℕ). nat_eq b 1) zero_bit)
      (λ (high : depth_in r ≤ n). ap (λ (b : Bool). b && nat_eq (bit_in r n) 1) (le-ltb n (depth_in r) high))
      (cases_lt n (depth_in r))

  -- a hand whose masks of both sets are zero holds no tag
  pub holds_none : (hand : Hand R) → size_of (record_in hand Ordinary).held ≡ 0
      → size_of (record_in hand Reserved).held ≡ 0 → (tag : ℕ) → holds hand tag ≡ false
  holds_none hand one other tag =
      let n : ℕ = number_in_set (split_of hand) tag in
      elim (kind_of (split_of hand) tag) as (λ (k : Kind). has (record_in hand k) n ≡ false) [
        | Ordinary ↦ has_none (caller_of hand Ordinary) one n
        | Reserved ↦ has_none (caller_of hand Reserved) other n
      ]

  module _ (pool : Pool R) (hand : Hand R) (own : IsPoolHandOf pool hand) where
    -- the test of a reserved tag is that of the reserved set, and the test of an ordinary tag that of the ordinary set
    holds_reserved : (tag : ℕ) → tag < reserved_of pool → holds hand tag ≡ has (record_in hand Reserved) tag
    holds_reserved tag low = let is = reserved_below (reserved_of pool) tag low in
        ap (λ (s : ℕ). has (record_in hand (kind_of s tag)) (number_in_set s tag)) own.2
        ∙ (λ j. has (record_in hand (is.kind j)) (is.number j))

    holds_ordinary : (n : ℕ) → holds hand (reserved_of pool + n) ≡ has (record_in hand Ordinary) n
    holds_ordinary n = let tag : ℕ = reserved_of pool + n in
        let is = ordinary_above (reserved_of pool) tag (omega arith) in
        let number : number_in_set (reserved_of pool) tag ≡ n = let e = is.number in omega arith in
        ap (λ (s : ℕ). has (record_in hand (kind_of s tag)) (number_in_set s tag)) own.2
        ∙ (λ j. has (record_in hand (is.kind j)) (number j))

    -- as many tags of the range pass the test as the masks of both sets have ones
    pub size_holds : count_below (holds hand) (total_of pool)
        ≡ size_of (record_in hand Ordinary).held + size_of (record_in hand Reserved).held
    size_holds =
        let r : ℕ = reserved_of pool in let n : ℕ = (layout_of pool Ordinary).depth in
        let split = sum_below-split (λ tag. cond (holds hand tag) 1 0) r n in
        let first = sum_below-same (λ tag. cond (holds hand tag) 1 0)
        (λ tag. cond (has (record_in hand Reserved) tag) 1 0) r
        (λ tag low. ap (λ (b : Bool). cond b 1 0) (holds_reserved tag low)) in
        let second = sum_below-same (λ k. cond (holds hand (r + k)) 1 0)
        (λ k. cond (has (record_in hand Ordinary) k) 1 0) n
        (λ k low. ap (λ (b : Bool). cond b 1 0) (holds_ordinary k)) in
        let deep = λ (kind : Kind). ap (λ (k : Shape). k.layout.depth) (shape_there pool hand own kind) in
        let one = ap (count_below (has (record_in hand Reserved))) (sym (deep Reserved ∙ pool.reserved_is))
        ∙ size_has (caller_of hand Reserved) in
        let other = ap (count_below (has (record_in hand Ordinary))) (sym (deep Ordinary))
        ∙ size_has (caller_of hand Ordinary) in
        omega arith
