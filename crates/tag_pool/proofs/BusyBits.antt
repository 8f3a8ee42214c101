-- The bits of the busy tags of both sets, put together in one list.
use Rattle.std.specs.Prelude.{if◌then◌else◌, ◌%◌, ◌&&◌, ◌+◌, ◌-◌, ◌/◌, ◌<◌, ◌≡◌, ◌≤◌}
use Rattle.tag_pool.specs.declared.side.Side.{Side}
use Rattle.tag_pool.specs.Lending.{side_of}
use Rattle.std.proofs.Common.{Bool, List, ap, arith, get_or, inl, inr, nat_eq, nat_lt, subst, sym, ℕ, ⊎_elim, ◌∙◌}
use Rattle.std.specs.Int.{bit_at}
use Rattle.std.proofs.lemmas.Nat.Bits.{bit_at-zero}
use Rattle.tag_pool.specs.Bits.{Marks, bit_in}
use Rattle.sums.specs.Below.{count_below, one_if}
use native.Mathlib.Decide.{dec_lt}
use mathlib.Core.Logic.{dite}
use Rattle.tag_pool.specs.declared.hand.Hand.{Hand}
use Rattle.tag_pool.specs.Hands.{Holds, IsHandOf, layout_of, reserved_of, split_of, total_of}
use Rattle.tag_pool.specs.Looks.{is_busy_in}
use Rattle.tag_pool.specs.Busy.{ListsBusy, ListsSet, is_busy_tag}
use Rattle.tag_pool.specs.declared.kind.Kind.{Kind}
use Rattle.std.proofs.lemmas.Bool.{le-ltb, lt-ltb}
use Rattle.tag_pool.specs.Sets.{number_in_set}
use Rattle.sums.proofs.Laws.{one_if-bit, one_if-le, sum_below-same, sum_below-split}
use Rattle.tag_pool.specs.declared.kind.Kind.TheVariants.{Ordinary, Reserved}
use Rattle.tag_pool.specs.Peeks.{PeeksBusy, PeeksSet}
use Rattle.tag_pool.specs.declared.pool.Pool.{Pool}
use Rattle.tag_pool.specs.Sides as side
use Rattle.tag_pool.proofs.Numbering.{IsReserved, IsOrdinary, stands}
use Rattle.tag_pool.proofs.Sizes.{held_low}

-- in a list of zeros every bit is 0
pub no_bit : (w : ℕ) (words : List ℕ) → ((i : ℕ) → get_or words i 0 ≡ 0) → (n : ℕ) → bit_in w words n ≡ 0
no_bit w words none n = ap (λ (x : ℕ). bit_at x (n % w)) (none (n / w)) ∙ bit_at-zero (n % w)

module _ {R : Type 0} (pool : Pool R) (found found' : List (ℕ × ℕ)) where
  in_reserve : (tag : ℕ) → tag < reserved_of pool
      → one_if (is_busy_tag pool found found' tag) ≡ one_if (is_busy_in (layout_of pool Reserved) found tag)
  in_reserve tag low = ap (λ (b : Bool). one_if (if b then is_busy_in (layout_of pool Reserved) found tag
      else (nat_lt tag (total_of pool) && is_busy_in (layout_of pool Ordinary) found' (tag - reserved_of pool))))
      (lt-ltb tag (reserved_of pool) low)

  not_reserved : (tag : ℕ) → reserved_of pool ≤ tag → one_if (is_busy_tag pool found found' tag)
      ≡ one_if (nat_lt tag (total_of pool) && is_busy_in (layout_of pool Ordinary) found' (tag - reserved_of pool))
  not_reserved tag high = ap (λ (b : Bool). one_if (if b then is_busy_in (layout_of pool Reserved) found tag
      else (nat_lt tag (total_of pool) && is_busy_in (layout_of pool Ordinary) found' (tag - reserved_of pool))))
      (le-ltb tag (reserved_of pool) high)

  ordinary_one : (k : ℕ) → k < (layout_of pool Ordinary).depth
      → one_if (is_busy_tag pool found found' (reserved_of pool + k))
      ≡ one_if (is_busy_in (layout_of pool Ordinary) found' k)
  ordinary_one k low = not_reserved (reserved_of pool + k) (omega arith)
      ∙ ap (λ (b : Bool). one_if (b && is_busy_in (layout_of pool Ordinary) found'
      (reserved_of pool + k - reserved_of pool)))
      (lt-ltb (reserved_of pool + k) (total_of pool) (omega arith))
      ∙ ap (λ (n : ℕ). one_if (is_busy_in (layout_of pool Ordinary) found' n))
      (let e : reserved_of pool + k - reserved_of pool ≡ k = omega arith in e)

  past_all : (tag : ℕ) → total_of pool ≤ tag → one_if (is_busy_tag pool found found' tag) ≡ 0
  past_all tag high = not_reserved tag (omega arith)
      ∙ ap (λ (b : Bool). one_if (b && is_busy_in (layout_of pool Ordinary) found' (tag - reserved_of pool)))
      (le-ltb tag (total_of pool) high)

  count_both : count_below (is_busy_tag pool found found') (total_of pool)
      ≡ count_below (is_busy_in (layout_of pool Reserved) found) (layout_of pool Reserved).depth
      + count_below (is_busy_in (layout_of pool Ordinary) found') (layout_of pool Ordinary).depth
  count_both =
      let r = reserved_of pool in let d = (layout_of pool Ordinary).depth in
      let split = sum_below-split (λ (t : ℕ). one_if (is_busy_tag pool found found' t)) r d in
      let low = sum_below-same (λ (t : ℕ). one_if (is_busy_tag pool found found' t))
      (λ (t : ℕ). one_if (is_busy_in (layout_of pool Reserved) found t)) r in_reserve in
      let high = sum_below-same (λ (k : ℕ). one_if (is_busy_tag pool found found' (r + k)))
      (λ (k : ℕ). one_if (is_busy_in (layout_of pool Ordinary) found' k)) d ordinary_one in
      let is = ap (count_below (is_busy_in (layout_of pool Reserved) found)) pool.reserved_is in omega arith

module _ {R : Type 0} (pool : Pool R) (zeros mid bits : List ℕ) (found found' : List (ℕ × ℕ))
    (none : (n : ℕ) → bit_in 64 zeros n ≡ 0)
    (one : Marks 64 0 (layout_of pool Reserved).depth (is_busy_in (layout_of pool Reserved) found) zeros mid)
    (two : Marks 64 (reserved_of pool) (layout_of pool Ordinary).depth (is_busy_in (layout_of pool Ordinary) found')
    mid bits) where
  low_bit : (tag : ℕ) → tag < reserved_of pool → bit_in 64 bits tag ≡ one_if (is_busy_tag pool found found' tag)
  low_bit tag low =
      let is = pool.reserved_is in let a = one.inside tag (omega arith) in
      let b = two.outside tag (inl low) in
      let z = none (0 + tag) in let e : 0 + tag ≡ tag = omega arith in
      let m = ap (λ (n : ℕ). bit_in 64 mid n) e in let t = in_reserve pool found found' tag low in omega arith

  high_bit : (k : ℕ) → k < (layout_of pool Ordinary).depth
      → bit_in 64 bits (reserved_of pool + k) ≡ one_if (is_busy_tag pool found found' (reserved_of pool + k))
  high_bit k low =
      let is = pool.reserved_is in let a = one.outside (reserved_of pool + k) (inr (omega arith)) in
      let b = two.inside k low in
      let z = none (reserved_of pool + k) in let t = ordinary_one pool found found' k low in omega arith

  past_bit : (tag : ℕ) → total_of pool ≤ tag → bit_in 64 bits tag ≡ one_if (is_busy_tag pool found found' tag)
  past_bit tag high =
      let is = pool.reserved_is in let a = one.outside tag (inr (omega arith)) in
      let b = two.outside tag (inr (omega arith)) in
      let z = none tag in let t = past_all pool found found' tag high in omega arith

  each_bit : (tag : ℕ) → bit_in 64 bits tag ≡ one_if (is_busy_tag pool found found' tag)
  each_bit tag = dite (dec_lt tag (reserved_of pool)) (low_bit tag)
      (λ above. dite (dec_lt tag (total_of pool))
      (λ (h : tag < total_of pool). subst (λ (t : ℕ). bit_in 64 bits t
      ≡ one_if (is_busy_tag pool found found' t))
      (let e : reserved_of pool + (tag - reserved_of pool) ≡ tag = omega arith in e)
      (high_bit (tag - reserved_of pool) (omega arith)))
      (λ past. past_bit tag (omega arith)))

module _ {R : Type 0} (pool : Pool R) (zeros mid bits : List ℕ) (x y : ℕ)
    (none : (n : ℕ) → bit_in 64 zeros n ≡ 0)
    (one : PeeksSet (layout_of pool Reserved) 0 zeros mid x)
    (two : PeeksSet (layout_of pool Ordinary) (reserved_of pool) mid bits y) where
  pub peeks : PeeksBusy (total_of pool) bits (x + y)
  peeks =
      let each = each_bit pool zeros mid bits one.found two.found none one.marks two.marks in
      let busy = is_busy_tag pool one.found two.found in record {
        past = λ tag high low. each tag ∙ past_all pool one.found two.found tag high;
        count_is =
            let a = one.count_is in let b = two.count_is in let c = count_both pool one.found two.found in
            let d : count_below busy (total_of pool) ≡ count_below (λ tag. nat_eq (bit_in 64 bits tag) 1) (total_of pool) =
            sum_below-same (λ tag. one_if (busy tag)) (λ tag. one_if (nat_eq (bit_in 64 bits tag) 1)) (total_of pool)
            (λ tag low. sym (one_if-bit (one_if (busy tag)) (let le = one_if-le (busy tag) in omega arith))
            ∙ ap (λ (n : ℕ). one_if (nat_eq n 1)) (sym (each tag))) in omega arith;
      }

module _ {R : Type 0} (pool : Pool R) (zeros mid bits : List ℕ) (x y : ℕ) (old between new : Hand R)
    (none : (n : ℕ) → bit_in 64 zeros n ≡ 0)
    (one : ListsSet (layout_of pool Reserved) Reserved 0 zeros mid x old between)
    (two : ListsSet (layout_of pool Ordinary) Ordinary (reserved_of pool) mid bits y between new) where
  pub lists : ListsBusy pool bits (x + y) old new
  lists = record {
    reserved = one.found;
    ordinary = two.found;
    between = between;
    first = one.around;
    second = two.around;
    bits_are = λ tag low. each_bit pool zeros mid bits one.found two.found none one.marks two.marks tag;
    count_is = let a = one.count_is in let b = two.count_is in
        let c = count_both pool one.found two.found in omega arith;
  }

  -- the bit of each tag that the hand held is set
  pub held_bit : IsHandOf pool old → (tag : ℕ) → Holds old tag → bit_in 64 bits tag ≡ 1
  held_bit own tag h = ⊎_elim
      (λ (r : IsReserved (split_of old) tag).
      let a = one.held tag (subst (λ (p : Side R × ℕ). side.Holds p.0 p.1)
      (λ j. (ap (side_of old) r.kind j, r.number j)) h) in
      let low = r.below in
      low_bit pool zeros mid bits one.found two.found none one.marks two.marks tag (omega (arith, own.2)) ∙ in_reserve pool one.found two.found tag (omega (arith, own.2)) ∙ ap one_if a)
      (λ (o : IsOrdinary (split_of old) tag). let k : ℕ = number_in_set (split_of old) tag in let number = o.number in
      let was : side.Holds (side_of old Ordinary) k =
      subst (λ (kind : Kind). side.Holds (side_of old kind) k) o.kind h in
      let still : side.Holds (side_of between Ordinary) k =
      subst (λ (a : Side R). side.Holds a k) (sym one.around.looks.other) was in
      let low = held_low pool old Ordinary k own was in
      let is : reserved_of pool + k ≡ tag = omega (arith, own.2) in
      subst (λ (t : ℕ). bit_in 64 bits t ≡ 1) is
      (high_bit pool zeros mid bits one.found two.found none one.marks two.marks k low ∙ ordinary_one pool one.found two.found k low ∙ ap one_if (two.held k still)))
      (stands (split_of old) tag)
