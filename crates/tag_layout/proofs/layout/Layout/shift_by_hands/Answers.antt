-- So many words of 2^s bits fit where 2^s fits into each word's part of the depth.
use Rattle.std.specs.Prelude.{◌*◌, ◌/◌, ◌<◌, ◌^◌, ◌≡◌, ◌≤◌, max}
use Rattle.tag_layout.proofs.Uses.{arith, dec_lt, dite, IsShiftByHands, le-div, min, mul-div-le, mul-le-mul_left, pow-le-pow_right, pow-suc, subst, suc, sym, ℕ}
use Rattle.tag_layout.proofs.layout.Layout.shift_by_hands.Goals as goal

module _ (depth hands tags log : ℕ) (deep : 4 ≤ depth) (is : tags ≡ max (depth / max hands 4) 1)
    (low : 2 ^ log ≤ tags) (high : tags < 2 * 2 ^ log) where
  -- a power that fits into a word's part is no more than that of the logarithm
  below : (other : ℕ) → 2 ^ other ≤ tags → other ≤ log
  below other fits = dite (dec_lt log other)
      (λ (over : log < other). let more : 2 ^ suc log ≤ 2 ^ other = pow-le-pow_right (omega arith) over in
      let next = pow-suc 2 log in absurd (omega arith))
      (λ no. omega arith)

  -- the floor of the logarithm, cut to 6
  is_by_hands : IsShiftByHands depth hands (min log 6)
  is_by_hands = record {
    within = omega arith;
    enough = λ many. (let part = le-div 1 depth (max hands 4) (omega arith) (omega arith) in
        let fits : 2 ^ min log 6 ≤ 2 ^ log = pow-le-pow_right (omega arith) (omega arith) in
        let one : 2 ^ min log 6 ≤ depth / max hands 4 = omega arith in
        let all = mul-le-mul_left (max hands 4) one in let whole = mul-div-le depth (max hands 4) in omega arith);
    greatest = λ _ other small fits. (let part = le-div (2 ^ other) depth (max hands 4) (omega arith) (omega arith) in
        let at_most = below other (omega arith) in omega arith);
    none = λ _ fewer. (let whole = mul-div-le depth (max hands 4) in
        let part : depth / max hands 4 < 1 = dite (dec_lt (depth / max hands 4) 1) (λ h. h)
        (λ no. let one : 1 ≤ depth / max hands 4 = omega arith in let all = mul-le-mul_left (max hands 4) one in
        absurd (omega arith)) in
        dite (dec_lt 0 log) (λ over. let more : 2 ^ 1 ≤ 2 ^ log = pow-le-pow_right (omega arith) over in
        absurd (omega arith)) (λ no. omega arith));
    few = λ h. absurd (omega arith);
  }

pub returns : goal.returns
returns c = let is : c.max-tags.result ≡ max (c.args.depth / max c.args.hands 4) 1 =
    (let least = c.max.ensures in let tags = c.max-tags.ensures in cc) in
    subst (IsShiftByHands c.args.depth c.args.hands) (sym c.min.ensures)
    (is_by_hands c.args.depth c.args.hands c.max-tags.result c.ilog2.result (omega arith) is c.ilog2.ensures.power_le
    c.ilog2.ensures.next_power_gt)
