-- Masks of several adjacent bits.
use Rattle.std.specs.Prelude.{◌%◌, ◌*◌, ◌+◌, ◌-◌, ◌/◌, ◌<◌, ◌^◌, ◌≡◌, ◌≤◌}
use Rattle.tag_search.proofs.Uses.{ap, arith, count_ones, count_ones-pow, count_ones-zero, ones_cat, ones_shr, pow-le-pow_right, pow-suc, pow_pos, run_mask, shl_below, shl_whole, suc, zero, ℕ, ◌∙◌}

ones-low : (n : ℕ) → count_ones (2 ^ n - 1) ≡ n
ones-low zero = count_ones-zero
ones-low (suc n) =
    let pos : 0 < 2 ^ n = pow_pos n in let low : 2 ^ n - 1 < 2 ^ n = omega arith in
    let double : 2 ^ suc n ≡ 2 ^ n * 2 = pow-suc 2 n in
    let e : 2 ^ suc n - 1 ≡ 1 * 2 ^ n + (2 ^ n - 1) = omega arith in
    let sum = ones_cat n 1 (2 ^ n - 1) low in let rest = ones-low n in
    let one = count_ones-pow 0 in ap count_ones e ∙ sum ∙ omega arith

-- a run of n places has n bits
pub ones-run : (n place : ℕ) → count_ones (run_mask n place) ≡ n
ones-run n place =
    let e : run_mask n place ≡ (2 ^ n - 1) * 2 ^ place + 0 = omega arith in
    let sum = ones_cat place (2 ^ n - 1) 0 (pow_pos place) in let low = ones-low n in let none = count_ones-zero in
    ap count_ones e ∙ sum ∙ omega arith

-- the mask of a run, as the code shifts it
pub run_shifted : (n place : ℕ) → n ≤ 64 → place + n ≤ 64 → (2 ^ 64 - 1) / 2 ^ (64 - n) * 2 ^ place % 2 ^ 64
    ≡ run_mask n place
run_shifted n place h fits =
    let pos : 0 < 2 ^ n = pow_pos n in let low : 2 ^ n - 1 < 2 ^ n = omega arith in
    let e : 64 - (64 - n) ≡ n = omega arith in
    let high : (2 ^ 64 - 1) / 2 ^ (64 - n) ≡ 2 ^ n - 1 = ones_shr 64 (64 - n) (omega arith) ∙ ap (λ k. 2 ^ k - 1) e in
    ap (λ (x : ℕ). x * 2 ^ place % 2 ^ 64) high ∙ shl_whole (2 ^ n - 1) n place 64 low (omega arith)

-- a run that ends within a depth is a mask of this depth
pub run_below : (n place depth : ℕ) → place + n ≤ depth → run_mask n place < 2 ^ depth
run_below n place depth fits =
    let pos : 0 < 2 ^ n = pow_pos n in let low : 2 ^ n - 1 < 2 ^ n = omega arith in
    let a : run_mask n place < 2 ^ (n + place) = shl_below (2 ^ n - 1) n place low in
    let b : 2 ^ (n + place) ≤ 2 ^ depth = pow-le-pow_right (omega arith) (omega arith) in omega arith
