-- Where words begin and end, and which tags stand in them.
use Rattle.std.specs.Prelude.{◌%◌, ◌*◌, ◌+◌, ◌-◌, ◌/◌, ◌<◌, ◌^◌, ◌≡◌, ◌≤◌}
use Rattle.tag_layout.proofs.Uses.{and_mask, ap, arith, bit_and, div-add-mod', div-mul-add, Layout, le-div, min, mod-mul-add, mod_below, mul-le-mul_right, one_shl, place_of, pow-le-pow_right, pow_pos, suc, sum_below, tag_at, word_bits, word_depth, word_of, words, zero, ℕ}
use Rattle.tag_layout.proofs.Uses.{◌∙◌}

-- a word has a bit
pub word_bits-pos : (l : Layout) → 0 < word_bits l
word_bits-pos l = pow_pos l.shift

-- the first tag of a word that there is
pub word-start : (l : Layout) (word : ℕ) → word < words l → word * word_bits l < l.depth
word-start l word h =
    let p : ℕ = word_bits l in let pos : 0 < p = word_bits-pos l in
    let whole : (l.depth + p - 1) / p * p + (l.depth + p - 1) % p ≡ l.depth + p - 1 =
    div-add-mod' (l.depth + p - 1) p in
    let next : suc word * p ≤ words l * p = mul-le-mul_right p h in omega arith

-- a word that begins before the depth
pub word-below : (l : Layout) (word : ℕ) → word * word_bits l < l.depth → word < words l
word-below l word h =
    let p : ℕ = word_bits l in let pos : 0 < p = word_bits-pos l in
    let fits : suc word * p ≤ l.depth + p - 1 = omega arith in le-div (suc word) (l.depth + p - 1) p pos fits

-- the words have room for all tags
pub depth-le-words : (l : Layout) → l.depth ≤ words l * word_bits l
depth-le-words l =
    let p : ℕ = word_bits l in let pos : 0 < p = word_bits-pos l in
    let whole : (l.depth + p - 1) / p * p + (l.depth + p - 1) % p ≡ l.depth + p - 1 =
    div-add-mod' (l.depth + p - 1) p in
    let rest : (l.depth + p - 1) % p < p = mod_below (l.depth + p - 1) p pos in omega arith

-- a tag is where its word and its place say
pub tag_at-back : (l : Layout) (tag : ℕ) → tag_at l (word_of l tag) (place_of l tag) ≡ tag
tag_at-back l tag = div-add-mod' tag (word_bits l)

pub word_of-below : (l : Layout) (tag : ℕ) → tag < l.depth → word_of l tag < words l
word_of-below l tag h = let is = tag_at-back l tag in word-below l (word_of l tag) (omega arith)

pub place_of-below : (l : Layout) (tag : ℕ) → tag < l.depth → place_of l tag < word_depth l (word_of l tag)
place_of-below l tag h =
    let is = tag_at-back l tag in let low : place_of l tag < word_bits l =
    mod_below tag (word_bits l) (word_bits-pos l) in omega arith

pub word_of-tag_at : (l : Layout) (word place : ℕ) → place < word_bits l → word_of l (tag_at l word place) ≡ word
word_of-tag_at l word place h = div-mul-add word (word_bits l) place h

pub place_of-tag_at : (l : Layout) (word place : ℕ) → place < word_bits l → place_of l (tag_at l word place) ≡ place
place_of-tag_at l word place h = mod-mul-add word (word_bits l) place h

pub tag_at-below : (l : Layout) (word place : ℕ) → place < word_depth l word → tag_at l word place < l.depth
tag_at-below l word place h = omega arith

-- a word that there is uses some of its bits
pub word_depth-pos : (l : Layout) (word : ℕ) → word < words l → 0 < word_depth l word
word_depth-pos l word h = let start = word-start l word h in let pos = word_bits-pos l in omega arith

-- the first so many words use the first so many tags
pub sum_below-word_depth : (l : Layout) (n : ℕ) → sum_below (word_depth l) n ≡ min (n * word_bits l) l.depth
sum_below-word_depth l zero = omega arith
sum_below-word_depth l (suc n) = let before = sum_below-word_depth l n in
    let next : suc n * word_bits l ≡ n * word_bits l + word_bits l = omega arith in omega arith

-- all words together use all tags
pub word_depths-sum : (l : Layout) → sum_below (word_depth l) (words l) ≡ l.depth
word_depths-sum l = let sum = sum_below-word_depth l (words l) in let room = depth-le-words l in omega arith

-- the low bits of a tag, as the code masks them out
pub low_bits : (tag shift : ℕ) → shift ≤ 6 → bit_and tag (1 * 2 ^ shift % 2 ^ 32 - 1) ≡ tag % 2 ^ shift
low_bits tag shift h = ap (λ x. bit_and tag (x - 1)) (one_shl shift 32 (omega arith)) ∙ and_mask tag shift

-- a whole word has at most 64 bits
pub word_bits-le : (l : Layout) → l.shift ≤ 6 → word_bits l ≤ 64
word_bits-le l h = pow-le-pow_right (omega arith) h
