-- The order in which the reference search goes through the words, by the names that its code has for it.
use Rattle.base_tests.proofs.Uses.{ap, batch_words, Bool, get_or, Layout, length, limit_of, List, one_shl, Option, Reach, reduced, scan_order, true, word_of, words, ℕ, ◌∙◌}
use Rattle.std.proofs.Common.{◌≡◌, ◌*◌, ◌/◌, ◌%◌, ◌^◌, ◌<◌}
use Rattle.base_tests.proofs.Reference.{order_within}

-- from where on a get looks, and up to which place
abbrev pub reach_of : Layout → ℕ → Option ℕ → Bool → Reach
reach_of l start shallow wrap = record { start = start; limit = limit_of l shallow; wrap = wrap }

-- the words from the first on, and then those before it
pub words_from : (l : Layout) (first count : ℕ) (items order : List ℕ) → items ≡ order
    → order ≡ scan_order first count true → count ≡ words l → items ≡ scan_order first (words l) true
words_from l first count items order e f g = e ∙ f ∙ ap (λ (x : ℕ). scan_order first x true) g

-- each is a word of the layout
pub word_there : (l : Layout) (first count : ℕ) (items order : List ℕ) (n : ℕ) → items ≡ order
    → order ≡ scan_order first count true → count ≡ words l → n < length items → get_or items n 0 < words l
word_there l first count items order n e f g low =
    order_within first (words l) items (words_from l first count items order e f g) n low

-- the words from that of the reduced hint on
pub batch_from : (l : Layout) (at from depth shift count : ℕ) (items order : List ℕ) → shift ≡ l.shift → shift < 32
    → depth ≡ l.depth → from ≡ reduced depth at → count ≡ words l → items ≡ order
    → order ≡ scan_order (from / (1 * 2 ^ shift % 2 ^ 32)) count true
    → items ≡ batch_words l (word_of l (reduced l.depth at))
batch_from l at from depth shift count items order wide narrow deep hint many e f =
    let whole : 1 * 2 ^ shift % 2 ^ 32 ≡ 2 ^ l.shift = one_shl shift 32 narrow ∙ ap (λ (x : ℕ). 2 ^ x) wide in
    let start : from ≡ reduced l.depth at = hint ∙ ap (λ (x : ℕ). reduced x at) deep in
    e ∙ f ∙ (λ z. scan_order (start z / whole z) (many z) true)
