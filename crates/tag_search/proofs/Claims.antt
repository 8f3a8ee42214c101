-- What a claim of one place found.
use Rattle.std.specs.Prelude.{◌+◌, ◌<◌, ◌^◌, ◌↔◌, ◌≡◌, ◌≢◌}
use Rattle.tag_search.proofs.Uses.{ap, arith, bit_at, bit_is, count_ones, count_ones-zero, inl, inr, none_where_taken, pow_pos, SameRoom, without, won_where_clear, ℕ, ◌∙◌}
pub use Rattle.tag_core.proofs.OneBit.{count_ones-pow}

-- a claim that won something found the place clear
pub clear_where_won : (found k : ℕ) → found < 2 ^ 64 → k < 64 → without (2 ^ k) found ≢ 0 → bit_at found k ≡ 0
clear_where_won found k fits h won = elim (bit_is found k) [
  | inl taken ↦ absurd (won (none_where_taken found k fits h taken))
  | inr clear ↦ clear
]

-- a claim that won nothing found the place taken
pub taken_where_lost : (found k : ℕ) → found < 2 ^ 64 → k < 64 → without (2 ^ k) found ≡ 0 → bit_at found k ≡ 1
taken_where_lost found k fits h lost = elim (bit_is found k) [
  | inl taken ↦ taken
  | inr clear ↦ absurd (let all = won_where_clear found k fits h clear in let some = pow_pos k in omega arith)
]

-- a claim that won nothing keeps the room
pub same_where_lost : {Port : Type 0} (room : Port → ℕ → Type 0) (old new : Port) (won : ℕ) → won ≡ 0
    → ((n : ℕ) → room new n ↔ room old (count_ones won + n)) → SameRoom room old new
same_where_lost room old new won e uses n =
    let f : count_ones won + n ≡ n = ap (λ (x : ℕ). count_ones x + n) e ∙ ap (λ (x : ℕ). x + n) count_ones-zero
    ∙ omega arith in
    let back : room new n ↔ room old n = rw f at (uses n) in (back.1, back.0)
