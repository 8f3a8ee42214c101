-- Counts in the worlds of a history: nobody wins more than one may, or gives back more than all win.
use Rattle.std.specs.Prelude.{◌*◌, ◌+◌, ◌<◌, ◌∷◌, ◌≡◌, ◌≢◌, ◌≤◌}
use Rattle.tag_model.proofs.Uses.{[], after, after_history, arith, Balances, eq-eqb, Event, IsHistory, Layout, le-sum_below, List, MayHappen, ne_eqb, plus_at, sum_below-bound, World, ℕ}
use Rattle.tag_model.specs.declared.world.TheConstants.{MOST_WON}
use Rattle.tag_model.proofs.BalanceFacts.{balances-history}

pub plus_at-here : (g : ℕ → ℕ) (c n : ℕ) → plus_at c n g c ≡ g c + n
plus_at-here g c n = grind (arith, eq-eqb)

pub plus_at-else : (g : ℕ → ℕ) (c n a : ℕ) → a ≢ c → plus_at c n g a ≡ g a
plus_at-else g c n a far = grind (arith, ne_eqb)

pub plus_at-none : (g : ℕ → ℕ) (c a : ℕ) → plus_at c 0 g a ≡ g a
plus_at-none g c a = grind arith

module _ (l : Layout) (callers : ℕ) where
  won-after : (e : Event) (w : World) → MayHappen l callers w e → ((c : ℕ) → w.won c ≤ MOST_WON) → (c : ℕ)
      → (after l e w).won c ≤ MOST_WON
  won-after e w may small c = grind (arith, may.unspent, small c)

  -- each caller's wins after a history
  pub won-history : (h : List Event) (w : World) → IsHistory l callers w h → ((c : ℕ) → w.won c ≤ MOST_WON) → (c : ℕ)
      → (after_history l h w).won c ≤ MOST_WON
  won-history [] w is small c = small c
  won-history (e ∷ older) w is small c = won-after e (after_history l older w) is.0 (won-history older w is.1 small) c

  -- what each caller gave back after a history
  pub back-history : (h : List Event) (w : World) → IsHistory l callers w h → ((c : ℕ) → w.won c ≤ MOST_WON)
      → Balances l callers w → (c : ℕ) → c < callers → (after_history l h w).back c ≤ callers * MOST_WON
  back-history h w is small balance c low =
      let even = balances-history l callers h w is balance in
      let one = le-sum_below (after_history l h w).back callers c low in
      let all = sum_below-bound (after_history l h w).won callers MOST_WON (λ c _. won-history h w is small c) in
      omega arith
