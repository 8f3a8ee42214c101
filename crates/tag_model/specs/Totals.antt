-- Totals over all callers and all tags, and how they balance.
use Rattle.std.specs.Prelude.{◌≡◌, ℕ, ◌+◌, Bool, true, false}
use Rattle.sums.specs.Below.{sum_below, count_below}
use Rattle.tag_layout.specs.Layout.{Layout}
use Rattle.tag_model.specs.declared.place.Place.{Place}
use Rattle.tag_model.specs.declared.place.Place.TheVariants.{Held, Posted}
use Rattle.tag_model.specs.declared.totals.Totals.{Totals}
use Rattle.tag_model.specs.World.{World}

-- somebody holds a tag that is there
abbrev pub is_held : Place → Bool
is_held (Held caller) = true
is_held _ = false

-- a tag that is there is posted
abbrev pub is_posted : Place → Bool
is_posted Posted = true
is_posted _ = false

-- tags won by all callers
abbrev pub got_in : ℕ → World → ℕ
got_in callers w = sum_below w.won callers

-- tags put or given back by all callers
abbrev pub back_in : ℕ → World → ℕ
back_in callers w = sum_below w.back callers

-- tags that are held
abbrev pub held_in : Layout → World → ℕ
held_in l w = count_below (λ tag. is_held (w.place tag)) l.depth

-- tags that are posted
abbrev pub posted_in : Layout → World → ℕ
posted_in l w = count_below (λ tag. is_posted (w.place tag)) l.depth

-- these are the totals of the world
pub record AreTotals (l : Layout) (callers : ℕ) (w : World) (totals : Totals) : Type 0 where
  pub got : totals.got ≡ got_in callers w
  pub back : totals.back ≡ back_in callers w
  pub held : totals.held ≡ held_in l w
  pub posted : totals.posted ≡ posted_in l w

-- each tag that was won was given back, is held or is posted
abbrev pub Balances : Layout → ℕ → World → Type 0
Balances l callers w = got_in callers w ≡ back_in callers w + held_in l w + posted_in l w
