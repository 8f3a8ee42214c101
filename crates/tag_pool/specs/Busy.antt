-- Which tags of both sets are busy.
use Rattle.std.specs.Prelude.{if◌then◌else◌, ◌&&◌, ◌*◌, ◌-◌, ◌<◌, ◌≡◌}
use Rattle.std.specs.Prelude.{Bool, List, cond, length, nat_lt, true, ℕ}
use Rattle.sums.specs.Below.{count_below}
use Rattle.tag_pool.specs.Sides.{Holds}
use Rattle.tag_layout.specs.Layout.{Layout}
use Rattle.tag_pool.specs.declared.hand.Hand.{Hand}
use Rattle.tag_pool.specs.declared.kind.Kind.{Kind}
use Rattle.tag_pool.specs.declared.kind.Kind.TheVariants.{Ordinary, Reserved}
use Rattle.tag_pool.specs.declared.pool.Pool.{Pool}
use Rattle.tag_pool.specs.Hands.{reserved_of, total_of, layout_of}
use Rattle.tag_pool.specs.Lending.{side_of}
use Rattle.tag_pool.specs.Bits.{bit_in, Marks}
use Rattle.tag_pool.specs.Looks.{is_busy_in}
use Rattle.tag_pool.specs.Shows.{LooksAround}

-- the tag of the whole range was found busy in its set
abbrev pub is_busy_tag : {R : Type 0} → Pool R → List (ℕ × ℕ) → List (ℕ × ℕ) → ℕ → Bool
is_busy_tag pool reserved ordinary tag =
    if nat_lt tag (reserved_of pool) then is_busy_in (layout_of pool Reserved) reserved tag
    else (nat_lt tag (total_of pool) && is_busy_in (layout_of pool Ordinary) ordinary (tag - reserved_of pool))

-- the bits of the tags of one set that the call found busy are set, where the first tag of the set has bit `first`
pub record ListsSet {R : Type 0} (l : Layout) (kind : Kind) (first : ℕ) (before after : List ℕ) (count : ℕ)
    (old new : Hand R) : Type 0 where
  pub found : List (ℕ × ℕ)
  pub around : LooksAround l kind found old new
  pub marks : Marks 64 first l.depth (is_busy_in l found) before after
  pub count_is : count ≡ count_below (is_busy_in l found) l.depth
  pub held : (number : ℕ) → Holds (side_of old kind) number → is_busy_in l found number ≡ true

-- exactly the bits of the tags that this call found busy are set; it looked at the reserved set first, then at the
-- ordinary one
pub record ListsBusy {R : Type 0} (pool : Pool R) (bits : List ℕ) (count : ℕ) (old new : Hand R) : Type 0 where
  pub reserved : List (ℕ × ℕ)
  pub ordinary : List (ℕ × ℕ)
  pub between : Hand R
  pub first : LooksAround (layout_of pool Reserved) Reserved reserved old between
  pub second : LooksAround (layout_of pool Ordinary) Ordinary ordinary between new
  pub bits_are : (tag : ℕ) → tag < 64 * length bits
      → bit_in 64 bits tag ≡ cond (is_busy_tag pool reserved ordinary tag) 1 0
  pub count_is : count ≡ count_below (is_busy_tag pool reserved ordinary) (total_of pool)
