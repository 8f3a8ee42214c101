-- All hands of a board have the same range of tags.
use Rattle.std.proofs.Common.{◌≡◌, ℕ, ◌<◌, ⊎_elim, ap, ◌∙◌, arith}
use Rattle.tag_board.proofs.Uses.{Shape, Hand, Kind, Ordinary, Pool, Reserved, IsPoolHandOf, IsTagOf, Holds, layout_of, record_in, reserved_of, shape_of, side_of, split_of, total_of, kind_of, number_in_set, IsReserved, IsOrdinary, stands}
use Rattle.tag_pool.specs.Sides.{depth_of}

module _ {R : Type 0} (pool : Pool R) where
  -- a hand's sides have the shapes of both sets
  pub shape_there : (hand : Hand R) → IsPoolHandOf pool hand → (kind : Kind)
      → (record_in hand kind).shape ≡ shape_of pool kind
  shape_there hand own Ordinary = own.1.1
  shape_there hand own Reserved = own.0.1

  -- the number and the kind of a tag are the same for every hand
  range_there : (hand : Hand R) → IsPoolHandOf pool hand → (tag : ℕ)
      → (number_in_set (split_of hand) tag ≡ number_in_set (reserved_of pool) tag)
      × (depth_of (side_of hand (kind_of (split_of hand) tag))
      ≡ (layout_of pool (kind_of (reserved_of pool) tag)).depth)
  range_there hand own tag = (
    ap (λ (r : ℕ). number_in_set r tag) own.2,
    ap (λ (k : Shape). k.layout.depth) (shape_there hand own (kind_of (split_of hand) tag))
        ∙ ap (λ (r : ℕ). (layout_of pool (kind_of r tag)).depth) own.2,
  )

  -- a tag that one hand holds is in the range of every hand
  pub tag_there : (one other : Hand R) → IsPoolHandOf pool one → IsPoolHandOf pool other → (tag : ℕ) → Holds one tag
      → IsTagOf other tag
  tag_there one other own own' tag h =
      let a = range_there one own tag in let b = range_there other own' tag in let low = h.0 in
      let m = a.0 in let n = b.0 in let d = a.1 in let e = b.1 in omega arith

  -- a tag that a hand holds is below the total
  pub tag_low : (hand : Hand R) → IsPoolHandOf pool hand → (tag : ℕ) → Holds hand tag → tag < total_of pool
  tag_low hand own tag h = let low = h.0 in let at = range_there hand own tag in let n = at.0 in let d = at.1 in ⊎_elim
      (λ (r : IsReserved (reserved_of pool) tag). let below = r.below in omega arith)
      (λ (o : IsOrdinary (reserved_of pool) tag). let is = o.number in
      let e = ap (λ (k : Kind). (layout_of pool k).depth) o.kind in omega arith)
      (stands (reserved_of pool) tag)
