-- A hand that shares its tags with a cell belongs to whatever tags the cell belongs to.
use Rattle.std.specs.Prelude.{◌<◌, ◌≡◌}
use Rattle.tag_c.proofs.Uses.{arc_value, Hand, IsHandOf, Member, number_of, Pool, PoolState, SharesTags, subst, sym, ℕ, ℕ_set, ◌∙◌}
use Rattle.std.specs.Coded.{Coded-set}
use Rattle.tag_core.proofs.FewCallers.{few}
use Rattle.tag_core.specs.declared.map.Map.{Map}
use Rattle.tag_pool.specs.Sides.{IsSideOf}
use Rattle.tag_pool.specs.declared.side.Side.{Side}
use Rattle.atomic_table.specs.Seated.{table_id_coded}
use Rattle.tag_core.specs.contracts.shape.Shape.{the_row as shape}

-- of two sides of one map, the second belongs to every map that the first belongs to
one_map : (map other : Map ℕ) (cell side : Side ℕ) → IsSideOf other cell → IsSideOf other side → IsSideOf map cell
    → IsSideOf map side
one_map map other cell side b a own = (a.0 ∙ sym b.0 ∙ own.0, a.1 ∙ sym b.1 ∙ own.1)

-- a hand that shares its tags with a cell belongs to every tags that the cell belongs to
pub one_owner : (tags : Pool ℕ) (cell hand : Hand ℕ) → SharesTags cell hand → IsHandOf tags cell → IsHandOf tags hand
one_owner tags cell hand shares own = let other = shares.0 in let b = shares.1 in let h = shares.2 in (
  one_map tags.reserved other.reserved cell.reserved hand.reserved b.0 h.0 own.0,
  one_map tags.ordinary other.ordinary cell.ordinary hand.ordinary b.1 h.1 own.1,
  h.2 ∙ sym b.2 ∙ own.2,
  h.3,
)

-- a hand of a pool's tags is one of the same pool's under another name
pub same_pool : (state shared : PoolState) (hand other : Hand ℕ) → state ≡ shared → other ≡ hand
    → IsHandOf state.tags hand → IsHandOf shared.tags other
same_pool state shared hand other at is own = subst (λ (s : PoolState). IsHandOf s.tags other) at
    (subst (λ (h : Hand ℕ). IsHandOf state.tags h) (sym is) own)

-- two hands of the same tags share their tags
pub sharing : (tags : Pool ℕ) (cell hand : Hand ℕ) → IsHandOf tags cell → IsHandOf tags hand → SharesTags cell hand
sharing tags cell hand b h = (tags, b, h)

-- a hand's number is below 64
pub low_number : (tags : Pool ℕ) (hand : Hand ℕ) → IsHandOf tags hand → number_of hand < 64
low_number tags hand own =
    subst (λ (n : ℕ). n < 64) hand.ordinary.numbers (few tags.ordinary hand.ordinary.caller own.1)

side_once : (map : Map ℕ) (side : Side ℕ) (a b : IsSideOf map side) → a ≡ b
side_once map side a b = λ j. (Coded-set table_id_coded _ _ a.0 b.0 j, Coded-set shape.coded _ _ a.1 b.1 j)

-- that a hand belongs to tags is shown in one way
hand_once : (tags : Pool ℕ) (hand : Hand ℕ) (a b : IsHandOf tags hand) → a ≡ b
hand_once tags hand a b = λ j. (
  side_once tags.reserved hand.reserved a.0 b.0 j,
  side_once tags.ordinary hand.ordinary a.1 b.1 j,
  ℕ_set _ _ a.2 b.2 j,
  ℕ_set _ _ a.3 b.3 j,
)

module _ (member : Member) where
  -- the member with this hand in place of its own
  abbrev with_hand : (hand : Hand ℕ) → IsHandOf (arc_value member.shared).tags hand → Member
  with_hand hand own = record { shared = member.shared; hand = hand; own = own }

  -- with its own hand it is the same member
  pub same_member : (hand : Hand ℕ) → hand ≡ member.hand → (own : IsHandOf (arc_value member.shared).tags hand)
      → with_hand hand own ≡ member
  same_member hand e = subst (λ (h : Hand ℕ). (own : IsHandOf (arc_value member.shared).tags h)
      → with_hand h own ≡ member) (sym e)
      (λ own. λ j. with_hand member.hand (hand_once (arc_value member.shared).tags member.hand own member.own j))
