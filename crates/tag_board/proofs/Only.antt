-- The only hand of a board, whose own steps are all that happened to both sets.
use Rattle.std.proofs.Common.{◌≡◌, ℕ, ◌≤◌, ap, ◌∙◌}
use Rattle.tag_board.proofs.Uses.{AloneSet, AloneSets, caller_in, caller_of, ChangesOne, Hand, hint_in, IsAlone, IsPoolHandOf, Kind, Layout, layout_of, Ordinary, Pool, record_of, Reserved, set_left, sets_in, Shape, Side}
use Rattle.tag_pool.specs.Hands.{hands_of}

-- the hand is the only caller of each set's map
abbrev pub AreAlone : Hand ℕ → Type 0
AreAlone hand = (kind : Kind) → IsAlone (caller_of hand kind)

-- a set of this layout, as the side's own steps leave it
abbrev pub set_of : Layout → Side ℕ → AloneSet
set_of l side = set_left l (record_of (caller_in side)).steps (hint_in side)

-- if the hand is the only one, a call changes both sets so
abbrev pub Alters : Pool ℕ → (AloneSets → AloneSets → Type 0) → Hand ℕ → Hand ℕ → Type 0
Alters pool alters old new = AreAlone old → AreAlone new → alters (sets_in pool old) (sets_in pool new)

-- both sets are unchanged if one is as it was and the other too
pub both_same : (kind : Kind) {old new : AloneSets} → ChangesOne kind (λ a b. b ≡ a) old new → new ≡ old
both_same Ordinary {old} {new} c = let each : (k : Kind) → new k ≡ old k = elim [ Ordinary ↦ c.0 | Reserved ↦ c.1 ] in
    λ j. λ k. each k j
both_same Reserved {old} {new} c = let each : (k : Kind) → new k ≡ old k = elim [ Ordinary ↦ c.1 | Reserved ↦ c.0 ] in
    λ j. λ k. each k j

module _ (pool : Pool ℕ) where
  -- words have at most 64 bits
  pub narrow : (kind : Kind) → (layout_of pool kind).shift ≤ 6
  narrow Ordinary = pool.ordinary.small.1
  narrow Reserved = pool.reserved.small.1

  pub only_hand : (hand : Hand ℕ) → IsPoolHandOf pool hand → hands_of pool ≡ 1 → AreAlone hand
  only_hand hand own one Ordinary = ap (λ (k : Shape). k.callers) own.1.1 ∙ one
  only_hand hand own one Reserved = ap (λ (k : Shape). k.callers) own.0.1 ∙ pool.as_many ∙ one
