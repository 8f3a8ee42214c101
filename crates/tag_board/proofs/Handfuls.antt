-- How a call changes the part of a caller, from how it changed the hand's side in one set.
use Rattle.std.proofs.Common.{◌≡◌, ℕ, ◌+◌, Bool, not, ◌&&◌, ◌||◌, is_some, refl, ap, ◌∙◌, arith}
use Rattle.tag_board.proofs.Uses.{Record, record_of, Side, Hand, QueueHand, Kind, Ordinary, Reserved, back_in_both, caller_in, hint_in, hint_of, in_pool, side_of, standing_of, other_kind, holds, record_in, part_of, Part, won_more, won, won_of, cleared, standing}
use Rattle.tag_board.proofs.Tallies.{Tallies}

-- callers' parts with the same fields are equal
pub part_ext : (p q : Part) → ((tag : ℕ) → p.held tag ≡ q.held tag) → ((kind : Kind) → p.won kind ≡ q.won kind)
    → p.back ≡ q.back → p.stands ≡ q.stands → p.round_robin ≡ q.round_robin → p ≡ q
part_ext p q held won back stands round = λ j. record {
  held = λ tag. held tag j;
  won = λ kind. won kind j;
  back = back j;
  stands = stands j;
  round_robin = round j;
}

-- no more tags of either set leave the counts unchanged
pub none_more : (kind : Kind) (w : Kind → ℕ) (k : Kind) → won_more kind 0 w k ≡ w k
none_more Ordinary w Ordinary = omega arith
none_more Ordinary w Reserved = refl
none_more Reserved w Ordinary = refl
none_more Reserved w Reserved = omega arith

-- the hand of the pool counts this many more tags, won of one set and given back; its round robin is unchanged
pub record HandTallies {R : Type 0} (kind : Kind) (n back : ℕ) (old new : Hand R) : Type 0 where
  pub won_is : (k : Kind) → won_of new k ≡ won_more kind n (won_of old) k
  pub back_is : back_in_both new ≡ back_in_both old + back
  pub round : (hint_of new Ordinary).round_robin ≡ (hint_of old Ordinary).round_robin

module _ {R : Type 0} (old new : Hand R) where
  -- what the hand's side in one set counts, the hand counts, if its other side is unchanged
  pub hand_tallies : (kind : Kind) (n back : ℕ) → Tallies n back (side_of old kind) (side_of new kind)
      → side_of new (other_kind kind) ≡ side_of old (other_kind kind) → HandTallies kind n back old new
  hand_tallies Ordinary n back t other =
      let same : record_in new Reserved ≡ record_in old Reserved =
      ap (λ (s : Side R). record_of (caller_in s)) other in
      let even = ap (λ (r : Record R). r.back) same in let more = t.counts.back_is in record {
        won_is = elim [ Ordinary ↦ t.counts.won_is | Reserved ↦ ap (λ (r : Record R). r.won) same ];
        back_is = omega arith;
        round = t.round;
      }
  hand_tallies Reserved n back t other =
      let same : record_in new Ordinary ≡ record_in old Ordinary =
      ap (λ (s : Side R). record_of (caller_in s)) other in
      let even = ap (λ (r : Record R). r.back) same in let more = t.counts.back_is in record {
        won_is = elim [ Ordinary ↦ ap (λ (r : Record R). r.won) same | Reserved ↦ t.counts.won_is ];
        back_is = omega arith;
        round = ap (λ (s : Side R). (hint_in s).round_robin) other;
      }

  -- a hand that gave nothing back counts as many tags given back as before
  pub none_back : (kind : Kind) (n : ℕ) → HandTallies kind n 0 old new → back_in_both new ≡ back_in_both old
  none_back kind n t = let e = t.back_is in omega arith

  -- and one that won nothing counts as many tags won
  pub as_won : (kind : Kind) (n : ℕ) → HandTallies kind 0 n old new → (k : Kind) → won_of new k ≡ won_of old k
  as_won kind n t k = t.won_is k ∙ none_more kind (won_of old) k

-- the caller counts this many more tags, won of one set and given back; its wait group and its round robin are
-- unchanged
pub record PartTallies {R : Type 0} (kind : Kind) (n back : ℕ) (old new : QueueHand R) : Type 0 where
  pub counts : HandTallies kind n back (in_pool old) (in_pool new)
  pub stands : standing_of new ≡ standing_of old

module _ {R : Type 0} (old new : QueueHand R) where
  module _ (kind : Kind) (test : ℕ → Bool) where
    pub part_won : (n : ℕ) → PartTallies kind n 0 old new
        → ((tag : ℕ) → holds (in_pool new) tag ≡ (holds (in_pool old) tag || test tag))
        → part_of new ≡ won kind test n (part_of old)
    part_won n t held = part_ext (part_of new) (won kind test n (part_of old)) held t.counts.won_is
        (none_back (in_pool old) (in_pool new) kind n t.counts) (ap is_some t.stands) t.counts.round

    pub part_cleared : (n : ℕ) → PartTallies kind 0 n old new
        → ((tag : ℕ) → holds (in_pool new) tag ≡ (holds (in_pool old) tag && not (test tag)))
        → part_of new ≡ cleared test n (part_of old)
    part_cleared n t held = part_ext (part_of new) (cleared test n (part_of old)) held
        (as_won (in_pool old) (in_pool new) kind n t.counts) t.counts.back_is (ap is_some t.stands) t.counts.round

  -- a caller that counts no more tags changes at most in what it holds
  pub part_holding : (kind : Kind) → PartTallies kind 0 0 old new → {held : ℕ → Bool}
      → ((tag : ℕ) → holds (in_pool new) tag ≡ held tag) → part_of new ≡ record (part_of old) { held = held }
  part_holding kind t {held} is = part_ext (part_of new) (record (part_of old) { held = held }) is
      (as_won (in_pool old) (in_pool new) kind 0 t.counts) (none_back (in_pool old) (in_pool new) kind 0 t.counts)
      (ap is_some t.stands) t.counts.round

  -- a caller that has in the pool what it had changes at most its wait group
  pub part_standing : (stands : Bool) → in_pool new ≡ in_pool old → is_some (standing_of new) ≡ stands
      → part_of new ≡ standing stands (part_of old)
  part_standing stands same is = λ j. record {
    held = holds (same j);
    won = λ kind. won_of (same j) kind;
    back = back_in_both (same j);
    stands = is j;
    round_robin = (hint_of (same j) Ordinary).round_robin;
  }
