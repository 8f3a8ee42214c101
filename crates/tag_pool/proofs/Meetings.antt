-- A hand is unchanged if both its sides are, and two hands are apart if their sides are in both sets.
use Rattle.std.specs.Prelude.{◌≡◌}
use Rattle.tag_pool.proofs.Uses.{Hand, Holds, Kind, kind_of, number_in_set, Ordinary, Pool, record_of, refl, Reserved, Side, side_of, split_of, subst, sym, ℕ}
use Rattle.tag_core.specs.Meeting.{ShareHistory}
use Rattle.tag_pool.specs.Holding.{IsUnchanged}
use Rattle.tag_pool.specs.Meeting.{ShareHistories}
use Rattle.tag_pool.specs.Sides as side
use Rattle.tag_pool.proofs.Lifting.{same}
use Rattle.tag_model.proofs.HoldingFacts.{same_then_same}

module _ {R : Type 0} where
  side_same : (old new : Side R) → side.IsUnchanged old new → side.HoldsSame old new
  side_same old new u = record {
    kept = λ tag h. ((u.holds tag).1 h, u.caller.slots tag);
    none_else = λ tag h. (u.holds tag).0 h;
  }

  each_set : (hand : Hand R) (reserved ordinary : Side R) → side.IsUnchanged hand.reserved reserved
      → side.IsUnchanged hand.ordinary ordinary
      → (kind : Kind) → side.IsUnchanged (side_of hand kind)
      (side_of (record hand { reserved = reserved; ordinary = ordinary }) kind)
  each_set hand reserved ordinary r o Ordinary = o
  each_set hand reserved ordinary r o Reserved = r

  pub unchanged : (hand : Hand R) (reserved ordinary : Side R) → side.IsUnchanged hand.reserved reserved
      → side.IsUnchanged hand.ordinary ordinary
      → IsUnchanged hand (record hand { reserved = reserved; ordinary = ordinary })
  unchanged hand reserved ordinary r o =
      let mid = record hand { reserved = reserved } in
      let new = record hand { reserved = reserved; ordinary = ordinary } in record {
        same = same_then_same (same hand mid Reserved refl refl (side_same hand.reserved reserved r))
            (same mid new Ordinary refl refl (side_same hand.ordinary ordinary o));
        sets = each_set hand reserved ordinary r o;
        split = refl;
      }

  -- sides that share a history in each set make hands that do
  pub share_both : (pool : Pool R) (first second : Hand R)
      → ShareHistory pool.reserved.shape (record_of (side.caller_of first.reserved))
      (record_of (side.caller_of second.reserved))
      → ShareHistory pool.ordinary.shape (record_of (side.caller_of first.ordinary))
      (record_of (side.caller_of second.ordinary)) → ShareHistories pool first second
  share_both pool first second reserved ordinary Ordinary = ordinary
  share_both pool first second reserved ordinary Reserved = reserved

  -- hands whose sides hold no tag in common in either set hold none in common
  pub hold_apart : (first second : Hand R) → split_of first ≡ split_of second
      → ((n : ℕ) → side.Holds first.reserved n → ¬ (side.Holds second.reserved n))
      → ((n : ℕ) → side.Holds first.ordinary n → ¬ (side.Holds second.ordinary n))
      → (tag : ℕ) → Holds first tag → ¬ (Holds second tag)
  hold_apart first second split reserved ordinary tag has other =
      in_set (kind_of (split_of first) tag) (number_in_set (split_of first) tag) has
      (subst (λ (n : ℕ). side.Holds (side_of second (kind_of n tag)) (number_in_set n tag)) (sym split) other)
    where
      in_set : (kind : Kind) (n : ℕ) → side.Holds (side_of first kind) n → ¬ (side.Holds (side_of second kind) n)
      in_set Ordinary n has other = ordinary n has other
      in_set Reserved n has other = reserved n has other
