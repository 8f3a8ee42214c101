-- Hands whose sides are unchanged are unchanged.
use Rattle.std.specs.Prelude.{◌<◌, ◌≡◌}
use Rattle.tag_pool.proofs.Uses.{ap, Hand, HoldsSame, Kind, kind_of, number_in_set, Record, record_of, Side, side_of, split_of, subst, sym, tag_bit, ℕ, ◌∙◌}
use Rattle.tag_core.specs.Callers as core
use Rattle.tag_pool.specs.Holding.{IsUnchanged}
use Rattle.tag_pool.specs.Sides as side

module _ {R : Type 0} where
  -- a side with the same record holds the same tags
  holds_on : (old new : Side R) → record_of (side.caller_of new) ≡ record_of (side.caller_of old) → (n : ℕ)
      → side.Holds old n → side.Holds new n
  holds_on old new known n = subst (λ (r : Record R). (n < r.shape.layout.depth) × (tag_bit r.shape.layout r.held n ≡ 1))
      (sym known)

  -- an unchanged side has the same number
  pub number_kept : (old new : Side R) → side.IsUnchanged old new → side.number_of new ≡ side.number_of old
  number_kept old new same = sym new.numbers ∙ ap (λ (r : Record R). r.number) same.caller.known ∙ old.numbers

  -- a side is unchanged if its caller is, and its hint is the same
  pub unchanged_side : (old new : Side R) → core.IsUnchanged (side.caller_of old) (side.caller_of new)
      → side.hint_of new ≡ side.hint_of old → side.IsUnchanged old new
  unchanged_side old new one hint = record {
    caller = one;
    holds = λ tag. (holds_on new old (sym one.known) tag, holds_on old new one.known tag);
    hint = hint;
  }

  module _ (old new : Hand R) (sides : (kind : Kind) → side.IsUnchanged (side_of old kind) (side_of new kind))
      (split : split_of new ≡ split_of old) where
    -- the hand holds the same tags
    holds_both : HoldsSame old new
    holds_both = record {
      kept = λ tag h. let k = kind_of (split_of old) tag in let n : ℕ = number_in_set (split_of old) tag in (
        subst (λ (s : ℕ). side.Holds (side_of new (kind_of s tag)) (number_in_set s tag)) (sym split)
            (holds_on (side_of old k) (side_of new k) (sides k).caller.known n h),
        subst (λ (s : ℕ). side.slot_of (side_of new (kind_of s tag)) (number_in_set s tag)
            ≡ side.slot_of (side_of old k) n) (sym split) ((sides k).caller.slots n),
      );
      none_else = λ tag h. let k = kind_of (split_of old) tag in let n : ℕ = number_in_set (split_of old) tag in
          holds_on (side_of new k) (side_of old k) (sym (sides k).caller.known) n
          (subst (λ (s : ℕ). side.Holds (side_of new (kind_of s tag)) (number_in_set s tag)) split h);
    }

    pub unchanged_hand : IsUnchanged old new
    unchanged_hand = record { same = holds_both; sets = sides; split = split }
