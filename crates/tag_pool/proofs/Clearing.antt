-- A clear in the set of a tag, with its checks, is the hand's clear of the tag.
use Rattle.std.specs.Prelude.{◌+◌, ◌-◌, ◌<◌, ◌↔◌, ◌≡◌, ◌≤◌}
use Rattle.std.specs.Result.{IsErrAnd}
use Rattle.tag_pool.proofs.Uses.{ap, arith, back_of, Err, FailsFirst, Hand, Holds, inl, inr, IsHandOf, Kind, kind_of, layout_of, number_in_set, Ok, Ordinary, PassesAll, Pool, record_of, refl, Reserved, Result, Shape, Side, side_of, split_of, step_count, subst, sym, TagFault, total_of, with_side, ℕ, ◌∙◌}
use Rattle.tag_pool.specs.Sides as side
use Rattle.tag_pool.specs.Clears.{DoesClear}
use Rattle.tag_pool.specs.Refusals.{side_checks, tag_checks}
use Rattle.tag_pool.proofs.Passing.{IsAt, at_ordinary, at_reserved, clears_at, here}

module _ {R : Type 0} (pool : Pool R) (hand : Hand R) (own : IsHandOf pool hand) where
  -- the tag has this number in this set, which is below the depth there if the tag is below the total
  pub record IsFor (kind : Kind) (number tag : ℕ) : Type 0 where
    pub at : IsAt hand tag kind number
    pub low : (number < side.depth_of (side_of hand kind)) ↔ (tag < total_of pool)

  pub for_ordinary : (tag : ℕ) → split_of hand ≤ tag → IsFor Ordinary (tag - split_of hand) tag
  for_ordinary tag above =
      let split = own.2 in let deep = ap (λ (s : Shape). s.layout.depth) own.1.1 in record {
        at = at_ordinary hand (split_of hand) tag refl above;
        low = (λ below. omega (arith, deep, split), λ below. omega (arith, deep, split));
      }

  pub for_reserved : (tag : ℕ) → tag < split_of hand → IsFor Reserved tag tag
  for_reserved tag under =
      let split = own.2 in let deep = ap (λ (s : Shape). s.layout.depth) own.0.1 in let all = pool.reserved_is in record {
        at = at_reserved hand (split_of hand) tag refl under;
        low = (λ below. omega (arith, deep, split, all), λ below. omega (arith, deep, split, all));
      }

  -- a step more in one set is one more of the hand
  few_steps : (kind : Kind) (new : Side R) → side.step_count new ≤ 1 + side.step_count (side_of hand kind)
      → step_count (with_side hand kind new) ≤ 1 + step_count hand
  few_steps Ordinary new few = omega arith
  few_steps Reserved new few = omega arith

  -- a hand with the side that it has is the same
  with_own : (kind : Kind) → with_side hand kind (side_of hand kind) ≡ hand
  with_own Ordinary = refl
  with_own Reserved = refl

  module _ (kind : Kind) (number tag : ℕ) (is : IsFor kind number tag) where
    holds_tag : side.Holds (side_of hand kind) number → Holds hand tag
    holds_tag held = subst (λ (j : Kind). side.Holds (side_of hand j) (number_in_set (split_of hand) tag)) is.at.kind_is
        (subst (λ (n : ℕ). side.Holds (side_of hand kind) n) is.at.number_is held)

    holds_number : Holds hand tag → side.Holds (side_of hand kind) number
    holds_number held = subst (λ (n : ℕ). side.Holds (side_of hand kind) n) (sym is.at.number_is)
        (subst (λ (j : Kind). side.Holds (side_of hand j) (number_in_set (split_of hand) tag)) (sym is.at.kind_is) held)

    -- the check that fails first in the set fails first for the hand
    fails : (fault : TagFault) → FailsFirst (side_checks (side_of hand kind) number) fault
        → FailsFirst (tag_checks pool hand tag) fault
    fails fault (inl first) = inl ((λ below. first.0 (is.low.1 below)), first.1)
    fails fault (inr (below, inl lost)) = inr (is.low.0 below, inl ((λ held. lost.0 (holds_number held)), lost.1))
    fails fault (inr (below, inr none)) = absurd none.1

    -- what the set refuses the hand refuses
    pub refused : (fault : TagFault) (told : Result Kind TagFault) → IsErrAnd told (λ f. f ≡ fault)
        → FailsFirst (side_checks (side_of hand kind) number) fault → (new : Side R) → new ≡ side_of hand kind
        → DoesClear tag pool told hand (with_side hand kind new)
    refused fault (Ok x) known first new same = absurd known
    refused fault (Err f) known first new same =
        let unchanged = ap (with_side hand kind) same ∙ with_own kind in record {
          refusals = record { first = rw known (fails fault first); passes = tt; same = unchanged };
          clears = tt;
          back = tt;
          kind = tt;
          bound = let none = ap step_count unchanged in omega (arith, none);
        }

    -- what the set clears the hand clears
    pub cleared : PassesAll (side_checks (side_of hand kind) number) → (new : Side R)
        → side.Puts (layout_of pool kind) number (side_of hand kind) new
        → (record_of (side.caller_of new)).back ≡ back_of hand kind + 1
        → side.step_count new ≤ 1 + side.step_count (side_of hand kind)
        → DoesClear tag pool (Ok kind) hand (with_side hand kind new)
    cleared passes new puts back few = record {
      refusals = record { first = tt; passes = (is.low.0 passes.0, (holds_tag passes.1.0, tt)); same = tt };
      clears = clears_at hand kind new number tag is.at pool puts;
      back = subst (λ (s : Side R). (record_of (side.caller_of s)).back ≡ back_of hand kind + 1) (sym (here hand kind new))
          back;
      kind = is.at.kind_is ∙ ap (λ (reserved : ℕ). kind_of reserved tag) own.2;
      bound = few_steps kind new few;
    }
