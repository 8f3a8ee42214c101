-- What the checks of a mask find of its numbers in the ordinary set is so of its tags.
use Rattle.std.specs.Prelude.{◌<◌, ◌^◌, ◌≡◌, ◌≢◌, ◌≤◌}
use Rattle.tag_pool.proofs.Uses.{All, arith, count_ones, Err, Hand, inl, inr, IsHandOf, IsLastIn, layout_of, numbers_of, Ok, Ordinary, Pool, refl, RefusesBy, reserved_of, Result, TagFault, ℕ}
use Rattle.std.specs.Prelude.{⊤}
use Rattle.tag_pool.specs.Masks.{tags_in}
use Rattle.tag_pool.specs.Refusals.{mask_checks}
use Rattle.tag_pool.specs.Sides as side
use Rattle.tag_pool.specs.declared.fault.TagFault.TheVariants.{NoSuchTag, NotHeld}
use Rattle.tag_pool.proofs.MaskHolds.{some_tag, not_tags, are_tags}
use Rattle.tag_pool.proofs.MaskNumbers.{still_some}
use Rattle.tag_pool.proofs.OrdinaryNumbers.{AreNumbered, numbered}

-- a call that is refused by the checks of the mask, and returns nothing else
abbrev pub Refused : {R : Type 0} → Pool R → Hand R → ℕ → ℕ → Result ⊤ TagFault → Type 0
Refused pool hand first mask result = RefusesBy (mask_checks pool hand first mask) ⊤ result

-- the mask of the numbers is not 0, and each outcome of the checks is what has to be told
pub record IsChecked {R : Type 0} (pool : Pool R) (hand : Hand R) (first mask start part : ℕ) : Type 0 where
  pub some : 1 ≤ part
  pub past_first : (layout_of pool Ordinary).depth ≤ start
      → Refused pool hand first mask (Err NoSuchTag)
  pub past_last : (last : ℕ) → IsLastIn start part last → (layout_of pool Ordinary).depth ≤ last
      → Refused pool hand first mask (Err NoSuchTag)
  pub not_held : (last : ℕ) → IsLastIn start part last → last < (layout_of pool Ordinary).depth
      → ¬ (All (side.Holds hand.ordinary) (tags_in start part))
      → Refused pool hand first mask (Err NotHeld)
  pub held : (last : ℕ) → IsLastIn start part last → last < (layout_of pool Ordinary).depth
      → All (side.Holds hand.ordinary) (tags_in start part) → Refused pool hand first mask (Ok tt)

module _ {R : Type 0} (pool : Pool R) (hand : Hand R) (own : IsHandOf pool hand) (first mask : ℕ) (fits : mask < 2 ^ 64)
    (nonzero : mask ≢ 0) (start part : ℕ) (above : All (λ tag. reserved_of pool ≤ tag) (tags_in first mask))
    (is : tags_in start part ≡ numbers_of (reserved_of pool) (tags_in first mask))
    (ones : count_ones part ≡ count_ones mask) (small : part ≤ mask) where
  whole : 1 ≤ mask
  whole = omega arith

  rest : 1 ≤ part
  rest = still_some mask part fits whole ones

  part_fits : part < 2 ^ 64
  part_fits = omega arith

  alike : AreNumbered pool hand (tags_in first mask) (tags_in start part)
  alike = numbered pool hand own (tags_in first mask) (tags_in start part) above is

  past : ¬ (All (λ tag. tag < (layout_of pool Ordinary).depth) (tags_in start part))
      → Refused pool hand first mask (Err NoSuchTag)
  past beyond = record { first = inr (whole, inl ((λ o. beyond (alike.ordinary.1 o)), refl)); passes = tt; same = tt }

  pub checked : IsChecked pool hand first mask start part
  checked = record {
    some = rest;
    past_first = λ high. let ne : part ≢ 0 = let r = rest in omega arith in let t = some_tag start part part_fits ne in
        let le = t.1 in past (not_tags (layout_of pool Ordinary) start part t.0 part_fits t.2 (omega arith));
    past_last = λ last ends high. past (not_tags (layout_of pool Ordinary) start part last part_fits ends.one high);
    not_held = λ last ends low none. record {
      first = inr (
        whole,
        inr (
          alike.ordinary.0 (are_tags (layout_of pool Ordinary) start part last part_fits ends low),
          inl ((λ h. none (alike.held.1 h)), refl),
        ),
      );
      passes = tt;
      same = tt;
    };
    held = λ last ends low all. record {
      first = tt;
      passes = (
        whole,
        (
          alike.ordinary.0 (are_tags (layout_of pool Ordinary) start part last part_fits ends low),
          (alike.held.0 all, tt),
        ),
      );
      same = tt;
    };
  }
