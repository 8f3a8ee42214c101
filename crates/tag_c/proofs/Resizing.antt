-- Why a resize is refused, as C is told it.
use Rattle.std.specs.Prelude.{◌++◌, ◌<◌, ◌≡◌}
use Rattle.tag_c.proofs.Uses.{All, AreUnchanged, arith, Hand, IsHandOf, IsOutOfRange, IsRefusedFor, IsResized, List, MAX_DEPTH, MayResize, reserved_of, ResizeCause, Status, subst, sym, Pool, ℕ, ⊎_elim}
use Rattle.tag_pool.specs.declared.resizes.ResizeCause.TheVariants.{Missing, DepthTooLarge, InUse, Waiting, Memory}
use Rattle.tag_pool.specs.Resizing.{HasRange}
use Rattle.tag_pool.proofs.Refusals.{AreTold}
use Rattle.tag_c.specs.Resizes.{status_of_cause, Prevents, Resizes, EndsResize}

module _ (total : ℕ) (tags : Pool ℕ) (spare left : List (Hand ℕ)) where
  -- the hands that are passed in
  abbrev hands : List (Hand ℕ)
  hands = spare ++ left

  -- the cause that is told is there
  refused_for : (told : ResizeCause → Type 0) → AreTold tags hands total told → (cause : ResizeCause)
      → told cause → IsRefusedFor tags hands total cause
  refused_for told are (Missing number) is = (are.missing number).0 is
  refused_for told are DepthTooLarge is = are.too_deep.0 is
  refused_for told are (InUse held posted) is = (are.in_use held posted).0 is
  refused_for told are (Waiting count) is = (are.waiting count).0 is
  refused_for told are Memory is = are.memory is

  module _ (range : HasRange total (reserved_of tags)) (own : All (IsHandOf tags) hands) (back : List (Hand ℕ))
      (unchanged : AreUnchanged hands back) where
    prevents : (cause : ResizeCause) → IsRefusedFor tags hands total cause → Prevents total tags spare cause back
    prevents cause is =
        record { range = range; left = left; own = own; refused = is; back_are = unchanged }

    in_range : IsOutOfRange total (reserved_of tags) → ⊥
    in_range out = let fits = range.0 in let covers = range.1 in ⊎_elim (λ (large : MAX_DEPTH < total). omega arith)
        (λ (small : total < reserved_of tags). omega arith) out

    ends_as : (cause : ResizeCause) (new : Pool ℕ) → IsRefusedFor tags hands total cause → new ≡ tags
        → EndsResize total tags spare (status_of_cause cause) new back
    ends_as (Missing number) new is same = ((number, prevents (Missing number) is), same)
    ends_as DepthTooLarge new is same = absurd (in_range is.1)
    ends_as (InUse held posted) new is same = ((held, posted, prevents (InUse held posted) is), same)
    ends_as (Waiting count) new is same = ((count, prevents (Waiting count) is), same)
    ends_as Memory new is same = (prevents Memory is, same)

    -- the tags that come back are the same, and the status is that of the cause
    pub refusal_ends : (told : ResizeCause → Type 0) → AreTold tags hands total told → (cause : ResizeCause)
        → told cause → (status : Status) → status ≡ status_of_cause cause → (new : Pool ℕ) → new ≡ tags
        → EndsResize total tags spare status new back
    refusal_ends told are cause is status says new same =
        subst (λ (s : Status). EndsResize total tags spare s new back) (sym says)
        (ends_as cause new (refused_for told are cause is) same)

module _ (total : ℕ) (old parted : Pool ℕ) (spare left hands : List (Hand ℕ)) (same : parted ≡ old)
    (are : hands ≡ spare ++ left) where
  -- the spare hands and those that had left were resized
  pub resizes : (new made : Pool ℕ) (resized : List (Hand ℕ)) → made ≡ new → All (IsHandOf old) hands
      → MayResize parted hands total → IsResized parted hands total new resized → Resizes total old spare made resized
  resizes new made resized kept own may is = record {
    left = left;
    own = subst (All (IsHandOf old)) are own;
    may = subst (λ (t : Pool ℕ). MayResize t (spare ++ left) total) same
        (subst (λ (l : List (Hand ℕ)). MayResize parted l total) are may);
    is = subst (λ (t : Pool ℕ). IsResized old (spare ++ left) total t resized) (sym kept)
        (subst (λ (t : Pool ℕ). IsResized t (spare ++ left) total new resized) same
        (subst (λ (l : List (Hand ℕ)). IsResized parted l total new resized) are is));
  }

  -- they were refused
  pub refused_ends : HasRange total (reserved_of old) → All (IsHandOf old) hands → (back : List (Hand ℕ))
      → AreUnchanged hands back → (told : ResizeCause → Type 0) → AreTold parted hands total told
      → (cause : ResizeCause) → told cause → (status : Status) → status ≡ status_of_cause cause → (new : Pool ℕ)
      → new ≡ parted → EndsResize total old spare status new back
  refused_ends range own back unchanged told are_told cause is status says new stays =
      refusal_ends total old spare left range (subst (All (IsHandOf old)) are own) back
      (subst (λ (l : List (Hand ℕ)). AreUnchanged l back) are unchanged) told
      (subst (λ (t : Pool ℕ). AreTold t (spare ++ left) total told) same
      (subst (λ (l : List (Hand ℕ)). AreTold parted l total told) are are_told)) cause is status says new
      (subst (λ (t : Pool ℕ). new ≡ t) same stays)
