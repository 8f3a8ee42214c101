-- What calls report through the handle of a hand.
use Rattle.std.specs.Prelude.{◌*◌, ◌<◌, ◌≡◌, ◌≤◌, ◌⊎◌}
use Rattle.tag_c.specs.Uses.{Kind, length, List, MAX_DEPTH, min, NoSuchTag, Ordinary, pos, Reserved, SameTags, Pool, total_of, ℕ, ℤ, ⊤}
use Rattle.tag_pool.specs.Busy.{ListsBusy}
use Rattle.tag_pool.specs.Bits.{bit_in}
use Rattle.tag_pool.specs.Shows.{Shows}
use Rattle.tag_c.specs.declared.looks.Sizes.{Sizes}
use Rattle.tag_c.specs.declared.status.Status.TheVariants.{Refused, BadKind, TooSmall}
use Rattle.tag_c.specs.Holders.{Holder, hand_of, Holds, IsKept, Either, IsUnchanged}
use Rattle.tag_c.specs.Codes.{code_of}

-- the holder has the same tags, and the same tags are kept
abbrev pub KeepsTags : Holder → Holder → Type 0
KeepsTags = Either (λ _ _. ⊤) SameTags

-- 1 if the holder holds the tag, 0 if not, refused if there is no such tag; nothing changes
pub record SaysHeld (tag : ℕ) (code : ℤ) (tags : Pool ℕ) (old new : Holder) : Type 0 where
  pub no_such_tag : total_of tags ≤ tag → code ≡ code_of (Refused NoSuchTag)
  pub held : tag < total_of tags → ((code ≡ pos 1) × Holds old tag)
      ⊎ ((code ≡ pos 0) × ¬ (Holds old tag))
  pub same : IsUnchanged old new

-- a list with too few bits is refused and kept; otherwise the bit of each busy tag becomes 1, every other bit 0, and
-- the number is how many are busy; the tags that the holder holds are among them, and so are those that are kept
pub record SaysBusy (before after : List ℕ) (code : ℤ) (tags : Pool ℕ) (old new : Holder) : Type 0 where
  pub too_small : 64 * length before < total_of tags → (code ≡ code_of TooSmall) × (after ≡ before)
      × IsUnchanged old new
  pub lists : total_of tags ≤ 64 * length before
      → (count : ℕ) × (code ≡ pos (min count MAX_DEPTH)) × ListsBusy tags after count (hand_of old) (hand_of new)
  pub held : total_of tags ≤ 64 * length before → (tag : ℕ) → Holds old tag → bit_in 64 after tag ≡ 1
  pub kept : total_of tags ≤ 64 * length before → (tag : ℕ) → IsKept old tag → bit_in 64 after tag ≡ 1
  pub same : total_of tags ≤ 64 * length before → KeepsTags old new

-- the sizes are those that a show of this set found
abbrev pub SaysShownOf : Kind → Sizes → ℤ → Pool ℕ → Holder → Holder → Type 0
SaysShownOf kind sizes code tags old new = (code ≡ pos 0) × KeepsTags old new × Shows tags kind (record {
  depth = sizes.depth;
  busy = sizes.busy;
  cleared = sizes.cleared;
  bits_per_word = sizes.bits_per_word;
  map_nr = sizes.words;
}) (hand_of old) (hand_of new)

-- kind 0 is the ordinary set and 1 the reserved one; any other number is refused
pub record SaysShown (kind : ℕ) (sizes : Sizes) (code : ℤ) (tags : Pool ℕ) (old new : Holder) : Type 0 where
  pub ordinary : kind ≡ 0 → SaysShownOf Ordinary sizes code tags old new
  pub reserved : kind ≡ 1 → SaysShownOf Reserved sizes code tags old new
  pub bad_kind : 2 ≤ kind → (code ≡ code_of BadKind) × IsUnchanged old new

-- 1 if the hand has a cache, 0 if not; nothing changes
abbrev pub SaysCached : ℤ → Pool ℕ → Holder → Holder → Type 0
SaysCached code tags = Either (λ old new. (code ≡ pos 0) × (new ≡ old)) (λ old new. (code ≡ pos 1) × (new ≡ old))
