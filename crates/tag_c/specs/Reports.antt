-- What calls report through the handle of a pool. Their loads are in no hand's list of steps, so nothing links what they
-- tell to the tags as they were.
use Rattle.std.specs.Prelude.{◌*◌, ◌<◌, ◌≡◌, ◌≤◌}
use Rattle.tag_c.specs.Uses.{arc_value, layout_of, length, List, MAX_DEPTH, min, None, Option, Ordinary, pos, Reserved, Set, Some, Pool, total_of, ℕ, ℤ}
use Rattle.tag_pool.specs.Peeks.{PeeksBusy, PeeksShow}
use Rattle.tag_c.specs.declared.looks.Sizes.{Sizes}
use Rattle.tag_c.specs.declared.object.Kind.{Kind}
use Rattle.tag_c.specs.declared.object.Kind.TheVariants.{Pool as IsPool, Member as IsMember, Cached as IsCached}
use Rattle.tag_c.specs.declared.object.Object.{Object}
use Rattle.tag_c.specs.declared.status.Status.TheVariants.{BadHandle, BadKind, TooSmall}
use Rattle.tag_c.specs.Codes.{code_of}

-- a list with too few bits is refused; otherwise no bit past the last tag is 1, and the number is that of the bits that are
pub record TellsBusy (before after : List ℕ) (code : ℤ) (tags : Pool ℕ) : Type 0 where
  pub too_small : 64 * length before < total_of tags → (code ≡ code_of TooSmall) × (after ≡ before)
  pub lists : total_of tags ≤ 64 * length before
      → (count : ℕ) × (code ≡ pos (min count MAX_DEPTH)) × PeeksBusy (total_of tags) after count

-- the sizes are those of this set, and no tag is both busy and set aside
abbrev pub TellsShownOf : Set → Sizes → ℤ → Pool ℕ → Type 0
TellsShownOf kind sizes code tags = (code ≡ pos 0) × PeeksShow (layout_of tags kind) (record {
  depth = sizes.depth;
  busy = sizes.busy;
  cleared = sizes.cleared;
  bits_per_word = sizes.bits_per_word;
  map_nr = sizes.words;
})

-- kind 0 is the ordinary set and 1 the reserved one; any other number is refused
pub record TellsShown (kind : ℕ) (sizes : Sizes) (code : ℤ) (tags : Pool ℕ) : Type 0 where
  pub ordinary : kind ≡ 0 → TellsShownOf Ordinary sizes code tags
  pub reserved : kind ≡ 1 → TellsShownOf Reserved sizes code tags
  pub bad_kind : 2 ≤ kind → code ≡ code_of BadKind

-- a report of a pool is about its tags, and a hand reports nothing
abbrev pub Reports : (Pool ℕ → Type 0) → ℤ → Kind → Type 0
Reports tells code (IsPool pool) = tells (arc_value pool.shared).tags
Reports tells code (IsMember member) = code ≡ code_of BadHandle
Reports tells code (IsCached member) = code ≡ code_of BadHandle

-- so does an empty handle
abbrev pub ReportsBy : (Pool ℕ → Type 0) → ℤ → Option Object → Type 0
ReportsBy tells code None = code ≡ code_of BadHandle
ReportsBy tells code (Some object) = Reports tells code object.kind
