-- What two calls in one do, in terms of the two.
use Rattle.std.specs.Prelude.{◌<◌, ◌∷◌, ◌≡◌}
use Rattle.tag_c.specs.Uses.{[], Checks, Found, IfNone, IfOk, IfSome, NoSuchTag, NotHeld, Ok, OnErr, OnOk, RefusesBy, Result, TagFault, Pool, total_of, ℕ}
use Rattle.tag_c.specs.Holders.{Holder, Holds, IsUnchanged}
use Rattle.tag_c.specs.Calls.{DoesGet, DoesClear, DoesRead, DoesWrite}

-- a call on a tag that has to be held
abbrev pub tag_checks : Pool ℕ → Holder → ℕ → Checks TagFault
tag_checks tags holder tag = (tag < total_of tags, NoSuchTag) ∷ (Holds holder tag, NotHeld) ∷ []

-- gets an ordinary tag, and then writes the value to its slot; if no tag is won, the get is all
pub record DoesGetWrite (value : ℕ) (tags : Pool ℕ) (answer : Result (Found ℕ) TagFault) (old new : Holder) : Type 0 where
  pub between : Holder
  pub gets : DoesGet tags answer old between
  pub writes : IfOk answer (λ found. IfSome found.answer (λ tag.
      (former : ℕ) × DoesWrite tag value former tags (Ok former) between new))
  pub nothing : IfOk answer (λ found. IfNone found.answer (new ≡ between))
  pub err : OnErr answer (new ≡ between)

-- reads the value of a tag's slot, and then clears the tag; it is refused exactly where either of them is
pub record DoesReadClear (tag value : ℕ) (tags : Pool ℕ) (answer : Result ℕ TagFault) (old new : Holder) : Type 0 where
  pub refusals : RefusesBy (tag_checks tags old tag) (IsUnchanged old new) answer
  pub does : OnOk answer ((between : Holder) × DoesRead tag value tags (Ok value) old between
      × DoesClear tag tags answer between new)
