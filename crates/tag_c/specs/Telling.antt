-- How a call that gave tags back, or left some free, sees to them: it tells others that wait, and C learns whom.
use Rattle.std.specs.Prelude.{◌≡◌, ◌≢◌, ◌≤◌, ◌⊎◌, ◌+ℤ◌, bit_or}
use Rattle.tag_c.specs.Uses.{Changes, Found, IfErr, IfOk, Kind, kind_of, List, max, min, Ordinary, Pool, pos, Reserved, reserved_of, Result, TagFault, true, ℕ, ℤ}
use Rattle.tag_model.specs.declared.world.TheConstants.{MAX_CALLERS}
use Rattle.tag_core.specs.declared.berth.Waiter.{Waiter}
use Rattle.tag_bell.specs.Callers.{OwesNothing}
use Rattle.tag_pool.specs.Bell.{LooksForWaiters}
use Rattle.tag_pool.specs.Hands.{caller_of}
use Rattle.tag_pool.specs.Sides as side
use Rattle.tag_pool.specs.Holding.{HoldsSame}
use Rattle.tag_cache.specs.declared.cache.Cache.{Cache}
use Rattle.tag_cache.specs.Bell as caches
use Rattle.tag_cache.specs.Caches as cache
use Rattle.tag_cache.specs.Same.{SameTags}
use Rattle.tag_c.specs.declared.bell.ToldHands.{ToldHands}
use Rattle.tag_c.specs.declared.telling.TheConstants.{TOLD}
use Rattle.tag_c.specs.Bell.{told_of}
use Rattle.tag_c.specs.Calls.{DoesFlush, DoesGetBatch, DoesGetMany}
use Rattle.tag_c.specs.Codes.{code_of_fault, code_of_found, code_of_found_batch, code_of_many}
use Rattle.tag_c.specs.Holders.{Caching, Holder, Either}
use Rattle.tag_c.specs.Left.{left_of, left_of_many}

-- nobody was told
abbrev pub nobody : ToldHands
nobody = record { sleepers = 0; listeners = 0 }

-- those of one and those of the other
abbrev pub both : ToldHands → ToldHands → ToldHands
both one other = record {
  sleepers = bit_or one.sleepers other.sleepers;
  listeners = bit_or one.listeners other.listeners;
}

-- the number, with the flag that says that C learns who was told
abbrev pub flagged : ℤ → ℤ
flagged number = number +ℤ TOLD

-- C gets the number, flagged exactly if anybody was told: then it learns whom
abbrev pub Answers : ℤ → ToldHands → ToldHands → ToldHands → ℤ → Type 0
Answers number told before after code = ((told ≡ nobody) × (code ≡ number) × (after ≡ before))
    ⊎ ((told ≢ nobody) × (code ≡ flagged number) × (after ≡ told))

-- the hand saw to so many reserved tags, and then to ordinary ones, as it may keep some: it told these of the one or the
-- other, and has nothing more to see to
pub record SeesToBoth (freed : ℕ) (told : ToldHands) (tags : Pool ℕ) (old new : Cache ℕ) : Type 0 where
  pub reserved : ToldHands
  pub ordinary : ToldHands
  pub between : Cache ℕ
  pub first : caches.SeesTo Reserved freed tags (told_of reserved) old between
  pub second : caches.SeesTo Ordinary 0 tags (told_of ordinary) between new
  pub all : told ≡ both reserved ordinary
  pub done : (kind : Kind) (waiter : Waiter) → OwesNothing waiter (caller_of (cache.hand_of new) kind)

-- a hand with a cache has nothing more to see to, of so many tags of this kind and of what it kept, and told these
abbrev pub SeesOver : Kind → ℕ → ToldHands → Pool ℕ → Cache ℕ → Cache ℕ → Type 0
SeesOver Ordinary freed told tags old new = caches.SeesTo Ordinary freed tags (told_of told) old new
SeesOver Reserved freed told tags old new = SeesToBoth freed told tags old new

-- the same of whoever holds tags through a handle
abbrev pub Sees : Kind → ℕ → ToldHands → Pool ℕ → Holder → Holder → Type 0
Sees kind freed told tags = Either (λ old new.
    Changes kind (side.SeesTo (max freed 1) side.see_to_steps (told_of told)) old new × HoldsSame old new)
    (SeesOver kind freed told tags)

-- one look found somebody who waits for a tag of this kind
abbrev pub FindsWaiters : Kind → Pool ℕ → Holder → Holder → Type 0
FindsWaiters kind tags = Either (λ old new. Changes kind (LooksForWaiters true) old new × HoldsSame old new)
    (λ old new. Changes kind (LooksForWaiters true) (cache.hand_of old) (cache.hand_of new) × SameTags old new)

-- the hand saw to so many tags of this kind and to what it kept, perhaps once a look had found somebody, and told these
pub record Tells (kind : Kind) (freed : ℕ) (told : ToldHands) (tags : Pool ℕ) (old new : Holder) : Type 0 where
  pub looked : Holder
  pub looks : (looked ≡ old) ⊎ FindsWaiters kind tags old looked
  pub sees : Sees kind freed told tags looked new

-- the same of tags of the kind that this one has
abbrev pub TellsOfKind : ℕ → ℕ → ToldHands → Pool ℕ → Holder → Holder → Type 0
TellsOfKind tag freed told tags = Tells (kind_of (reserved_of tags) tag) freed told tags

-- the same of kept tags that went back, of which a hand alone has none: it does nothing
abbrev pub TellsOfKept : ℕ → ToldHands → Pool ℕ → Holder → Holder → Type 0
TellsOfKept freed told tags = Either (λ old new. (told ≡ nobody) × (new ≡ old))
    (λ old new. Tells Ordinary freed told tags (Caching old) (Caching new))

-- a call ended so: the hand told others, and C gets this number, flagged exactly if there were any
pub record Ends (tells : ToldHands → Pool ℕ → Holder → Holder → Type 0) (number : ℤ) (before after : ToldHands)
    (code : ℤ) (tags : Pool ℕ) (old new : Holder) : Type 0 where
  pub told : ToldHands
  pub does : tells told tags old new
  pub answers : Answers number told before after code

-- a call that gave so many tags back told others of them; one that was refused did nothing more, and told nobody
pub record EndsGiving (answer : Result ℕ TagFault) (tells : ℕ → ToldHands → Pool ℕ → Holder → Holder → Type 0)
    (before after : ToldHands) (code : ℤ) (tags : Pool ℕ) (old new : Holder) : Type 0 where
  pub refused : IfErr answer (λ fault. (code ≡ code_of_fault fault) × (after ≡ before) × (new ≡ old))
  pub ends : IfOk answer (λ freed. Ends (tells freed) (pos 0) before after code tags old new)

-- a call gave tags back as the first relation says, and then told others of them as the second one says
pub record GivesAndTells (gives : Pool ℕ → Result ℕ TagFault → Holder → Holder → Type 0)
    (tells : ℕ → ToldHands → Pool ℕ → Holder → Holder → Type 0) (before after : ToldHands) (code : ℤ) (tags : Pool ℕ)
    (old new : Holder) : Type 0 where
  pub answer : Result ℕ TagFault
  pub between : Holder
  pub does : gives tags answer old between
  pub ends : EndsGiving answer tells before after code tags between new

-- after a get that left so many tags free the hand told others of as many, or of as many as can wait; C gets its number,
-- flagged exactly if it left any: then it learns whom
pub record LooksAfter (tells : ℕ → ToldHands → Pool ℕ → Holder → Holder → Type 0) (left : ℕ) (number : ℤ)
    (before after : ToldHands) (code : ℤ) (tags : Pool ℕ) (old new : Holder) : Type 0 where
  pub none : left ≡ 0 → (code ≡ number) × (after ≡ before) × (new ≡ old)
  pub some : 1 ≤ left → (code ≡ flagged number) × tells (min left MAX_CALLERS) after tags old new

-- the hand made a get as the first relation says, and then told others of what that left free, as the second one says
pub record GetsAndTells {A : Type 0} (gets : Pool ℕ → A → Holder → Holder → Type 0) (number : A → ℤ) (left : A → ℕ)
    (tells : ℕ → ToldHands → Pool ℕ → Holder → Holder → Type 0) (before after : ToldHands) (code : ℤ) (tags : Pool ℕ)
    (old new : Holder) : Type 0 where
  pub answer : A
  pub between : Holder
  pub does : gets tags answer old between
  pub looks : LooksAfter tells (left answer) (number answer) before after code tags between new

-- the same of a get of one tag
abbrev pub GetsTag : (Pool ℕ → Result (Found ℕ) TagFault → Holder → Holder → Type 0)
    → (ℕ → ToldHands → Pool ℕ → Holder → Holder → Type 0) → ToldHands → ToldHands → ℤ → Pool ℕ → Holder → Holder
    → Type 0
GetsTag gets tells = GetsAndTells gets code_of_found left_of tells

-- the same of a get of up to n ordinary tags, which writes the mask of those won
abbrev pub GetsBatch : ℕ → ℕ → ℕ → ToldHands → ToldHands → ℤ → Pool ℕ → Holder → Holder → Type 0
GetsBatch n before after = GetsAndTells (DoesGetBatch n before after) code_of_found_batch left_of (Tells Ordinary)

-- the same of a get of as many ordinary tags as the list has places
abbrev pub GetsMany : List ℕ → List ℕ → ToldHands → ToldHands → ℤ → Pool ℕ → Holder → Holder → Type 0
GetsMany before list = GetsAndTells (DoesGetMany before list) code_of_many left_of_many (Tells Ordinary)

-- the hand gave all kept tags back, and then told others of as many; C gets how many
pub record FlushesAndTells (before after : ToldHands) (code : ℤ) (tags : Pool ℕ) (old new : Holder) : Type 0 where
  pub freed : ℕ
  pub between : Holder
  pub flushes : DoesFlush freed tags old between
  pub ends : Ends (TellsOfKept freed) (pos freed) before after code tags between new
