-- Who sees to those that wait by the bell through the handle of a hand, and what is told to those who wait.
use Rattle.std.specs.Prelude.{if◌then◌else◌, ◌≡◌}
use Rattle.tag_c.specs.Uses.{Bool, Changes, Kind, max, number_of, Ordinary, Pool, pos, ℕ, ℤ}
use Rattle.tag_bell.specs.declared.told.Told.{Told}
use Rattle.tag_pool.specs.Bell as bell
use Rattle.tag_pool.specs.Sides as side
use Rattle.tag_pool.specs.Holding.{HoldsSame}
use Rattle.tag_cache.specs.Bell as caches
use Rattle.tag_cache.specs.Caches as cache
use Rattle.tag_cache.specs.Same.{SameTags}
use Rattle.tag_c.specs.declared.bell.ToldHands.{ToldHands}
use Rattle.tag_c.specs.Holders as holders
use Rattle.tag_c.specs.Holders.{Holder, Either}

-- these were told
abbrev pub told_of : ToldHands → Told
told_of told = record { sleepers = told.sleepers; listeners = told.listeners }

-- the hand has nothing more to see to among tags of this kind, and told these; with a cache it gave back what it kept, if
-- somebody waits for an ordinary tag
abbrev pub DoesSeeTo : Kind → ℕ → ToldHands → ℤ → Pool ℕ → Holder → Holder → Type 0
DoesSeeTo kind freed told code tags old new = (code ≡ pos 0)
    × Either (λ old new. Changes kind (side.SeesTo (max freed 1) side.see_to_steps (told_of told)) old new
    × HoldsSame old new)
    (caches.SeesTo kind freed tags (told_of told)) old new

-- 1 if one look at the hand's berth did not find it listed: it was told, or does not wait; and 0 if it did
abbrev pub SaysIfTold : ℤ → Pool ℕ → Holder → Holder → Type 0
SaysIfTold code tags old new = (told : Bool) × (code ≡ (if told then pos 1 else pos 0))
    × Either (λ old new. Changes Ordinary (bell.LooksIfTold told) old new × HoldsSame old new)
    (λ old new. Changes Ordinary (bell.LooksIfTold told) (cache.hand_of old) (cache.hand_of new) × SameTags old new)
    old new

-- the number by which others tell the hand, and nothing changes
abbrev pub SaysNumber : ℤ → Pool ℕ → Holder → Holder → Type 0
SaysNumber code tags old new = (new ≡ old) × (code ≡ pos (number_of (holders.hand_of old)))
