-- Between calls a hand of a queue holds no token.
use Rattle.std.proofs.Common.{None, Option, Some, subst, ⊎_elim, ℕ, ◌≡◌}
use Rattle.std.specs.Bool.{⊤}
use Rattle.tag_bell.specs.declared.sleeping.Woken.{Woken}
use Rattle.tag_model.proofs.HoldingFacts.{more_then_same}
use Rattle.tag_pool.specs.Gets.{IsAnswer}
use Rattle.tag_pool.specs.Hands.{Holds}
use Rattle.tag_pool.specs.Holding.{HoldsLess, HoldsMore, HoldsSame}
use Rattle.tag_pool.specs.Opening.{HoldsNone}
use Rattle.tag_pool.specs.Slots.{Misses}
use Rattle.tag_pool.specs.declared.hand.Hand.{Hand}
use Rattle.posted_queue.specs.Hands.{in_tokens}
use Rattle.posted_queue.specs.Serving.{Searches}
use Rattle.posted_queue.specs.Submitting.{FindsNoToken, LooksInVain}
use Rattle.posted_queue.specs.declared.queue.PostedHand.{PostedHand}
use Rattle.posted_queue.specs.declared.queue.PostedQueue.{PostedQueue}

pub none_same : (old new : Hand ⊤) → HoldsNone old → HoldsSame old new → HoldsNone new
none_same old new none same tag has = none tag (same.none_else tag has)

-- it held one token, and gave that up
pub none_after : (token : ℕ) (old mid new : Hand ⊤) → HoldsNone old → HoldsMore (λ other. other ≡ token) old mid
    → HoldsLess (λ other. other ≡ token) mid new → HoldsNone new
none_after token old mid new none more less tag has =
    ⊎_elim (λ was. none tag was) (λ is. less.gone tag is has) (more.none_else tag (less.none_else tag has))

-- what a search for a token comes to
pub searched : (queue : PostedQueue) (answer : Option ℕ) (woken : Woken) (old new : Hand ⊤)
    → Searches queue answer woken old new → HoldsMore (IsAnswer answer) old new
searched queue answer woken old new s = more_then_same s.gets.more s.looks.same

pub won : (queue : PostedQueue) (answer : Option ℕ) (woken : Woken) (old new : Hand ⊤) (token : ℕ) → answer ≡ Some token
    → Searches queue answer woken old new → HoldsMore (λ other. other ≡ token) old new
won queue answer woken old new token is s =
    subst (λ (a : Option ℕ). HoldsMore (IsAnswer a) old new) is (searched queue answer woken old new s)

pub found_none : (queue : PostedQueue) (answer : Option ℕ) (woken : Woken) (old new : Hand ⊤) → answer ≡ None
    → HoldsNone old → Searches queue answer woken old new → HoldsNone new
found_none queue answer woken old new is none s tag has = ⊎_elim (λ was. none tag was)
    (λ named. subst (λ (a : Option ℕ). IsAnswer a tag) is named)
    ((searched queue answer woken old new s).none_else tag has)

-- a look for a token in vain
pub none_missed : (queue : PostedQueue) (tag : ℕ) (old new : PostedHand) → HoldsNone (in_tokens old)
    → FindsNoToken queue tag old new → HoldsNone (in_tokens new)
none_missed queue tag old new none finds tag' has = ⊎_elim
    (λ past. none tag' (subst (λ (own : PostedHand). Holds (in_tokens own) tag') past.1 has))
    (λ (vain : LooksInVain queue tag old new). ⊎_elim
    (λ same. none tag' (subst (λ (hand : Hand ⊤). Holds hand tag') same.1 has))
    (λ (missed : Misses vain.found (in_tokens old) (in_tokens new)).
    none_same (in_tokens old) (in_tokens new) none missed.same tag' has) vain.misses) finds
