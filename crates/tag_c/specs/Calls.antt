-- What a call through the handle of a hand does: of a hand alone what `tag_pool` says, of one with a cache what `tag_cache`
-- says.
use Rattle.std.specs.Prelude.{◌≡◌}
use Rattle.tag_c.specs.Uses.{arc_value, Bool, count_ones, Found, IfOk, length, List, None, Option, Result, Set, Some, TagFault, Pool, ℕ, ℤ, ⊤}
use Rattle.tag_pool.specs.Batches as batches
use Rattle.tag_pool.specs.Clears as clears
use Rattle.tag_pool.specs.Exact as exact
use Rattle.tag_pool.specs.Gets as gets
use Rattle.tag_pool.specs.Many as many
use Rattle.tag_pool.specs.Slots as slots
use Rattle.tag_cache.specs.Calls as caches
use Rattle.tag_cache.specs.Exact as exact_caches
use Rattle.tag_cache.specs.Many as many_caches
use Rattle.tag_c.specs.declared.bell.ToldHands.{ToldHands}
use Rattle.tag_c.specs.declared.cached.CachedMember.{CachedMember}
use Rattle.tag_c.specs.declared.member.Member.{Member}
use Rattle.tag_c.specs.declared.object.Kind.{Kind}
use Rattle.tag_c.specs.declared.object.Kind.TheVariants.{Pool as IsPool, Member as IsMember, Cached as IsCached}
use Rattle.tag_c.specs.declared.object.Object.{Object}
use Rattle.tag_c.specs.declared.status.Status.TheVariants.{BadHandle}
use Rattle.tag_c.specs.Holders.{Holder, Bare, Caching, Either}
use Rattle.tag_c.specs.Codes.{code_of, counted}
use Rattle.tag_c.specs.Left.{answer_of, won_of}

-- a hand stays one of the same pool and changes by this relation
abbrev pub HandCalls : (Pool ℕ → Holder → Holder → Type 0) → Member → Member → Type 0
HandCalls change old new = (new.shared ≡ old.shared) × change (arc_value old.shared).tags (Bare old.hand) (Bare new.hand)

-- the same of a hand with a cache
abbrev pub CacheCalls : (Pool ℕ → Holder → Holder → Type 0) → CachedMember → CachedMember → Type 0
CacheCalls change old new = (new.shared ≡ old.shared)
    × change (arc_value old.shared).tags (Caching old.cache) (Caching new.cache)

-- a hand, with or without a cache, stays what it is and changes by this relation; a call on a pool is refused so, and
-- changes nothing
abbrev pub CallsAs : (Pool ℕ → Holder → Holder → Type 0) → Type 0 → Kind → Kind → Type 0
CallsAs change refused (IsMember old) (IsMember new) = HandCalls change old new
CallsAs change refused (IsCached old) (IsCached new) = CacheCalls change old new
CallsAs change refused (IsPool old) (IsPool new) = refused × (new ≡ old)
CallsAs change refused _ _ = ⊥

-- the same for the object behind a handle
abbrev pub Calls : (Pool ℕ → Holder → Holder → Type 0) → Type 0 → Object → Object → Type 0
Calls change refused old new = CallsAs change refused old.kind new.kind

-- the same for a handle; a call on an empty handle is refused so, and the handle stays empty
abbrev pub CallsOr : (Pool ℕ → Holder → Holder → Type 0) → Type 0 → Option Object → Option Object → Type 0
CallsOr change refused None None = refused
CallsOr change refused None (Some new) = ⊥
CallsOr change refused (Some old) None = ⊥
CallsOr change refused (Some old) (Some new) = Calls change refused old new

-- the same of a call that returns this number: it is refused for its handle by that of `BadHandle`
abbrev pub CallsBy : (Pool ℕ → Holder → Holder → Type 0) → ℤ → Option Object → Option Object → Type 0
CallsBy change code = CallsOr change (code ≡ code_of BadHandle)

-- the same of a call that may fill in whom it told: one that is refused for its handle leaves that as it was
abbrev pub TellsBy : (ToldHands → ToldHands → ℤ → Pool ℕ → Holder → Holder → Type 0) → ToldHands → ToldHands → ℤ
    → Option Object → Option Object → Type 0
TellsBy change before after code = CallsOr (change before after code) ((code ≡ code_of BadHandle) × (after ≡ before))

-- the number returned is that of an answer of `tag_pool`, and the holder changed as the contract says for that answer
abbrev pub Through : {A : Type 0} → (Pool ℕ → A → Holder → Holder → Type 0) → (A → ℤ) → ℤ → Pool ℕ → Holder → Holder
    → Type 0
Through {A} does number code tags old new = (answer : A) × (code ≡ number answer) × does tags answer old new

-- gets an ordinary tag, and tells how many its sweeps left free
abbrev pub DoesGet : Pool ℕ → Result (Found ℕ) TagFault → Holder → Holder → Type 0
DoesGet tags answer = Either (gets.DoesGet tags answer) (caches.DoesGet tags answer)

-- gets a reserved tag, and tells how many its sweeps left free
abbrev pub DoesGetReserved : Pool ℕ → Result (Found ℕ) TagFault → Holder → Holder → Type 0
DoesGetReserved tags answer = Either (gets.DoesGetReserved tags answer) (caches.DoesGetReserved tags answer)

-- gets an ordinary tag within the shares of a shallow depth, and tells how many its sweeps left free
abbrev pub DoesGetShallow : ℕ → Pool ℕ → Result (Found ℕ) TagFault → Holder → Holder → Type 0
DoesGetShallow depth tags answer = Either (gets.DoesGetShallow depth tags answer) (caches.DoesGetShallow depth tags answer)

-- gets this tag, if it is free, and tells how many of its kind its sweeps left free
abbrev pub DoesGetExactly : ℕ → Pool ℕ → Result (Found ℕ) TagFault → Holder → Holder → Type 0
DoesGetExactly tag tags answer = Either (exact.DoesGetExactly tag tags answer) (exact_caches.DoesGetExactly tag tags answer)

-- gets up to n ordinary tags, writes the mask of those won, if there are any, and tells how many its sweeps left free
abbrev pub DoesGetBatch : ℕ → ℕ → ℕ → Pool ℕ → Result (Found (ℕ × ℕ)) TagFault → Holder → Holder → Type 0
DoesGetBatch n before after tags answer old new =
    Either (gets.DoesGetBatch n tags answer) (caches.DoesGetBatch n tags answer) old new
    × (after ≡ won_of (answer_of answer) before)

-- gets as many ordinary tags as the list has places, or none, and tells how many were left free
abbrev pub DoesGetMany : List ℕ → List ℕ → Pool ℕ → Result (Bool × ℕ) TagFault → Holder → Holder → Type 0
DoesGetMany before list tags answer =
    Either (many.DoesGetMany tags before list answer) (many_caches.DoesGetMany tags before list answer)

-- clears a tag, and tells how many tags went back: of a cache how many ordinary ones
abbrev pub DoesClear : ℕ → Pool ℕ → Result ℕ TagFault → Holder → Holder → Type 0
DoesClear tag tags answer = Either
    (λ old new. (cleared : Result Set TagFault) × (answer ≡ counted 1 cleared) × clears.DoesClear tag tags cleared old new)
    (caches.DoesClear tag tags answer)

-- clears the tags of a list, and tells how many went back
abbrev pub DoesClearBatch : List ℕ → Pool ℕ → Result ℕ TagFault → Holder → Holder → Type 0
DoesClearBatch list tags answer = Either
    (λ old new. (done : Result ⊤ TagFault) × (answer ≡ counted (length list) done)
    × batches.DoesClearBatch list tags done old new)
    (caches.DoesClearBatch list tags answer)

-- clears the tags of a mask, and tells how many went back
abbrev pub DoesClearMask : ℕ → ℕ → Pool ℕ → Result ℕ TagFault → Holder → Holder → Type 0
DoesClearMask first mask tags answer = Either
    (λ old new. (done : Result ⊤ TagFault) × (answer ≡ counted (count_ones mask) done)
    × batches.DoesClearMask first mask tags done old new)
    (caches.DoesClearMask first mask tags answer)

-- gives all kept tags back, of which a hand alone has none, and tells how many they were
abbrev pub DoesFlush : ℕ → Pool ℕ → Holder → Holder → Type 0
DoesFlush freed tags = Either (λ old new. (freed ≡ 0) × (new ≡ old)) (caches.DoesFlush tags freed)

-- reads the slot of a tag
abbrev pub DoesRead : ℕ → ℕ → Pool ℕ → Result ℕ TagFault → Holder → Holder → Type 0
DoesRead tag value tags answer old new = Either (slots.DoesRead tag tags answer) (caches.DoesRead tag tags answer) old new
    × IfOk answer (λ found. value ≡ found)

-- writes the slot of a tag, and returns its former value
abbrev pub DoesWrite : ℕ → ℕ → ℕ → Pool ℕ → Result ℕ TagFault → Holder → Holder → Type 0
DoesWrite tag value former tags answer old new =
    Either (slots.DoesWrite tag value tags answer) (caches.DoesWrite tag value tags answer) old new
    × IfOk answer (λ found. former ≡ found)

-- posts a tag, and tells how many kept tags went back before: a hand alone has none
abbrev pub DoesPost : ℕ → Pool ℕ → Result ℕ TagFault → Holder → Holder → Type 0
DoesPost tag tags answer = Either
    (λ old new. (done : Result ⊤ TagFault) × (answer ≡ counted 0 done) × slots.DoesPost tag 0 tags done old new)
    (caches.DoesPost tag 0 tags answer)

-- takes a posted tag
abbrev pub DoesTake : ℕ → Pool ℕ → Result ⊤ TagFault → Holder → Holder → Type 0
DoesTake tag tags answer = Either (slots.DoesTake tag tags answer) (caches.DoesTake tag tags answer)
