-- A get by a hand without a cache, which is finished after its first try.
use Rattle.std.specs.Prelude.{◌<◌, ◌≡◌}
use Rattle.tag_c.proofs.Uses.{ap, arc_value, DoesGet, Hand, HandCalls, mag, Member, PoolState, subst, sym, Unfinished, ℕ, ℤ, ◌∙◌}
use Rattle.tag_pool.specs.FirstTry as pools
use Rattle.tag_pool.specs.declared.kind.Kind.TheVariants.{Ordinary}
use Rattle.tag_c.specs.Begun.{TriesFirst}
use Rattle.tag_c.specs.Telling.{GetsTag, Tells}
use Rattle.tag_c.specs.declared.bell.ToldHands.{ToldHands}
use Rattle.tag_c.proofs.Calling.{as_stored}
use Rattle.tag_c.proofs.Endings.{as_is}

-- a first try in the pool of the hand is one in the tags that its next call finds there
pub tried_in : (rest : Unfinished) (before now : Member) (state : PoolState) → state ≡ arc_value now.shared
    → TriesFirst rest before now → pools.TriesFirst state.tags rest before.hand now.hand
tried_in rest before now state at tried =
    subst (λ (s : PoolState). pools.TriesFirst s.tags rest before.hand now.hand)
    (sym (at ∙ ap (λ s. arc_value s) tried.0)) tried.1

-- a call that hands the number of a get on stores it as it is
pub called : (before after : ToldHands) (code : ℤ) (old new : Member) → mag code < 2147483648
    → HandCalls (GetsTag DoesGet (Tells Ordinary) before after code) old new
    → HandCalls (GetsTag DoesGet (Tells Ordinary) before after (as_stored code)) old new
called before after code old new =
    as_is (λ c. HandCalls (GetsTag DoesGet (Tells Ordinary) before after c) old new)

-- a first try in the tags that a call finds in the pool of the hand
pub seen_in : (rest : Unfinished) (now : Member) (state : PoolState) (hand : Hand ℕ) → state ≡ arc_value now.shared
    → pools.TriesFirst state.tags rest now.hand hand → pools.TriesFirst (arc_value now.shared).tags rest now.hand hand
seen_in rest now state hand at tried =
    subst (λ (s : PoolState). pools.TriesFirst s.tags rest now.hand hand) at tried
