-- A hand without a cache that cleared a tag tells others that wait for one of its kind.
use Rattle.std.specs.Prelude.{◌<◌, ◌≡◌}
use Rattle.tag_c.proofs.Uses.{Bare, DoesClear, Hand, Holder, mag, Ok, PoolState, pos, refl, sym, ℕ, ℤ, ◌∙◌}
use Rattle.tag_pool.specs.Clears as hands
use Rattle.tag_pool.specs.declared.kind.Kind.{Kind}
use Rattle.tag_c.specs.Telling.{Ends, GivesAndTells, Tells, TellsOfKind}
use Rattle.tag_c.specs.declared.bell.ToldHands.{ToldHands}
use Rattle.tag_c.proofs.Calling.{as_stored}
use Rattle.tag_c.proofs.Endings.{ends_of_kind, gave, kind_in}

-- it cleared a tag of this kind, and then told others
pub cleared : (tag : ℕ) (kind known : Kind) {state shared : PoolState} {old between : Hand ℕ} {new : Holder}
    {before after : ToldHands} {code : ℤ} → kind ≡ known → mag code < 2147483648 → shared ≡ state
    → hands.DoesClear tag shared.tags (Ok kind) old between
    → Ends (Tells known 1) (pos 0) before after code state.tags (Bare between) new
    → GivesAndTells (DoesClear tag) (TellsOfKind tag) before after (as_stored code) state.tags (Bare old) new
cleared tag kind known is small at did ends = gave (DoesClear tag) (TellsOfKind tag) 1 small at (Ok kind, refl, did)
    (ends_of_kind tag 1 known (sym is ∙ kind_in tag did.kind at) ends)
