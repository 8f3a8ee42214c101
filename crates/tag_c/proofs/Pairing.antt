-- A holder that has won a tag holds it, so the write that comes next succeeds, over any holder.
use Rattle.std.specs.Prelude.{◌≡◌, ◌⊎◌}
use Rattle.tag_c.proofs.Uses.{answer_of, Bare, Caching, DoesGet, Either, Err, Found, Holder, IfOk, IsAnswer, IsUnchanged, None, Ok, Option, PassesAll, Pool, PoolState, refl, RefusesBy, Result, Some, subst, sym, TagFault, ℕ, ⊎_elim, ◌∙◌}
use Rattle.tag_pool.specs.Slots as hands
use Rattle.tag_cache.specs.Calls as caches
use Rattle.tag_c.specs.Pairs.{tag_checks, DoesGetWrite}
use Rattle.tag_c.proofs.Passing.{answered}

-- the holder writes the slot, or is refused
abbrev pub Writes : ℕ → ℕ → Result ℕ TagFault → Holder → Holder → Pool ℕ → Type 0
Writes tag value answer old new tags = RefusesBy (tag_checks tags old tag) (IsUnchanged old new) answer
    × Either (hands.DoesWrite tag value tags answer) (caches.DoesWrite tag value tags answer) old new

-- a holder that gets a tag holds it
gains : (tags : Pool ℕ) (tag : ℕ) (known : Found ℕ) (old between : Holder) → IsAnswer known.answer tag
    → DoesGet tags (Ok known) old between → PassesAll (tag_checks tags between tag)
gains tags tag known (Bare old) (Bare between) is does =
    let gets = does.gets in ((gets.tag tag is).0, (gets.more.joined tag is, tt))
gains tags tag known (Caching old) (Caching between) is does =
    let gets = does.gets in ((gets.ordinary tag is).0, (gets.more.joined tag is, tt))
gains tags tag known (Bare old) (Caching between) is does = absurd does
gains tags tag known (Caching old) (Bare between) is does = absurd does

module _ (tags : Pool ℕ) (value : ℕ) (old between : Holder) where
  -- the holder holds the tag that it has just won, so the write succeeds
  pub writes_won : (new : Holder) (tag : ℕ) (found : Result (Found ℕ) TagFault) (write : Result ℕ TagFault)
      → answer_of found ≡ Ok (Some tag) → DoesGet tags found old between → Writes tag value write between new tags
      → DoesGetWrite value tags found old new
  writes_won new tag (Err fault) write won gets writes = absurd (let no = won in cc)
  writes_won new tag (Ok known) write won gets writes = let is : known.answer ≡ Some tag = cc in
      let done = answered (tag_checks tags between tag) write
      (gains tags tag known old between (rw is refl) gets) writes.0 in record {
        between = between;
        gets = gets;
        writes = rw is (
          done.0,
          (
            subst (λ (r : Result ℕ TagFault). Either (hands.DoesWrite tag value tags r)
                (caches.DoesWrite tag value tags r) between new) done.1 writes.1,
            refl,
          ),
        );
        nothing = rw is tt;
        err = tt;
      }

  -- no tag is won, so the get is all
  pub wins_none : (found : Result (Found ℕ) TagFault) → IfOk (answer_of found) (λ won. won ≡ None)
      → DoesGet tags found old between → DoesGetWrite value tags found old between
  wins_none (Ok known) none gets =
      record { between = between; gets = gets; writes = rw none tt; nothing = rw none refl; err = tt }
  wins_none (Err fault) none gets =
      record { between = between; gets = gets; writes = tt; nothing = tt; err = refl }

-- the holder wrote the slot of the tag that its get won
pub record WritesTag (value : ℕ) (answer : Result (Option ℕ) TagFault) (tags : Pool ℕ) (between new : Holder)
    : Type 0 where
  pub tag : ℕ
  pub write : Result ℕ TagFault
  pub won : answer ≡ Ok (Some tag)
  pub writes : Writes tag value write between new tags

-- or the get won none, and the holder did nothing more
abbrev pub WritesWon : ℕ → Result (Option ℕ) TagFault → Pool ℕ → Holder → Holder → Type 0
WritesWon value answer tags between new =
    WritesTag value answer tags between new ⊎ (IfOk answer (λ won. won ≡ None) × (new ≡ between))

-- so the two are a get with a write, in the pool as the get read it
pub gets_and_writes : {state first : PoolState} {value : ℕ} {old between new : Holder}
    {won : Result (Option ℕ) TagFault} (found : Result (Found ℕ) TagFault) → first ≡ state
    → DoesGet first.tags found old between → won ≡ answer_of found → WritesWon value won state.tags between new
    → DoesGetWrite value state.tags found old new
gets_and_writes {state} {first} {value} {old} {between} {new} {won} found at gets is wrote =
    let does : DoesGet state.tags found old between =
    subst (λ (s : PoolState). DoesGet s.tags found old between) at gets in
    ⊎_elim (λ (some : WritesTag value won state.tags between new). writes_won state.tags value old between new some.tag
    found some.write (sym is ∙ some.won) does some.writes)
    (λ none. subst (λ (h : Holder). DoesGetWrite value state.tags found old h) (sym none.1)
    (wins_none state.tags value old between found
    (subst (λ (a : Result (Option ℕ) TagFault). IfOk a (λ answer. answer ≡ None)) is none.0) does)) wrote
