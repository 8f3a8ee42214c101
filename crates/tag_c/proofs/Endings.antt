-- How calls end that gave tags back, or left some free: the hand sees to them, and C learns whom it told.
use Rattle.std.specs.Prelude.{◌<◌, ◌≡◌, ◌≢◌, ◌∷◌}
use Rattle.tag_c.proofs.Uses.{[], ap, arith, Bare, Bool, Caching, code_of_done, Err, false, Hand, Holder, inl, inr, mag, min, Ok, Pool, PoolState, pos, refl, reserved_of, Result, subst, sym, TagFault, ℕ, ℤ, ⊎_elim, ◌∙◌}
use Rattle.tag_model.specs.declared.world.TheConstants.{MAX_CALLERS}
use Rattle.tag_core.specs.declared.bell_step.BellStep.TheVariants.{LookAll}
use Rattle.tag_core.specs.declared.berth.Waiter.{Waiter}
use Rattle.tag_core.specs.declared.step.Step.TheVariants.{Bell}
use Rattle.tag_bell.specs.Callers.{OwesNothing}
use Rattle.tag_bell.specs.declared.told.Told.{Told}
use Rattle.tag_pool.specs.Bell.{LooksForWaiters}
use Rattle.tag_pool.specs.Hands.{caller_of, Changes}
use Rattle.tag_pool.specs.Holding.{HoldsSame}
use Rattle.tag_pool.specs.Lending.{side_of}
use Rattle.tag_pool.specs.Sets.{kind_of}
use Rattle.tag_pool.specs.Sides as side
use Rattle.tag_pool.specs.declared.kind.Kind.{Kind}
use Rattle.tag_pool.specs.declared.kind.Kind.TheVariants.{Ordinary, Reserved}
use Rattle.tag_pool.specs.declared.side.Side.{Side}
use Rattle.tag_cache.specs.declared.cache.Cache.{Cache}
use Rattle.tag_cache.specs.Bell as caches
use Rattle.tag_cache.specs.Caches.{hand_of}
use Rattle.tag_cache.specs.Same.{SameTags}
use Rattle.tag_cache.proofs.Giving.{by_kept}
use Rattle.tag_c.specs.declared.bell.ToldHands.{ToldHands}
use Rattle.tag_c.specs.Bell.{told_of}
use Rattle.tag_c.specs.Codes.{code_of_fault}
use Rattle.tag_c.specs.Telling.{Ends, EndsGiving, FindsWaiters, flagged, GivesAndTells, LooksAfter, nobody, Sees, Tells, TellsOfKept, TellsOfKind}
use Rattle.tag_c.proofs.Calling.{as_stored, stored}

-- what is so of a number of 32 bits is so of it as it is stored
pub as_is : (fact : ℤ → Type 0) {code : ℤ} → mag code < 2147483648 → fact code → fact (as_stored code)
as_is fact {code} small so = subst fact (sym (stored code small)) so

module _ (tags : Pool ℕ) (freed : ℕ) where
  -- after one look that found nobody there is nothing more to see to
  pub sees_nobody : (kind : Kind) (old new : Hand ℕ) → HoldsSame old new → Changes kind (LooksForWaiters false) old new
      → Sees kind freed nobody tags (Bare old) (Bare new)
  sees_nobody kind old new held looks = let look = looks.changed in (
    record {
      changed = record {
        done = look.done refl;
        tells = record {
          steps = Bell (LookAll look.finds.waiting) ∷ [];
          only = look.finds.look;
          few = omega arith;
          sleepers = refl;
          listeners = refl;
        };
        turns = inl refl;
        waits = look.waits;
        holds = look.holds;
        hint = look.hint;
      };
      other = looks.other;
      split = looks.split;
    },
    held,
  )

  pub sees_nobody_over : (old new : Cache ℕ) → SameTags old new
      → Changes Ordinary (LooksForWaiters false) (hand_of old) (hand_of new)
      → Sees Ordinary freed nobody tags (Caching old) (Caching new)
  sees_nobody_over old new same looks = record {
    way = inl (record { looks = looks; none = refl; kept = same.kept });
    done = looks.changed.done refl;
    same = same.held;
    tally = same.tally;
    terms = same.kept.terms;
    reused = same.kept.reused;
    window = same.window;
  }

  -- a hand that sees to ordinary tags, kept ones among them, leaves its side of the reserved set as it is
  leaves_reserved : (told : Told) (old new : Cache ℕ) → caches.SeesTo Ordinary freed tags told old new
      → side_of (hand_of new) Reserved ≡ side_of (hand_of old) Reserved
  leaves_reserved told old new sees = ⊎_elim (λ (none : caches.FindsNobody told old new). none.looks.other)
      (λ (some : caches.TellsWithKept freed tags told old new). some.gives.tells.other
      ∙ by_kept tags (side_of some.gives.between Reserved ≡ side_of some.looked Reserved) old some.looked
      some.gives.between some.gives.gives (λ none same. ap (λ (h : Hand ℕ). side_of h Reserved) same)
      (λ list. list.gives.set.other) ∙ some.looks.other) sees.way

  -- so what it had seen to among reserved tags stays so
  pub done_in_both : (told : Told) (old new : Cache ℕ)
      → ((waiter : Waiter) → OwesNothing waiter (caller_of (hand_of old) Reserved))
      → caches.SeesTo Ordinary freed tags told old new → (kind : Kind) (waiter : Waiter)
      → OwesNothing waiter (caller_of (hand_of new) kind)
  done_in_both told old new done sees Ordinary waiter = sees.done waiter
  done_in_both told old new done sees Reserved waiter = subst (λ (s : Side ℕ). OwesNothing waiter (side.caller_of s))
      (sym (leaves_reserved told old new sees)) (done waiter)

-- what a hand saw to in the tags that a call found is what it saw to in the pool's tags
pub seen : (freed : ℕ) {kind other : Kind} {state shared : PoolState} {told : Told} (hands : ToldHands)
    (old new : Cache ℕ) → kind ≡ other → shared ≡ state → told_of hands ≡ told
    → caches.SeesTo kind freed shared.tags told old new → caches.SeesTo other freed state.tags (told_of hands) old new
seen freed {kind} {other} {state} {shared} hands old new same at is sees =
    subst (λ (k : Kind). caches.SeesTo k freed state.tags (told_of hands) old new) same
    (subst (λ (s : PoolState). caches.SeesTo kind freed s.tags (told_of hands) old new) at
    (subst (λ (t : Told). caches.SeesTo kind freed shared.tags t old new) (sym is) sees))

-- what a hand sees to with no look before it
pub sees_at_once : (kind : Kind) (freed : ℕ) (told : ToldHands) (tags : Pool ℕ) (old new : Holder)
    → Sees kind freed told tags old new → Tells kind freed told tags old new
sees_at_once kind freed told tags old new sees = record { looked = old; looks = inl refl; sees = sees }

-- a call ended with its number, and told nobody
pub ends_alone : (tells : ToldHands → Pool ℕ → Holder → Holder → Type 0) (number : ℤ) {tags : Pool ℕ}
    {old new : Holder} {told : ToldHands} → tells nobody tags old new → Ends tells number told told number tags old new
ends_alone tells number does = record { told = nobody; does = does; answers = inl (refl, refl, refl) }

module _ {tags : Pool ℕ} {old new : Holder} {before after : ToldHands} {code : ℤ} where
  -- a get left tags free, and told others of them
  pub left_some : (tells : ℕ → ToldHands → Pool ℕ → Holder → Holder → Type 0) (left : ℕ) (number : ℤ) (freed : ℕ)
      → left ≢ 0 → freed ≡ min left MAX_CALLERS → code ≡ flagged number → tells freed after tags old new
      → LooksAfter tells left number before after code tags old new
  left_some tells left number freed some is flag does = record {
    none = λ e. absurd (some e);
    some = λ h. (flag, subst (λ (n : ℕ). tells n after tags old new) is does);
  }

  -- a call that ended so ended also as this follows from it
  pub ends_as : (tells other : ToldHands → Pool ℕ → Holder → Holder → Type 0) {from : Holder} (number : ℤ)
      → ((told : ToldHands) → tells told tags from new → other told tags old new)
      → Ends tells number before after code tags from new → Ends other number before after code tags old new
  ends_as tells other number weaker ends =
      record { told = ends.told; does = weaker ends.told ends.does; answers = ends.answers }

  pub ends_giving_as : (tells other : ℕ → ToldHands → Pool ℕ → Holder → Holder → Type 0) (answer : Result ℕ TagFault)
      → ((freed : ℕ) (told : ToldHands) → tells freed told tags old new → other freed told tags old new)
      → EndsGiving answer tells before after code tags old new → EndsGiving answer other before after code tags old new
  ends_giving_as tells other (Ok freed) weaker ends =
      record { refused = tt; ends = ends_as (tells freed) (other freed) (pos 0) (weaker freed) ends.ends }
  ends_giving_as tells other (Err fault) weaker ends = record { refused = ends.refused; ends = tt }

-- what a look answered is what it found
pub looked : (kind : Kind) {found other : Bool} (old new : Hand ℕ) → found ≡ other
    → Changes kind (LooksForWaiters found) old new → Changes kind (LooksForWaiters other) old new
looked kind old new is looks = subst (λ (b : Bool). Changes kind (LooksForWaiters b) old new) is looks

-- a look found somebody, and then the call ended
pub found : (kind : Kind) (freed : ℕ) {tags : Pool ℕ} {old looked new : Holder} {before after : ToldHands} {code : ℤ}
    → mag code < 2147483648 → FindsWaiters kind tags old looked
    → Ends (Sees kind freed) (pos 0) before after code tags looked new
    → Ends (Tells kind freed) (pos 0) before after (as_stored code) tags old new
found kind freed {tags} {old} {looked} {new} {before} {after} small finds ends =
    as_is (λ z. Ends (Tells kind freed) (pos 0) before after z tags old new) small
    (ends_as (Sees kind freed) (Tells kind freed) (pos 0)
    (λ told sees. record { looked = looked; looks = inr finds; sees = sees }) ends)

-- the same of tags of the kind that this one has
pub tells_of_kind : (tag freed : ℕ) (told : ToldHands) {kind : Kind} {tags : Pool ℕ} {old new : Holder}
    → kind ≡ kind_of (reserved_of tags) tag → Tells kind freed told tags old new
    → TellsOfKind tag freed told tags old new
tells_of_kind tag freed told {kind} {tags} {old} {new} is tells =
    subst (λ (k : Kind). Tells k freed told tags old new) is tells

pub ends_of_kind : (tag freed : ℕ) (kind : Kind) {tags : Pool ℕ} {old new : Holder} {before after : ToldHands}
    {code : ℤ} → kind ≡ kind_of (reserved_of tags) tag → Ends (Tells kind freed) (pos 0) before after code tags old new
    → Ends (TellsOfKind tag freed) (pos 0) before after code tags old new
ends_of_kind tag freed kind {tags} {old} {new} is ends = ends_as (Tells kind freed) (TellsOfKind tag freed) (pos 0)
    (λ told tells. tells_of_kind tag freed told is tells) ends

-- the kind that a call found is that of the tag in the tags of the pool
pub kind_in : (tag : ℕ) {kind : Kind} {state shared : PoolState} → kind ≡ kind_of (reserved_of shared.tags) tag
    → shared ≡ state → kind ≡ kind_of (reserved_of state.tags) tag
kind_in tag is at = is ∙ ap (λ (s : PoolState). kind_of (reserved_of s.tags) tag) at

module _ (gives : Pool ℕ → Result ℕ TagFault → Holder → Holder → Type 0)
    (tells : ℕ → ToldHands → Pool ℕ → Holder → Holder → Type 0) where
  -- a call gave tags back, or was refused, and then it ended so
  pub ended : {state shared : PoolState} {before after : ToldHands} {code : ℤ} {old between new : Holder}
      (answer : Result ℕ TagFault) → mag code < 2147483648 → shared ≡ state → gives shared.tags answer old between
      → EndsGiving answer tells before after code state.tags between new
      → GivesAndTells gives tells before after (as_stored code) state.tags old new
  ended {state} {shared} {before} {after} {code} {old} {between} {new} answer small at did ends = record {
    answer = answer;
    between = between;
    does = subst (λ (s : PoolState). gives s.tags answer old between) at did;
    ends = as_is (λ z. EndsGiving answer tells before after z state.tags between new) small ends;
  }

  -- it was refused
  pub refused : {state shared : PoolState} {told : ToldHands} {code : ℤ} {old new : Holder} (fault : TagFault)
      → code ≡ code_of_fault fault → mag code < 2147483648 → shared ≡ state → gives shared.tags (Err fault) old new
      → GivesAndTells gives tells told told (as_stored code) state.tags old new
  refused fault is small at did =
      ended (Err fault) small at did (record { refused = (is, refl, refl); ends = tt })

  -- it gave so many back
  pub gave : {state shared : PoolState} {before after : ToldHands} {code : ℤ} {old between new : Holder} (freed : ℕ)
      → mag code < 2147483648 → shared ≡ state → gives shared.tags (Ok freed) old between
      → Ends (tells freed) (pos 0) before after code state.tags between new
      → GivesAndTells gives tells before after (as_stored code) state.tags old new
  gave freed small at did ends = ended (Ok freed) small at did (record { refused = tt; ends = ends })

-- a post by a hand without a cache has nothing to see to
pub posted : (answer : Result ℕ TagFault) {tags : Pool ℕ} {hand : Hand ℕ} {told : ToldHands} {code : ℤ}
    → code ≡ code_of_done answer → EndsGiving answer TellsOfKept told told code tags (Bare hand) (Bare hand)
posted (Ok freed) {tags} {hand} {told} {code} is = record {
  refused = tt;
  ends = subst (λ (z : ℤ). Ends (TellsOfKept freed) (pos 0) told told z tags (Bare hand) (Bare hand)) (sym is)
      (ends_alone (TellsOfKept freed) (pos 0) (refl, refl));
}
posted (Err fault) is = record { refused = (is, refl, refl); ends = tt }
