-- A holder that has read a slot still holds its tag, so the clear that comes next succeeds, over any holder.
use Rattle.std.specs.Prelude.{◌+◌, ◌<◌, ◌≡◌}
use Rattle.tag_c.proofs.Uses.{arith, Bare, DoesClear, DoesRead, Err, Hand, Holder, Holds, IsRefusal, IsUnchanged, mag, Ok, PassesAll, Pool, PoolState, pos, refl, RefusesBy, reserved_of, Result, subst, sym, TagFault, total_of, ℕ, ℤ, ⊎_elim, ◌∙◌}
use Rattle.tag_pool.specs.Clears as hands
use Rattle.tag_pool.specs.Hands.{back_of, step_count}
use Rattle.tag_pool.specs.Refusals.{tag_checks as hand_checks}
use Rattle.tag_pool.specs.Sets.{kind_of}
use Rattle.tag_pool.specs.Slots as slots
use Rattle.tag_c.specs.Codes.{code_of_fault}
use Rattle.tag_c.specs.Pairs.{tag_checks, DoesReadClear}
use Rattle.tag_c.specs.Telling.{Ends, EndsGiving, GivesAndTells, TellsOfKind}
use Rattle.tag_c.specs.declared.bell.ToldHands.{ToldHands}
use Rattle.tag_c.proofs.Calling.{as_stored, stored}
use Rattle.tag_c.proofs.Endings.{gave, refused}
use Rattle.tag_c.proofs.Passing.{unfailed}

-- a hand clears a tag that it holds, with no checks
clears_held : (tags : Pool ℕ) (tag : ℕ) (old new : Hand ℕ) → PassesAll (hand_checks tags old tag)
    → hands.Clears tags tag old new
    → (let kind = kind_of (reserved_of tags) tag in back_of new kind ≡ back_of old kind + 1)
    → step_count new ≡ 1 + step_count old → DoesClear tag tags (Ok 1) (Bare old) (Bare new)
clears_held tags tag old new passes did back bound = (
  Ok (kind_of (reserved_of tags) tag),
  refl,
  record {
    refusals = record { first = tt; passes = passes; same = tt };
    clears = did;
    back = back;
    kind = refl;
    bound = omega (arith, bound);
  },
)

-- a number of which 0 was the answer, flagged or not, is no refusal
pub no_refusal : {tells : ToldHands → Pool ℕ → Holder → Holder → Type 0} {before after : ToldHands} {code : ℤ}
    {tags : Pool ℕ} {old new : Holder} → Ends tells (pos 0) before after code tags old new → ¬ (IsRefusal code)
no_refusal {code = code} ends refusal = ⊎_elim (λ alone. subst IsRefusal alone.1 refusal)
    (λ more. subst IsRefusal more.1 refusal) ends.answers

module _ (tag value : ℕ) {state first : PoolState} {code : ℤ} (at : first ≡ state) (small : mag code < 2147483648)
    (old between : Holder) where
  -- a read that is refused is all
  pub refused_read : (fault : TagFault) {told : ToldHands} → code ≡ code_of_fault fault
      → RefusesBy {Answer = ℕ} (tag_checks first.tags old tag) (IsUnchanged old between) (Err fault)
      → GivesAndTells (DoesReadClear tag value) (TellsOfKind tag) told told (as_stored code) state.tags old between
  refused_read fault is refusals = refused (DoesReadClear tag value) (TellsOfKind tag) fault is small at
      (record { refusals = record { first = refusals.first; passes = tt; same = refusals.same }; does = tt })

  -- the clear reads the pool anew
  pub cleared_read : {second : PoolState} (again : second ≡ state) (cleared new : Holder) (freed : ℕ)
      {before after : ToldHands} → PassesAll (tag_checks first.tags old tag)
      → DoesRead tag value first.tags (Ok value) old between → DoesClear tag second.tags (Ok freed) between cleared
      → Ends (TellsOfKind tag freed) (pos 0) before after code state.tags cleared new
      → GivesAndTells (DoesReadClear tag value) (TellsOfKind tag) before after (as_stored code) state.tags old new
  cleared_read again cleared new freed passes reads clears ends =
      gave (DoesReadClear tag value) (TellsOfKind tag) freed small at (record {
        refusals = record { first = tt; passes = passes; same = tt };
        does = (
          between,
          reads,
          subst (λ (s : PoolState). DoesClear tag s.tags (Ok freed) between cleared) (again ∙ sym at) clears,
        );
      }) ends

  -- a clear that makes its own checks passes them all, as the tag is still held
  pub cleared_read_over : {second : PoolState} (again : second ≡ state) (cleared new : Holder)
      (given : Result ℕ TagFault) {before after : ToldHands} {same : Type 0} → PassesAll (tag_checks first.tags old tag)
      → Holds between tag → DoesRead tag value first.tags (Ok value) old between
      → RefusesBy (tag_checks second.tags between tag) same given → DoesClear tag second.tags given between cleared
      → EndsGiving given (TellsOfKind tag) before after code state.tags cleared new
      → GivesAndTells (DoesReadClear tag value) (TellsOfKind tag) before after (as_stored code) state.tags old new
      × ¬ (IsRefusal (as_stored code))
  cleared_read_over again cleared new (Ok freed) passes held reads refusals clears ends = (
    cleared_read again cleared new freed passes reads clears ends.ends,
    λ refusal. no_refusal ends.ends (subst IsRefusal (stored code small) refusal),
  )
  cleared_read_over {second} again cleared new (Err fault) {same = same} passes held reads refusals clears ends =
      absurd (unfailed (tag_checks first.tags between tag) fault (passes.0, (held, tt))
      (subst (λ (s : PoolState). RefusesBy {Answer = ℕ} (tag_checks s.tags between tag) same (Err fault))
      (again ∙ sym at) refusals).first)

-- a clear by a hand without a cache makes no checks
pub cleared_read_held : (tag value : ℕ) {state first second : PoolState} {code : ℤ} (at : first ≡ state)
    (again : second ≡ state) (small : mag code < 2147483648) (old between cleared : Hand ℕ) {new : Holder}
    {before after : ToldHands} → slots.DoesRead tag first.tags (Ok value) old between
    → hands.Clears second.tags tag between cleared
    → (let kind = kind_of (reserved_of second.tags) tag in back_of cleared kind ≡ back_of between kind + 1)
    → step_count cleared ≡ 1 + step_count between
    → Ends (TellsOfKind tag 1) (pos 0) before after code state.tags (Bare cleared) new
    → GivesAndTells (DoesReadClear tag value) (TellsOfKind tag) before after (as_stored code) state.tags (Bare old) new
cleared_read_held tag value {second = second} at again small old between cleared {new} reads did back bound ends =
    let passes = reads.refusals.passes in let held = (reads.reads.same.kept tag passes.1.0).0 in
    let low : tag < total_of second.tags =
    subst (λ (s : PoolState). tag < total_of s.tags) (at ∙ sym again) passes.0 in
    cleared_read tag value at small (Bare old) (Bare between) again (Bare cleared) new 1 passes (reads, refl)
    (clears_held second.tags tag between cleared (low, (held, tt)) did back bound) ends
