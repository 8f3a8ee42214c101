-- No two causes of a refusal hold at once, so a resize is refused for each cause exactly if it holds.
use Rattle.std.specs.Prelude.{◌<◌, ◌↔◌, ◌≡◌, ◌≤◌}
use Rattle.std.proofs.lemmas.Bool.{cases_lt}
use Rattle.tag_pool.proofs.Uses.{ap, arith, Err, Hand, IfErr, List, Ok, Pool, refl, reserved_of, Result, subst, sym, ℕ, ⊎_elim, ◌∙◌}
use Rattle.step_ledger.specs.Gather.{HasAll, IsLeastMissing}
use Rattle.tag_layout.specs.declared.layout.TheConstants.{MAX_DEPTH}
use Rattle.tag_pool.specs.Gathering.{numbers_of}
use Rattle.tag_pool.specs.Hands.{hands_of}
use Rattle.tag_pool.specs.Resizing.{AreUsed, AreWaiting, HasMap, HasRange, IsOutOfRange, IsRefusedAs, IsRefusedFor, MayResize}
use Rattle.tag_pool.specs.declared.resizes.PoolResizeFault.{PoolResizeFault}
use Rattle.tag_pool.specs.declared.resizes.ResizeCause.{ResizeCause}
use Rattle.tag_pool.specs.declared.resizes.ResizeCause.TheVariants.{DepthTooLarge, InUse, Memory, Missing, Waiting}
use Rattle.tag_pool.proofs.Waiters.{one_count}

-- the least missing number is unique
one_least : (ns : List ℕ) (count m n : ℕ) → IsLeastMissing ns count m → IsLeastMissing ns count n → m ≡ n
one_least ns count m n first second = ⊎_elim
    (λ (below : m < n). absurd (first.1 (second.2 m below)))
    (λ (least : n ≤ m). ⊎_elim
    (λ (below : n < m). absurd (second.1 (first.2 n below)))
    (λ (same : m ≤ n). omega arith) (cases_lt n m)) (cases_lt m n)

-- if all are present, none is missing
none_missing : (ns : List ℕ) (count n : ℕ) → HasAll ns count → IsLeastMissing ns count n → ⊥
none_missing ns count n all least = least.1 (all n least.0)

in_range : (total reserved : ℕ) → HasRange total reserved → IsOutOfRange total reserved → ⊥
in_range total reserved fits out = let a = fits.0 in let b = fits.1 in
    ⊎_elim (λ (deep : MAX_DEPTH < total). omega arith) (λ (low : total < reserved). omega arith) out

module _ {R : Type 0} (pool : Pool R) (hands : List (Hand R)) (total : ℕ) where
  abbrev IsMissing : ℕ → Type 0
  IsMissing n = IsLeastMissing (numbers_of hands) (hands_of pool) n

  abbrev IsTooDeep : Type 0
  IsTooDeep = HasAll (numbers_of hands) (hands_of pool) × IsOutOfRange total (reserved_of pool)

  -- each refusal is returned exactly for its cause, and the one for memory only if nothing else prevents the resize
  pub record AreTold (told : ResizeCause → Type 0) : Type 0 where
    pub missing : (n : ℕ) → told (Missing n) ↔ IsMissing n
    pub too_deep : told DepthTooLarge ↔ IsTooDeep
    pub in_use : (held posted : ℕ) → told (InUse held posted) ↔ (HasMap pool hands total × AreUsed hands held posted)
    pub waiting : (n : ℕ) → told (Waiting n) ↔ (HasMap pool hands total × AreWaiting hands n)
    pub memory : told Memory → MayResize pool hands total

  abbrev Refused : ResizeCause → Type 0
  Refused = IsRefusedFor pool hands total

  nobody_missing : (n : ℕ) → HasAll (numbers_of hands) (hands_of pool) → IsMissing n → ⊥
  nobody_missing = none_missing (numbers_of hands) (hands_of pool)

  too_deep_not : HasMap pool hands total → IsTooDeep → ⊥
  too_deep_not fits deep = in_range total (reserved_of pool) fits.1 deep.1

  is_missing : (cause : ResizeCause) → Refused cause → (n : ℕ) → IsMissing n → cause ≡ Missing n
  is_missing (Missing m) is n least = ap Missing (one_least (numbers_of hands) (hands_of pool) m n is least)
  is_missing DepthTooLarge is n least = absurd (nobody_missing n is.0 least)
  is_missing (InUse held posted) is n least = absurd (nobody_missing n is.0.0 least)
  is_missing (Waiting count) is n least = absurd (nobody_missing n is.0.0 least)
  is_missing Memory is n least = absurd (nobody_missing n is.0.0 least)

  is_too_deep : (cause : ResizeCause) → Refused cause → IsTooDeep → cause ≡ DepthTooLarge
  is_too_deep (Missing m) is deep = absurd (nobody_missing m deep.0 is)
  is_too_deep DepthTooLarge is deep = refl
  is_too_deep (InUse held posted) is deep = absurd (too_deep_not is.0 deep)
  is_too_deep (Waiting count) is deep = absurd (too_deep_not is.0 deep)
  is_too_deep Memory is deep = absurd (too_deep_not is.0 deep)

  is_in_use : (cause : ResizeCause) → Refused cause → (held posted : ℕ) → HasMap pool hands total
      → AreUsed hands held posted → cause ≡ InUse held posted
  is_in_use (Missing m) is held posted fits used = absurd (nobody_missing m fits.0 is)
  is_in_use DepthTooLarge is held posted fits used = absurd (too_deep_not fits is)
  is_in_use (InUse h p) is held posted fits used =
      let a = is.1.0 ∙ sym used.0 in let b = is.1.1 ∙ sym used.1 in λ j. InUse (a j) (b j)
  is_in_use (Waiting count) is held posted fits used = absurd (used.2 is.1.0)
  is_in_use Memory is held posted fits used = absurd (used.2 is.1)

  is_waiting : (cause : ResizeCause) → Refused cause → (n : ℕ) → HasMap pool hands total → AreWaiting hands n
      → cause ≡ Waiting n
  is_waiting (Missing m) is n fits some = absurd (nobody_missing m fits.0 is)
  is_waiting DepthTooLarge is n fits some = absurd (too_deep_not fits is)
  is_waiting (InUse h p) is n fits some = absurd (is.1.2 some.0)
  is_waiting (Waiting count) is n fits some = ap Waiting (one_count hands count n is.1.1 some.1)
  is_waiting Memory is n fits some =
      let none = one_count hands 0 n is.2 some.1 in let least = some.2 in absurd (omega arith)

  pub told_err : (cause : ResizeCause) → Refused cause → AreTold (λ other. cause ≡ other)
  told_err cause is = record {
    missing = λ n. ((λ e. subst Refused e is), is_missing cause is n);
    too_deep = ((λ e. subst Refused e is), is_too_deep cause is);
    in_use = λ held posted. ((λ e. subst Refused e is), λ used. is_in_use cause is held posted used.0 used.1);
    waiting = λ n. ((λ e. subst Refused e is), λ some. is_waiting cause is n some.0 some.1);
    memory = λ e. subst Refused e is;
  }

  -- where nothing but memory can prevent the resize, and it succeeds, no cause holds
  told_none : MayResize pool hands total → AreTold (λ cause. ⊥)
  told_none may = record {
    missing = λ n. ((λ e. absurd e), λ least. nobody_missing n may.0.0 least);
    too_deep = ((λ e. absurd e), λ deep. too_deep_not may.0 deep);
    in_use = λ held posted. ((λ e. absurd e), λ used. used.1.2 may.1);
    waiting = λ n. (
      (λ e. absurd e),
      λ some. let none = one_count hands 0 n may.2 some.1.1 in let least = some.1.2 in absurd (omega arith),
    );
    memory = λ e. absurd e;
  }

  -- nothing but memory can prevent the resize
  pub told_free : {A : Type 0} (r : Result A (PoolResizeFault R)) → MayResize pool hands total
      → IfErr r (λ fault. fault.cause ≡ Memory) → AreTold (IsRefusedAs r)
  told_free (Ok x) may memory = told_none may
  told_free (Err fault) may memory = told_err fault.cause (subst Refused (sym memory) may)
