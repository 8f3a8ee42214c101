-- A get that looks after what it left free: what it answered, and what the hand then did.
use Rattle.std.specs.Prelude.{◌<◌, ◌≡◌}
use Rattle.tag_c.proofs.Uses.{answer_of, ap, arith, code_of_found, code_of_get, Found, Holder, mag, min, Option, Pool, PoolState, refl, reserved_of, Result, subst, TagFault, ℕ, ℤ, ◌∙◌}
use Rattle.tag_model.specs.declared.world.TheConstants.{MAX_CALLERS}
use Rattle.tag_pool.specs.Sets.{kind_of}
use Rattle.tag_pool.specs.declared.kind.Kind.{Kind as Set}
use Rattle.tag_c.specs.declared.bell.ToldHands.{ToldHands}
use Rattle.tag_c.specs.Left.{left_of}
use Rattle.tag_c.specs.Telling.{GetsAndTells, GetsTag, LooksAfter, Tells, TellsOfKind}
use Rattle.tag_c.proofs.Calling.{as_stored, stored}
use Rattle.tag_c.proofs.Endings.{as_is}

module _ {A : Type 0} (gets : Pool ℕ → A → Holder → Holder → Type 0) (number : A → ℤ) (left : A → ℕ)
    (tells : ℕ → ToldHands → Pool ℕ → Holder → Holder → Type 0) where
  -- the hand looks after what a get left free, by its number, in the pool as each of the two reads it
  pub gets_and_looks : {state first second : PoolState} {before after : ToldHands} {free : ℕ} {known code : ℤ}
      {old between new : Holder} {answer : A} → first ≡ state → gets first.tags answer old between
      → free ≡ left answer → known ≡ number answer → mag known < 2147483648 → second ≡ state
      → LooksAfter tells free (as_stored known) before after code second.tags between new → mag code < 2147483648
      → GetsAndTells gets number left tells before after (as_stored code) state.tags old new
  gets_and_looks {state} {first} {second} {before} {after} {free} {known} {code} {old} {between} {new} {answer} at does
      is_left is_number fits again looks small =
      as_is (λ z. GetsAndTells gets number left tells before after z state.tags old new) small (record {
        answer = answer;
        between = between;
        does = subst (λ (s : PoolState). gets s.tags answer old between) at does;
        looks = subst (λ (s : PoolState). LooksAfter tells (left answer) (number answer) before after code s.tags
            between new) again
            (subst (λ (z : ℤ). LooksAfter tells (left answer) z before after code second.tags between new)
            (stored known fits ∙ is_number)
            (subst (λ (n : ℕ). LooksAfter tells n (as_stored known) before after code second.tags between new) is_left
            looks));
      })

module _ (gets : Pool ℕ → Result (Found ℕ) TagFault → Holder → Holder → Type 0)
    (tells : ℕ → ToldHands → Pool ℕ → Holder → Holder → Type 0) {state first : PoolState} {before : ToldHands}
    {code : ℤ} (old : Holder) where
  -- the same of a get of one tag
  pub gets_tag : {second : PoolState} {answer : Result (Option ℕ) TagFault} {left : ℕ} {known : ℤ} {after : ToldHands}
      (between new : Holder) (found : Result (Found ℕ) TagFault) → first ≡ state → gets first.tags found old between
      → answer ≡ answer_of found → left ≡ left_of found → known ≡ code_of_get answer → mag known < 2147483648
      → second ≡ state → LooksAfter tells left (as_stored known) before after code second.tags between new
      → mag code < 2147483648 → GetsTag gets tells before after (as_stored code) state.tags old new
  gets_tag between new found at does is_answer is_left is_number fits again looks small =
      gets_and_looks gets code_of_found left_of tells {between = between} {answer = found} at does is_left
      (is_number ∙ ap code_of_get is_answer) fits again looks small

  -- a get of one tag that left none free is all
  pub gets_alone : (new : Holder) (found : Result (Found ℕ) TagFault) → first ≡ state → gets first.tags found old new
      → left_of found ≡ 0 → code ≡ code_of_found found → mag code < 2147483648
      → GetsTag gets tells before before (as_stored code) state.tags old new
  gets_alone new found at does none is small = record {
    answer = found;
    between = new;
    does = subst (λ (s : PoolState). gets s.tags found old new) at does;
    looks = record {
      none = λ _. (stored code small ∙ is, refl, refl);
      some = λ more. absurd (omega (arith, none, more));
    };
  }

-- what a hand looks after among tags of the kind of this tag
pub looks_of_kind : (tag : ℕ) {kind : Set} {left : ℕ} {number code : ℤ} {before after : ToldHands} {tags : Pool ℕ}
    {old new : Holder} → kind ≡ kind_of (reserved_of tags) tag
    → LooksAfter (Tells kind) left number before after code tags old new
    → LooksAfter (TellsOfKind tag) left number before after code tags old new
looks_of_kind tag {left = left} {after = after} {tags = tags} {old = old} {new = new} is looks = record {
  none = looks.none;
  some = λ more. let some = looks.some more in
      (some.0, subst (λ (k : Set). Tells k (min left MAX_CALLERS) after tags old new) is some.1);
}
