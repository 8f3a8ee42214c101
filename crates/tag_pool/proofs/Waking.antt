-- Those told after a clear of several tags are told of all of them.
use Rattle.std.specs.Prelude.{◌+◌, ◌≡◌, ◌≤◌}
use Rattle.tag_pool.proofs.Uses.{arith, back_of, Changes, Hand, HoldsSame, List, max, Ordinary, Pool, subst, ℕ, ◌∙◌}
use Rattle.tag_bell.specs.declared.sleeping.Woken.{Woken}
use Rattle.tag_pool.specs.Batches.{GivesBack, GivesBackAndWakes}
use Rattle.tag_pool.specs.Sides.{see_to_steps, SeesToAndWakes}
use Rattle.tag_model.proofs.HoldingFacts.{less_then_same}

pub gives_and_wakes : {R : Type 0} (pool : Pool R) (list : List ℕ) (n : ℕ) (old between new : Hand R) (woken : Woken)
    → 1 ≤ n → GivesBack pool list old between → back_of between Ordinary ≡ back_of old Ordinary + n
    → Changes Ordinary (SeesToAndWakes (max n 1) see_to_steps woken) between new → HoldsSame between new
    → back_of new Ordinary ≡ back_of between Ordinary → GivesBackAndWakes pool list n woken old new
gives_and_wakes pool list n old between new woken some gives back wakes same back' = record {
  between = between;
  gives = gives;
  wakes = subst (λ (m : ℕ). Changes Ordinary (SeesToAndWakes m see_to_steps woken) between new) most wakes;
  less = less_then_same gives.less same;
  back = back' ∙ back;
}
  where
    most : max n 1 ≡ n
    most = omega arith
