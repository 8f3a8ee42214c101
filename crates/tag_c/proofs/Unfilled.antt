-- A get of several tags that was refused leaves the list, or the mask, as it was.
use Rattle.std.specs.Prelude.{◌≡◌, ◌≢◌, ◌≤◌}
use Rattle.tag_c.proofs.Uses.{answer_of, arith, Bare, Bool, Caching, code_of, Err, false, Found, Holder, IsRefusal, List, None, Ok, Option, Pool, refl, Result, Some, subst, suc, TagFault, true, zero, ℕ, ℤ, ◌∙◌}
use Rattle.tag_c.specs.Calls.{DoesGetMany}
use Rattle.tag_c.specs.Codes.{code_of_all, code_of_batch, code_of_found_batch, code_of_many}
use Rattle.tag_c.specs.Left.{left_of, left_of_many, won_of}
use Rattle.tag_c.specs.Telling.{flagged, GetsBatch, GetsMany, LooksAfter}
use Rattle.tag_c.specs.declared.bell.ToldHands.{ToldHands}
use Rattle.tag_c.specs.declared.status.Status.TheVariants.{NoTag}

-- where no flagged number is a refusal, a refusal has no flag
unflagged : {tells : ℕ → ToldHands → Pool ℕ → Holder → Holder → Type 0} (left : ℕ) {number code : ℤ}
    {before after : ToldHands} {tags : Pool ℕ} {old new : Holder}
    → LooksAfter tells left number before after code tags old new → (1 ≤ left → ¬ (IsRefusal (flagged number)))
    → IsRefusal code → code ≡ number
unflagged zero looks none refused = (looks.none refl).0
unflagged (suc n) looks none refused = let more : 1 ≤ suc n = omega arith in
    absurd (none more (subst IsRefusal (looks.some more).0 refused))

-- a batch that left tags free is not refused
batch_answered : (answer : Option (ℕ × ℕ)) → ¬ (IsRefusal (flagged (code_of_batch (Ok answer))))
batch_answered (Some won) refused = refused
batch_answered None refused = refused

batch_left : (found : Result (Found (ℕ × ℕ)) TagFault) → 1 ≤ left_of found
    → ¬ (IsRefusal (flagged (code_of_found_batch found)))
batch_left (Ok known) more refused = batch_answered known.answer refused
batch_left (Err fault) more refused = absurd (omega (arith, more))

-- and a refused one has won nothing
won_none : (answer : Option (ℕ × ℕ)) (was : ℕ) → IsRefusal (code_of_batch (Ok answer)) → won_of (Ok answer) was ≡ was
won_none (Some won) was refused = absurd refused
won_none None was refused = refl

batch_kept : (found : Result (Found (ℕ × ℕ)) TagFault) (was : ℕ) → IsRefusal (code_of_found_batch found)
    → won_of (answer_of found) was ≡ was
batch_kept (Ok known) was refused = won_none known.answer was refused
batch_kept (Err fault) was refused = refl

pub batch_unfilled : {n was won : ℕ} {before after : ToldHands} {code : ℤ} {tags : Pool ℕ} {old new : Holder}
    → GetsBatch n was won before after code tags old new → IsRefusal code → won ≡ was
batch_unfilled {was = was} gets refused = let answer = gets.answer in
    let is = unflagged (left_of answer) gets.looks (batch_left answer) refused in
    gets.does.1 ∙ batch_kept answer was (subst IsRefusal is refused)

-- a get of several tags that left some free is not refused
all_answered : (all : Bool) → ¬ (IsRefusal (flagged (code_of_all all)))
all_answered true refused = refused
all_answered false refused = refused

many_left : (answer : Result (Bool × ℕ) TagFault) → 1 ≤ left_of_many answer
    → ¬ (IsRefusal (flagged (code_of_many answer)))
many_left (Ok found) more refused = all_answered found.0 refused
many_left (Err fault) more refused = absurd (omega (arith, more))

-- such an answer is a refusal only if there is no tag
other_refusal : (all : Bool) → IsRefusal (code_of_all all) → code_of_all all ≢ code_of NoTag → ⊥
other_refusal true refused other = refused
other_refusal false refused other = other refl

-- so whatever else is refused leaves the list
list_kept : (was list : List ℕ) (tags : Pool ℕ) (answer : Result (Bool × ℕ) TagFault) (old new : Holder)
    → DoesGetMany was list tags answer old new → IsRefusal (code_of_many answer) → code_of_many answer ≢ code_of NoTag
    → list ≡ was
list_kept was list tags (Ok found) old new does refused other = absurd (other_refusal found.0 refused other)
list_kept was list tags (Err fault) (Bare old) (Bare new) does refused other = does.refusals.same.1
list_kept was list tags (Err fault) (Caching old) (Caching new) does refused other = does.refusals.same.1
list_kept was list tags (Err fault) (Bare old) (Caching new) does refused other = absurd does
list_kept was list tags (Err fault) (Caching old) (Bare new) does refused other = absurd does

pub many_unfilled : {was list : List ℕ} {before after : ToldHands} {code : ℤ} {tags : Pool ℕ} {old new : Holder}
    → GetsMany was list before after code tags old new → IsRefusal code → code ≢ code_of NoTag → list ≡ was
many_unfilled {was} {list} {tags = tags} {old = old} {new = new} gets refused other = let answer = gets.answer in
    let is = unflagged (left_of_many answer) gets.looks (many_left answer) refused in
    list_kept was list tags answer old gets.between gets.does (subst IsRefusal is refused)
    (subst (λ (z : ℤ). z ≢ code_of NoTag) is other)
