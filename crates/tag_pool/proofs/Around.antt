-- Loads of one word of a set after another, and what they have found so far.
use Rattle.std.specs.Prelude.{◌*◌, ◌++◌, ◌+◌, ◌<◌, ◌∷◌, ◌≡◌}
use Rattle.std.proofs.Common.{List, [], ap, arith, length, length-append, refl, subst, suc, sym, ℕ, ◌∙◌}
use Rattle.tag_pool.specs.declared.side.Side.{Side}
use Rattle.tag_pool.specs.Hands.{Changes, step_count}
use Rattle.tag_pool.specs.declared.hand.Hand.{Hand}
use Rattle.tag_pool.specs.Holding.{HoldsSame}
use Rattle.tag_pool.specs.declared.kind.Kind.{Kind}
use Rattle.tag_pool.specs.Looks.{MakesLooks, looks_from}
use Rattle.tag_pool.specs.declared.kind.Kind.TheVariants.{Ordinary, Reserved}
use Rattle.tag_core.specs.declared.record.Record.{Record}
use Rattle.tag_core.specs.Records.{record_after, tag_bit}
use Rattle.tag_core.specs.Callers.{record_of}
use Rattle.tag_core.specs.declared.shape.Shape.{Shape}
use Rattle.tag_core.specs.declared.word_step.WordStep.{WordStep}
use Rattle.tag_core.specs.declared.step.Step.TheVariants.{Word}
use Rattle.tag_core.specs.declared.word_step.WordStep.TheVariants.{Look, LookAside}
use Rattle.tag_search.specs.Shared.{record_after_all}
use Rattle.tag_pool.specs.Sides as side
use Rattle.tag_model.proofs.HoldingFacts.{same_itself, same_then_same}

-- the pairs found so far, up to this word, by these looks; the hand holds the same tags as before
pub record SoFar {R : Type 0} (kind : Kind) (word : ℕ) (found : List (ℕ × ℕ)) (old now : Hand R) : Type 0 where
  pub count : length found ≡ word
  pub looks : Changes kind (MakesLooks (looks_from 0 found)) old now
  pub same : HoldsSame old now

looks-append : (word : ℕ) (a b : List (ℕ × ℕ)) → looks_from word (a ++ b) ≡ looks_from word a
    ++ looks_from (word + length a) b
looks-append word [] b = ap (λ (w : ℕ). looks_from w b) (let e : word ≡ word + 0 = omega arith in e)
looks-append word (x ∷ a) b =
    ap (λ (s : List WordStep). Look word x.0 ∷ LookAside word x.1 ∷ s) (looks-append (suc word) a b
    ∙ ap (λ (w : ℕ). looks_from (suc word) a ++ looks_from w b)
    (let e : suc word + length a ≡ word + suc (length a) = omega arith in e))

length-looks : (word : ℕ) (found : List (ℕ × ℕ)) → length (looks_from word found) ≡ 2 * length found
length-looks word [] = refl
length-looks word (x ∷ found) = let rest = length-looks (suc word) found in omega arith

module _ {R : Type 0} where
  after-append : (a b : List WordStep) (r : Record R)
      → record_after_all (a ++ b) r ≡ record_after_all b (record_after_all a r)
  after-append [] b r = refl
  after-append (x ∷ a) b r = after-append a b (record_after (Word x) r)

  steps_after : (steps : List WordStep) (r : Record R)
      → length (record_after_all steps r).steps ≡ length steps + length r.steps
  steps_after [] r = omega arith
  steps_after (x ∷ steps) r = let h = steps_after steps (record_after (Word x) r) in omega arith

  finds-then : (a b : List WordStep) (old mid new : Side R) → MakesLooks a old mid → MakesLooks b mid new
      → MakesLooks (a ++ b) old new
  finds-then a b old mid new f s = record {
    known = s.known ∙ ap (λ (r : Record R). record_after_all b r) f.known
        ∙ sym (after-append a b (record_of (side.caller_of old)));
    same_map = s.same_map ∙ f.same_map;
    hint = s.hint ∙ f.hint;
  }

  changes-then : (kind : Kind) (a b : List WordStep) (old mid new : Hand R) → Changes kind (MakesLooks a) old mid
      → Changes kind (MakesLooks b) mid new
      → Changes kind (MakesLooks (a ++ b)) old new
  changes-then kind a b old mid new f s = record {
    changed = finds-then a b _ _ _ f.changed s.changed;
    other = s.other ∙ f.other;
    split = s.split ∙ f.split;
  }

  -- before the first word nothing is found
  pub starts : (kind : Kind) (hand : Hand R) → SoFar kind 0 [] hand hand
  starts kind hand = record {
    count = refl;
    looks = record {
      changed = record { known = refl; same_map = refl; hint = refl };
      other = refl;
      split = refl;
    };
    same = same_itself hand;
  }

  -- one more word is looked at
  pub goes_on : (kind : Kind) (word : ℕ) (found : List (ℕ × ℕ)) (pair : ℕ × ℕ) (old mid new : Hand R)
      → SoFar kind word found old mid
      → Changes kind (MakesLooks (looks_from word (pair ∷ []))) mid new → HoldsSame mid new
      → SoFar kind (word + 1) (found ++ pair ∷ []) old new
  goes_on kind word found pair old mid new s next same = record {
    count = length-append found (pair ∷ []) ∙ ap (λ (n : ℕ). n + 1) s.count;
    looks = subst (λ (steps : List WordStep). Changes kind (MakesLooks steps) old new)
        (ap (λ (w : ℕ). looks_from 0 found ++ looks_from w (pair ∷ []))
        (let n = s.count in let e : word ≡ 0 + length found = omega arith in e)
        ∙ sym (looks-append 0 found (pair ∷ [])))
        (changes-then kind (looks_from 0 found) (looks_from word (pair ∷ [])) old mid new s.looks next);
    same = same_then_same s.same same;
  }

  looks-keep : (word : ℕ) (found : List (ℕ × ℕ)) (r : Record R)
      → ((record_after_all (looks_from word found) r).shape ≡ r.shape)
      × ((record_after_all (looks_from word found) r).held ≡ r.held)
  looks-keep word [] r = (refl, refl)
  looks-keep word (x ∷ found) r = looks-keep (suc word) found
      (record_after (Word (LookAside word x.1)) (record_after (Word (Look word x.0)) r))

  -- looks change none of the tags that are held
  pub found_holds : (found : List (ℕ × ℕ)) (old new : Side R) → MakesLooks (looks_from 0 found) old new → (tag : ℕ)
      → side.Holds old tag → side.Holds new tag
  found_holds found old new f tag h =
      let k = looks-keep 0 found (record_of (side.caller_of old)) in
      let shape = ap (λ (r : Record R). r.shape) f.known ∙ k.0 in
      let held = ap (λ (r : Record R). r.held) f.known ∙ k.1 in
      subst (λ (p : Shape × List ℕ). (tag < p.0.layout.depth) × (tag_bit p.0.layout p.1 tag ≡ 1))
      (λ j. (sym shape j, sym held j)) h

  found_steps : (found : List (ℕ × ℕ)) (old new : Side R) → MakesLooks (looks_from 0 found) old new
      → side.step_count new ≡ 2 * length found + side.step_count old
  found_steps found old new f =
      let own = ap (λ (r : Record R). length r.steps) f.known
      ∙ steps_after (looks_from 0 found) (record_of (side.caller_of old)) in
      let long = length-looks 0 found in
      omega arith

  -- looking at the words of a set takes two steps a word
  pub few_looks : (kind : Kind) (found : List (ℕ × ℕ)) (old new : Hand R)
      → Changes kind (MakesLooks (looks_from 0 found)) old new
      → step_count new ≡ 2 * length found + step_count old
  few_looks Ordinary found old new c =
      let made = found_steps found old.ordinary new.ordinary c.changed in
      let other = ap (λ (a : Side R). side.step_count a) c.other in omega arith
  few_looks Reserved found old new c =
      let made = found_steps found old.reserved new.reserved c.changed in
      let other = ap (λ (a : Side R). side.step_count a) c.other in omega arith
