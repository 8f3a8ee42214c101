-- Nobody is forgotten after a lawful history, by induction on it; and what follows.
use Rattle.std.specs.Prelude.{◌<◌, ◌∷◌, ◌⊎◌}
use Rattle.tag_bell.proofs.Uses.{[], ap, berth_after, Bool, EachFinds, EachStateIsSafe, History, in_aside, in_word, inl, inr, IsAsleep, IsFreeAt, IsOnTheWay, NobodyForgotten, NobodyIsForgotten, NobodyRestsBesideATag, NoneFreeAtRest, NoTagForgotten, NoTagIsForgotten, Owes, Shape}
use Rattle.tag_bell.proofs.Uses.{SomebodyComes, Spot, steps_by, sym, Waiter, ℕ, ◌∙◌}
use Rattle.tag_core.specs.Bits.{word_bit, aside_bit}
use Rattle.tag_bell.proofs.Berths.{listed-not_told}
use Rattle.tag_bell.proofs.EachStep.{each}
use Rattle.tag_bell.proofs.OneStep.{Covered, Someone, WayOf}

-- what is known of all callers together, after a history whose steps found what the older ones left
pub covered : {R : Type 0} (n : ℕ) (kinds : Waiter → Bool) (h : History R) → EachFinds n h → Covered n kinds h
covered n kinds [] finds = λ e listed. absurd listed
covered n kinds (x ∷ h) finds =
    each n kinds x.0 finds.0 h finds.4 (covered n kinds h finds.4) x.1 finds.1 finds.2

module _ {R : Type 0} (k : Shape) (kinds : Waiter → Bool) (h : History R) (finds : EachFinds k.callers h) where
  -- whoever is on the way to a spot of a tag is on the way to the tag
  to_tag : (tag e : ℕ) (spot : Spot)
      → ((d : ℕ) → Owes kinds (steps_by d h) spot e
      → Owes kinds (steps_by d h) (in_word k.layout tag) e ⊎ Owes kinds (steps_by d h) (in_aside k.layout tag) e)
      → Someone k.callers kinds h spot e (berth_after h e) → SomebodyComes k kinds h tag e
  to_tag tag e spot either w = (w.0, w.1, way w.2)
    where
      way : WayOf kinds (steps_by w.0 h) (berth_after h w.0) spot e (berth_after h e) → IsOnTheWay k.layout kinds h w.0 tag e
      way (inl owes) = inl (either w.0 owes.0)
      way (inr told) = inr told

  tags : NoTagForgotten k kinds h
  tags e listed tag within tried free = comes free
    where
      comes : IsFreeAt h (in_word k.layout tag) ⊎ IsFreeAt h (in_aside k.layout tag) → SomebodyComes k kinds h tag e
      comes (inl here) = to_tag tag e (in_word k.layout tag) (λ d owes. inl owes)
          (covered k.callers kinds h finds e listed (in_word k.layout tag) tried.0 here)
      comes (inr here) = to_tag tag e (in_aside k.layout tag) (λ d owes. inr owes)
          (covered k.callers kinds h finds e listed (in_aside k.layout tag) tried.1 here)

  -- a caller that is asleep has nothing to see to, and nobody has told it
  awake : (p tag e : ℕ) → tag < k.layout.depth → IsOnTheWay k.layout kinds h p tag e → ¬ IsAsleep k.layout kinds h p
  awake p tag e within (inl owes) asleep = asleep.done tag within e owes
  awake p tag e within (inr told) asleep = listed-not_told kinds (berth_after h p) asleep.listed told

  callers : NobodyForgotten k kinds h
  callers e asleep tag within free =
      let way = tags e asleep.listed tag within (asleep.in_vain tag within) free in
      (way.0, way.1, way.2, awake way.0 tag e within way.2)

  at_rest : NoneFreeAtRest k kinds h
  at_rest rest e asleep tag within free = idle (tags e asleep.listed tag within (asleep.in_vain tag within) free)
    where
      idle : SomebodyComes k kinds h tag e → ⊥
      idle way = which way.2
        where
          which : IsOnTheWay k.layout kinds h way.0 tag e → ⊥
          which (inl owes) = (rest way.0 way.1).0 tag within e owes
          which (inr told) = (rest way.0 way.1).1 told

pub nobody_forgotten : {R : Type 0} → NobodyIsForgotten R
nobody_forgotten k h lawful kinds = callers k kinds h lawful.finds

pub no_tag_forgotten : {R : Type 0} → NoTagIsForgotten R
no_tag_forgotten k h lawful kinds = tags k kinds h lawful.finds

pub none_free_at_rest : {R : Type 0} → NobodyRestsBesideATag R
none_free_at_rest k h lawful kinds = at_rest k kinds h lawful.finds

pub each_state : {R : Type 0} → EachStateIsSafe R
each_state k s shown = record {
  history = shown.history;
  lawful = shown.lawful;
  cells = shown.cells;
  own = λ j v is n r there. let known = shown.records j v is n r there in known.0.steps;
  free = λ tag within is. inl (sym (shown.tags tag within).word ∙ ap word_bit is);
  aside = λ tag within is. inr (sym (shown.tags tag within).aside ∙ ap aside_bit is);
  callers = λ kinds. callers k kinds shown.history shown.lawful.finds;
  tags = λ kinds. tags k kinds shown.history shown.lawful.finds;
  at_rest = λ kinds. at_rest k kinds shown.history shown.lawful.finds;
}
