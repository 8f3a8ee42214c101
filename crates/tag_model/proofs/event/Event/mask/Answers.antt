-- The tags that an event names are those of its mask.
use Rattle.std.specs.Prelude.{◌==◌, ◌^◌, ◌≡◌}
use Rattle.tag_model.proofs.Uses.{ap, Event, is_in_mask, IsInLayout, Layout, names, place_of, subst, sym, word_of, ℕ, ◌∙◌}
use Rattle.tag_model.proofs.MaskFacts.{names-one, names-word}
use Rattle.tag_model.proofs.event.Event.mask.Goals as goal

one : (l : Layout) (tag word mask t : ℕ) → word ≡ word_of l tag → mask ≡ 2 ^ place_of l tag
    → (t == tag) ≡ is_in_mask l word mask t
one l tag word mask t is bit = names-one l tag t ∙ sym (ap (λ (w : ℕ). is_in_mask l w mask t) is
    ∙ ap (λ (m : ℕ). is_in_mask l (word_of l tag) m t) bit)

pub returns-in-Put : goal.returns-in-Put
returns-in-Put c = (
  c.word_of.ensures.within,
  λ t h. ap (λ (e : Event). names c.args.layout e t) c.in-Put.is
      ∙ one c.args.layout c.in-Put.tag c.word_of.result c.mask_of.result t c.word_of.ensures.value c.mask_of.ensures,
)

pub returns-in-Sweep : goal.returns-in-Sweep
returns-in-Sweep c = (
  subst (IsInLayout c.args.layout) c.in-Sweep.is c.requires,
  λ t h. ap
      (λ (e : Event). names c.args.layout e t) c.in-Sweep.is ∙ names-word c.args.layout c.in-Sweep.word c.usable.result t
      (λ place low. (c.usable.ensures.bits place).1 low) h,
)

pub returns-in-Spill : goal.returns-in-Spill
returns-in-Spill c = (
  subst (IsInLayout c.args.layout) c.in-Spill.is c.requires,
  λ t h. ap
      (λ (e : Event). names c.args.layout e t) c.in-Spill.is
      ∙ names-word c.args.layout c.in-Spill.word c.usable-in-Spill.result t
      (λ place low. (c.usable-in-Spill.ensures.bits place).1 low) h,
)

pub returns-in-Post : goal.returns-in-Post
returns-in-Post c = (
  c.word_of-in-Post.ensures.within,
  λ t h. ap (λ (e : Event). names c.args.layout e t) c.in-Post.is
      ∙ one c.args.layout c.in-Post.tag c.word_of-in-Post.result c.mask_of-in-Post.result t
      c.word_of-in-Post.ensures.value c.mask_of-in-Post.ensures,
)

pub returns-in-Take : goal.returns-in-Take
returns-in-Take c = (
  c.word_of-in-Take.ensures.within,
  λ t h. ap (λ (e : Event). names c.args.layout e t) c.in-Take.is
      ∙ one c.args.layout c.in-Take.tag c.word_of-in-Take.result c.mask_of-in-Take.result t
      c.word_of-in-Take.ensures.value c.mask_of-in-Take.ensures,
)
