-- All entries are free.
use Rattle.tag_model.proofs.Uses.{ap, Free, replicate, ℕ, ◌∙◌}
use Rattle.tag_model.proofs.EntryFacts.{chosen-free}
use Rattle.tag_model.proofs.entries.Entries.open.Goals as goal

pub returns-clause-all_free : goal.returns-clause-all_free
returns-clause-all_free c =
    let even = c.in_ok-vec.ensures.items_if_clones_equal (λ y e. e)
    ∙ ap (λ (n : ℕ). replicate n Free) c.depth.ensures.value in
    let odd = c.in_ok-vec-2.ensures.items_if_clones_equal (λ y e. e)
    ∙ ap (λ (n : ℕ). replicate n Free) c.depth-2.ensures.value in
    chosen-free c.args.layout c.in_ok-vec-3.field-0.items c.in_ok-vec.field-0.items c.in_ok-vec-2.field-0.items even odd
