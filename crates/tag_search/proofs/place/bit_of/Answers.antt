-- The shift cannot overflow, since a place is below 64.
use Rattle.std.specs.Prelude.{◌^◌}
use Rattle.tag_search.proofs.Uses.{ap, one_shl, ◌∙◌}
use Rattle.tag_search.proofs.place.bit_of.Goals as goal

pub returns-clause-value : goal.returns-clause-value
returns-clause-value c = one_shl c.place_in_word.result 64 c.place_in_word.ensures.width
    ∙ ap (λ k. 2 ^ k) c.place_in_word.ensures.value
