-- Words of zeros are all free.
use Rattle.tag_search.specs.Plain.{Plain}
use Rattle.tag_search.proofs.PlainPools.{all_free}
use Rattle.tag_search.proofs.plain.PlainPort.open.Goals as goal

pub returns-clause-pool : goal.returns-clause-pool
returns-clause-pool c =
    let p : Plain = record {
      layout = c.args.layout;
      word = c.in_ok-word.word.items;
      aside = c.in_ok-cleared.cleared.items;
    } in
    all_free p c.words-count.result (c.in_ok-word.ensures.items_if_clones_equal (λ y e. e))
    (c.in_ok-cleared.ensures.items_if_clones_equal (λ y e. e))
