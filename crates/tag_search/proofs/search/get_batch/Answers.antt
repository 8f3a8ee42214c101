-- The search for a run visits the words of the batch get, and n is at most the bits of a word.
use Rattle.std.specs.Prelude.{◌≡◌, ◌≤◌}
use Rattle.tag_search.proofs.Uses.{ap, arith, word_bits, word_bits-le}
use Rattle.tag_search.proofs.Batches.{batch_get_from}
use Rattle.tag_search.proofs.Joined.{adds_weaker}
use Rattle.tag_search.proofs.search.get_batch.Goals as goal

pub search_run-answer-requires-clause-some : goal.search_run-answer-requires-clause-some
search_run-answer-requires-clause-some g c =
    let count = c.requires.count in let layout = c.layout-layout.result in let same = c.layout-layout.ensures.value in
    let bound = c.shift.ensures.bound in let value = c.shift.ensures.value in
    let most : word_bits layout ≤ 64 = word_bits-le layout (omega arith) in
    let here : word_bits layout ≡ word_bits (g.P.Port.sizes c.args.port.now) = ap word_bits same in
    (count.0, omega arith)

pub returns-in-Some-clause-steps : goal.returns-in-Some-clause-steps
returns-in-Some-clause-steps g c _ =
    adds_weaker (λ p xs q. g.P.Port.adds p xs q) c.args.port.now c.search_run-answer.new.port _ _
    (batch_get_from c.layout-layout.result (g.P.Port.sizes c.args.port.now) c.args.n c.args.hint.now.at c.depth.result
    c.reduced-from.result c.shift.result c.requires.count.0 c.shift.ensures.bound c.layout-layout.ensures.value
    c.depth.ensures.value c.shift.ensures.value c.reduced-from.ensures c.search_run-answer.result)
    c.search_run-answer.ensures.search

pub returns-in-None-clause-steps : goal.returns-in-None-clause-steps
returns-in-None-clause-steps g c _ =
    adds_weaker (λ p xs q. g.P.Port.adds p xs q) c.args.port.now c.search_run-answer.new.port _ _
    (batch_get_from c.layout-layout.result (g.P.Port.sizes c.args.port.now) c.args.n c.args.hint.now.at c.depth.result
    c.reduced-from.result c.shift.result c.requires.count.0 c.shift.ensures.bound c.layout-layout.ensures.value
    c.depth.ensures.value c.shift.ensures.value c.reduced-from.ensures c.search_run-answer.result)
    c.search_run-answer.ensures.search
