-- The hands of the queue have the numbers of those of the tokens.
use Rattle.std.proofs.Common.{ap, length, rules, sym, ℕ, ◌+◌, ◌∙◌, ◌≡◌}
use Rattle.std.proofs.lemmas.List.{length-map}
use Rattle.tag_core.specs.Callers as core
use Rattle.tag_pool.specs.Hands as pool
use Rattle.posted_queue.specs.Hands.{number_of}
use Rattle.posted_queue.proofs.Ordered.{ordered}
use Rattle.posted_queue.proofs.opens.lay_out.Goals as goal

pub returns : goal.returns
returns c = let hands = c.in_ok-hands.hands.items in let same = c.in_ok-hands.ensures.numbers in
    let count : length hands ≡ c.args.options.hands =
    sym (length-map hands number_of) ∙ ap length same ∙ length-map c.args.hands.items pool.number_of ∙ c.requires.count in
    record {
      tokens = ap (λ (n : ℕ). n + (core.layout_of c.args.tokens.ordinary).depth) (sym c.args.tokens.reserved_is)
          ∙ c.requires.laid_out.depths;
      room = search rules;
      count = (count, search rules);
      ordered = ordered number_of pool.number_of hands c.args.hands.items same c.requires.ordered;
      new = c.in_ok-hands.ensures.new;
    }
