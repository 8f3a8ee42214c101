-- All bits are 0 at first; then each set marks its own busy tags, in bits that the other set leaves alone.
use Rattle.std.proofs.Common.{List, ap, arith, get_or, length, ℕ, ◌∙◌}
use Rattle.tag_pool.specs.declared.kind.Kind.TheVariants.{Ordinary, Reserved}
use Rattle.tag_core.proofs.Passing.{zeros}
use Rattle.tag_pool.proofs.Around.{few_looks}
use Rattle.tag_pool.proofs.BusyBits.{no_bit, lists, held_bit}
use Rattle.tag_pool.proofs.pool.Pool.busy.Goals as goal

pub returns-clause-lists : goal.returns-clause-lists
returns-clause-lists g c = lists c.args.self.now c.fill.new.self c.list_set-reserved.new.into
    c.list_set-ordinary.new.into c.list_set-reserved.result c.list_set-ordinary.result
    c.args.hand.now c.list_set-reserved.new.hand c.list_set-ordinary.new.hand
    (no_bit 64 c.fill.new.self (λ i. ap (λ (l : List ℕ). get_or l i 0) (c.fill.ensures.after (λ y e. e))
    ∙ zeros (length c.args.into.now) i))
    c.list_set-reserved.ensures.lists c.list_set-ordinary.ensures.lists

pub returns-clause-held : goal.returns-clause-held
returns-clause-held g c = held_bit c.args.self.now c.fill.new.self c.list_set-reserved.new.into
    c.list_set-ordinary.new.into c.list_set-reserved.result c.list_set-ordinary.result
    c.args.hand.now c.list_set-reserved.new.hand c.list_set-ordinary.new.hand
    (no_bit 64 c.fill.new.self (λ i. ap (λ (l : List ℕ). get_or l i 0) (c.fill.ensures.after (λ y e. e))
    ∙ zeros (length c.args.into.now) i))
    c.list_set-reserved.ensures.lists c.list_set-ordinary.ensures.lists c.requires.hand

pub returns-clause-bound : goal.returns-clause-bound
returns-clause-bound g c =
    let one = c.list_set-reserved.ensures.lists in let two = c.list_set-ordinary.ensures.lists in
    let a = few_looks Reserved one.found c.args.hand.now c.list_set-reserved.new.hand one.around.looks in
    let b = few_looks Ordinary two.found c.list_set-reserved.new.hand c.list_set-ordinary.new.hand two.around.looks in
    let x = one.around.each in let y = two.around.each in omega arith
