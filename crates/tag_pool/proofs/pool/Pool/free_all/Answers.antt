-- The list's numbers correspond one to one to its tags, so what the ordinary side does with them is what the hand does.
use Rattle.std.specs.Prelude.{◌≡◌, ◌≤◌}
use Rattle.tag_pool.proofs.Uses.{arith, length, numbers_of, refl, reserved_of, rules}
use Rattle.tag_pool.proofs.OrdinaryNumbers.{numbered}
use Rattle.tag_pool.proofs.pool.Pool.free_all.Goals as goal

pub give_list-requires-clause-held : goal.give_list-requires-clause-held
give_list-requires-clause-held g c = let pool = c.args.self.now in let list = c.args.tags.now in
    (numbered pool c.args.hand.now c.requires.hand list (numbers_of (reserved_of pool) list)
    (λ k d l. (c.requires.ordinary k d l).0) refl).once c.requires.held

pub returns-then-not-is_empty-clause-gives : goal.returns-then-not-is_empty-clause-gives
returns-then-not-is_empty-clause-gives g c = let pool = c.args.self.now in let list = c.args.tags.now in
    let some : 1 ≤ length list = search rules in
    let gives = (numbered pool c.args.hand.now c.requires.hand list (numbers_of (reserved_of pool) list)
    (λ k d l. (c.requires.ordinary k d l).0) refl).gives c.requires.ordinary c.give_list.new.self
    c.give_list.ensures.gives in record {
      none = λ e. absurd (let zero : length list ≡ 0 = e in omega (arith, some));
      some = λ more. gives;
      less = gives.less;
      back = c.give_list.ensures.back;
    }
