-- Each turn wins one more tag; a get that found none is followed by a free of those won before it.
use Rattle.std.specs.Prelude.{◌+◌, ◌-◌, ◌<◌, ◌≡◌, ◌≤◌}
use Rattle.std.proofs.lemmas.List.{length-take-le, take_more_set}
use Rattle.tag_pool.proofs.Uses.{arith, Gets, length, List, None, Option, Ordinary, rules, Some, subst, sym, take, ℕ, ◌∙◌}
use Rattle.tag_pool.specs.Gets.{left_free, most_steps}
use Rattle.tag_pool.specs.Hands.{step_count}
use Rattle.tag_pool.specs.Many.{WinsMany}
use Rattle.tag_pool.proofs.ManyGets.{falls_short, held_once, one_more, room_left, steps_more, steps_short, sum_more}
use Rattle.tag_pool.proofs.pool.Pool.win_many.Goals as goal

pub free_all-requires-clause-held : goal.free_all-requires-clause-held
free_all-requires-clause-held g c = let pool = c.args.self.now in let inv = c.loop-i.invariant in
    let tried = c.get_quietly.new.hand in
    let none : Gets pool Ordinary None c.loop-i.hand tried =
    subst (λ (o : Option ℕ). Gets pool Ordinary o c.loop-i.hand tried) c.in_default-answer.is c.in-Ok.ensures.does.gets in
    held_once pool (take c.loop-i.i c.loop-i.tags) inv.sum c.args.hand.now c.loop-i.hand tried inv.wins none

pub returns-in_default-answer-clause-gets : goal.returns-in_default-answer-clause-gets
returns-in_default-answer-clause-gets g c = let pool = c.args.self.now in let inv = c.loop-i.invariant in
    let tried = c.get_quietly.new.hand in let i : ℕ = c.loop-i.i in let tags : List ℕ = c.loop-i.tags in
    let none : Gets pool Ordinary None c.loop-i.hand tried =
    subst (λ (o : Option ℕ). Gets pool Ordinary o c.loop-i.hand tried) c.in_default-answer.is c.in-Ok.ensures.does.gets in
    let inside : i < length tags = search rules in
    let count : length (take i tags) ≡ i = length-take-le i tags (omega (arith, inside)) in
    let here = c.in-Ok.ensures.does.left in
    let swept = sum_more c.loop-i.left inv.sum c.in-Ok.found.left c.saturating_add-left.result inv.left
    c.saturating_add-left.ensures in
    let all = sum_more c.saturating_add-left.result (inv.sum + c.in-Ok.found.left) i c.saturating_add.result swept
    c.saturating_add.ensures in
    falls_short pool (take i tags) inv.sum c.args.hand.now c.loop-i.hand tried inv.wins none (length tags)
    c.saturating_add.result c.free_all.new.hand (omega (arith, count, inside)) c.free_all.ensures.gives
    (omega (arith, count, here, all))

pub returns-in_default-answer-clause-bound : goal.returns-in_default-answer-clause-bound
returns-in_default-answer-clause-bound g c = let pool = c.args.self.now in let inv = c.loop-i.invariant in
    let tried = c.get_quietly.new.hand in let i : ℕ = c.loop-i.i in let tags : List ℕ = c.loop-i.tags in
    let inside : i < length c.args.tags.now = search rules in let there : i < length tags = search rules in
    let count : length (take i tags) ≡ i = length-take-le i tags (omega (arith, there)) in
    let few = c.free_all.ensures.bound in let more = c.in-Ok.ensures.does.bound in
    steps_short (length c.args.tags.now) i (most_steps pool Ordinary) (step_count tried) (step_count c.free_all.new.hand)
    (step_count c.args.hand.now) inside
    (steps_more i (most_steps pool Ordinary) (step_count c.loop-i.hand) (step_count tried) (step_count c.args.hand.now)
    inv.bound more)
    (subst (λ (n : ℕ). step_count c.free_all.new.hand ≤ n + step_count tried) count few)

pub loop-i-preserved : goal.loop-i-preserved
loop-i-preserved g c = let pool = c.args.self.now in let inv = c.loop-i.invariant in let tag : ℕ = c.in-Some.tag in
    let old = c.args.hand.now in let mid = c.loop-i.hand in let new = c.get_quietly.new.hand in
    let i : ℕ = c.loop-i.i in let tags : List ℕ = c.loop-i.tags in
    let got : Gets pool Ordinary (Some tag) mid new =
    subst (λ (o : Option ℕ). Gets pool Ordinary o mid new) c.in-Some.is c.in-Ok.ensures.does.gets in
    let inside : i < length tags = search rules in let there : i < length c.args.tags.now = search rules in
    let here = c.in-Ok.ensures.does.left in
    let sum = sum_more c.loop-i.left inv.sum c.in-Ok.found.left c.saturating_add-left.result inv.left
    c.saturating_add-left.ensures in record {
      hand = (c.get_quietly.ensures.hand.0, c.get_quietly.ensures.hand.1 ∙ inv.hand.1);
      room = room_left pool (length c.args.tags.now - (i + 1)) tag mid new got
          (let room = inv.room in omega (arith, room, there));
      sum = inv.sum + left_free Ordinary mid new;
      wins = subst (λ (ts : List ℕ). WinsMany pool ts (inv.sum + left_free Ordinary mid new) old new)
          (sym (take_more_set tags i tag inside)) (one_more pool (take i tags) tag inv.sum old mid new inv.wins got);
      left = omega (arith, here, sum);
      bound = steps_more i (most_steps pool Ordinary) (step_count mid) (step_count new) (step_count old) inv.bound
          c.in-Ok.ensures.does.bound;
    }
