-- The search keeps the waiter in the group that it entered, so that is the one in which it rests and which it leaves.
use Rattle.std.specs.Prelude.{◌∷◌, ◌≡◌}
use Rattle.tag_queue.proofs.Uses.{announced_beside, announced_steps, ap, Enter, GroupStep, IsLeave, pool_of, List, Raise, refl, Some, subst, sym, wait_index_of, ℕ, ◌∙◌}
use Rattle.wake_book.specs.Groups.{steps_of, standing_of}
use Rattle.tag_queue.proofs.Looking.{began, stood_still, indexed_alike}
use Rattle.tag_queue.proofs.Rounds.{leaves_there, passes_since}
use Rattle.tag_queue.proofs.queue.Queue.stay.Goals as goal

pub returns-clause-stay : goal.returns-clause-stay
returns-clause-stay g c =
    let before = c.args.hand.now.waiter in let made = c.try_get-answer.ensures.gets in let entered = began made in
    let searched = c.try_get-answer.new.hand in let rested = c.sleep_if_none.new.hand.waiter in
    let enter = c.enter.ensures in let sleep = c.sleep_if_none.ensures in
    let passed = c.pass_on.ensures in let group = wait_index_of before in
    let stands : standing_of searched.waiter ≡ Some group =
    stood_still (pool_of c.args.self.now) c.try_get-answer.result entered searched made
    ∙ enter.group.1 ∙ ap (λ (n : ℕ). Some n) enter.group.0 in
    record {
      entered = entered;
      searched = searched;
      enters = record {
        group_is = refl;
        stands = enter.group.1 ∙ ap (λ (n : ℕ). Some n) enter.group.0;
        next = enter.next;
        active = enter.steps.0;
        found = enter.steps.1;
        steps = enter.steps.2
            ∙ ap (λ (n : ℕ). Enter n enter.steps.1 ∷ Raise enter.steps.0 ∷ steps_of before) enter.group.0;
        same = (refl, refl);
      };
      silent = enter.silent;
      search = made;
      rested = steps_of rested;
      left = c.leave-left.result;
      rests = sleep.rests group stands;
      announced = λ none. let is = sleep.announced none in let key = c.announce-key.ensures in (
        ap announced_beside is ∙ key.beside,
        ap announced_steps is ∙ key.steps,
      );
      leaves = subst (λ (l : List GroupStep). IsLeave group (steps_of rested) l c.leave-left.result) (sym passed.steps)
          (leaves_there group rested c.leave-left.new.waiter c.leave-left.result (sleep.same.1.1 ∙ stands)
          c.leave-left.ensures.left);
      passes = passes_since c.try_get-answer.result c.leave-left.result searched.waiter c.leave-left.new.waiter
          c.pass_on.new.waiter (c.leave-left.ensures.silent ∙ sleep.same.1.3) passed.passes;
      out = passed.groups.1.1 ∙ c.leave-left.ensures.out.0;
      next = passed.groups.1.2 ∙ c.leave-left.ensures.out.1 ∙ sleep.same.1.2
          ∙ indexed_alike (pool_of c.args.self.now) c.try_get-answer.result entered searched made ∙ enter.next;
      same = sleep.same.0;
    }
