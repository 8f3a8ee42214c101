-- Each turn is a round that found no tag and used up none of the hand's life; the last get or stay finds one.
use Rattle.tag_queue.proofs.Uses.{GetsPlain, inl, inr, None, Option, pool_of, refl, rules, subst, suc, wait_index_of, waiter_of, ℕ, ◌∙◌}
use Rattle.tag_queue.proofs.FirstGet.{had_room}
use Rattle.tag_queue.proofs.Looking.{searched_plain}
use Rattle.tag_queue.proofs.Rounds.{get_keeps_room, gets_by_rounds, searched_there}
use Rattle.tag_queue.proofs.queue.Queue.get_blocking.Goals as goal

pub loop-init : goal.loop-init
loop-init g c = record {
  turns = (tt, tt);
  hand = (c.requires.hand, refl);
  room = inl refl;
  out = search rules;
  some = search rules;
  free = search rules;
  rounds = (0, refl);
}

pub returns-in-Some-answer-clause-waits : goal.returns-in-Some-answer-clause-waits
returns-in-Some-answer-clause-waits g c = let inv = c.loop.invariant in record {
  rounds = inv.rounds.0;
  last = c.loop.hand;
  none = inv.rounds.1;
  won = inl (subst (λ (a : Option ℕ). GetsPlain (pool_of c.args.self.now) a c.loop.hand c.get.new.hand)
      c.in-Some-answer.is c.in-Ok.ensures.gets);
}

pub returns-in-Some-answer-clause-gets : goal.returns-in-Some-answer-clause-gets
unfolding returns-in-Some-answer-clause-waits
returns-in-Some-answer-clause-gets g c =
    gets_by_rounds (pool_of c.args.self.now) c.in-Some-answer.tag c.args.hand.now c.get.new.hand
    (returns-in-Some-answer-clause-waits g c) c.loop.invariant.out

pub stay-requires-clause-room : goal.stay-requires-clause-room
stay-requires-clause-room g c = let p = pool_of c.args.self.now in
    get_keeps_room p _ _ (searched_plain p None _ _ (subst
    (λ (a : Option ℕ). GetsPlain p a c.loop.hand c.get.new.hand) c.in_default-answer.is c.in-Ok.ensures.gets))
    c.in-Ok.ensures.refusals.passes.0

pub returns-in-Some-stay-clause-refusals : goal.returns-in-Some-stay-clause-refusals
returns-in-Some-stay-clause-refusals g c = let inv = c.loop.invariant in record {
  first = tt;
  passes = (
    inv.some,
    (inv.free, (had_room c.args.hand.now c.loop.hand inv.room c.in-Ok.ensures.refusals.passes.0, tt)),
  );
  same = tt;
}

pub returns-in-Some-stay-clause-waits : goal.returns-in-Some-stay-clause-waits
returns-in-Some-stay-clause-waits g c = let inv = c.loop.invariant in record {
  rounds = inv.rounds.0;
  last = c.loop.hand;
  none = inv.rounds.1;
  won = inr record {
    between = c.get.new.hand;
    group = wait_index_of (waiter_of c.get.new.hand);
    none = subst (λ (a : Option ℕ). GetsPlain (pool_of c.args.self.now) a c.loop.hand c.get.new.hand)
        c.in_default-answer.is c.in-Ok.ensures.gets;
    stay = c.in-Some-stay.ensures.stay;
  };
}

pub returns-in-Some-stay-clause-gets : goal.returns-in-Some-stay-clause-gets
unfolding returns-in-Some-stay-clause-waits
returns-in-Some-stay-clause-gets g c =
    gets_by_rounds (pool_of c.args.self.now) c.in-Some-stay.tag c.args.hand.now c.stay.new.hand
    (returns-in-Some-stay-clause-waits g c) c.loop.invariant.out

pub loop-preserved : goal.loop-preserved
loop-preserved g c =
    let inv = c.loop.invariant in let p = pool_of c.args.self.now in let get = c.in-Ok.ensures in
    let stay = c.in_default-stay.ensures in let room = get.refusals.passes.0 in
    let none = subst (λ (a : Option ℕ). GetsPlain p a c.loop.hand c.get.new.hand) c.in_default-answer.is get.gets in
    record {
      turns = (tt, tt);
      hand = (stay.hand.0, stay.hand.1 ∙ get.hand.1 ∙ inv.hand.1);
      room = inr (
        had_room c.args.hand.now c.loop.hand inv.room room,
        get_keeps_room p _ _ (searched_there p _ None _ _ stay.stay)
            (get_keeps_room p _ _ (searched_plain p None _ _ none) room),
      );
      out = stay.stay.out;
      some = inv.some;
      free = inv.free;
      rounds = (
        suc inv.rounds.0,
        (
          c.loop.hand,
          inv.rounds.1,
          record {
            between = c.get.new.hand;
            group = wait_index_of (waiter_of c.get.new.hand);
            none = none;
            stay = stay.stay;
          },
        ),
      );
    }
