-- Each lost claim adds its step, and the tries go on behind it.
use Rattle.std.specs.Prelude.{◌++◌, ◌<◌, ◌^◌, ◌∷◌}
use Rattle.tag_search.proofs.Uses.{[], Claimed, IsTries, loses, None, none_left, numbers, places_of, refl, Some, wins, word_depth, ◌∙◌}
use Rattle.tag_search.proofs.Joined.{adds_over, adds_further, adds_ended, same_room_joined}
use Rattle.tag_search.proofs.Passes.{all_left}
use Rattle.tag_search.proofs.pass.pass_on.Goals as goal

pub loop-place-init : goal.loop-place-init
loop-place-init g c = record {
  port = c.requires.port;
  sizes = refl;
  room = λ n. (λ x. x, λ x. x);
  places = c.requires.places;
  begun = record {
    steps = [];
    added = g.met.P.Port.adds_none c.args.port.now;
    holds = λ tries answer rest. rest;
  };
}

pub claim_one-requires-clause-place : goal.claim_one-requires-clause-place
claim_one-requires-clause-place g c =
    rw c.loop-place.invariant.sizes (all_left (λ place. place < word_depth (g.P.Port.sizes c.args.port.now) c.args.word)
    c.loop-place.found _ _ c.in-Some.place c.in-Some.ensures.next c.loop-place.invariant.places).0

pub claim_one-requires-clause-width : goal.claim_one-requires-clause-width
claim_one-requires-clause-width g c = c.in-Some.ensures.within

pub returns-in-Ok-clause-place : goal.returns-in-Ok-clause-place
returns-in-Ok-clause-place g c =
    (all_left (λ place. place < word_depth (g.P.Port.sizes c.args.port.now) c.args.word) c.loop-place.found _ _
    c.in-Some.place c.in-Some.ensures.next c.loop-place.invariant.places).0

pub returns-in-Ok-clause-tries : goal.returns-in-Ok-clause-tries
returns-in-Ok-clause-tries g c =
    let claim = c.in-Ok.ensures.won in let place = c.in-Some.place in
    adds_ended (λ p xs q. g.P.Port.adds p xs q) g.met.P.Port.adds_more c.args.port.now c.loop-place.port
    c.claim_one.new.self (IsTries c.args.word (places_of c.loop-place.left) c.loop-place.found)
    (IsTries c.args.word (numbers c.args.from c.args.limit ++ numbers 0 c.args.then) c.args.lost) (Some place)
    c.loop-place.invariant.begun (record {
      steps = Claimed c.args.word (2 ^ place) claim.0 ∷ [];
      added = claim.2;
      holds = wins c.in-Some.ensures.next claim.1;
    })

pub loop-place-preserved : goal.loop-place-preserved
loop-place-preserved g c =
    let claim = c.in-Err.ensures.lost in let i = c.args.word in let all = numbers c.args.from c.args.limit
    ++ numbers 0 c.args.then in
    record {
      port = c.in-Err.ensures.port;
      sizes = c.in-Err.ensures.sizes ∙ c.loop-place.invariant.sizes;
      room = same_room_joined (λ p n. g.P.Port.has_room p n) c.args.port.now c.loop-place.port c.claim_one.new.self
          c.loop-place.invariant.room claim.1;
      places = (all_left (λ place. place < word_depth (g.P.Port.sizes c.args.port.now) c.args.word) c.loop-place.found _
          _ c.in-Some.place c.in-Some.ensures.next c.loop-place.invariant.places).1;
      begun = adds_further (λ p xs q. g.P.Port.adds p xs q) g.met.P.Port.adds_more c.args.port.now c.loop-place.port
          c.claim_one.new.self (IsTries i (places_of c.next.new.self) c.in-Err.next)
          (IsTries i (places_of c.loop-place.left) c.loop-place.found) (IsTries i all c.args.lost)
          c.loop-place.invariant.begun (record {
            steps = Claimed i (2 ^ c.in-Some.place) c.in-Err.next ∷ [];
            added = claim.2;
            holds = λ rest answer. loses c.in-Some.ensures.next claim.0;
          });
    }

pub returns-clause-tries : goal.returns-clause-tries
returns-clause-tries g c =
    adds_over (λ p xs q. g.P.Port.adds p xs q) c.args.port.now c.loop-place.port
    (IsTries c.args.word (places_of c.loop-place.left) c.loop-place.found)
    (IsTries c.args.word (numbers c.args.from c.args.limit ++ numbers 0 c.args.then) c.args.lost) None
    (none_left c.in_default.ensures.next) c.loop-place.invariant.begun
