-- The first claim follows what the load found; neither step frees a tag.
use Rattle.std.specs.Prelude.{◌<◌, ◌^◌, ◌∷◌}
use Rattle.tag_search.proofs.Uses.{[], Claimed, Look, loses, pass, places_of, refl, wins, word_depth}
use Rattle.tag_search.proofs.Passes.{all_left, full_pass}
use Rattle.tag_search.proofs.pass.try_first.Goals as goal

pub returns-in_default-clause-missed : goal.returns-in_default-clause-missed
returns-in_default-clause-missed g c = record {
  steps = Look c.args.word c.look-found.result ∷ [];
  added = c.look-found.ensures.step;
  holds = record {
    goes_on = full_pass c.args.word (places_of c.args.rank) c.look-found.result c.in_default.ensures.next;
    freed = refl;
    kept = refl;
  };
}

pub claim_one-requires-clause-place : goal.claim_one-requires-clause-place
claim_one-requires-clause-place g c =
    rw c.look-found.ensures.sizes (all_left (λ place. place < word_depth (g.P.Port.sizes c.args.port.now) c.args.word)
    c.look-found.result _ _ c.in-Some.place c.in-Some.ensures.next c.requires.places).0

pub returns-in-Ok-clause-place : goal.returns-in-Ok-clause-place
returns-in-Ok-clause-place g c =
    (all_left (λ place. place < word_depth (g.P.Port.sizes c.args.port.now) c.args.word) c.look-found.result _ _
    c.in-Some.place c.in-Some.ensures.next c.requires.places).0

pub returns-in-Err-clause-left : goal.returns-in-Err-clause-left
returns-in-Err-clause-left g c =
    (all_left (λ place. place < word_depth (g.P.Port.sizes c.args.port.now) c.args.word) c.look-found.result _ _
    c.in-Some.place c.in-Some.ensures.next c.requires.places).1

pub returns-in-Ok-clause-won : goal.returns-in-Ok-clause-won
returns-in-Ok-clause-won g c =
    let claim = c.in-Ok.ensures.won in
    let look = Look c.args.word c.look-found.result in
    let step = Claimed c.args.word (2 ^ c.in-Some.place) claim.0 in
    record {
      steps = look ∷ step ∷ [];
      added = g.met.P.Port.adds_more c.args.port.now c.look-found.new.self c.claim_one.new.self (look ∷ [])
          (step ∷ []) c.look-found.ensures.step claim.2;
      holds = record { pass = pass (wins c.in-Some.ensures.next claim.1); freed = refl };
    }

pub returns-in-Err-clause-missed : goal.returns-in-Err-clause-missed
returns-in-Err-clause-missed g c =
    let claim = c.in-Err.ensures.lost in
    let look = Look c.args.word c.look-found.result in
    let step = Claimed c.args.word (2 ^ c.in-Some.place) c.in-Err.found in
    record {
      steps = look ∷ step ∷ [];
      added = g.met.P.Port.adds_more c.args.port.now c.look-found.new.self c.claim_one.new.self (look ∷ [])
          (step ∷ []) c.look-found.ensures.step claim.2;
      holds = record {
        goes_on = λ rest answer tries. pass (loses c.in-Some.ensures.next claim.0 tries);
        freed = refl;
        kept = refl;
      };
    }
