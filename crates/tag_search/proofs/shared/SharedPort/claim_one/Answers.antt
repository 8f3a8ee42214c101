-- A claim of one place adds its step, and one that found the place taken wins nothing, so it keeps the room.
use Rattle.std.proofs.Common.{refl}
use Rattle.tag_search.proofs.SharedCalls.{if_ok, if_err, through_claim, same_room_lost}
use Rattle.tag_search.proofs.shared.SharedPort.claim_one.Goals as goal

pub returns-clause-won : goal.returns-clause-won
returns-clause-won g c = if_ok c.claim_one.result
    (λ _ won. (
      won.0,
      won.1,
      through_claim c.args.self.now _ c.args.word c.args.place won.0 c.requires.port
          c.requires.word refl refl (refl, refl) won.2,
    )) c.claim_one.ensures.won

pub returns-clause-lost : goal.returns-clause-lost
returns-clause-lost g c = if_err c.claim_one.result
    (λ found lost. (
      lost.0,
      same_room_lost c.args.self.now.caller.now c.claim_one.new.caller c.args.word c.args.place
          found c.requires.width lost.1.fits lost.0 lost.1.step,
      through_claim c.args.self.now _ c.args.word c.args.place found
          c.requires.port c.requires.word refl refl (refl, refl) lost.1,
    )) c.claim_one.ensures.lost
