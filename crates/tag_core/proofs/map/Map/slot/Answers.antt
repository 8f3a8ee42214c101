-- A load of the tag's state brings its slot to the front of the seat, the exchange changes that one value, and a second
-- load puts the slot back to its place among the others.
use Rattle.std.proofs.Common.{◌∙◌}
use Rattle.tag_core.proofs.InFront.{Exchanged, front_asked, in_front, order_asked, exchanged, after, recorded}
use Rattle.tag_core.proofs.map.Map.slot.Given as given
use Rattle.tag_core.proofs.map.Map.slot.Goals.{After-load-2}
use Rattle.tag_core.proofs.map.Map.slot.Goals as goal

pub load-requires : goal.load-requires
load-requires g c =
    let own = c.requires.caller in
    let a = front_asked c.args.caller.now c.args.tag _ c.state_spot-spot.ensures c.requires.held c.args.self.now own in
    (own.0, a.0, a.1)

pub exchange-old-requires : goal.exchange-old-requires
exchange-old-requires g c = (
  c.load.ensures.0 ∙ c.requires.caller.0,
  in_front c.args.caller.now c.args.tag _ c.state_spot-spot.ensures c.requires.held c.load.new.seat.me c.load.ensures.2,
)

pub load-requires-2 : goal.load-requires-2
load-requires-2 g c =
    let own = c.requires.caller in let old = c.exchange-old in
    let a = order_asked c.args.caller.now c.args.tag _ c.state_spot-spot.ensures c.requires.held c.load.new.seat.me
    c.load.ensures.2 old.result c.args.new old.new.seat.me old.ensures.2 old.ensures.3 c.args.self.now own
    old.new.seat.id in
    (old.ensures.0 ∙ c.load.ensures.0 ∙ own.0, a.0, a.1)

-- the second load puts the slot back
done : (g : given.Over) (c : After-load-2 g)
    → Exchanged c.args.caller.now c.args.tag c.exchange-old.result c.args.new c.load-2.new.seat.me
done g c = let old = c.exchange-old in
    exchanged c.args.caller.now c.args.tag _ c.state_spot-spot.ensures c.requires.held c.load.new.seat.me c.load.ensures.2
    old.result c.args.new old.new.seat.me old.ensures.2 old.ensures.3 c.load-2.new.seat.me c.load-2.ensures.2

pub invariant_of-caller : goal.invariant_of-caller
invariant_of-caller g c = after (done g c)

pub returns-clause-found : goal.returns-clause-found
returns-clause-found g c = (done g c.before).found

pub returns-clause-put : goal.returns-clause-put
returns-clause-put g c = (done g c.before).put

pub returns-clause-others : goal.returns-clause-others
returns-clause-others g c = (done g c.before).others

pub returns-clause-unchanged : goal.returns-clause-unchanged
returns-clause-unchanged g c =
    (recorded (done g c.before), c.load-2.ensures.0 ∙ c.exchange-old.ensures.0 ∙ c.load.ensures.0)
