-- The slot comes to the front by one load and goes back to its place by another; between them its value is read.
use Rattle.std.specs.Prelude.{◌≡◌, ◌≢◌}
use Rattle.tag_core.proofs.Uses.{ap, dite, sym, value_of, ℕ, ℕ_discrete, ◌∙◌}
use Rattle.tag_core.proofs.InFront.{Exchanged, front_asked, in_front, order_asked, exchanged, after, recorded}
use Rattle.tag_core.proofs.map.Map.read.Given as given
use Rattle.tag_core.proofs.map.Map.read.Goals.{After-load-2}
use Rattle.tag_core.proofs.map.Map.read.Goals as goal

pub load-requires : goal.load-requires
load-requires g c =
    let own = c.requires.caller in
    let a = front_asked c.args.caller.now c.args.tag _ c.state_spot-spot.ensures c.requires.held c.args.self.now own in
    (own.0, a.0, a.1)

pub front_value-value-requires : goal.front_value-value-requires
front_value-value-requires g c = (
  c.load.ensures.0 ∙ c.requires.caller.0,
  in_front c.args.caller.now c.args.tag _ c.state_spot-spot.ensures c.requires.held c.load.new.seat.me c.load.ensures.2,
)

pub load-requires-2 : goal.load-requires-2
load-requires-2 g c =
    let own = c.requires.caller in let read = c.front_value-value in let me = c.load.new.seat.me in
    let a = order_asked c.args.caller.now c.args.tag _ c.state_spot-spot.ensures c.requires.held me c.load.ensures.2
    read.result read.result read.new.seat.me read.ensures.value
    (read.ensures.same.2 ∙ (λ j. (me.0, read.ensures.value j))) c.args.self.now own read.new.seat.id in
    (read.ensures.same.0 ∙ c.load.ensures.0 ∙ own.0, a.0, a.1)

-- the second load puts the slot back
done : (g : given.Over) (c : After-load-2 g) → Exchanged c.args.caller.now c.args.tag
    c.front_value-value.result c.front_value-value.result c.load-2.new.seat.me
done g c = let read = c.front_value-value in let me = c.load.new.seat.me in
    exchanged c.args.caller.now c.args.tag _ c.state_spot-spot.ensures c.requires.held me c.load.ensures.2
    read.result read.result read.new.seat.me read.ensures.value
    (read.ensures.same.2 ∙ (λ j. (me.0, read.ensures.value j))) c.load-2.new.seat.me c.load-2.ensures.2

pub invariant_of-caller : goal.invariant_of-caller
invariant_of-caller g c = after (done g c)

pub returns-clause-value : goal.returns-clause-value
returns-clause-value g c = (done g c.before).found

pub returns-clause-kept : goal.returns-clause-kept
returns-clause-kept g c =
    let w = c.args.caller.now in let u : ℕ = c.args.tag in let d = done g c.before in record {
      kept = λ t h. (
        h,
        dite (ℕ_discrete t u)
            (λ (e : t ≡ u). ap (value_of c.load-2.new.seat.me.1) e ∙ d.put ∙ sym d.found
            ∙ ap (value_of w.seat.me.1) (sym e))
            (λ (ne : t ≢ u). d.others t h ne),
      );
      none_else = λ t h. h;
    }

pub returns-clause-unchanged : goal.returns-clause-unchanged
returns-clause-unchanged g c =
    (recorded (done g c.before), c.load-2.ensures.0 ∙ c.front_value-value.ensures.same.0 ∙ c.load.ensures.0)
