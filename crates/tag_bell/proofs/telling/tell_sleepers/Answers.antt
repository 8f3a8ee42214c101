-- Those that come leave room for fewer, or for none.
use Rattle.std.specs.Prelude.{min}
use Rattle.tag_bell.proofs.Uses.{ap, arith, Sleeper, subst, sym, TellsMost, ℕ, ◌∙◌}
use Rattle.tag_bell.proofs.Coming.{no_room, room_is}
use Rattle.tag_bell.proofs.telling.tell_sleepers.Goals as goal

pub returns-then-room-eq0-clause-done : goal.returns-then-room-eq0-clause-done
returns-then-room-eq0-clause-done g c = let caller = c.args.caller.now in
    let room = room_is c.args.map.now caller c.requires.caller c.args.found.now.masks.coming c.requires.coming in
    let beside = c.room_beside.ensures in let least = c.min-room.ensures in let none = c.if-room-eq0.true in
    let some = c.requires.some in no_room caller (omega arith)

pub returns-clause-most : goal.returns-clause-most
returns-clause-most g c = let tell = c.tell_in_turn in let new = tell.new.caller in
    subst (λ (most : ℕ). TellsMost most Sleeper tell.result new)
    (c.min-room.ensures ∙ ap (min c.args.most) (c.room_beside.ensures ∙ room_is c.args.map.now new tell.ensures.caller
    c.args.found.now.masks.coming (c.requires.coming ∙ sym tell.ensures.coming))) tell.ensures.most
