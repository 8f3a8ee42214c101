-- The lists after the event.
use Rattle.std.specs.Prelude.{◌+◌, ◌≡◌}
use Rattle.tag_model.proofs.Uses.{ap, AreAccepted, arith, back_by, caller_of, callers_of, Event, get_or, Happens, IsInRoom, IsSound, KeptWorld, List, MayHappen, refl, set, subst, sym, with_items, won_by, world_of, ℕ, ◌∙◌}
use Rattle.tag_model.specs.declared.world.World.TheInside.{Inside}
use Rattle.tag_model.proofs.KeptFacts.{back_of-fits, happens-kept, sound-kept, written-after}
use Rattle.tag_model.proofs.world.World.apply.Goals as goal

-- what contracts see of the fields
abbrev seen : Inside → KeptWorld
seen w = record { layout = w.entries.layout; places = w.entries.places; won = w.won.items; back = w.back.items }

-- the counts with more at one place
abbrev raised : List ℕ → ℕ → ℕ → List ℕ
raised counts place more = set counts place (get_or counts place 0 + more)

may-happen : (kept : KeptWorld) (event : Event) → IsInRoom kept event → AreAccepted kept.layout event kept.places
    → MayHappen kept.layout (callers_of kept) (world_of kept) event
may-happen kept event room accepted = record {
  in_layout = room.0;
  caller = room.1;
  unspent = room.2;
  places = accepted;
}

pub add_at-requires-2-clause-room : goal.add_at-requires-2-clause-room
add_at-requires-2-clause-room c =
    let old = seen c.self.inside in
    let room : IsInRoom old c.args.event = subst (λ (kept : KeptWorld). IsInRoom kept c.args.event)
    (sym c.self.view_is) c.in_ok-test.ensures.ok in
    let few = back_of-fits old c.self.invariant (caller_of c.args.event) room.1 in
    let here : get_or c.deref_mut-2.result.now c.caller-2.result 0
    ≡ get_or c.self.inside.back.items (caller_of c.args.event) 0 =
    ap (λ (xs : List ℕ). get_or xs c.caller-2.result 0) c.deref_mut-2.ensures.value
    ∙ ap (λ (k : ℕ). get_or c.self.inside.back.items k 0) c.caller-2.ensures in
    omega arith

pub invariant_of-self-2 : goal.invariant_of-self-2
invariant_of-self-2 c =
    let old = seen c.self.inside in let did = c.if-not-bring.ensures.moved in
    let room : IsInRoom old c.args.event = subst (λ (kept : KeptWorld). IsInRoom kept c.args.event)
    (sym c.self.view_is) c.in_ok-test.ensures.ok in
    let by = caller_of c.args.event in
    let won : c.add_at.new.counts ≡ raised old.won by (won_by c.args.event) = cc in
    let back : c.add_at-2.new.counts ≡ raised old.back by (back_by c.args.event) = cc in
    subst IsSound
    (sym (written-after old c.args.event c.bring.new.self.layout c.self.inside.won c.self.inside.back
    c.bring.new.self.places c.add_at.new.counts c.add_at-2.new.counts c.if-not-bring.ensures.layout refl refl won
    back))
    (sound-kept old c.args.event c.bring.new.self.places c.self.invariant
    (may-happen old c.args.event room did.0) did.1)

pub returns-clause-ok : goal.returns-clause-ok
returns-clause-ok c =
    let old = seen c.self.inside in let did = c.if-not-bring.ensures.moved in
    let room : IsInRoom old c.args.event = subst (λ (kept : KeptWorld). IsInRoom kept c.args.event)
    (sym c.self.view_is) c.in_ok-test.ensures.ok in
    let by = caller_of c.args.event in
    let won : c.add_at.new.counts ≡ raised old.won by (won_by c.args.event) = cc in
    let back : c.add_at-2.new.counts ≡ raised old.back by (back_by c.args.event) = cc in
    let new : KeptWorld = record {
      layout = c.bring.new.self.layout;
      places = c.bring.new.self.places;
      won = (with_items c.self.inside.won c.add_at.new.counts).items;
      back = (with_items c.self.inside.back c.add_at-2.new.counts).items;
    } in
    subst (λ (k : KeptWorld). Happens k c.args.event new) c.self.view_is
    (subst (Happens old c.args.event)
    (sym (written-after old c.args.event c.bring.new.self.layout c.self.inside.won c.self.inside.back
    c.bring.new.self.places c.add_at.new.counts c.add_at-2.new.counts c.if-not-bring.ensures.layout refl refl won
    back))
    (happens-kept old c.args.event c.bring.new.self.places c.self.invariant
    (may-happen old c.args.event room did.0) did.1))
