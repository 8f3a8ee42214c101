-- Whoever is listed gets its bit and its turn.
use Rattle.std.specs.Prelude.{◌<◌, ◌≡◌, slice_index}
use Rattle.std.proofs.Common.{length, set}
use Rattle.tag_bell.proofs.Uses.{arith, Berth, bit_at, bit_or, List, Listed, Listener, refl, Sleeper, subst, sym, Waiter, ℕ}
use Rattle.tag_bell.proofs.Noting.{any_turn, few_marked, HasTurn, noted, stored_here, stored_rest}
use Rattle.tag_bell.specs.Lines.{IsNoted, listed_bit}
use Rattle.tag_bell.proofs.found.Found.note.Goals as goal

-- of one that is listed
stored : (waiter own : Waiter) (number turn old new : ℕ) (was : List ℕ) (b : Berth)
    → new ≡ bit_or old (listed_bit waiter number b) → bit_at old number ≡ 0 → number < length was → b ≡ Listed own turn
    → IsNoted waiter number b old was new (set was number turn)
stored waiter own number turn old new was b is clear low listed = noted waiter number b old new is was
    (set was number turn) clear (stored_rest was number turn)
    (subst (λ (x : Berth). HasTurn (slice_index (set was number turn) number) x) (sym listed)
    (stored_here was number turn low))

pub returns-in-Listed-clause-sleepers : goal.returns-in-Listed-clause-sleepers
returns-in-Listed-clause-sleepers c = let room = c.requires.room in let low = c.requires.within in
    let masks = c.args.self.now.masks in stored Sleeper c.in-Listed.field-0 c.args.number c.in-Listed.turn
    masks.sleepers c.note.new.self.sleepers c.args.self.now.turns c.args.berth c.note.ensures.sleepers
    c.requires.first.0 (omega arith) c.in-Listed.is

pub returns-in-Listed-clause-listeners : goal.returns-in-Listed-clause-listeners
returns-in-Listed-clause-listeners c = let room = c.requires.room in let low = c.requires.within in
    let masks = c.args.self.now.masks in stored Listener c.in-Listed.field-0 c.args.number c.in-Listed.turn
    masks.listeners c.note.new.self.listeners c.args.self.now.turns c.args.berth c.note.ensures.listeners
    c.requires.first.1 (omega arith) c.in-Listed.is

pub returns-in-Listed-clause-few : goal.returns-in-Listed-clause-few
returns-in-Listed-clause-few c = let masks = c.args.self.now.masks in let more = c.note.new.self in
    few_marked masks.sleepers masks.listeners more.sleepers more.listeners c.args.number c.args.berth c.requires.first
    c.note.ensures.sleepers c.note.ensures.listeners

pub returns-in_default : goal.returns-in_default
returns-in_default c = let masks = c.args.self.now.masks in let more = c.note.new.self in
    let turns = c.args.self.now.turns in
    let has = any_turn (slice_index turns c.args.number) c.args.berth c.in_default.not-Listed in record {
      room = c.requires.room;
      sleepers = noted Sleeper c.args.number c.args.berth masks.sleepers more.sleepers c.note.ensures.sleepers
          turns turns c.requires.first.0 (λ e ne. refl) has;
      listeners = noted Listener c.args.number c.args.berth masks.listeners more.listeners c.note.ensures.listeners
          turns turns c.requires.first.1 (λ e ne. refl) has;
      coming = c.note.ensures.coming;
      few = few_marked masks.sleepers masks.listeners more.sleepers more.listeners c.args.number c.args.berth
          c.requires.first c.note.ensures.sleepers c.note.ensures.listeners;
    }
