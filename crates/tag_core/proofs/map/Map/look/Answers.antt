-- A load changes no word. The record gains the step with the word that was found, in which the bit of each tag that the
-- caller holds is 1.
use Rattle.tag_core.proofs.Uses.{looked, record_of, refl, ℕ}
use Rattle.tag_core.specs.Spacing.{word_at}
use Rattle.tag_core.proofs.Stand.{word_in}
use Rattle.tag_core.proofs.Allowed.{look_allowed}
use Rattle.tag_core.proofs.Asking.{found, narrow, in_words, asked, left, after, recorded, slots, plus_none}
use Rattle.tag_core.proofs.Holdings.{adds_keeps}
use Rattle.tag_core.proofs.map.Map.look.Goals as goal

pub load-requires : goal.load-requires
load-requires g c =
    let m = c.args.self.now in let w = c.args.caller.now in let k = w.shape.value in let own = c.requires.caller in
    let R = g.row.R.Denot in let i : ℕ = c.args.word in let inside = in_words m w own i c.requires.within in
    let a = asked m w own w.seat.id w.seat.me (word_at i) c.word_spot.result (λ n. n) 0 0 looked c.word_spot.ensures
    (word_in k.layout i inside)
    (look_allowed R k (narrow m w own) w.seat.id w.seat.me (record_of w) w.knows w.carries i inside) in
    (own.0, a.0, a.1)

pub invariant_of-caller : goal.invariant_of-caller
invariant_of-caller g c =
    let w = c.args.caller.now in
    let did = c.load.ensures.2 c.args.word (record_of w) c.word_spot.ensures w.knows in
    let l = left w did.0 refl refl (plus_none w.won) (plus_none w.back) in
    after l w.wide w.unspent w.few_back

pub returns-clause-step : goal.returns-clause-step
returns-clause-step g c =
    let w = c.args.caller.now in
    let did = c.load.ensures.2 c.args.word (record_of w) c.word_spot.ensures w.knows in
    let l = left w did.0 refl refl (plus_none w.won) (plus_none w.back) in record {
      known = recorded l;
      slots = slots l;
      same_map = c.load.ensures.0;
    }

pub returns-clause-held : goal.returns-clause-held
returns-clause-held g c = let w = c.args.caller.now in
    found c.args.self.now w c.requires.caller c.args.word c.load.result 1
    (c.load.ensures.2 c.args.word (record_of w) c.word_spot.ensures w.knows).1

pub returns-clause-kept : goal.returns-clause-kept
returns-clause-kept g c =
    adds_keeps c.args.self.now c.args.caller.now _ c.requires.caller _ (returns-clause-step g c) refl
