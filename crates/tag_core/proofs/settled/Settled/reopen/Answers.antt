-- The counts with which the next map opens are those of the callers that settled, and so those of the history that
-- showed them.
use Rattle.tag_core.proofs.Uses.{ap, arith, Caller, get_or, GoesOn, IsCallerOf, List, Shape, subst, sym, ◌∙◌}
use Rattle.tag_core.proofs.Entries.{entry_or, all_at}
use Rattle.tag_core.proofs.Reopenings.{numbers_below, own_numbers, no_missing, may_open, chain_on, goes_on, free_again}
use Rattle.tag_core.proofs.settled.Settled.reopen.Goals as goal

pub new_map-requires-clause-opening : goal.new_map-requires-clause-opening
new_map-requires-clause-opening g c =
    let s = c.args.self in let made = c.in-Ok.ensures in
    may_open s.tags.shape s.callers.items s.totals s.known c.args.layout
    c.in-Ok.shape made.next made.counts made.rest c.requires.unused.0 c.requires.unused.1

pub new_map-requires-clause-chain : goal.new_map-requires-clause-chain
new_map-requires-clause-chain g c =
    let s = c.args.self in let made = c.in-Ok.ensures in
    chain_on s.tags.shape s.callers.items s.totals s.known c.args.layout
    c.in-Ok.shape made.next made.counts s.tags.chain c.requires.unused.0 c.requires.unused.1

pub reseat_all-requires-clause-every : goal.reseat_all-requires-clause-every
reseat_all-requires-clause-every g c n l =
    let s = c.args.self in no_missing s.tags.shape s.callers.items s.totals s.known n
    (let e = ap (λ (z : Shape). z.callers) c.in-Ok-new_map.ensures.map ∙ c.in-Ok.ensures.next.callers_is in omega arith)

pub reseat_all-requires-clause-once : goal.reseat_all-requires-clause-once
reseat_all-requires-clause-once g c = let s = c.args.self in own_numbers s.tags.shape s.callers.items s.totals s.known

pub reseat_all-requires-clause-below : goal.reseat_all-requires-clause-below
reseat_all-requires-clause-below g c i x at =
    let s = c.args.self in let low = numbers_below s.tags.shape s.callers.items s.totals s.known i x at in
    let e = ap (λ (z : Shape). z.callers) c.in-Ok-new_map.ensures.map ∙ c.in-Ok.ensures.next.callers_is in omega arith

pub reseat_all-requires-clause-life : goal.reseat_all-requires-clause-life
reseat_all-requires-clause-life g c i x at =
    let s = c.args.self in let own =
    all_at (λ (z : Caller g.row.R.Denot). IsCallerOf s.tags z) s.callers.items s.own i x at in
    x.told.1 ∙ ap (λ (z : Shape). z.life) own.1
    ∙ sym (ap (λ (z : Shape). z.life) c.in-Ok-new_map.ensures.map ∙ c.in-Ok.ensures.next.life_is)

pub returns-clause-own : goal.returns-clause-own
returns-clause-own g c i d l =
    let R = g.row.R.Denot in let old : List (Caller R) = c.args.self.callers.items in
    let new : List (Caller R) = c.reseat_all.new.callers.items in
    (c.reseat_all.ensures.each i (get_or old i d) (get_or new i d)
    (entry_or old i d (let long = c.reseat_all.ensures.count in omega arith)) (entry_or new i d l)).0

pub returns-clause-goes_on : goal.returns-clause-goes_on
returns-clause-goes_on g c known =
    let s = c.args.self in let made = c.in-Ok.ensures in
    subst (λ (z : Shape). GoesOn (record { shape = s.tags.shape; history = known.history }) z)
    (sym c.in-Ok-new_map.ensures.map)
    (goes_on s.tags.shape s.callers.items s.totals known c.in-Ok.shape made.counts c.args.layout
    made.next c.requires.unused.0
    c.requires.unused.1)

pub returns-clause-free : goal.returns-clause-free
returns-clause-free g c =
    let s = c.args.self in free_again s.tags.shape s.callers.items s.totals s.known c.in-Ok-new_map.made.0
    c.reseat_all.new.callers.items (ap (λ (z : Shape). z.callers) c.in-Ok-new_map.ensures.map
    ∙ c.in-Ok.ensures.next.callers_is)
    c.reseat_all.ensures
