-- A tag that has a place is held and ordinary, so it needs no test, and is kept.
use Rattle.tag_cache.proofs.Uses.{ap, arith, back_of, Hand, inl, Keep, Ordinary}
use Rattle.tag_cache.proofs.Answering.{does_clear, known_passes}
use Rattle.tag_cache.proofs.Reusing.{known_held, known_ordinary, known_ordinary_of, known_within}
use Rattle.tag_cache.proofs.cache.Cache.clear_placed.Goals as goal

pub keep_at-requires-clause-held : goal.keep_at-requires-clause-held
keep_at-requires-clause-held g c = known_held c.args.self.now c.args.tag c.requires.place.known

pub keep_at-requires-clause-ordinary : goal.keep_at-requires-clause-ordinary
keep_at-requires-clause-ordinary g c = known_ordinary c.args.self.now c.args.tag c.requires.place.known

pub keep_at-requires-clause-offset : goal.keep_at-requires-clause-offset
keep_at-requires-clause-offset g c =
    let low = c.offset-offset.ensures.within.1 (known_within c.args.self.now c.args.tag c.requires.place.known) in
    (c.offset-offset.ensures.offset low, low)

pub returns-clause-does : goal.returns-clause-does
returns-clause-does g c = let pool = c.args.pool.now in let old = c.args.self.now in let tag = c.args.tag in
    let p = c.requires.place in let e = c.keep_at.ensures in
    let back = ap (λ (h : Hand g.row.R.Denot). back_of h Ordinary) e.hand in
    does_clear pool tag old c.keep_at.new.self 0 (known_passes pool tag old c.requires.cache p.known)
    (inl (
      known_ordinary_of pool old tag c.requires.cache p.known,
      record { way = Keep; why = (p.other, p.can, p.place); goes = record { hand = e.hand; also = e.also } },
    ))
    (omega arith) (λ leaves. e.knows)
