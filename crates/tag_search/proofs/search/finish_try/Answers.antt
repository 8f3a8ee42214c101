-- A search after the first try is the rest of the get, as a hint below the depth is reduced already.
use Rattle.std.specs.Prelude.{◌++◌}
use Rattle.tag_search.proofs.Uses.{arith, Completes, IsGet, IsMissed, IsPlainSearch, MissesFirst, places_in, refl, subst, sym, visits_from, ℕ}
use Rattle.tag_search.proofs.GetFacts.{plain_get, plain_follows}
use Rattle.tag_search.proofs.Joined.{adds_weaker}
use Rattle.tag_search.proofs.search.finish_try.Goals as goal

pub returns-clause-steps : goal.returns-clause-steps
returns-clause-steps g c =
    let layout = c.args.layout in let hint = c.args.hint.now in let missed = c.args.missed in
    let word = c.word_of.result in let is = c.word_of.ensures.value in let answer = c.search_after-answer.result in
    let inside = c.word_of.ensures.within in let can = c.requires.hint in
    adds_weaker (λ p xs q. g.P.Port.adds p xs q) c.args.port.now c.search_after-answer.new.port
    (Completes (IsMissed word (places_in layout word) missed) (IsPlainSearch layout word answer))
    (Completes (MissesFirst layout hint missed) (IsGet layout (visits_from layout hint) answer))
    (λ xs search tried is_tried. plain_get layout layout hint refl can.0 word is can.1
    c.search_after-answer.ensures.shift (omega arith) answer (tried ++ xs) (search tried
    (subst (λ (i : ℕ). IsMissed i (places_in layout i) missed tried) (sym is) is_tried)))
    c.search_after-answer.ensures.search

pub returns-clause-hint : goal.returns-clause-hint
returns-clause-hint g c =
    plain_follows c.args.layout c.args.layout c.args.hint.now refl c.requires.hint.0 c.depth.result
    c.after_get-hint.result c.search_after-answer.result c.depth.ensures.value c.after_get-hint.ensures
