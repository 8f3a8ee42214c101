-- Each visit that wins nothing adds its steps, and the search goes on with the words after it.
use Rattle.std.specs.Prelude.{◌+◌, ◌∷◌}
use Rattle.tag_search.proofs.Uses.{[], AddsSteps, IsSearch, IsVisit, List, map, None, numbers, over, passed, reach_of, Some, subst, sym, Visit, visit_of, won, ℕ, ◌∙◌}
use Rattle.tag_search.proofs.Joined.{Begins, adds_weaker, adds_over, adds_further, adds_ended, same_room_joined}
use Rattle.tag_search.proofs.Orders.{numbers-none, numbers-cons}
use Rattle.tag_search.proofs.scan.Scan.visit_between.Goals as goal

pub returns-in-Some-clause-search : goal.returns-in-Some-clause-search
returns-in-Some-clause-search g c =
    let scan = c.args.self.now in let l = scan.layout in let of : ℕ → Visit = visit_of scan.first (reach_of scan) in
    let word = c.loop-word.word in let place = c.in-Some.place in
    let behind : List Visit = map of (numbers (word + 1) c.args.end) in
    let whole : List Visit = map of (numbers c.args.from c.args.end) in
    let begun = subst (λ (is : List ℕ). AddsSteps (λ p xs q. g.P.Port.adds p xs q) c.args.port.now c.loop-word.port
    (Begins (IsSearch l (map of is)) (IsSearch l whole))) (numbers-cons word c.args.end c.loop-word-test.true)
    c.loop-word.invariant.begun in
    let visit = rw (c.rank.ensures.rank, c.turns.ensures.value) at c.in-Some.ensures.visit in
    rw c.tag_at.ensures.value (adds_ended (λ p xs q. g.P.Port.adds p xs q) g.met.P.Port.adds_more c.args.port.now
    c.loop-word.port c.visit.new.port (IsSearch l (of word ∷ behind)) (IsSearch l whole) (Some _) begun
    (adds_weaker (λ p xs q. g.P.Port.adds p xs q) c.loop-word.port c.visit.new.port
    (λ xs. IsVisit word (of word).rank (of word).turns xs (Some place)) _ (λ xs is. won {visit = of word} is) visit))

pub loop-word-preserved : goal.loop-word-preserved
loop-word-preserved g c =
    let scan = c.args.self.now in let l = scan.layout in let of : ℕ → Visit = visit_of scan.first (reach_of scan) in
    let word = c.loop-word.word in
    let behind : List Visit = map of (numbers (word + 1) c.args.end) in
    let whole : List Visit = map of (numbers c.args.from c.args.end) in
    let begun = subst (λ (is : List ℕ). AddsSteps (λ p xs q. g.P.Port.adds p xs q) c.args.port.now c.loop-word.port
    (Begins (IsSearch l (map of is)) (IsSearch l whole))) (numbers-cons word c.args.end c.loop-word-test.true)
    c.loop-word.invariant.begun in
    let visit = rw (c.rank.ensures.rank, c.turns.ensures.value, c.in_default.is) at c.visit.ensures.visit in
    record {
      port = c.visit.ensures.port;
      sizes = c.visit.ensures.sizes ∙ c.loop-word.invariant.sizes;
      room = same_room_joined (λ p n. g.P.Port.has_room p n) c.args.port.now c.loop-word.port c.visit.new.port
          c.loop-word.invariant.room c.in_default.ensures.room;
      begun = adds_further (λ p xs q. g.P.Port.adds p xs q) g.met.P.Port.adds_more c.args.port.now c.loop-word.port
          c.visit.new.port (IsSearch l behind) (IsSearch l (of word ∷ behind)) (IsSearch l whole) begun
          (adds_weaker (λ p xs q. g.P.Port.adds p xs q) c.loop-word.port c.visit.new.port
          (λ xs. IsVisit word (of word).rank (of word).turns xs None) _
          (λ xs is rest answer. passed {visit = of word} is) visit);
    }

pub returns-clause-search : goal.returns-clause-search
returns-clause-search g c =
    let scan = c.args.self.now in let l = scan.layout in let of : ℕ → Visit = visit_of scan.first (reach_of scan) in
    let left : List ℕ = numbers c.loop-word.word c.args.end in
    let none = numbers-none c.loop-word.word c.args.end c.loop-word-test.false in
    adds_over (λ p xs q. g.P.Port.adds p xs q) c.args.port.now c.loop-word.port (IsSearch l (map of left))
    (IsSearch l (map of (numbers c.args.from c.args.end))) None
    (subst (λ (is : List ℕ). IsSearch l (map of is) [] None) (sym none) over) c.loop-word.invariant.begun
