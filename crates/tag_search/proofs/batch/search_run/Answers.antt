-- Each visit that wins nothing adds its steps, and the search goes on with the words left.
use Rattle.std.specs.Prelude.{◌+◌, ◌∷◌, ◌≡◌}
use Rattle.tag_search.proofs.Uses.{[], AddsSteps, arith, batch_over, batch_passed, batch_won, batch_words, IsBatchSearch, IsBatchVisit, left_of_scan, List, None, Option, refl, Some, subst, sym, tag_at, word_depth, words, ℕ, ◌∙◌}
use Rattle.tag_search.proofs.Joined.{Begins, adds_weaker, adds_over, adds_further, adds_ended, same_room_joined}
use Rattle.tag_search.proofs.Orders.{scan-begun, scan-over}
use Rattle.tag_search.proofs.batch.search_run.Goals as goal

pub loop-visited-init : goal.loop-visited-init
loop-visited-init g c = let l = c.args.layout in let first = c.args.first in record {
  port = c.requires.port;
  sizes = refl;
  room = λ n. (λ x. x, λ x. x);
  begun = record {
    steps = [];
    added = g.met.P.Port.adds_none c.args.port.now;
    holds = λ steps answer rest. subst (λ (is : List ℕ). IsBatchSearch l c.args.n is steps answer)
        (sym (scan-begun (words l) first)) rest;
  };
}

pub loop-visited-preserved : goal.loop-visited-preserved
loop-visited-preserved g c =
    let l = c.args.layout in let n = c.args.n in let word : ℕ = c.word_after-word.result in
    let whole : List ℕ = batch_words l c.args.first in
    let behind : List ℕ = left_of_scan (words l) c.args.first (c.loop-visited.visited + 1) in
    let begun = subst (λ (is : List ℕ). AddsSteps (λ p xs q. g.P.Port.adds p xs q) c.args.port.now c.loop-visited.port
    (Begins (IsBatchSearch l n is) (IsBatchSearch l n whole)))
    (rw c.words-count.ensures.value at c.word_after-word.ensures.order) c.loop-visited.invariant.begun in
    record {
      port = c.visit_for_run.ensures.port;
      sizes = c.visit_for_run.ensures.sizes ∙ c.loop-visited.invariant.sizes;
      room = same_room_joined (λ p n. g.P.Port.has_room p n) c.args.port.now c.loop-visited.port
          c.visit_for_run.new.port c.loop-visited.invariant.room c.in_default.ensures.room;
      begun = adds_further (λ p xs q. g.P.Port.adds p xs q) g.met.P.Port.adds_more c.args.port.now c.loop-visited.port
          c.visit_for_run.new.port (IsBatchSearch l n behind) (IsBatchSearch l n (word ∷ behind))
          (IsBatchSearch l n whole) begun
          (adds_weaker (λ p xs q. g.P.Port.adds p xs q) c.loop-visited.port c.visit_for_run.new.port
          (λ xs. IsBatchVisit word (word_depth l word) n xs None) _ (λ xs is rest answer. batch_passed is)
          (rw c.in_default.is at c.visit_for_run.ensures.visit));
    }

pub returns-clause-search : goal.returns-clause-search
returns-clause-search g c =
    let l = c.args.layout in let n = c.args.n in let first = c.args.first in
    let count : c.words-count.result ≡ words l = c.words-count.ensures.value in
    let done = c.loop-visited-test.false in let visited = c.loop-visited.visited in
    let left : List ℕ = left_of_scan (words l) first visited in
    adds_over (λ p xs q. g.P.Port.adds p xs q) c.args.port.now c.loop-visited.port (IsBatchSearch l n left)
    (IsBatchSearch l n (batch_words l first)) None
    (subst (λ (is : List ℕ). IsBatchSearch l n is [] None)
    (sym (scan-over (words l) first visited (omega arith))) batch_over) c.loop-visited.invariant.begun

pub returns-in-Some-clause-search : goal.returns-in-Some-clause-search
returns-in-Some-clause-search g c =
    let l = c.args.layout in let n = c.args.n in let word : ℕ = c.word_after-word.result in
    let whole : List ℕ = batch_words l c.args.first in
    let behind : List ℕ = left_of_scan (words l) c.args.first (c.loop-visited.visited + 1) in
    let won : Option (ℕ × ℕ) = Some (tag_at l word c.in-Some.place, c.in-Some.bits) in
    let begun = subst (λ (is : List ℕ). AddsSteps (λ p xs q. g.P.Port.adds p xs q) c.args.port.now c.loop-visited.port
    (Begins (IsBatchSearch l n is) (IsBatchSearch l n whole)))
    (rw c.words-count.ensures.value at c.word_after-word.ensures.order) c.loop-visited.invariant.begun in
    rw c.tag_at.ensures.value (adds_ended (λ p xs q. g.P.Port.adds p xs q) g.met.P.Port.adds_more c.args.port.now
    c.loop-visited.port c.visit_for_run.new.port (IsBatchSearch l n (word ∷ behind)) (IsBatchSearch l n whole) won begun
    (adds_weaker (λ p xs q. g.P.Port.adds p xs q) c.loop-visited.port c.visit_for_run.new.port
    (λ xs. IsBatchVisit word (word_depth l word) n xs (Some (c.in-Some.place, c.in-Some.bits)))
    (λ xs. IsBatchSearch l n (word ∷ behind) xs won) (λ xs is. batch_won is) c.in-Some.ensures.visit))
