-- So far every claim was lost, and tries of the places left complete the pass. Each round leaves fewer places.
use Rattle.std.specs.Prelude.{◌++◌, ◌<◌, ◌≡◌}
use Rattle.tag_search.proofs.Uses.{AddsSteps, All, IsTries, length, numbers, places_of, SameRoom, word_depth}
use Rattle.tag_search.proofs.Joined.{Begins}
use Rattle.tag_search.proofs.pass.pass_on.Given as goal

abbrev pub invariant-loop-place : goal.invariant-loop-place
invariant-loop-place g l = record {
  port : g.P.Port.ready l.port;
  sizes : g.P.Port.sizes l.port ≡ g.P.Port.sizes l.fn.port;
  room : SameRoom (λ p n. g.P.Port.has_room p n) l.fn.port l.port;
  places : All (λ place. place < word_depth (g.P.Port.sizes l.fn.port) l.word) (places_of l.left);
  begun : AddsSteps (λ p steps q. g.P.Port.adds p steps q) l.fn.port l.port
      (Begins (IsTries l.word (places_of l.left) l.found)
      (IsTries l.word (numbers l.fn.from l.fn.limit ++ numbers 0 l.fn.then) l.fn.lost));
}

abbrev pub decreases-loop-place : goal.decreases-loop-place
decreases-loop-place g l = length (places_of l.left)
