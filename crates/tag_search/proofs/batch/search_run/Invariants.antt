-- So far every visit won nothing, and a search of the words left completes the search.
use Rattle.std.specs.Prelude.{◌≡◌}
use Rattle.tag_search.proofs.Uses.{AddsSteps, batch_words, IsBatchSearch, left_of_scan, SameRoom, words}
use Rattle.tag_search.proofs.Joined.{Begins}
use Rattle.tag_search.proofs.batch.search_run.Given as goal

abbrev pub invariant-loop-visited : goal.invariant-loop-visited
invariant-loop-visited g l = record {
  port : g.P.Port.ready l.port;
  sizes : g.P.Port.sizes l.port ≡ g.P.Port.sizes l.fn.port;
  room : SameRoom (λ p n. g.P.Port.has_room p n) l.fn.port l.port;
  begun : AddsSteps (λ p steps q. g.P.Port.adds p steps q) l.fn.port l.port
      (Begins (IsBatchSearch l.layout l.n (left_of_scan (words l.layout) l.first l.visited))
      (IsBatchSearch l.layout l.n (batch_words l.layout l.first)));
}
