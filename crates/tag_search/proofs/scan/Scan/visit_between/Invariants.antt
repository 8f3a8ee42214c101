-- So far every visit won nothing, and a search of the words left completes the search.
use Rattle.std.specs.Prelude.{◌≡◌}
use Rattle.tag_search.proofs.Uses.{AddsSteps, IsSearch, map, numbers, reach_of, SameRoom, visit_of}
use Rattle.tag_search.proofs.Joined.{Begins}
use Rattle.tag_search.proofs.scan.Scan.visit_between.Given as goal

abbrev pub invariant-loop-word : goal.invariant-loop-word
invariant-loop-word g l = record {
  port : g.P.Port.ready l.port;
  sizes : g.P.Port.sizes l.port ≡ g.P.Port.sizes l.fn.port;
  room : SameRoom (λ p n. g.P.Port.has_room p n) l.fn.port l.port;
  begun : let visit = visit_of l.self.first (reach_of l.self) in
      AddsSteps (λ p steps q. g.P.Port.adds p steps q) l.fn.port l.port
      (Begins (IsSearch l.self.layout (map visit (numbers l.word l.end)))
      (IsSearch l.self.layout (map visit (numbers l.fn.from l.end))));
}
