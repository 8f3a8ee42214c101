-- So far every turn won nothing, and the turns left complete the visit.
use Rattle.std.specs.Prelude.{◌-◌, ◌≡◌}
use Rattle.tag_search.proofs.Uses.{AddsSteps, IsRetry, places_of, SameRoom}
use Rattle.tag_search.proofs.Joined.{Begins}
use Rattle.tag_search.proofs.pass.retry.Given as goal

abbrev pub invariant-loop : goal.invariant-loop
invariant-loop g l = record {
  port : g.P.Port.ready l.port;
  sizes : g.P.Port.sizes l.port ≡ g.P.Port.sizes l.fn.port;
  room : SameRoom (λ p n. g.P.Port.has_room p n) l.fn.port l.port;
  begun : AddsSteps (λ p steps q. g.P.Port.adds p steps q) l.fn.port l.port
      (Begins (IsRetry l.word (places_of l.rank) (l.turns - l.counter)) (IsRetry l.word (places_of l.rank) l.turns));
}
