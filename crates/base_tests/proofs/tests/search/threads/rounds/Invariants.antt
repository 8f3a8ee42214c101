-- Each round keeps the caller with its map.
use Rattle.tag_core.specs.Callers.{IsCallerOf}
use Rattle.base_tests.proofs.tests.search.threads.rounds.Given as goal

abbrev pub invariant-loop : goal.invariant-loop
invariant-loop l = IsCallerOf l.map l.caller
