-- Each call keeps the caller with its map.
use Rattle.tag_core.specs.Callers.{IsCallerOf}
use Rattle.base_tests.proofs.tests.search.shared.agree.Given as goal

abbrev pub invariant-loop : goal.invariant-loop
invariant-loop l = IsCallerOf l.map l.caller
