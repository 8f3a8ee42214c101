-- Each call keeps the caller with its map.
use Rattle.tag_core.specs.Callers.{IsCallerOf}
use Rattle.base_tests.proofs.tests.search.shared.a_spent_caller_leaves_its_hint.Given as goal

abbrev pub invariant-loop-call : goal.invariant-loop-call
invariant-loop-call g l = IsCallerOf l.map l.caller
