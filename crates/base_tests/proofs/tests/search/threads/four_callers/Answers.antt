-- The callers that the threads hand back are those of the map, so they can be gathered.
use Rattle.base_tests.proofs.Uses.{All-append, All-drop, All-take, drop, IsCallerOf, length}
use Rattle.std.proofs.Common.{◌++◌}
use Rattle.base_tests.proofs.tests.search.threads.four_callers.Goals as goal

pub gather-requires : goal.gather-requires
gather-requires g c =
    let map = c.in_ok-map.map in let callers = c.in_ok-map.callers in let ran = c.run_all.new.callers in
    All-take (IsCallerOf map) callers.len (ran ++ drop (length ran) callers.items)
    (All-append (IsCallerOf map) ran (drop (length ran) callers.items) c.run_all.ensures
    (All-drop (IsCallerOf map) (length ran) callers.items c.in_ok-map.ensures))
