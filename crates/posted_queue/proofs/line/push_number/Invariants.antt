-- An attempt that fails changes nothing.
use Rattle.std.specs.Prelude.{◌≡◌}
use Rattle.crossbeam_queue.specs.Passes.{IsPassOf, IsSamePass, view}
use Rattle.posted_queue.proofs.line.push_number.Given as goal

abbrev pub invariant-loop : goal.invariant-loop
invariant-loop g l = record {
  turns : (goal.iterator-loop g).can_next l.iterator' × (goal.iterator-loop g).is_finite l.iterator';
  pass : IsPassOf l.line l.pass × IsSamePass l.initial.pass l.pass;
  same : view l.pass ≡ view l.initial.pass;
}
