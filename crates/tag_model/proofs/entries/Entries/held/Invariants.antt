-- So many tags are held among those that were looked at.
use Rattle.std.specs.Prelude.{◌≡◌, ◌≤◌}
use Rattle.tag_model.proofs.Uses.{count_below, Free, get_or, is_held}
use Rattle.tag_model.proofs.entries.Entries.held.Given as goal

abbrev pub invariant-loop-tag : goal.invariant-loop-tag
invariant-loop-tag l = (l.held ≡ count_below (λ tag. is_held (get_or l.self.places tag Free)) l.tag) × (l.held ≤ l.tag)
