-- So many tags are posted among those that were looked at.
use Rattle.std.specs.Prelude.{◌≡◌, ◌≤◌}
use Rattle.tag_model.proofs.Uses.{count_below, Free, get_or, is_posted}
use Rattle.tag_model.proofs.entries.Entries.posted.Given as goal

abbrev pub invariant-loop-tag : goal.invariant-loop-tag
invariant-loop-tag l = (l.posted ≡ count_below (λ tag. is_posted (get_or l.self.places tag Free)) l.tag)
    × (l.posted ≤ l.tag)
