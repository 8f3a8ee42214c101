-- There are as many masks as rounds so far, and each is empty.
use Rattle.std.proofs.Common.{◌≡◌, length, replicate, All}
use Rattle.tag_core.proofs.reopens.spare_masks.Given as goal

abbrev pub invariant-loop : goal.invariant-loop
invariant-loop l = record {
  long : length l.masks.items ≡ l.counter;
  blank : All (λ m. m.items ≡ replicate l.words 0) l.masks.items;
}
