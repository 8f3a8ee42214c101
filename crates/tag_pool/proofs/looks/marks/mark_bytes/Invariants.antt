-- The bits of the places so far are marked, and no other bit has changed.
use Rattle.std.specs.Prelude.{◌≡◌}
use Rattle.std.specs.Int.{bit_at}
use Rattle.std.proofs.Common.{length, nat_eq}
use Rattle.tag_pool.specs.Bits.{Marks}
use Rattle.tag_pool.proofs.looks.marks.mark_bytes.Given as goal

abbrev pub invariant-loop-place : goal.invariant-loop-place
invariant-loop-place l = record {
  room : length l.into ≡ length l.fn.into;
  marks : Marks 8 l.first l.place (λ k. nat_eq (bit_at l.mask k) 1) l.fn.into l.into;
}
