-- A seat has a slot for each tag that its caller holds.
use Rattle.std.specs.Prelude.{◌<◌, ◌≡◌}
use Rattle.tag_core.proofs.Uses.{arith, Caller, Holds, length, length-replicate, List, map, none, replicate, slot_of, some, tag_bit, tags_from, value_of, ℕ}
use mathlib.Core.Option as maybe
use Rattle.tag_core.proofs.Acts.{moves}

-- each tag that is carried has a value
pub valued : {S : Type 0} (f : ℕ → ℕ) (n : ℕ) (cs : List (ℕ × S)) → map (λ x. x.0) cs ≡ tags_from f 0 n → (u : ℕ)
    → u < n
    → f u ≡ 1 → (v : S) × (value_of cs u ≡ some v)
valued {S} f n cs tags u l has =
    let homes : List (maybe.Option S) = replicate n none in let long : length homes ≡ n = length-replicate n none in
    let k = moves S f f n homes cs (omega arith) tags (λ t low no is. absurd (no is)) in let w = k.kept u l has has in
    (w.0, w.1)

-- each tag that a caller holds has one
pub slot_held : {R : Type 0} (w : Caller R) (u : ℕ) → Holds w u → (v : R) × (slot_of w u ≡ some v)
slot_held w u has =
    valued (tag_bit w.shape.value.layout w.held.items) w.shape.value.layout.depth w.seat.me.1 w.carries u has.0 has.1
