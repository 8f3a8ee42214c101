-- The digits so far are those of the number without its last digits, which are still to come.
use Rattle.std.specs.Prelude.{◌*◌, ◌-◌, ◌/◌, ◌^◌}
use Rattle.std.specs.Io.KnownBytes.{Appends}
use Rattle.tag_pool.specs.Texts.{hex_digits}
use Rattle.tag_pool.proofs.looks.texts.write_hex.Given as goal

abbrev pub invariant-loop-done : goal.invariant-loop-done
invariant-loop-done g l = Appends (g.W.Write.contents l.fn.writer) (g.W.Write.contents l.writer)
    (hex_digits l.done (l.number / 2 ^ (4 * (l.width - l.done))))
