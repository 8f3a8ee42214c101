-- The texts of the bytes so far are written.
use Rattle.std.specs.Io.KnownBytes.{Appends}
use Rattle.tag_pool.proofs.Dumped.{texts_below}
use Rattle.tag_pool.proofs.looks.texts.write_dump.Given as goal

abbrev pub invariant-loop-offset : goal.invariant-loop-offset
invariant-loop-offset g l = Appends (g.W.Write.contents l.fn.writer) (g.W.Write.contents l.writer)
    (texts_below l.bytes l.offset)
