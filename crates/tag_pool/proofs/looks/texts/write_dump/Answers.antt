-- Each turn appends the text of one byte to those of the bytes before it, and all of them together are the lines.
use Rattle.std.specs.Prelude.{if◌then◌else◌, ◌%◌, ◌++◌, ◌+◌, ◌==◌, ◌≡◌}
use Rattle.std.proofs.Common.{List, [], arith, length, slice_index, subst, suc, sym, ℕ}
use Rattle.std.specs.Io.KnownBytes.{Appends}
use Rattle.tag_pool.specs.Texts.{byte_text, hex_digits}
use Rattle.std.specs.Prelude.{codes}
use Rattle.tag_pool.proofs.Dumped.{head, end, texts_below, texts_below-all}
use Rattle.tag_pool.proofs.Writings.{appends_none, appends_then}
use Rattle.tag_pool.proofs.looks.texts.write_dump.Goals as goal

pub loop-offset-init : goal.loop-offset-init
loop-offset-init g c = appends_none (g.W.Write.contents c.args.writer.now)

pub loop-offset-preserved : goal.loop-offset-preserved
loop-offset-preserved g c =
    let bytes = c.args.bytes.now in let k = c.loop-offset.offset in let next : k + 1 ≡ suc k = omega arith in
    let old = g.W.Write.contents c.args.writer.now in let new = g.W.Write.contents c.write_end.new.writer in
    let start = g.W.Write.contents c.loop-offset.writer in let first = g.W.Write.contents c.write_head.new.writer in
    let gap : List ℕ = if k % 2 == 0 then codes " " else [] in
    let hex = subst (λ (x : ℕ). Appends (g.W.Write.contents c.write_gap.new.writer)
    (g.W.Write.contents c.write_hex.new.writer) (hex_digits 2 x))
    c.from.ensures c.in_ok-write_hex.ensures in
    let byte = appends_then first (g.W.Write.contents c.write_gap.new.writer)
    (g.W.Write.contents c.write_hex.new.writer) gap (hex_digits 2 (slice_index bytes k)) c.in_ok-write_gap.ensures hex in
    let line = appends_then start first (g.W.Write.contents c.write_hex.new.writer) (head k) (byte_text bytes k)
    c.in_ok-write_head.ensures byte in
    let here = appends_then start (g.W.Write.contents c.write_hex.new.writer) new (head k ++ byte_text bytes k)
    (end (length bytes) k) line c.in_ok-write_end.ensures in
    subst (λ (n : ℕ). Appends old new (texts_below bytes n)) (sym next)
    (appends_then old start new (texts_below bytes k) (head k ++ byte_text bytes k ++ end (length bytes) k)
    c.loop-offset.invariant here)

pub returns : goal.returns
returns g c =
    let bytes = c.args.bytes.now in let stop = c.loop-offset-test.false in
    let all : c.loop-offset.offset ≡ length bytes = omega arith in
    let old = g.W.Write.contents c.args.writer.now in let new = g.W.Write.contents c.loop-offset.writer in
    subst (Appends old new) (texts_below-all bytes)
    (subst (λ (n : ℕ). Appends old new (texts_below bytes n)) all c.loop-offset.invariant)
