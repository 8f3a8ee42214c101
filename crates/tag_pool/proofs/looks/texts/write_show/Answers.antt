-- The five fields and the last line feed are written in the order of the text.
use Rattle.std.specs.Prelude.{codes}
use Rattle.tag_pool.specs.Texts.{field}
use Rattle.tag_pool.proofs.Writings.{appends_six}
use Rattle.tag_pool.proofs.looks.texts.write_show.Goals as goal

pub returns : goal.returns
returns g c =
    let s = c.args.shown.now in
    appends_six (g.W.Write.contents c.args.writer.now) (g.W.Write.contents c.write_field.new.writer)
    (g.W.Write.contents c.write_field-2.new.writer)
    (g.W.Write.contents c.write_field-3.new.writer) (g.W.Write.contents c.write_field-4.new.writer)
    (g.W.Write.contents c.write_field-5.new.writer)
    (g.W.Write.contents c.write_all.new.self) (field (codes "depth=") s.depth) (field (codes "\nbusy=") s.busy) (field (codes "\ncleared=") s.cleared)
    (field (codes "\nbits_per_word=") s.bits_per_word) (field (codes "\nmap_nr=") s.map_nr) (codes "\n")
    c.in_ok-write_field.ensures c.in_ok-write_field-2.ensures c.in_ok-write_field-3.ensures
    c.in_ok-write_field-4.ensures c.in_ok-write_field-5.ensures
    c.in_ok-write_all.ensures.bytes
