-- The caller's record leaves its seat by a split, and the seat keeps its number and slots.
use Rattle.tag_core.proofs.Uses.{[], record_of}
use Rattle.tag_core.proofs.SeatMoves.{some_words, splits_off}
use Rattle.tag_core.proofs.map.Map.start_lending.Goals as goal

pub split_seat-note-requires : goal.split_seat-note-requires
split_seat-note-requires g c = let m = c.args.self.now in let w = c.args.caller in
    (c.requires.0, some_words m, splits_off m w.seat.id w.seat.me.0 (record_of w) [] w.knows)
