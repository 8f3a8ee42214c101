-- The number of the finished get is handed on.
use Rattle.tag_c.proofs.Begun.{called}
use Rattle.tag_c.proofs.member.Member.get_past_full.Goals as goal

pub returns : goal.returns
returns c = λ before tried. let get = c.finish_get in
    called c.args.told.now get.new.told get.result before get.new.self get.type_inv (get.ensures before tried)
