-- The port of a first try that won nothing keeps its room, which is its caller's.
use Rattle.tag_search.proofs.Uses.{Caller, HasRoom, rules, subst, sym}
use Rattle.tag_search.proofs.on_map.begin.Goals as goal

pub returns-in_err-tag-clause-room : goal.returns-in_err-tag-clause-room
returns-in_err-tag-clause-room g c =
    let a = c.in_err-tag.ensures.begun in let made = c.new.ensures.lent in let kept = a.added.lent in
    let was = subst (λ (x : Caller _). HasRoom x 1) (sym c.new.ensures.caller) c.requires.room in
    let room = (c.in_err-tag.ensures.room 1).0 was in search rules
