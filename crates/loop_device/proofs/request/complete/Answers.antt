-- The tag was taken and then read and cleared, or was not taken.
use Rattle.loop_device.proofs.Completing.{held, completed, told, held_back, told_back}
use Rattle.loop_device.proofs.request.complete.Goals as goal

pub returns-clause-held : goal.returns-clause-held
returns-clause-held g c = held c.args.tags.now c.args.tag c.args.hand.now c.take.new.hand c.finish.new.hand
    c.in-Ok.ensures.does.takes c.args.log.now.ios.items c.finish.result c.finish.ensures.ok c.finish.ensures.fault

pub returns-clause-ok : goal.returns-clause-ok
returns-clause-ok g c = completed c.args.tags.now c.args.tag c.args.hand.now c.take.new.hand c.finish.new.hand
    c.in-Ok.ensures.does.takes c.take.ensures.counts c.finish.result c.finish.ensures.ok

pub returns-clause-fault : goal.returns-clause-fault
returns-clause-fault g c = told c.args.tags.now c.args.tag c.args.hand.now c.take.new.hand c.finish.new.hand
    c.in-Ok.ensures.does.takes c.take.ensures.counts c.args.log.now.ios.items c.finish.result c.finish.ensures.fault

pub returns-in_default-clause-held : goal.returns-in_default-clause-held
returns-in_default-clause-held g c = held_back c.args.tags.now c.args.tag c.args.hand.now c.take.new.hand
    c.in_default.field-0 c.in_default.ensures.does.refuses

pub returns-in_default-clause-fault : goal.returns-in_default-clause-fault
returns-in_default-clause-fault g c = told_back c.args.tags.now c.args.tag c.args.hand.now c.take.new.hand
    c.args.log.now.ios.items c.take.result c.in_default.field-0 c.in_default.is c.take.ensures.does.no_such_tag
    c.in_default.ensures.does.refuses c.in_default.ensures.unchanged c.take.ensures.counts
