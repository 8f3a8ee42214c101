-- A fault of the verdict is passed on.
use Rattle.loop_device.proofs.Uses.{IsPlayFault, rules}
use Rattle.loop_device.proofs.Blaming.{passed_on}
use Rattle.loop_device.proofs.playing.judge.Goals as goal

pub returns-in-Err-clause-fault : goal.returns-in-Err-clause-fault
returns-in-Err-clause-fault c =
    let tells : IsPlayFault c.args.log.now.ios.items c.args.done.items c.in-Err.fault = search rules in
    passed_on c.args.log.now.ios.items c.args.done.items c.args.totals c.args.faults c.in-Err.fault
    (record { memory = search rules; spurious = search rules }) tells
