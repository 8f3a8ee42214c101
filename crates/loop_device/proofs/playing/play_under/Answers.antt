-- What the judgement says is what the play saw, and the lines that it names are those of the log.
use Rattle.std.proofs.Common.{◌≡◌}
use Rattle.loop_device.proofs.Blaming.{has_run, names_lines, no_setup, runs, says_seen}
use Rattle.loop_device.proofs.playing.play_under.Goals as goal

pub returns-clause-ran : goal.returns-clause-ran
returns-clause-ran g c =
    let setup = c.args.setup in let ios = c.args.log.now.ios.items in let faults = c.in-Ok-carried.faults in
    let totals = c.in-Ok-gather.totals in let hands = c.in-Ok-carried.hands.items in
    has_run setup ios c.into_history-done.result.items totals.tags faults
    (runs c.args.tags setup ios hands faults totals c.requires.tags c.in-Ok-carried.ensures.run
    c.in-Ok-gather.ensures.ok)
    (λ report. report.done ≡ c.into_history-done.result) c.judge.result c.judge.ensures.clean c.judge.ensures.report

pub returns-clause-saw : goal.returns-clause-saw
returns-clause-saw g c =
    let setup = c.args.setup in let ios = c.args.log.now.ios.items in let faults = c.in-Ok-carried.faults in
    let totals = c.in-Ok-gather.totals in let hands = c.in-Ok-carried.hands.items in
    says_seen setup ios c.into_history-done.result.items totals.tags faults
    (runs c.args.tags setup ios hands faults totals c.requires.tags c.in-Ok-carried.ensures.run
    c.in-Ok-gather.ensures.ok)
    c.into_history-done.ensures.lawful c.judge.result c.judge.ensures.fault

pub returns-clause-fault : goal.returns-clause-fault
returns-clause-fault g c = no_setup c.args.log.now.ios.items c.into_history-done.result.items
    c.in-Ok-gather.totals.tags c.in-Ok-carried.faults c.judge.result c.judge.ensures.fault

pub returns-clause-line : goal.returns-clause-line
returns-clause-line g c = names_lines c.args.log.now.ios.items c.into_history-done.result.items
    c.in-Ok-gather.totals.tags c.in-Ok-carried.faults c.judge.result c.judge.ensures.fault
