-- Each text is the line of the log's first fault, the report of its play, or the line of its play's fault.
use Rattle.std.proofs.Common.{◌≡◌, ◌≢◌, ◌++◌, rules}
use Rattle.std.proofs.lemmas.Bool.{false≢true}
use Rattle.loop_device.specs.declared.fault.LogCause.TheVariants as causes
use Rattle.tag_runs.specs.Reports.{log_fault_text, play_fault_text, report_text}
use Rattle.tag_runs.proofs.ReportFacts.{owes_line, owes_report, owes_fault}
use Rattle.tag_runs.proofs.log_answer.answer_log.Goals as goal

pub returns-in-Err : goal.returns-in-Err
returns-in-Err g c =
    let fault = c.in-Err.fault in let before = c.new-text.result.items in
    let other : fault.cause ≢ causes.Memory =
    λ same. false≢true (rw same at c.if-eq.ensures) in
    let text_is : c.push_log_fault.new.text.items ≡ before ++ log_fault_text fault = search rules in
    owes_line c.args.options.now c.args.input.now before c.push_log_fault.new.text.items fault
    c.refusal.result c.in-Err.ensures.fault other c.refusal.ensures c.new-text.ensures.items text_is

pub returns-in-Ok-play : goal.returns-in-Ok-play
returns-in-Ok-play g c =
    let log = c.in-Ok.log in let report = c.in-Ok-play.report in let before = c.new-text.result.items in
    let text_is : c.push_report.new.text.items ≡ before ++ report_text log report = search rules in
    owes_report c.args.options.now c.args.input.now before c.push_report.new.text.items log report
    c.play.result c.in-Ok.ensures.log c.in-Ok-play.is c.in-Ok-play.ensures.ok c.play.ensures.setup c.new-text.ensures.items
    text_is

pub returns : goal.returns
returns g c =
    let log = c.in-Ok.log in let fault = c.in-Err-play.fault in let before = c.new-text.result.items in
    let text_is : c.push_play_fault.new.text.items ≡ before ++ play_fault_text fault = search rules in
    owes_fault c.args.options.now c.args.input.now before c.push_play_fault.new.text.items log fault
    c.play_refusal.result c.play.result c.in-Ok.ensures.log c.in-Err-play.is (search rules) c.play.ensures.setup
    c.in-Err-play.ensures.line c.play_refusal.ensures c.new-text.ensures.items text_is
