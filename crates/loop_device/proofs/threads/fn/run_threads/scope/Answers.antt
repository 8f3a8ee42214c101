-- All threads are joined, first the submitters and then the completers.
use Rattle.std.proofs.Common.{◌≡◌, ◌≤◌, false, not, length, vec_len, arith, rules}
use Rattle.loop_device.specs.declared.workers.Faults.{Faults}
use Rattle.loop_device.proofs.Joining.{all_joined, is_set}
use Rattle.loop_device.proofs.threads.fn.run_threads.scope.Goals as goal

pub returns : goal.returns
returns g c =
    let tags = c.captures.device.now.tags in let setup = c.captures.setup in let ios = c.captures.log.now.ios.items in
    let started = c.start_all-started in let one = c.join_down_to in let other = c.join_down_to-2 in
    let handles = started.new.handles.items in
    let long : vec_len started.new.handles ≡ length handles =
    first_of (omega arith, search rules, omega (arith, started.new.handles.ok.0)) in
    let none_left : length other.new.handles.items ≤ 0 =
    first_of (omega arith, omega (arith, other.ensures.left, other.new.handles.ok.0)) in
    let first : Faults = record { memory = not started.result; spurious = false } in
    all_joined tags setup ios handles one.new.handles.items other.new.handles.items c.in_ok-back.back.items
    one.new.back.items other.new.back.items first one.new.faults other.new.faults started.ensures.handles
    c.in_ok-back.ensures.items none_left one.ensures.joined other.ensures.joined
    (λ (none : not started.result ≡ false).
    let all = started.ensures.all (is_set started.result none) in let count = c.requires.1 in
    ((λ i. record { memory = none i; spurious = false }), omega arith))
