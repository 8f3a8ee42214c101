-- The counts say how often each line was carried out.
use Rattle.std.proofs.Common.{◌≡◌, ◌<◌, ◌≤◌, length, get_or, rules, arith}
use Rattle.std.specs.List.{All}
use Rattle.loop_device.specs.Lines.{LinesAscend}
use Rattle.loop_device.proofs.Counting.{count_at, is_twice, is_lost, is_once}
use Rattle.loop_device.proofs.judging.verdict.Goals as goal

pub returns-in-Some-clause-fault : goal.returns-in-Some-clause-fault
returns-in-Some-clause-fault c =
    let ios = c.deref.result.now in let done = c.args.done.now in let tally = c.in_ok-counts in
    let counts = tally.counts.items in let index = c.in-Some.index in let io = c.index.result.now in
    let within : index < length counts = search rules in
    let ascend : LinesAscend ios = rw c.deref.ensures.value (search rules) in
    let is : io ≡ get_or ios index io = rw c.deref.ensures.value (search rules) in
    rw (← c.deref.ensures.value) (is_twice ios ascend done counts tally.ensures.counts tally.ensures.known index io
    (omega (arith, within, count_at ios done counts tally.ensures.counts)) is (search rules) (search rules))

pub returns-in-Some-first_zero-clause-fault : goal.returns-in-Some-first_zero-clause-fault
returns-in-Some-first_zero-clause-fault c =
    let ios = c.deref.result.now in let done = c.args.done.now in let tally = c.in_ok-counts in
    let counts = tally.counts.items in let index = c.in-Some-first_zero.index in
    let io = c.index-in-Some-first_zero.result.now in
    let few : All (λ n. n ≤ 1) counts = search rules in
    let within : index < length counts = search rules in
    let ascend : LinesAscend ios = rw c.deref.ensures.value (search rules) in
    let is : io ≡ get_or ios index io = rw c.deref.ensures.value (search rules) in
    rw (← c.deref.ensures.value) (is_lost ios ascend done counts tally.ensures.counts tally.ensures.known few index io
    (omega (arith, within, count_at ios done counts tally.ensures.counts)) is (search rules) (search rules))

pub returns-clause-ok : goal.returns-clause-ok
returns-clause-ok c =
    let ios = c.deref.result.now in let done = c.args.done.now in let tally = c.in_ok-counts in
    let counts = tally.counts.items in
    let few : All (λ n. n ≤ 1) counts = search rules in
    let some : All (λ n. 0 < n) counts = search rules in
    let ascend : LinesAscend ios = rw c.deref.ensures.value (search rules) in
    rw (← c.deref.ensures.value) (is_once ios ascend done counts tally.ensures.counts tally.ensures.known few some)
