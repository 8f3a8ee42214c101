-- The answer of each command of a script over shared tags, and the state after it. With one caller the answers are
-- those over plain words.
use Rattle.tag_script.specs.Uses.{Bool, Command, Err, filter, length, List, nat_eq, Ok, Order, ResizeCause, Result, Shown, State, Totals, WaitFault, Wakes, ℕ}
use Rattle.std.specs.Prelude.{◌≡◌, ◌≢◌, ◌+◌, ◌*◌}
use Rattle.tag_board.specs.Closing.{totals_in}
use Rattle.tag_board.specs.Looks.{ListsBusy, Shows, Dumps}
use Rattle.tag_board.specs.Replays.{Gets, GetsShallow, GetsBatch, Clears, ClearsList, Posts, Takes, Waits, Leaves, FindsWakes}
use Rattle.tag_board.specs.Resizes.{Resizes}
use Rattle.tag_lines.specs.declared.order.Command.TheVariants as commands
use Rattle.tag_script.specs.declared.answer.Answer.{Answer}
use Rattle.tag_script.specs.declared.answer.Answer.TheVariants as answers
use Rattle.tag_script.specs.Commands.{TellsOutcome}
use Rattle.tag_script.specs.Dump.{range}
use Rattle.tag_pool.specs.declared.kind.Kind.{Kind}
use Rattle.tag_pool.specs.declared.kind.Kind.TheVariants.{Ordinary, Reserved}
use Rattle.tag_pool.specs.Bits.{bit_in}

-- the answer for the result of a wait, or of its end: that of its value, or a refusal
abbrev pub waited : {A : Type 0} → (A → Answer) → Result A WaitFault → Answer
waited tell (Ok outcome) = tell outcome
waited tell (Err fault) = answers.NotWaited fault

-- the answer is that of a result which the wait or its end may have
abbrev pub TellsWait : {A : Type 0} → (A → Answer) → (Result A WaitFault → Type 0) → Answer → Type 0
TellsWait {A} tell may answer = (outcome : Result A WaitFault) × may outcome × (answer ≡ waited tell outcome)

-- the answer for the result of a resize
abbrev pub resize_answer : Result (Unit {0}) ResizeCause → Answer
resize_answer (Ok done) = answers.Done 0
resize_answer (Err cause) = answers.NotResized cause

-- the answer is that of a result which the resize may have
abbrev pub TellsResize : ℕ → State → Answer → State → Type 0
TellsResize total old answer new = (outcome : Result (Unit {0}) ResizeCause) × Resizes total old outcome new
    × (answer ≡ resize_answer outcome)

-- the tag's bit is 1
abbrev pub is_marked : List ℕ → ℕ → Bool
is_marked bits tag = nat_eq (bit_in 64 bits tag) 1

-- the tags whose bits are 1, ascending
abbrev pub tags_in : List ℕ → List ℕ
tags_in bits = filter (is_marked bits) (range (64 * length bits))

-- the tags listed are those of some bits that `busy` may return
abbrev pub ListsTags : ℕ → State → List ℕ → State → Type 0
ListsTags caller old tags new = (bits : List ℕ) × ListsBusy caller old bits new × (tags ≡ tags_in bits)

-- the answer has the sizes and counts of a set
abbrev pub TellsShown : Kind → ℕ → State → Answer → State → Type 0
TellsShown kind caller old answer new = (shown : Shown) × Shows kind caller old shown new × (answer ≡ answers.Shown shown)

-- the answer has the bytes of a dump of a set
abbrev pub TellsDump : Kind → ℕ → State → Answer → State → Type 0
TellsDump kind caller old answer new = (bytes : List ℕ) × Dumps kind caller old bytes new × (answer ≡ answers.Dump bytes)

-- the answer of a caller's command, and the state after it
abbrev pub ObeysBy : ℕ → Command → State → Answer → State → Type 0
ObeysBy caller commands.Get old answer new =
    TellsOutcome answers.Tag (λ outcome. Gets Ordinary caller old outcome new) answer
ObeysBy caller commands.GetReserved old answer new =
    TellsOutcome answers.Tag (λ outcome. Gets Reserved caller old outcome new) answer
ObeysBy caller (commands.Shallow depth) old answer new =
    TellsOutcome answers.Tag (λ outcome. GetsShallow depth caller old outcome new) answer
ObeysBy caller (commands.Batch n) old answer new =
    TellsOutcome answers.Batch (λ outcome. GetsBatch n caller old outcome new) answer
ObeysBy caller (commands.Clear tag) old answer new =
    TellsOutcome answers.Done (λ outcome. Clears tag caller old outcome new) answer
ObeysBy caller (commands.ClearBatch tags) old answer new =
    TellsOutcome answers.Done (λ outcome. ClearsList tags caller old outcome new) answer
ObeysBy caller (commands.Post tag) old answer new =
    TellsOutcome (λ done. answers.Done 0) (λ outcome. Posts tag caller old outcome new) answer
ObeysBy caller (commands.Take tag) old answer new =
    TellsOutcome (λ done. answers.Done 0) (λ outcome. Takes tag caller old outcome new) answer
ObeysBy caller commands.Wait old answer new =
    TellsWait answers.Group (λ outcome. Waits caller old outcome new) answer
ObeysBy caller commands.Leave old answer new =
    TellsWait answers.Left (λ outcome. Leaves caller old outcome new) answer
ObeysBy caller commands.Wakes old answer new =
    (wakes : Wakes) × FindsWakes caller old wakes new × (answer ≡ answers.Wakes wakes)
ObeysBy caller commands.Show old answer new = TellsShown Ordinary caller old answer new
ObeysBy caller commands.ShowReserved old answer new = TellsShown Reserved caller old answer new
ObeysBy caller commands.Busy old answer new =
    (tags : List ℕ) × ListsTags caller old tags new × (answer ≡ answers.Busy tags)
ObeysBy caller commands.Dump old answer new = TellsDump Ordinary caller old answer new
ObeysBy caller commands.DumpReserved old answer new = TellsDump Reserved caller old answer new
ObeysBy caller (commands.Resize total) old answer new = TellsResize total old answer new

-- the command is not a resize
abbrev pub IsNoResize : Command → Type 0
IsNoResize command = (total : ℕ) → command ≢ commands.Resize total

-- the answer of an order, and the state after it
abbrev pub ObeysShared : State → Order → Answer → State → Type 0
ObeysShared old order answer new = ObeysBy order.caller order.command old answer new

-- the totals: the sums over all callers and both sets, which balance
abbrev pub AreSharedTotals : State → Totals → Type 0
AreSharedTotals s totals = (totals ≡ totals_in s) × (totals.got ≡ totals.back + totals.held + totals.posted)
