-- The answer of each command of a plain script, and the world after it.
use Rattle.tag_script.specs.Uses.{Command, Err, filter, List, map, Ok, Option, Order, plain_visits, reduced, Result, Shown, TagFault, Totals, Visit, word_bits, words, ℕ}
use Rattle.std.specs.Prelude.{◌≡◌}
use Rattle.tag_lines.specs.declared.order.Command.TheVariants as commands
use Rattle.tag_script.specs.declared.answer.Answer.{Answer}
use Rattle.tag_script.specs.declared.answer.Answer.TheVariants as answers
use Rattle.tag_script.specs.Dump.{range, is_held_tag, held_byte, byte_count}
use Rattle.tag_script.specs.PlainWorld.{PlainWorld, Gets, GetsShallow, Batches, Clears, ClearsBatch, held_in, aside_in}

-- the answer for the result of a call: that of its value, or a refusal
abbrev pub told : {A : Type 0} → (A → Answer) → Result A TagFault → Answer
told tell (Ok outcome) = tell outcome
told tell (Err fault) = answers.Refused fault

-- the answer is that of a result which the call may have
abbrev pub TellsOutcome : {A : Type 0} → (A → Answer) → (Result A TagFault → Type 0) → Answer → Type 0
TellsOutcome {A} tell may answer = (outcome : Result A TagFault) × may outcome × (answer ≡ told tell outcome)

-- the sizes and counts that a show reports
abbrev pub shown_of : PlainWorld → Shown
shown_of w = record {
  depth = w.layout.depth;
  busy = held_in w;
  cleared = aside_in w;
  bits_per_word = word_bits w.layout;
  map_nr = words w.layout;
}

-- the tags that the caller holds, ascending
abbrev pub busy_tags : PlainWorld → List ℕ
busy_tags w = filter (is_held_tag w) (range w.layout.depth)

-- the same, as bytes
abbrev pub dump_bytes : PlainWorld → List ℕ
dump_bytes w = map (held_byte w) (range (byte_count w))

-- the visits of a get from the caller's hint
abbrev pub get_visits : PlainWorld → List Visit
get_visits w = plain_visits w.layout w.hint.round_robin (reduced w.layout.depth w.hint.at)

-- the answer of a command in a world, and the world after it; a plain script has no other commands
abbrev pub Obeys : Command → PlainWorld → Answer → PlainWorld → Type 0
Obeys commands.Get old answer new = (tag : Option ℕ) × Gets (get_visits old) old tag new × (answer ≡ answers.Tag tag)
Obeys (commands.Shallow depth) old answer new =
    TellsOutcome answers.Tag (λ outcome. GetsShallow depth old outcome new) answer
Obeys (commands.Batch n) old answer new = TellsOutcome answers.Batch (λ outcome. Batches n old outcome new) answer
Obeys (commands.Clear tag) old answer new =
    TellsOutcome (λ done. answers.Done 0) (λ outcome. Clears tag old outcome new) answer
Obeys (commands.ClearBatch tags) old answer new =
    TellsOutcome (λ done. answers.Done 0) (λ outcome. ClearsBatch tags old outcome new) answer
Obeys commands.Show old answer new = (new ≡ old) × (answer ≡ answers.Shown (shown_of old))
Obeys commands.Busy old answer new = (new ≡ old) × (answer ≡ answers.Busy (busy_tags old))
Obeys commands.Dump old answer new = (new ≡ old) × (answer ≡ answers.Dump (dump_bytes old))
Obeys commands.GetReserved old answer new = ⊥
Obeys (commands.Post tag) old answer new = ⊥
Obeys (commands.Take tag) old answer new = ⊥
Obeys commands.Wait old answer new = ⊥
Obeys commands.Leave old answer new = ⊥
Obeys commands.Wakes old answer new = ⊥
Obeys commands.ShowReserved old answer new = ⊥
Obeys commands.DumpReserved old answer new = ⊥
Obeys (commands.Resize total) old answer new = ⊥

-- the answer of an order, and the world after it
abbrev pub ObeysOrder : PlainWorld → Order → Answer → PlainWorld → Type 0
ObeysOrder old order answer new = Obeys order.command old answer new

-- the totals: tags won, given back and held; none is ever posted
abbrev pub AreTotals : PlainWorld → Totals → Type 0
AreTotals w totals = totals ≡ record { got = w.won; back = w.back; held = held_in w; posted = 0 }
