-- Each is told in its turn, and one that was told ends all that the caller has to see to.
use Rattle.std.specs.Prelude.{◌+◌, ◌≡◌, ◌≢◌, count_ones, slice_index}
use Rattle.std.proofs.lemmas.Nat.{one_shl}
use Rattle.tag_bell.proofs.Uses.{ap, arith, bit_at, bit_at-zero, bit_or, List, newly_told, refl, subst, sym, without, ℕ, ◌∙◌}
use Rattle.tag_bell.proofs.Goes.{done_all, same_held}
use Rattle.tag_bell.proofs.OneTell.{tells_more, tells_none, TellsOn}
use Rattle.tag_bell.proofs.Ones.{ones_less}
use Rattle.tag_bell.proofs.telling.tell_in_turn.Goals.{then-callers-ne0, else-callers-ne0}
use Rattle.tag_bell.proofs.telling.tell_in_turn.Goals as goal

pub loop-left-init : goal.loop-left-init
loop-left-init g c = let start = tells_none c.args.waiter c.args.listed c.args.turns.now c.args.most
    c.args.caller.now c.none-told.result c.none-told.ensures c.requires.round c.requires.line in
    record {
      own = c.requires.caller;
      round = start.round;
      line = start.line;
      part = start.part;
      goes = start.goes;
      apart = start.apart;
      most = start.count;
      coming = start.coming;
      met = start.met;
      kept = record { kept = λ tag has. (has, refl); none_else = λ tag has. has };
    }

pub loop-left-preserved : goal.loop-left-preserved
loop-left-preserved g c =
    let before = c.loop-left.invariant in let pick = c.earliest-whom.ensures in let whom : ℕ = c.earliest-whom.result in
    let turns : List ℕ = c.args.turns.now in let first = c.args.caller.now in let old = c.loop-left.caller in
    let step = c.tell-one.ensures.step in let new = c.tell-one.new.caller in let most : ℕ = c.args.most in
    let left : ℕ = c.loop-left.left in let told : ℕ = c.loop-left.told in let room : ℕ = c.loop-left.room in
    let so_far : TellsOn c.args.waiter c.args.listed turns most left told room first old = record {
      round = before.round;
      line = before.line;
      part = before.part;
      goes = before.goes;
      apart = before.apart;
      count = before.most;
      coming = before.coming;
      met = before.met;
    } in
    let hit : ℕ = newly_told whom c.args.waiter (slice_index turns whom) step.0 in
    let result : c.callers.result ≡ hit = c.callers.ensures ∙ step.2 in
    let less : hit ≢ 0 → c.if-callers-ne0.room + 1 ≡ room = elim c.if-callers-ne0.branch [
      | then-callers-ne0 w ↦ let is = w.room-is in let some = c.if-room-ne0.true in λ ne. omega arith
      | else-callers-ne0 w ↦ λ ne. absurd (ne (sym result ∙ w.if-callers-ne0.false))
    ] in
    let same : hit ≡ 0 → c.if-callers-ne0.room ≡ room = elim c.if-callers-ne0.branch [
      | then-callers-ne0 w ↦ λ none. absurd (w.if-callers-ne0.true (result ∙ none))
      | else-callers-ne0 w ↦ λ none. w.room-is
    ] in
    let next = subst (λ (x : ℕ × ℕ). TellsOn c.args.waiter c.args.listed turns most (without left x.0) x.1
    c.if-callers-ne0.room first new)
    (λ j. (sym (one_shl whom 64 pick.within) j, sym (c.join.ensures ∙ ap (bit_or told) step.2) j))
    (tells_more c.args.waiter c.args.listed turns most first left told room old so_far new whom step.0 pick.among
    pick.within c.loop-left.auto.left-fits.fits pick.first step.1 c.if-callers-ne0.room less same) in record {
      own = c.tell-one.ensures.caller;
      round = next.round;
      line = next.line;
      part = next.part;
      goes = next.goes;
      apart = next.apart;
      most = next.count;
      coming = next.coming;
      met = next.met;
      kept = same_held first old new before.kept c.tell-one.ensures.kept;
    }

pub loop-left-smaller : goal.loop-left-smaller
loop-left-smaller g c = let whom : ℕ = c.earliest-whom.result in let pick = c.earliest-whom.ensures in
    let fewer = ones_less c.loop-left.left whom c.loop-left.auto.left-fits.fits pick.within pick.among in
    let same = ap (λ (m : ℕ). count_ones (without c.loop-left.left m)) (one_shl whom 64 pick.within) in omega arith

pub returns-after-loop-left-clause-done : goal.returns-after-loop-left-clause-done
returns-after-loop-left-clause-done g c = let inv = c.loop-left.invariant in let now = c.loop-left.caller in
    let off = λ (e : ℕ). ap (λ (n : ℕ). bit_at n e) c.loop-left-test.false ∙ bit_at-zero e in
    done_all c.args.waiter now inv.round
    (λ e. inv.line.others e (λ on. let none : bit_at c.loop-left.left e ≡ 0 = off e in absurd (omega arith)) tt)
