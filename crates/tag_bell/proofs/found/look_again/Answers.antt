-- Each look notes one caller more with its turn.
use Rattle.std.specs.Prelude.{◌+◌, ◌≡◌, length}
use Rattle.tag_bell.proofs.Uses.{Caller, HoldsSame, IsCallerOf, MAX_CALLERS, refl, shr_and_one, subst, sym, ℕ, ◌∙◌}
use Rattle.tag_bell.specs.declared.found.Found.{Found}
use Rattle.tag_bell.proofs.Goes.{same_held}
use Rattle.tag_bell.proofs.LookLines.{again_more, again_none, again_past, LooksAgain}
use Rattle.tag_bell.proofs.found.look_again.Goals.{then-listed-number-eq1, else-listed-number-eq1}
use Rattle.tag_bell.proofs.found.look_again.Goals as goal

pub loop-number-init : goal.loop-number-init
loop-number-init g c = record {
  own = c.requires.caller;
  looks = again_none c.args.listed c.args.caller.now c.args.found.now c.requires.none.0 c.requires.none.1
      c.requires.coming c.requires.others;
  room = c.requires.room;
  kept = record { kept = λ tag has. (has, refl); none_else = λ tag has. has };
}

pub loop-number-preserved : goal.loop-number-preserved
loop-number-preserved g c =
    let before = c.loop-number.invariant in let n : ℕ = c.loop-number.number in let listed : ℕ = c.args.listed in
    let first = c.args.caller.now in let old = c.loop-number.caller in let found = c.loop-number.found in
    elim c.if-listed-number-eq1.branch [
      | then-listed-number-eq1 w ↦
          let look = w.look_at-berth in let new = look.new.caller in let note = w.note.ensures in
          subst (λ (x : Found × Caller g.row.R.Denot). record {
            own : IsCallerOf c.args.map.now x.1;
            looks : LooksAgain listed (n + 1) x.0 first x.1;
            room : length x.0.turns ≡ MAX_CALLERS;
            kept : HoldsSame first x.1;
          }) (λ j. (sym w.found-is j, sym w.caller-is j)) (record {
            own = look.ensures.caller;
            looks = again_more listed first n found old before.looks w.note.new.self new look.result look.ensures.step
                look.ensures.fits note.sleepers note.listeners note.coming note.few;
            room = note.room;
            kept = same_held first old new before.kept look.ensures.kept;
          })
      | else-listed-number-eq1 w ↦
          subst (λ (x : Found × Caller g.row.R.Denot). record {
            own : IsCallerOf c.args.map.now x.1;
            looks : LooksAgain listed (n + 1) x.0 first x.1;
            room : length x.0.turns ≡ MAX_CALLERS;
            kept : HoldsSame first x.1;
          }) (λ j. (sym w.found-is j, sym w.caller-is j)) (record {
            own = before.own;
            looks = again_past listed first n found old before.looks
                (λ is. w.if-listed-number-eq1.false (shr_and_one listed n ∙ is));
            room = before.room;
            kept = before.kept;
          })
    ]
