-- Each look says of one caller more whether it is listed.
use Rattle.std.specs.Prelude.{◌+◌}
use Rattle.tag_bell.proofs.Uses.{Caller, HoldsSame, IsCallerOf, Listener, refl, shr_and_one, Sleeper, subst, sym, ℕ, ◌∙◌}
use Rattle.tag_bell.specs.declared.found.Masks.{Masks}
use Rattle.tag_bell.proofs.Goes.{same_held}
use Rattle.tag_bell.proofs.LookLines.{looks_more, looks_none, looks_past, LooksOn}
use Rattle.tag_bell.proofs.Noting.{marked}
use Rattle.tag_bell.proofs.found.look_at_each.Goals.{then-waiting-number-eq1, else-waiting-number-eq1}
use Rattle.tag_bell.proofs.found.look_at_each.Goals as goal

pub loop-number-init : goal.loop-number-init
loop-number-init g c = record {
  own = c.requires.caller;
  looks = looks_none c.args.waiting c.args.caller.now c.of_coming-masks.result
      (c.of_coming-masks.ensures.2 ∙ sym c.requires.coming) c.requires.others;
  kept = record { kept = λ tag has. (has, refl); none_else = λ tag has. has };
}

pub loop-number-preserved : goal.loop-number-preserved
loop-number-preserved g c =
    let before = c.loop-number.invariant in let n : ℕ = c.loop-number.number in let waiting : ℕ = c.args.waiting in
    let first = c.args.caller.now in let old = c.loop-number.caller in let masks = c.loop-number.masks in
    elim c.if-waiting-number-eq1.branch [
      | then-waiting-number-eq1 w ↦
          let look = w.look_at-berth in let new = look.new.caller in let note = w.note.ensures in
          let more = w.note.new.self in
          subst (λ (x : Masks × Caller g.row.R.Denot). record {
            own : IsCallerOf c.args.map.now x.1;
            looks : LooksOn waiting (n + 1) x.0 first x.1;
            kept : HoldsSame first x.1;
          }) (λ j. (sym w.masks-is j, sym w.caller-is j)) (record {
            own = look.ensures.caller;
            looks = looks_more waiting first n masks old before.looks new look.result look.ensures.step more
                (marked Sleeper n look.result masks.sleepers more.sleepers note.sleepers)
                (marked Listener n look.result masks.listeners more.listeners note.listeners) note.coming;
            kept = same_held first old new before.kept look.ensures.kept;
          })
      | else-waiting-number-eq1 w ↦
          subst (λ (x : Masks × Caller g.row.R.Denot). record {
            own : IsCallerOf c.args.map.now x.1;
            looks : LooksOn waiting (n + 1) x.0 first x.1;
            kept : HoldsSame first x.1;
          }) (λ j. (sym w.masks-is j, sym w.caller-is j)) (record {
            own = before.own;
            looks = looks_past waiting first n masks old before.looks
                (λ is. w.if-waiting-number-eq1.false (shr_and_one waiting n ∙ is));
            kept = before.kept;
          })
    ]
