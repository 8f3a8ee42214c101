-- Each word in which no free tag is seen is done with.
use Rattle.std.specs.Prelude.{◌*◌, ◌+◌, ◌<◌, ◌≡◌}
use Rattle.tag_bell.proofs.Uses.{ap, arith, inr, Layout, layout_of, MAX_CALLERS, words, ◌∙◌}
use Rattle.tag_bell.proofs.Choosing.{looks_after, looks_tell, looks_within, turn_after_looks}
use Rattle.tag_bell.proofs.Rung.{one_more, tells_after, tells_within}
use Rattle.tag_bell.proofs.Seeing.{saw_before, saw_after}
use Rattle.tag_bell.proofs.settling.look_through.Goals as goal

pub returns-then-has_free-clause-told : goal.returns-then-has_free-clause-told
returns-then-has_free-clause-told g c =
    let first = c.args.caller.now in let old = c.loop-word.caller in let new = c.has_free.new.caller in
    let w = c.loop-word.word in let n = words (layout_of c.args.map.now) in let tells = 3 * MAX_CALLERS + 1 in
    let end : c.words-word-end.result ≡ words (layout_of c.args.map.now) = c.words-word-end.ensures.value
    ∙ ap (λ (l : Layout). words l) c.layout.ensures in
    let low : w < words (layout_of c.args.map.now) = let t = c.loop-word-test.true in omega arith in
    tells_within (2 * w + 2 + tells) (2 * n + tells) c.see_to.result first c.see_to.new.caller (omega arith)
    (tells_after (2 * w + 2) tells c.see_to.result first new c.see_to.new.caller (looks_tell (2 * w + 2) first new
    (looks_after (2 * w) 2 first old new c.loop-word.invariant.looks c.has_free.ensures.looks)) c.see_to.ensures.told)

pub returns-then-has_free-clause-turns : goal.returns-then-has_free-clause-turns
returns-then-has_free-clause-turns g c =
    let first = c.args.caller.now in let old = c.loop-word.caller in let new = c.has_free.new.caller in
    let w = c.loop-word.word in inr (turn_after_looks 1 (2 * w + 2) c.see_to.result first new c.see_to.new.caller
    (looks_after (2 * w) 2 first old new c.loop-word.invariant.looks c.has_free.ensures.looks) c.see_to.ensures.turns)

pub returns-then-has_free-clause-saw : goal.returns-then-has_free-clause-saw
returns-then-has_free-clause-saw g c =
    let first = c.args.caller.now in let old = c.loop-word.caller in let new = c.has_free.new.caller in
    let so_far = c.loop-word.invariant.looks in let tells = c.see_to.ensures.told in
    inr (saw_before first new c.see_to.new.caller tells.steps tells.only
    (saw_after first old new so_far.steps so_far.only (c.has_free.ensures.free c.if-has_free.true)))

pub loop-word-preserved : goal.loop-word-preserved
loop-word-preserved g c =
    let first = c.args.caller.now in let old = c.loop-word.caller in let new = c.has_free.new.caller in
    let w = c.loop-word.word in let before = c.loop-word.invariant in let here = c.has_free.ensures in record {
      own = here.caller;
      before = λ kind. one_more w kind new (here.others kind (before.before kind)) (here.shut c.if-has_free.false kind);
      looks = looks_within (2 * w + 2) (2 * (w + 1)) first new (omega arith)
          (looks_after (2 * w) 2 first old new before.looks here.looks);
      waits = here.waits ∙ before.waits;
      kept = record {
        kept = λ tag has. let was = before.kept.kept tag has in let now = here.kept.kept tag was.0 in (now.0, now.1 ∙ was.1);
        none_else = λ tag has. before.kept.none_else tag (here.kept.none_else tag has);
      };
    }

pub returns-clause-told : goal.returns-clause-told
returns-clause-told g c =
    let low = c.loop-word.auto.word-end in
    let end : c.words-word-end.result ≡ words (layout_of c.args.map.now) = c.words-word-end.ensures.value
    ∙ ap (λ (l : Layout). words l) c.layout.ensures in
    let tells = looks_tell (2 * c.loop-word.word) c.args.caller.now c.loop-word.caller c.loop-word.invariant.looks in
    let few = tells.few in record {
      steps = tells.steps;
      only = tells.only;
      few = omega arith;
      sleepers = c.none.ensures.0 ∙ tells.sleepers;
      listeners = c.none.ensures.1 ∙ tells.listeners;
    }
