-- What a thread has may go to it, and each new handle promises what the others do.
use Rattle.loop_device.proofs.Uses.{[], ap, arith, Bool, crosses, HavePromised, IsFreshOf, IsSend, length, param_send, Part, rules, sendable, SomeIff, submitter_at, subst, suc, sym, u64-field, vec_len, worker, ℕ, ◌∙◌}
use denote.Param.{param}
use Rattle.std.proofs.Common.{◌≡◌, ◌≤◌, ◌-◌}
use Rattle.std.specs.List.{All}
use Rattle.loop_device.proofs.Crossing.{hand_goes, log_shared, device_shared, pass_goes}
use Rattle.loop_device.proofs.Joining.{numbered, promised_none, promised_more}
use Rattle.std.specs.contracts.option.Option as option
use Rattle.loop_device.specs.contracts.setup.Setup as setup
use Rattle.loop_device.proofs.threads.start_all.Lts as lts
use Rattle.loop_device.proofs.threads.start_all.Goals as goal

all_six : {A B C D E F : Type 0} → A → B → C → D → E → F → A × B × C × D × E × F
all_six a b c d e f = (a, b, c, d, e, f)

count_goes : IsSend (option.the_row u64-field.row)
count_goes = search (sendable, crosses) depth 60

setup_goes : IsSend setup.the_row
setup_goes = search (sendable, crosses) depth 60

pub spawn_with-started-requires-send-F : goal.spawn_with-started-requires-send-F
spawn_with-started-requires-send-F g c κs within =
    let yd = device_shared (param 1 g.row.B) g.B.Tagged c.type_bounds.send-B c.type_bounds.sync-B in
    let yg = c.type_bounds.sync-G in
    let yr = c.type_bounds.sync-R in
    param_send 2
    (lts.arg-6-2 g.row.E g.row.B g.row.G g.row.R g.E.laws g.B.laws g.G.laws g.R.laws g.B.Tagged g.B.Tagged-dict
    g.G.Gate g.G.Gate-dict g.R.Wait g.R.Wait-dict κs) record {
      owned = λ x vs vss. (
        tt,
        (
          (tt, yr.shared x.0.now x.0.ref_ptr.0 x.0.ref_ptr.1 κs.1.1.1.1.1.1.0),
          (
            (tt, log_shared.shared x.1.now x.1.ref_ptr.0 x.1.ref_ptr.1 κs.1.1.1.1.1.1.1.0),
            (
              (tt, yg.shared x.2.now x.2.ref_ptr.0 x.2.ref_ptr.1 κs.1.1.1.1.1.1.1.1.0),
              (
                (tt, yd.shared x.3.now x.3.ref_ptr.0 x.3.ref_ptr.1 κs.1.1.1.1.1.1.1.1.1.0),
                (
                  hand_goes.owned x.4 vss.1.1.1.1.0,
                  (
                    pass_goes.owned x.5 vss.1.1.1.1.1.0,
                    (count_goes.owned x.6 vss.1.1.1.1.1.1.0, (setup_goes.owned x.7 vss.1.1.1.1.1.1.1.0, tt)),
                  ),
                ),
              ),
            ),
          ),
        ),
      );
      leaving = λ k x w. (tt, (tt, (tt, (tt, (hand_goes.leaving k x.4 _, (tt, tt))))));
    }

pub spawn_with-started-requires-send-T : goal.spawn_with-started-requires-send-T
spawn_with-started-requires-send-T g c κs within = param_send 3
    (lts.arg-6-3 g.row.E g.row.B g.row.G g.row.R g.E.laws g.B.laws g.G.laws g.R.laws g.B.Tagged g.B.Tagged-dict
    g.G.Gate g.G.Gate-dict g.R.Wait g.R.Wait-dict κs) record {
      owned = λ x vs vss. (tt, (hand_goes.owned x.hand vss.0, ((λ faults. (tt, (tt, (tt, tt)))), tt)));
      leaving = λ k x w. (hand_goes.leaving k x.hand _, tt);
    }

pub spawn_with-started-requires-clause-runs : goal.spawn_with-started-requires-clause-runs
spawn_with-started-requires-clause-runs g c =
    let tags = c.args.device.now.tags in
    let whole = subst (All (IsFreshOf tags)) c.in-Some.ensures.steps.0 c.loop-hand.invariant.rest in
    let mine = c.pass_for-mine.ensures in let requires = c.requires in
    λ κs within. (
      all_six (whole 0 c.in-Some.hand (omega arith)) mine.result requires.total requires.capacity requires.submitters
          (mine.begins ∙ ap (λ (b : Bool). worker b [] []) c.is_some.ensures),
      (search sendable, search sendable, search sendable, search sendable),
    )

pub loop-hand-init : goal.loop-hand-init
loop-hand-init g c =
    let requires = c.requires in let none = ap length requires.none in
    let given = c.into_iter-hand-iterator.ensures.into_iter_gives in let many = given.1 in
    let empty : vec_len c.args.handles.now ≡ length c.args.handles.now.items =
    first_of (omega arith, search rules, omega (arith, c.args.handles.now.ok.0)) in record {
      steps = search rules;
      rest = subst (All (IsFreshOf c.args.device.now.tags)) (sym given.0) requires.hands;
      pass = requires.pass;
      handles = subst (HavePromised c.args.device.now.tags c.args.setup c.args.log.now.ios.items) (sym requires.none)
          (promised_none c.args.device.now.tags c.args.setup c.args.log.now.ios.items);
      room = omega arith;
      len = omega arith;
    }

pub loop-hand-preserved : goal.loop-hand-preserved
loop-hand-preserved g c =
    let was = c.loop-hand.invariant in
    let tags = c.args.device.now.tags in
    let whole = subst (All (IsFreshOf tags)) c.in-Some.ensures.steps.0 was.rest in
    let fewer = ap length c.in-Some.ensures.steps.0 in
    let long : vec_len c.loop-hand.handles ≡ length c.loop-hand.handles.items =
    first_of (omega arith, search rules, omega (arith, c.loop-hand.handles.ok.0)) in
    record {
      steps = (tt, tt);
      rest = λ k d low. whole (suc k) d (omega arith);
      pass = c.pass_for-mine.ensures.pass;
      handles = promised_more tags c.args.setup c.args.log.now.ios.items c.loop-hand.handles.items
          c.push_reserved.new.self.items c.in-Ok.handle was.handles (record {
            tags_are = ap (λ (part : Part). part.tags.now) c.in-Ok.ensures.ok;
            setup_is = ap (λ (part : Part). part.setup) c.in-Ok.ensures.ok;
            ios_are = ap (λ (part : Part). part.log.now.ios.items) c.in-Ok.ensures.ok;
            number_is = ap (λ (part : Part). part.number) c.in-Ok.ensures.ok
                ∙ numbered c.checked_sub-number.result c.args.setup.completers (vec_len c.loop-hand.handles)
                (subst (λ (n : ℕ). SomeIff c.checked_sub-number.result (c.args.setup.completers ≤ n)
                (n - c.args.setup.completers)) c.len.ensures c.checked_sub-number.ensures)
                ∙ ap (submitter_at c.args.setup.completers) long;
          }) c.push_reserved.ensures.items;
      room = omega arith;
      len = omega arith;
    }
