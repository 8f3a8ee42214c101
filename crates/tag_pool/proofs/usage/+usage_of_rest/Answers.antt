-- The last hand's records come before those gathered, so on the way back they are the first to be returned.
use Rattle.std.specs.Prelude.{◌++◌, ◌≡◌}
use Rattle.tag_pool.proofs.Uses.{[], ap, Hand, IsHandOf, List, Ordinary, Record, record_of, Reserved, rules, subst, sym}
use lib.ListN.{get_elem?}
use Rattle.step_ledger.specs.Gather.{HasAll}
use Rattle.tag_core.specs.Gathering.{numbers}
use Rattle.tag_pool.specs.Gathering.{gathered_of, records_of}
use Rattle.tag_pool.specs.Hands.{caller_of, hands_of}
use Rattle.tag_pool.specs.Holding.{IsUnchanged}
use Rattle.tag_pool.specs.Sets.{InBoth}
use Rattle.tag_pool.specs.declared.kind.Kind.{Kind}
use Rattle.tag_pool.proofs.Unchanged.{all_pushed, all_records, all_there, front_own, last_own, unchanged-back, usage_like}
use Rattle.tag_pool.proofs.usage.+usage_of_rest.Goals as goal

pub usage-requires-clause-every : goal.usage-requires-clause-every
usage-requires-clause-every g t c =
    let none : c.args.hands.now.items ≡ [] = search rules in
    subst (λ (z : List (Hand g.row.R.Denot)). InBoth (λ (kind : Kind). HasAll
    (numbers (records_of z kind ++ gathered_of c.args.all kind)) (hands_of c.args.pool.now))) none c.requires.every

pub lend-lender-requires-clause-hand : goal.lend-lender-requires-clause-hand
lend-lender-requires-clause-hand g t c = last_own c.args.pool.now _ _ _ c.in-Some.ensures.items c.requires.own

pub usage_of_rest-loans-requires : goal.usage_of_rest-loans-requires
usage_of_rest-loans-requires g t c κs within =
    let R = g.row.R.Denot in let pool = c.args.pool.now in let last = c.in-Some.last in
    let mine = last_own pool _ _ _ c.in-Some.ensures.items c.requires.own in let came = c.lend-lender.ensures.gathered in (
      search rules,
      (
        within,
        (
          front_own pool _ _ _ c.in-Some.ensures.items c.requires.own,
          (
            c.lend-lender.ensures.pool,
            (
              record {
                reserved = (
                  record_of (caller_of last Reserved),
                  ap (λ (z : List (Record R)). get_elem? z 0) came.reserved,
                  mine.0.1,
                );
                ordinary = (
                  record_of (caller_of last Ordinary),
                  ap (λ (z : List (Record R)). get_elem? z 0) came.ordinary,
                  mine.1.1,
                );
              },
              record {
                reserved = all_there c.args.hands.now.items c.pop.new.self.items last c.in-Some.ensures.items Reserved
                    (gathered_of c.args.all Reserved) (gathered_of c.lend-lender.new.self Reserved) came.reserved
                    (hands_of pool) c.requires.every.reserved;
                ordinary = all_there c.args.hands.now.items c.pop.new.self.items last c.in-Some.ensures.items Ordinary
                    (gathered_of c.args.all Ordinary) (gathered_of c.lend-lender.new.self Ordinary) came.ordinary
                    (hands_of pool) c.requires.every.ordinary;
              },
            ),
          ),
        ),
      ),
    )

pub give_back-last-requires-clause-hand : goal.give_back-last-requires-clause-hand
give_back-last-requires-clause-hand g t c =
    subst (IsHandOf c.args.pool.now) (sym c.lend-lender.ensures.hand)
    (last_own c.args.pool.now _ _ _ c.in-Some.ensures.items c.requires.own)

pub returns-clause-own : goal.returns-clause-own
returns-clause-own g t c =
    all_pushed (IsHandOf c.args.pool.now) _ _ _ c.push_reserved.ensures.items c.usage_of_rest-loans.ensures.own
    c.give_back-last.ensures.hand

pub returns-clause-unchanged : goal.returns-clause-unchanged
returns-clause-unchanged g t c =
    unchanged-back _ _ _ _ _ _ c.in-Some.ensures.items c.push_reserved.ensures.items
    c.usage_of_rest-loans.ensures.unchanged
    (subst (λ (h : Hand g.row.R.Denot). IsUnchanged h c.give_back-last.result) c.lend-lender.ensures.hand
    c.give_back-last.ensures.unchanged)

pub returns-clause-usage : goal.returns-clause-usage
returns-clause-usage g t c =
    let came = c.lend-lender.ensures.gathered in let olds = c.args.hands.now.items in let front = c.pop.new.self.items in
    usage_like c.args.pool.now
    (λ kind. records_of front kind ++ gathered_of c.lend-lender.new.self kind)
    (λ kind. records_of olds kind ++ gathered_of c.args.all kind) c.usage_of_rest-loans.result.1
    (sym (all_records olds front c.in-Some.last c.in-Some.ensures.items Reserved
    (gathered_of c.args.all Reserved) (gathered_of c.lend-lender.new.self Reserved) came.reserved))
    (sym (all_records olds front c.in-Some.last c.in-Some.ensures.items Ordinary
    (gathered_of c.args.all Ordinary) (gathered_of c.lend-lender.new.self Ordinary) came.ordinary))
    c.usage_of_rest-loans.ensures.usage
