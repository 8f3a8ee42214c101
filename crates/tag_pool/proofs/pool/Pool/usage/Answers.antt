-- The last hand lends its records first and gets them back last, so all hands are unchanged and in order.
use Rattle.std.specs.Prelude.{◌++◌}
use Rattle.tag_pool.proofs.Uses.{ap, Hand, IsHandOf, List, Ordinary, Record, record_of, Reserved, subst, sym}
use lib.ListN.{get_elem?}
use Rattle.tag_pool.specs.Gathering.{gathered_of, records_of}
use Rattle.tag_pool.specs.Hands.{caller_of, hands_of}
use Rattle.tag_pool.specs.Holding.{IsUnchanged}
use Rattle.tag_pool.proofs.Unchanged.{all_pushed, first_records, first_there, front_own, last_own, unchanged-back, usage_like}
use Rattle.tag_pool.proofs.pool.Pool.usage.Goals as goal

pub start_lending-all-requires : goal.start_lending-all-requires
start_lending-all-requires g c = last_own c.args.self.now _ _ _ c.in-Some.ensures.items c.requires.own

pub usage_of_rest-loans-requires-clause-own : goal.usage_of_rest-loans-requires-clause-own
usage_of_rest-loans-requires-clause-own g c = front_own c.args.self.now _ _ _ c.in-Some.ensures.items c.requires.own

pub usage_of_rest-loans-requires-clause-first : goal.usage_of_rest-loans-requires-clause-first
usage_of_rest-loans-requires-clause-first g c =
    let last = c.in-Some.last in let came = c.start_lending-all.ensures.gathered in
    let mine = last_own c.args.self.now _ _ _ c.in-Some.ensures.items c.requires.own in record {
      reserved = (
        record_of (caller_of last Reserved),
        ap (λ (z : List (Record g.row.R.Denot)). get_elem? z 0) came.reserved,
        mine.0.1,
      );
      ordinary = (
        record_of (caller_of last Ordinary),
        ap (λ (z : List (Record g.row.R.Denot)). get_elem? z 0) came.ordinary,
        mine.1.1,
      );
    }

pub usage_of_rest-loans-requires-clause-every : goal.usage_of_rest-loans-requires-clause-every
usage_of_rest-loans-requires-clause-every g c =
    let pool = c.args.self.now in let came = c.start_lending-all.ensures.gathered in record {
      reserved = first_there pool c.args.hands.now.items c.pop.new.self.items c.in-Some.last c.in-Some.ensures.items
          c.requires.own Reserved (gathered_of c.start_lending-all.result.0 Reserved) came.reserved (hands_of pool)
          c.requires.every;
      ordinary = first_there pool c.args.hands.now.items c.pop.new.self.items c.in-Some.last c.in-Some.ensures.items
          c.requires.own Ordinary (gathered_of c.start_lending-all.result.0 Ordinary) came.ordinary (hands_of pool)
          c.requires.every;
    }

pub give_back-last-requires-clause-hand : goal.give_back-last-requires-clause-hand
give_back-last-requires-clause-hand g c =
    subst (IsHandOf c.args.self.now) (sym c.start_lending-all.ensures.hand)
    (last_own c.args.self.now _ _ _ c.in-Some.ensures.items c.requires.own)

pub returns-clause-own : goal.returns-clause-own
returns-clause-own g c =
    all_pushed (IsHandOf c.args.self.now) _ _ _ c.push_reserved.ensures.items c.usage_of_rest-loans.ensures.own
    c.give_back-last.ensures.hand

pub returns-clause-unchanged : goal.returns-clause-unchanged
returns-clause-unchanged g c =
    unchanged-back _ _ _ _ _ _ c.in-Some.ensures.items c.push_reserved.ensures.items
    c.usage_of_rest-loans.ensures.unchanged
    (subst (λ (h : Hand g.row.R.Denot). IsUnchanged h c.give_back-last.result) c.start_lending-all.ensures.hand
    c.give_back-last.ensures.unchanged)

pub returns-clause-usage : goal.returns-clause-usage
returns-clause-usage g c =
    let pool = c.args.self.now in let came = c.start_lending-all.ensures.gathered in
    let olds = c.args.hands.now.items in let front = c.pop.new.self.items in
    usage_like pool (λ kind. records_of front kind ++ gathered_of c.start_lending-all.result.0 kind) (records_of olds)
    c.usage_of_rest-loans.result.1
    (sym (first_records pool olds front c.in-Some.last c.in-Some.ensures.items c.requires.own Reserved
    (gathered_of c.start_lending-all.result.0 Reserved) came.reserved))
    (sym (first_records pool olds front c.in-Some.last c.in-Some.ensures.items c.requires.own Ordinary
    (gathered_of c.start_lending-all.result.0 Ordinary) came.ordinary))
    c.usage_of_rest-loans.ensures.usage
