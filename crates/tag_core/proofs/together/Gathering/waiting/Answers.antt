-- The load finds the records of all callers, so that one history shows them, and changes nothing.
use Rattle.std.specs.Prelude.{◌*◌, ◌<◌, ◌≡◌, ◌≤◌}
use Rattle.tag_core.proofs.Uses.{[], Allows, ap, gathered, length, MAX_CALLERS, MOST_WON, size_of, total_of, has_record, HasRecords, Me, none, Record, Shape, Shown, step, subst, sym, View, ℕ}
use Rattle.tag_layout.specs.declared.layout.TheConstants.{MAX_DEPTH}
use Rattle.tag_core.specs.Plays.{waiters_settled}
use Rattle.tag_core.specs.Settling.{LeavesWaiters}
use Rattle.tag_core.specs.Spacing.{waiters_at}
use Rattle.tag_core.proofs.Settlings.{waiters_allowed}
use Rattle.tag_core.proofs.Stand.{waiters_in}
use Rattle.tag_core.proofs.together.Gathering.waiting.Goals as goal

pub load-requires : goal.load-requires
load-requires g c =
    let R = g.row.R.Denot in let m = c.args.map.now in let seat = c.args.self.now.seat in
    let spot = c.waiters_spot.ensures in (
      c.requires.map,
      subst (λ (z : ℕ). z < m.table.shared.table_id.words) (sym spot)
          (subst (λ (z : ℕ). waiters_at < z) (sym m.wide.0) (waiters_in m.shape.layout)),
      subst (λ (z : ℕ). Allows (Shown m.table.shared.key) m.table.shared.table_id.slots seat.id seat.me z (λ n. n)
          (waiters_settled (step m.table.shared.table_id.slots z 0 0 none) seat.me)) (sym spot)
          (waiters_allowed R m.table.shared.key m.table.shared.table_id.slots seat.id seat.me),
    )

pub invariant_of-self : goal.invariant_of-self
invariant_of-self g c =
    let R = g.row.R.Denot in let old = c.args.self.now in let same = sym c.load.ensures.2.0 in record {
      empty = subst (λ (z : Me R (View R)). z.1 ≡ []) same old.empty;
      sums = subst (λ (z : Me R (View R)). (old.won ≡ total_of (λ (r : Record R). r.won) z.0.records.value)
          × (old.back ≡ total_of (λ (r : Record R). r.back) z.0.records.value)
          × (old.held ≡ total_of (λ (r : Record R). size_of r.held) z.0.records.value)) same old.sums;
      few = subst (λ (z : Me R (View R)). length z.0.records.value ≤ MAX_CALLERS) same old.few;
      small = subst (λ (z : Me R (View R)). (old.won ≤ length z.0.records.value * MOST_WON)
          × (old.back ≤ length z.0.records.value * (MAX_CALLERS * MOST_WON))
          × (old.held ≤ length z.0.records.value * (64 * MAX_DEPTH))) same old.small;
    }

pub returns-clause-same : goal.returns-clause-same
returns-clause-same g c = ap (λ (z : Me g.row.R.Denot (View g.row.R.Denot)). z.0.records.value) c.load.ensures.2.0

pub returns-clause-waiting : goal.returns-clause-waiting
returns-clause-waiting g c =
    let rs = gathered c.args.self.now in let first = c.requires.first in
    subst (λ (z : Shape). HasRecords z.callers rs → LeavesWaiters z rs c.load.result) first.2
    (c.load.ensures.2.1 first.0 c.waiters_spot.ensures first.1)
    (λ n l. has_record (λ r. r.number) rs n (c.requires.all n l))
