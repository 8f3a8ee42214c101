-- All callers settle, and then continue on a next map.
use Rattle.std.specs.Prelude.{◌≡◌}
use Rattle.std.proofs.Common.{ap, arith, List, map, subst, sym, ◌∙◌}
use Rattle.tag_core.specs.Reopening.{AreReopened, GoesOnFrom, LeadsOn, reopened_record}
use Rattle.tag_core.specs.Settling.{AreSettled}
use Rattle.tag_pool.specs.Using.{Balance, NoneInUse, posted_in}
use Rattle.tag_core.specs.declared.caller.Caller.{Caller}
use Rattle.tag_core.proofs.Entries.{entry}
use Rattle.tag_pool.specs.Resizing.{GoesOnAfter}
use Rattle.tag_core.specs.declared.map.Map.{Map}
use Rattle.tag_core.specs.declared.record.Record.{Record}
use Rattle.tag_core.specs.Callers.{record_of}
use Rattle.tag_core.specs.declared.shape.Shape.{Shape}
use Rattle.tag_model.specs.declared.totals.Totals.{Totals}
use Rattle.tag_core.proofs.Settlings.{unchanged-records}
use Rattle.step_ledger.proofs.Seats.{within}
use Rattle.tag_core.specs.declared.settled.Settled.{Settled}
use Rattle.tag_core.specs.Callers.{AreUnchanged}
use Rattle.tag_core.specs.Chain.{GoesOn}
use Rattle.tag_core.specs.Histories.{steps_by}

module _ {R : Type 0} where
  -- the totals of tags in use are sums over the records
  pub posted_is : (k : Shape) (rs : List (Record R)) (totals : Totals) → AreSettled k rs totals
      → totals.posted ≡ posted_in rs
  posted_is k rs totals known =
      let a = known.got in let b = known.back in let d = known.held in let even = known.balance in omega arith

  -- and they balance
  pub balance_is : (k : Shape) (rs : List (Record R)) (totals : Totals) → AreSettled k rs totals → Balance rs
  balance_is k rs totals known =
      let a = known.got in let b = known.back in let d = known.held in let even = known.balance in omega arith

  -- if no tag is in use, the totals are 0
  pub none_used : (k : Shape) (rs : List (Record R)) (totals : Totals) → AreSettled k rs totals → NoneInUse rs
      → (totals.held ≡ 0) × (totals.posted ≡ 0)
  none_used k rs totals known none = (known.held ∙ none.0, posted_is k rs totals known ∙ none.1)

  -- a move of unchanged callers is a move of the callers before
  pub reopened_after : (m : Map R) (olds mids news : List (Caller R)) → AreUnchanged olds mids → AreReopened m mids news
      → AreReopened m olds news
  reopened_after m olds mids news same on = record {
    count = on.count ∙ same.count;
    each = λ n a b p q.
        let low = within olds n a p in let long = same.count in let mid = entry mids n (omega arith) in
        let went = on.each n mid.0 b mid.1 q in
        (went.0, went.1 ∙ ap (reopened_record m.shape) (same.each n a mid.0 p mid.1).known);
  }

  -- each caller's list is part of the history that leads to the next map
  pub leads_after : (old next : Map R) (olds mids : List (Caller R)) → AreUnchanged olds mids → LeadsOn old mids next
      → LeadsOn old olds next
  leads_after old next olds mids same on = record {
    history = on.history;
    lists = λ n c at.
        let low = within olds n c at in let long = same.count in let mid = entry mids n (omega arith) in
        let is = (same.each n c mid.0 at mid.1).known in
        ap (λ (r : Record R). r.steps) (sym is) ∙ on.lists n mid.0 mid.1
        ∙ ap (λ (r : Record R). steps_by r.number on.history) is;
    chain = on.chain;
  }

  module _ (k : Shape) (rs : List (Record R)) (t u : Totals) (known : AreSettled k rs t)
      (told : AreSettled k rs u) where
    -- the records have one set of totals
    same_totals : t ≡ u
    same_totals =
        let got : t.got ≡ u.got = known.got ∙ sym told.got in let back : t.back ≡ u.back = known.back ∙ sym told.back in
        let held : t.held ≡ u.held = known.held ∙ sym told.held in
        let posted : t.posted ≡ u.posted = posted_is k rs t known ∙ sym (posted_is k rs u told) in
        λ j. record { got = got j; back = back j; held = held j; posted = posted j }

  -- the history that accounts for these callers accounts for them as they settled, and the next map continues it
  pub goes_on_after : (s : Settled R) (old : Map R) (callers : List (Caller R)) (next : Shape)
      → s.tags ≡ old → AreUnchanged callers s.callers.items
      → AreSettled s.tags.shape (map record_of s.callers.items) s.totals
      → GoesOnFrom s next → GoesOnAfter old.shape (map record_of callers) next
  goes_on_after s old callers next is same told from totals known =
      let records : map record_of s.callers.items ≡ map record_of callers =
      unchanged-records callers s.callers.items same in
      let shape : s.tags.shape ≡ old.shape = ap (λ (z : Map R). z.shape) is in
      let told_here : AreSettled old.shape (map record_of callers) s.totals =
      subst (λ (z : Shape × List (Record R)). AreSettled z.0 z.1 s.totals) (λ j. (shape j, records j)) told in
      let totals_are : totals ≡ s.totals =
      same_totals old.shape (map record_of callers) totals s.totals known told_here in
      subst (λ (z : Shape × List (Record R) × Totals). (h : AreSettled z.0 z.1 z.2)
      → GoesOn (record { shape = z.0; history = h.history }) next)
      (λ j. (shape j, records j, sym totals_are j)) from known
