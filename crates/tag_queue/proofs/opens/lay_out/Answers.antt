-- Pool, book and groups are opened for the same number of hands, so their parts can be joined one by one.
use Rattle.tag_queue.proofs.Uses.{ap, List, refl, subst, sym, Teller, Waiter, ℕ, ◌∙◌}
use Rattle.tag_layout.specs.Layout.{Layout, wake_batch}
use Rattle.wake_book.specs.Book as book
use Rattle.wake_book.specs.Groups as groups
use Rattle.tag_queue.proofs.Opened.{fit_new, fresh_count, own_all}
use Rattle.tag_queue.proofs.opens.lay_out.Goals as goal

pub join-requires-clause-counts : goal.join-requires-clause-counts
join-requires-clause-counts g c = (
  c.requires.fresh.count ∙ sym (fresh_count book.record_of c.in-Ok.tellers.items _ c.in-Ok.ensures.ok.fresh_all),
  c.requires.fresh.count
      ∙ sym (fresh_count groups.record_of c.in-Ok-open.waiters.items _ c.in-Ok-open.ensures.ok.fresh_all),
)

pub join-requires-clause-fit : goal.join-requires-clause-fit
join-requires-clause-fit g c = fit_new c.args.options c.args.pool c.args.hands.items c.in-Ok.book c.in-Ok.tellers.items
    c.in-Ok-open.groups c.in-Ok-open.waiters.items _ _ c.requires.fresh c.in-Ok.ensures.ok c.in-Ok-open.ensures.ok

pub returns-clause-counts : goal.returns-clause-counts
returns-clause-counts g c = let parts = c.in_ok-hands.ensures.parts in let options = c.args.options in
    let b = c.in-Ok.ensures.ok in let s = c.in-Ok-open.ensures.ok in let all = c.in_ok-hands.hands.items in record {
      book = subst (λ (z : ℕ × List Teller). book.IsOpenBook z.0 options.hands c.args.cap c.in-Ok.book z.1)
          (λ j. (
            (c.wake_batch-batch.ensures.value
                ∙ ap (λ (l : Layout). wake_batch l options.min_shallow) c.layout.ensures) j,
            sym parts.tellers_are j,
          )) b;
      groups = subst (λ (l : List Waiter). groups.AreOpenGroups options.hands c.in-Ok-open.groups l)
          (sym parts.waiters_are) s;
      min_shallow = refl;
      own = own_all c.args.pool c.in-Ok.book c.in-Ok-open.groups all _ _ _ parts c.requires.fresh.own b.own s.own;
    }
