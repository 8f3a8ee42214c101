-- The empty history leaves the opening words, so the rule holds at the start; the waiters made have not made a step.
use Rattle.wake_book.proofs.Uses.{[], fresh_record, IsNew, MayStep, numbered_all, numbered_records, opens, record_of, refl, words_after}
use Rattle.wake_book.specs.Waits.{opening_words}
use Rattle.wake_book.proofs.groups.Groups.lay_out.Goals as goal

pub of_words-requires : goal.of_words-requires
of_words-requires c = opens c.args.waiters opening_words words_after MayStep []

pub returns : goal.returns
returns c = let made = c.in_ok-all.ensures in let waiters = c.in_ok-all.all.items in
    let count = c.args.waiters in record {
      count = c.requires;
      waiters_are = refl;
      own = numbered_all _ _ count waiters made (λ i w is. is.0);
      new = numbered_all _ IsNew count waiters made (λ i w is. is.1);
      fresh_all = numbered_records record_of fresh_record count waiters (made.0, λ i w at. (made.1 i w at).2);
    }
