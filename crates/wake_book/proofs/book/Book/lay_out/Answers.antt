-- The empty history leaves the opening words, so the rule holds at the start; the tellers made have not made a step.
use Rattle.wake_book.proofs.Uses.{[], fresh_record, numbered_all, numbered_records, opening_words, opens, refl}
use Rattle.wake_book.specs.Charges.{words_after, MayStep}
use Rattle.wake_book.specs.Book.{record_of}
use Rattle.wake_book.proofs.book.Book.lay_out.Goals as goal

pub of_words-requires : goal.of_words-requires
of_words-requires c = let k = c.args.limits in opens k.tellers opening_words words_after (MayStep k) []

pub returns : goal.returns
returns c = let made = c.in_ok-tellers.ensures in let tellers = c.in_ok-tellers.tellers.items in
    let count = c.args.limits.tellers in record {
      counts = c.requires;
      batch_is = refl;
      tellers_are = refl;
      cap_is = refl;
      own = numbered_all _ _ count tellers made (λ i t is. is.0);
      fresh_all = numbered_records record_of fresh_record count tellers (made.0, λ i t at. (made.1 i t at).1);
    }
