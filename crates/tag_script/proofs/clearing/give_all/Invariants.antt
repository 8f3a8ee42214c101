-- Once the places of the mask are freed, exactly the tags so far are free besides those that were free before.
use Rattle.tag_script.proofs.Uses.{bit_at, free_at, freed, IsTaken, IsWithin, plain_words, pool_of, take, words, ℕ}
use Rattle.std.proofs.Common.{◌≡◌, ◌<◌}
use Rattle.tag_script.proofs.clearing.give_all.Given as goal

abbrev pub invariant-loop-tag : goal.invariant-loop-tag
invariant-loop-tag l = record {
  layout : l.port.layout ≡ l.fn.port.layout;
  pool : free_at l.word l.mask (pool_of (plain_words l.port))
      ≡ freed l.fn.port.layout (take l.tag-index l.tags) (pool_of (plain_words l.fn.port));
  there : l.word < words l.fn.port.layout;
  within : IsWithin l.fn.port.layout l.word l.mask;
  taken : (place : ℕ) → bit_at l.mask place ≡ 1 → IsTaken l.port l.word place;
}
