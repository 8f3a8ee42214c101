-- The sizes of held sets, and the sum over a list under the name that tags use.
use Rattle.std.specs.Prelude.{ℕ, List, count_ones}
pub use Rattle.step_ledger.specs.History.{total as total_of}

-- the tags of a held set, a mask for each word
abbrev pub size_of : List ℕ → ℕ
size_of masks = total_of count_ones masks
