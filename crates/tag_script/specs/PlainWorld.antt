-- The world of a plain script: one caller alone with a map.
use Rattle.tag_script.specs.Uses.{Bool, count_below, count_ones, Err, false, is_busy, Layout, length, List, nat_eq, nat_lt, None, Ok, Option, Pool, reduced, Result, set_aside, shallow_visits, slice_index, Some, TagFault, true, Visit, word_bits, word_of, ℕ}
use Rattle.std.specs.Prelude.{◌≡◌, ◌+◌, ◌<◌, ◌≤◌, ◌≢◌, if◌then◌else◌, ◌&&◌, ◌||◌, ◌-◌, ◌⊎◌}
use Rattle.std.specs.List.{All, AllPairs, Any, list_any}
use Rattle.tag_layout.specs.Layout.{place_of}
use Rattle.tag_search.specs.declared.hint.Hint.{Hint}
use Rattle.tag_search.specs.Batch.{batch_words}
use Rattle.tag_search.specs.Follows.{HintFollows, BatchFollows}
use Rattle.tag_search.specs.Choice.{IsChoice, IsBatchChoice}
use Rattle.tag_pool.specs.Runs.{NamesTwice}
use Rattle.tag_pool.specs.declared.fault.TagFault.TheVariants.{NoSuchTag, NotHeld, BadCount, TooShallow}

-- the layout, the least depth of a shallow get, which places are free or set aside, the caller's hint, and how many
-- tags it won and gave back
pub record PlainWorld : Type 0 where
  pub layout : Layout
  pub least : ℕ
  pub pool : Pool
  pub hint : Hint
  pub won : ℕ
  pub back : ℕ

-- each of the 64 places of each word is free
abbrev pub all_free : Pool
all_free = record { free = λ word place. nat_lt place 64; aside = λ word place. false }

-- a caller that has done nothing
abbrev pub opened : Layout → Bool → ℕ → PlainWorld
opened l round_robin least =
    record {
      layout = l;
      least = least;
      pool = all_free;
      hint = record { at = 0; round_robin = round_robin };
      won = 0;
      back = 0;
    }

-- the caller holds the tag
abbrev pub is_held : PlainWorld → ℕ → Bool
is_held w tag = is_busy w.pool (word_of w.layout tag) (place_of w.layout tag)

-- the tag is set aside: given back, but not free yet
abbrev pub is_aside : PlainWorld → ℕ → Bool
is_aside w tag = w.pool.aside (word_of w.layout tag) (place_of w.layout tag)

-- the number of tags that the caller holds
abbrev pub held_in : PlainWorld → ℕ
held_in w = count_below (is_held w) w.layout.depth

-- the number of tags that are set aside
abbrev pub aside_in : PlainWorld → ℕ
aside_in w = count_below (is_aside w) w.layout.depth

-- the number of tags in the answer of a get
abbrev pub won_by : Option ℕ → ℕ
won_by None = 0
won_by (Some tag) = 1

-- the number of tags in the answer of a batch get: the ones of its mask
abbrev pub won_in : Option (ℕ × ℕ) → ℕ
won_in None = 0
won_in (Some won) = count_ones won.1

-- a get with these visits: the pool is what the choice leaves, the hint moves by its rule, and the tag is counted
pub record Gets (visits : List Visit) (old : PlainWorld) (answer : Option ℕ) (new : PlainWorld) : Type 0 where
  pub layout : new.layout ≡ old.layout
  pub least : new.least ≡ old.least
  pub choice : IsChoice old.layout old.pool visits answer new.pool
  pub hint : HintFollows old.layout.depth old.hint new.hint answer
  pub won : new.won ≡ old.won + won_by answer
  pub back : new.back ≡ old.back

-- a shallow get, which is refused below the least depth
pub data GetsShallow (depth : ℕ) (old : PlainWorld) : Result (Option ℕ) TagFault → PlainWorld → Type 0 where
  too_shallow : depth < old.least → GetsShallow depth old (Err TooShallow) old
  deep_enough : (answer : Option ℕ) (new : PlainWorld) → old.least ≤ depth
      → Gets (shallow_visits old.layout depth (reduced old.layout.depth old.hint.at)) old answer new
      → GetsShallow depth old (Ok answer) new

-- a batch get from the word of the hint on: the pool is what the choice leaves, the hint moves by its rule, and the
-- tags are counted
pub record GetsBatch (n : ℕ) (old : PlainWorld) (answer : Option (ℕ × ℕ)) (new : PlainWorld) : Type 0 where
  pub layout : new.layout ≡ old.layout
  pub least : new.least ≡ old.least
  pub choice : IsBatchChoice old.layout n old.pool
      (batch_words old.layout (word_of old.layout (reduced old.layout.depth old.hint.at))) answer new.pool
  pub hint : BatchFollows old.layout.depth n old.hint new.hint answer
  pub won : new.won ≡ old.won + won_in answer
  pub back : new.back ≡ old.back

-- a batch get: 0 tags or more than a word has are refused; under round robin it finds none
pub data Batches (n : ℕ) (old : PlainWorld) : Result (Option (ℕ × ℕ)) TagFault → PlainWorld → Type 0 where
  bad_count : (n ≡ 0) ⊎ (word_bits old.layout < n) → Batches n old (Err BadCount) old
  none_around : 1 ≤ n → n ≤ word_bits old.layout → old.hint.round_robin ≡ true → Batches n old (Ok None) old
  side_by_side : (answer : Option (ℕ × ℕ)) (new : PlainWorld) → 1 ≤ n → n ≤ word_bits old.layout
      → old.hint.round_robin ≡ false
      → GetsBatch n old answer new → Batches n old (Ok answer) new

-- the tag is set aside and counted, and the hint moves to it, except under round robin
abbrev pub put_back : ℕ → PlainWorld → PlainWorld
put_back tag w = record w {
  pool = set_aside (word_of w.layout tag) (place_of w.layout tag) w.pool;
  hint = record w.hint { at = if w.hint.round_robin then w.hint.at else tag };
  back = w.back + 1;
}

-- a clear, which is refused for a tag out of range or not held
pub data Clears (tag : ℕ) (w : PlainWorld) : Result (Unit {0}) TagFault → PlainWorld → Type 0 where
  no_such_tag : w.layout.depth ≤ tag → Clears tag w (Err NoSuchTag) w
  not_held : tag < w.layout.depth → is_held w tag ≡ false → Clears tag w (Err NotHeld) w
  cleared : tag < w.layout.depth → is_held w tag ≡ true → Clears tag w (Ok tt) (put_back tag w)

-- the place is that of a tag of the list
abbrev pub is_named : Layout → List ℕ → ℕ → ℕ → Bool
is_named l tags word place = list_any (λ tag. nat_eq word (word_of l tag) && nat_eq place (place_of l tag)) tags

-- the tags of the list are free, and what is set aside is unchanged
abbrev pub freed : Layout → List ℕ → Pool → Pool
freed l tags p = record p { free = λ word place. p.free word place || is_named l tags word place }

-- the tags are free and counted, and the hint moves to the last of them, except under round robin
abbrev pub give_back : List ℕ → PlainWorld → PlainWorld
give_back tags w = record w {
  pool = freed w.layout tags w.pool;
  hint = record w.hint { at = if w.hint.round_robin then w.hint.at else slice_index tags (length tags - 1) };
  back = w.back + length tags;
}

-- a clear of a list of 1 to 64 distinct held tags in range; any other list is refused
pub data ClearsBatch (tags : List ℕ) (w : PlainWorld) : Result (Unit {0}) TagFault → PlainWorld → Type 0 where
  bad_count : (length tags ≡ 0) ⊎ (64 < length tags) → ClearsBatch tags w (Err BadCount) w
  no_such_tag : 1 ≤ length tags → length tags ≤ 64 → Any (λ tag. w.layout.depth ≤ tag) tags
      → ClearsBatch tags w (Err NoSuchTag) w
  not_held : 1 ≤ length tags → length tags ≤ 64 → All (λ tag. tag < w.layout.depth) tags
      → Any (λ tag. is_held w tag ≡ false) tags ⊎ NamesTwice tags → ClearsBatch tags w (Err NotHeld) w
  cleared : 1 ≤ length tags → length tags ≤ 64 → All (λ tag. tag < w.layout.depth) tags
      → All (λ tag. is_held w tag ≡ true) tags
      → AllPairs (λ a b. a ≢ b) tags → ClearsBatch tags w (Ok tt) (give_back tags w)
