-- What a contract sees of a `PlainCaller`.
use Rattle.std.specs.Prelude.{ℕ, ◌+◌, ◌*◌, ◌^◌, ◌<◌, ◌≤◌}
use Rattle.tag_search.specs.Plain.{plain_words}
use Rattle.tag_script.specs.declared.plain_caller.PlainCaller.{PlainCaller}
use Rattle.tag_search.specs.Pool.{pool_of}
use Rattle.tag_script.specs.PlainWorld.{PlainWorld}

-- the world of a plain caller
abbrev pub plain_world_of : PlainCaller → PlainWorld
plain_world_of p = record {
  layout = p.port.layout;
  least = p.least;
  pool = pool_of (plain_words p.port);
  hint = p.hint;
  won = p.won;
  back = p.back;
}

-- the counts have room for n more commands, each of which may add 64 to them
pub record IsReadyFor (n : ℕ) (w : PlainWorld) : Type 0 where
  pub won : w.won + 64 * n < 2 ^ 64
  pub back : w.back + 64 * n < 2 ^ 64

-- a command adds at most 64 to each count
pub record Counted (old new : PlainWorld) : Type 0 where
  pub won : new.won ≤ old.won + 64
  pub back : new.back ≤ old.back + 64
