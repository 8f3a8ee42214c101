-- A board as it is opened.
use Rattle.tag_board.specs.Uses.{HasShiftOf, Kind, max, Options, Ordinary, Reserved, unwrap_or, ℕ}
use Rattle.std.specs.Prelude.{◌≡◌, ◌-◌, ◌^◌, ◌<◌}
use Rattle.tag_board.specs.AloneSets.{AreUntouched}
use Rattle.tag_board.specs.States.{State, idle}
use Rattle.tag_board.specs.Wakeups.{Starts}

-- the words of a set of this depth have 2 ^ shift bits, by the shift of the options or else the default one
abbrev pub HasBits : Options → ℕ → ℕ → Type 0
HasBits options depth bits = (shift : ℕ) × HasShiftOf options depth shift × (bits ≡ 2 ^ shift)

-- the state of a board with these options and this cap before any command
pub record IsOpen (options : Options) (cap : ℕ) (s : State) : Type 0 where
  pub total_is : s.total ≡ options.depth
  pub reserved_is : s.terms.reserved ≡ options.reserved
  pub callers_are : s.terms.callers ≡ options.hands
  pub life_is : (kind : Kind) → s.terms.life kind ≡ options.life
  pub cap_is : s.terms.cap ≡ cap
  pub least_is : s.terms.least ≡ max (unwrap_or options.min_shallow 1) 1
  pub ordinary_bits : HasBits options (options.depth - options.reserved) (s.terms.bits Ordinary)
  pub reserved_bits : HasBits options options.reserved (s.terms.bits Reserved)
  pub idle_all : (caller : ℕ) → caller < s.terms.callers → s.part caller ≡ idle options.round_robin
  pub outside : (caller : ℕ) → caller < s.terms.callers → Starts (s.waiter caller)
  pub untouched : s.terms.callers ≡ 1 → AreUntouched options s.alone
