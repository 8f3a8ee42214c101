-- The options of a subcommand, by the text that a parse has for each.
use Rattle.std.specs.Prelude.{◌≡◌, ℕ, ◌<◌, ◌^◌, Bool, true, false, List, Option, Some, None, codes}
use Rattle.std.specs.Str.Parse.{IsNumeral, digits_value, without_leading_plus}
use Rattle.clap.specs.Words.{Row, Text, one_of}
use Rattle.loop_device.specs.declared.setup.Setup.{Setup}
use Rattle.tag_runs.specs.declared.options.PlayOptions.{PlayOptions}
use Rattle.tag_script.specs.declared.options.CheckOptions.{CheckOptions}
use Rattle.tag_script.specs.declared.options.ScriptOptions.{ScriptOptions}

-- the text is a number of at most so many bits, in decimal digits
pub record Spells (bits : ℕ) (text : Text) (number : ℕ) : Type 0 where
  pub numeral : IsNumeral 10 (without_leading_plus text)
  pub value : digits_value 10 (without_leading_plus text) ≡ number
  pub fits : number < 2 ^ bits

-- the number is that of the option's text, or the default if there is no text
pub record IsNumber (bits : ℕ) (rows : List Row) (id : Text) (default number : ℕ) : Type 0 where
  pub none : one_of id rows ≡ None → number ≡ default
  pub some : (text : Text) (spelled : ℕ) → one_of id rows ≡ Some text → Spells bits text spelled → number ≡ spelled

-- the number is that of the option's text, and there is none if there is no text
pub record IsOptional (bits : ℕ) (rows : List Row) (id : Text) (number : Option ℕ) : Type 0 where
  pub none : one_of id rows ≡ None → number ≡ None
  pub some : (text : Text) (spelled : ℕ) → one_of id rows ≡ Some text → Spells bits text spelled → number ≡ Some spelled

-- the flag is what the option's text says, and not set if there is no text
pub record IsFlag (rows : List Row) (id : Text) (flag : Bool) : Type 0 where
  pub none : one_of id rows ≡ None → flag ≡ false
  pub set : one_of id rows ≡ Some (codes "true") → flag ≡ true
  pub unset : one_of id rows ≡ Some (codes "false") → flag ≡ false

-- the options of `script`
pub record AreScriptOptions (rows : List Row) (o : ScriptOptions) : Type 0 where
  pub tags : IsNumber 32 rows (codes "tags") 0 o.tags
  pub reserved : IsNumber 32 rows (codes "reserved") 0 o.reserved
  pub shift : IsOptional 32 rows (codes "shift") o.shift
  pub round_robin : IsFlag rows (codes "round-robin") o.round_robin
  pub min_shallow : IsOptional 32 rows (codes "min-shallow") o.min_shallow
  pub callers : IsNumber 32 rows (codes "callers") 1 o.callers
  pub life : IsNumber 64 rows (codes "life") (2 ^ 48) o.life
  pub plain : IsFlag rows (codes "plain") o.plain

-- the options of `check`
pub record AreCheckOptions (rows : List Row) (o : CheckOptions) : Type 0 where
  pub tags : IsNumber 32 rows (codes "tags") 0 o.tags
  pub shift : IsOptional 32 rows (codes "shift") o.shift
  pub callers : IsNumber 32 rows (codes "callers") 1 o.callers

-- the numbers of `play`
pub record IsSetup (rows : List Row) (o : Setup) : Type 0 where
  pub tags : IsNumber 32 rows (codes "tags") 0 o.total
  pub reserved : IsNumber 32 rows (codes "reserved") 0 o.reserved
  pub shift : IsOptional 32 rows (codes "shift") o.shift
  pub submitters : IsNumber 32 rows (codes "submitters") 1 o.submitters
  pub completers : IsNumber 32 rows (codes "completers") 1 o.completers
  pub queue : IsNumber 32 rows (codes "queue") 64 o.queue

-- the options of `play`
pub record ArePlayOptions (rows : List Row) (o : PlayOptions) : Type 0 where
  pub setup : IsSetup rows o.setup
  pub with_times : IsFlag rows (codes "with-times") o.with_times
