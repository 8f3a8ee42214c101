-- The command line: the subcommands, and the options of each with their defaults.
use Rattle.std.specs.Prelude.{◌≡◌, ◌⊎◌, Option, List, [], ◌∷◌, Some, codes, pos, true, false}
use Rattle.clap.specs.Words.{App, Row, Rule, Shape, Text, new_rule}
use Rattle.clap.specs.Simple.{new_shape}
use Rattle.clap.specs.declared.builder.action.ArgAction.TheVariants.{SetTrue}
use Rattle.clap.specs.declared.builder.value_parser.ValueParser.TheVariants.{Signed, Unsigned}

-- an option `--name N` with a number of 32 bits
abbrev pub number : Text → Rule
number name = record (new_rule name) {
  long = Some name;
  value_names = 1;
  parser = Some (Signed (pos 0) (pos 4294967295));
}

-- one that has to be given
abbrev pub required : Text → Rule
required name = record (number name) { required = true }

-- one that has this value if it is not given
abbrev pub defaulted : Text → Text → Rule
defaulted name value = record (number name) { defaults = value ∷ [] }

-- an option with a number of 64 bits and a default
abbrev pub long_defaulted : Text → Text → Rule
long_defaulted name value = record (defaulted name value) { parser = Some (Unsigned 0 18446744073709551615) }

-- a flag `--name`
abbrev pub flag : Text → Rule
flag name = record (new_rule name) { long = Some name; action = Some SetTrue }

-- `script`
abbrev pub script : Shape
script = record (new_shape (codes "script")) {
  rules = required (codes "tags") ∷ defaulted (codes "reserved") (codes "0") ∷ number (codes "shift")
      ∷ flag (codes "round-robin") ∷ number (codes "min-shallow") ∷ defaulted (codes "callers") (codes "1")
      ∷ long_defaulted (codes "life") (codes "281474976710656") ∷ flag (codes "plain") ∷ [];
}

-- `check`
abbrev pub check : Shape
check = record (new_shape (codes "check")) {
  rules = required (codes "tags") ∷ number (codes "shift") ∷ defaulted (codes "callers") (codes "1") ∷ [];
}

-- `play`
abbrev pub play : Shape
play = record (new_shape (codes "play")) {
  rules = required (codes "tags") ∷ defaulted (codes "reserved") (codes "0") ∷ number (codes "shift")
      ∷ defaulted (codes "submitters") (codes "1") ∷ defaulted (codes "completers") (codes "1")
      ∷ defaulted (codes "queue") (codes "64") ∷ flag (codes "with-times") ∷ [];
}

-- the program: one of its subcommands is required, and it has a version
abbrev pub command_line : App
command_line = record {
  top = record (new_shape (codes "tagplay")) { is_leaf = false; has_version = true; subcommand_required = true };
  subs = script ∷ check ∷ play ∷ [];
}

-- a parse entered the subcommand of this name
abbrev pub Enters : Option (Text × List Row) → Text → Type 0
Enters entered name = (rows : List Row) × (entered ≡ Some (name, rows))

-- a parse entered one of the three subcommands
abbrev pub EntersOne : Option (Text × List Row) → Type 0
EntersOne entered = Enters entered script.name ⊎ (Enters entered check.name ⊎ Enters entered play.name)
