-- The number is read as `u64` reads it.
use Rattle.std.specs.Str.Parse.{ParsesUnsigned, ExplainsUnsignedError, HasUnsignedDigitsIfOk}
use Rattle.clap.specs.Words.{found_of}
use Rattle.tagplay.proofs.Reading.{optional}
use Rattle.tagplay.proofs.options.long_number.Goals as goal

pub returns : goal.returns
returns c = optional _ (λ text r. ParsesUnsigned 64 10 text r × ExplainsUnsignedError 10 text r × HasUnsignedDigitsIfOk text r)
    64 (found_of c.args.matches.now) c.args.id.now c.get_one.result (λ text r g. g.0) c.get_one.ensures.none
    c.get_one.ensures.value
