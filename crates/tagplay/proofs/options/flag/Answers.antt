-- The flag is read as it was given.
use Rattle.clap.specs.Words.{found_of}
use Rattle.tagplay.proofs.Reading.{flagged}
use Rattle.tagplay.proofs.options.flag.Goals as goal

pub returns : goal.returns
returns c = flagged (found_of c.args.matches.now) c.args.id.now c.get_flag.result c.get_flag.ensures.none
    c.get_flag.ensures.value c.get_flag.ensures.other
