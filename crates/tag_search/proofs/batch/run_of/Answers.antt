-- A word of ones, shifted right to n bits and then left to the place, is the mask of the run.
use Rattle.std.proofs.Common.{count_ones, arith, ap, ◌∙◌}
use Rattle.tag_search.proofs.Runs.{run_shifted, ones-run}
use Rattle.tag_search.proofs.batch.run_of.Goals as goal

pub returns-clause-value : goal.returns-clause-value
returns-clause-value c = let fits = c.requires.fits in run_shifted c.args.n c.args.place (omega arith) fits

pub returns-clause-ones : goal.returns-clause-ones
returns-clause-ones c =
    let fits = c.requires.fits in ap count_ones (run_shifted c.args.n c.args.place (omega arith) fits)
    ∙ ones-run c.args.n c.args.place
