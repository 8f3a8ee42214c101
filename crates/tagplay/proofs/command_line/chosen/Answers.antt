-- What the parse of the command line says holds of the words, since the command is that command line.
use Rattle.std.proofs.Common.{Err, Ok, map, refl}
use Rattle.clap.specs.Words.{app_of, kind_of, subcommand_rows_of}
use Rattle.clap.specs.declared.parser.matches.ArgMatches.{ArgMatches}
use Rattle.tagplay.proofs.Choosing.{chooses, fails_by, one_entered, rows_by, stops_before}
use Rattle.tagplay.proofs.command_line.chosen.Goals as goal

pub unreachable-requires : goal.unreachable-requires
unreachable-requires g c =
    let words = map g.S.AsStr.text c.args.words.now in
    let app = app_of c.in-Ok.command in
    let parse = c.in-Ok-try_get_matches_from in
    one_entered words (subcommand_rows_of parse.matches)
    (fails_by app words (Ok parse.matches) c.in-Ok.ensures parse.ensures.kinds)
    (rows_by app words parse.matches c.in-Ok.ensures parse.ensures.matches) (c.in-None.ensures.none refl)

pub returns-in-Some-clause-chosen : goal.returns-in-Some-clause-chosen
returns-in-Some-clause-chosen g c =
    let words = map g.S.AsStr.text c.args.words.now in
    let app = app_of c.in-Ok.command in
    let parse = c.in-Ok-try_get_matches_from in
    chooses words (subcommand_rows_of parse.matches) c.in-Some.subcommand
    (fails_by app words (Ok parse.matches) c.in-Ok.ensures parse.ensures.kinds)
    (rows_by app words parse.matches c.in-Ok.ensures parse.ensures.matches) c.in-Some.ensures.named

pub returns-in-Err-clause-stopped : goal.returns-in-Err-clause-stopped
returns-in-Err-clause-stopped g c =
    let words = map g.S.AsStr.text c.args.words.now in
    stops_before words (kind_of c.in-Err.error) c.shown.result
    (fails_by {T = ArgMatches} (app_of c.in-Ok.command) words (Err c.in-Err.error) c.in-Ok.ensures
    c.in-Err.ensures.kinds)
    c.shown.ensures
