-- The index is that of the first name with these bytes.
use Rattle.std.proofs.Common.{◌∙◌, sym, rules, tests}
use Rattle.std.specs.Str.{bytes_eq}
use Rattle.std.proofs.lemmas.Iterator.{YieldsList-from_slice}
use Rattle.std.proofs.lemmas.Iterator.Search.{position_from_yields_List}
use Rattle.loop_device.proofs.LogWords.{position-map}
use Rattle.loop_device.proofs.log_line.index_of.Goals as goal

pub returns-in_err-index : goal.returns-in_err-index
returns-in_err-index c =
    let found = position_from_yields_List
    (λ known. bytes_eq known.items c.args.name.now) _ _ c.position.result c.position.ensures.ran
    (YieldsList-from_slice c.args.names.now c.iter.ensures.rest) (λ x b q k. search (rules, tests)) in
    c.from_residual.ensures ∙ sym c.in_err-index.was ∙ found
    ∙ sym (position-map (λ known. known.items) (λ known. bytes_eq known c.args.name.now) c.args.names.now)

pub returns : goal.returns
returns c =
    let found = position_from_yields_List
    (λ known. bytes_eq known.items c.args.name.now) _ _ c.position.result c.position.ensures.ran
    (YieldsList-from_slice c.args.names.now c.iter.ensures.rest) (λ x b q k. search (rules, tests)) in
    sym c.in_ok-index.was ∙ found
    ∙ sym (position-map (λ known. known.items) (λ known. bytes_eq known c.args.name.now) c.args.names.now)
