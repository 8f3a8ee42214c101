-- The port added the steps of the visit to its caller. They determine what it gains, and what its sweeps freed.
use Rattle.std.proofs.Common.{rules}
use Rattle.tag_search.proofs.Uses.{None, Some}
use Rattle.tag_search.proofs.ExactGets.{exact_got, exact_left, exact_made}
use Rattle.tag_search.proofs.on_map.get_exactly.Goals as goal

pub returns-in-Some : goal.returns-in-Some
returns-in-Some g c =
    let visit = c.in-Some.ensures.visit in let lent = c.new-port.ensures.lent in let kept = visit.added.lent in
    let got = exact_got c.args.map.now c.args.caller.now c.new-port.result c.visit-won.new.port c.new-port.ensures.map
    c.new-port.ensures.caller c.requires.caller c.layout-layout.result c.layout-layout.ensures c.args.tag c.word_of.result
    c.place_of-place.result c.requires.tag c.word_of.ensures.value c.place_of-place.ensures.value
    (Some c.in-Some.field-0) visit in
    let made = exact_made c.args.map.now c.args.caller.now c.new-port.result c.visit-won.new.port c.new-port.ensures.map
    c.new-port.ensures.caller c.requires.caller c.layout-layout.result c.layout-layout.ensures c.args.tag c.word_of.result
    c.place_of-place.result c.requires.tag c.word_of.ensures.value c.place_of-place.ensures.value
    (Some c.in-Some.field-0) visit in
    let left = exact_left c.args.map.now c.args.caller.now c.new-port.result c.visit-won.new.port c.new-port.ensures.map
    c.new-port.ensures.caller c.requires.caller c.layout-layout.result c.layout-layout.ensures c.args.tag c.word_of.result
    c.place_of-place.result c.requires.tag c.word_of.ensures.value c.place_of-place.ensures.value
    (Some c.in-Some.field-0) visit c.left-left.result c.left-left.ensures c.new-port.ensures.freed in
    let gains = got.gains in record {
      caller = search rules;
      room = search rules;
      gains = search rules;
      steps = search rules;
      alone = λ one. (let chooses = got.alone one in search rules);
      left = search rules;
      err = search rules;
    }

pub returns-in-None : goal.returns-in-None
returns-in-None g c =
    let visit = c.in-None.ensures.visit in let lent = c.new-port.ensures.lent in let kept = visit.added.lent in
    let got = exact_got c.args.map.now c.args.caller.now c.new-port.result c.visit-won.new.port c.new-port.ensures.map
    c.new-port.ensures.caller c.requires.caller c.layout-layout.result c.layout-layout.ensures c.args.tag c.word_of.result
    c.place_of-place.result c.requires.tag c.word_of.ensures.value c.place_of-place.ensures.value
    None visit in
    let made = exact_made c.args.map.now c.args.caller.now c.new-port.result c.visit-won.new.port c.new-port.ensures.map
    c.new-port.ensures.caller c.requires.caller c.layout-layout.result c.layout-layout.ensures c.args.tag c.word_of.result
    c.place_of-place.result c.requires.tag c.word_of.ensures.value c.place_of-place.ensures.value
    None visit in
    let left = exact_left c.args.map.now c.args.caller.now c.new-port.result c.visit-won.new.port c.new-port.ensures.map
    c.new-port.ensures.caller c.requires.caller c.layout-layout.result c.layout-layout.ensures c.args.tag c.word_of.result
    c.place_of-place.result c.requires.tag c.word_of.ensures.value c.place_of-place.ensures.value
    None visit c.left-left.result c.left-left.ensures c.new-port.ensures.freed in
    let gains = got.gains in record {
      caller = search rules;
      room = search rules;
      gains = search rules;
      steps = search rules;
      alone = λ one. (let chooses = got.alone one in search rules);
      left = search rules;
      err = search rules;
    }
