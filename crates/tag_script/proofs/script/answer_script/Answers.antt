-- Each text is that of the first malformed line, of a refused setup, or of a run of the orders.
use Rattle.tag_script.proofs.Uses.{All, answered, ap, dialect_of, faulty, faulty_text, IsRefusedSetup, IsTold, List, Order, Owed, refused, setup_text, subst, sym, ℕ, ◌∙◌}
use Rattle.std.proofs.Common.{◌≡◌}
use Rattle.tag_lines.specs.declared.dialect.Dialect.{Dialect}
use Rattle.tag_lines.specs.declared.fault.ListFault.{ListFault}
use Rattle.tag_lines.specs.Readings.{AreReadings, IsFirstFaulty, IsListFault}
use Rattle.tag_lines.specs.Faults.{place_of}
use Rattle.tag_lines.specs.ScriptLines.{order_of, IsOrderOf}
use Rattle.tag_lines.proofs.KnownFacts.{orders_known}
use Rattle.tag_script.specs.declared.ending.Ending.TheVariants.{Refused}
use Rattle.tag_script.specs.declared.fault.OpenFault.{OpenFault}
use Rattle.tag_script.specs.Setups.{IsOpenFault}
use Rattle.tag_script.proofs.script.answer_script.Goals as goal

pub returns-in-Err-Faulty : goal.returns-in-Err-Faulty
returns-in-Err-Faulty g c =
    let fault = c.in-Err-Faulty.fault in let o = c.args.options.now in let script = c.args.script.now in
    let text_is = c.in_ok-text-in-Err-Faulty.ensures ∙ ap faulty_text c.in-Err-Faulty.fault-is in
    let first = subst (λ (f : ListFault). IsListFault (order_of c.dialect.result o.callers) script f)
    c.in-Err-Faulty.field-0-is
    c.in-Err-Faulty.ensures.fault in
    let of_kind = subst (λ (d : Dialect). IsFirstFaulty (order_of d o.callers) script fault) c.dialect.ensures first in
    let place : c.refusal.result.place ≡ place_of fault = c.refusal.ensures ∙ ap place_of c.in-Err-Faulty.fault-is in
    subst (λ (t : List ℕ). Owed o script t (Refused c.refusal.result)) (sym text_is)
    (faulty fault (Refused c.refusal.result) of_kind place)

pub carry_out-requires-clause-known : goal.carry_out-requires-clause-known
carry_out-requires-clause-known g c =
    let o = c.args.options.now in let orders : List Order = c.in-Ok.orders.items in
    let known = orders_known c.dialect.result o.callers c.args.script.now orders c.in-Ok.ensures.orders in
    let of_kind = subst (λ (d : Dialect). All (IsOrderOf d o.callers) orders) c.dialect.ensures known in
    subst (λ (os : List Order). All (IsOrderOf (dialect_of o.plain) o.callers) os) (sym c.deref.ensures.value) of_kind

pub returns-in-Ok-carry_out : goal.returns-in-Ok-carry_out
returns-in-Ok-carry_out g c =
    let o = c.args.options.now in let script = c.args.script.now in
    let orders : List Order = c.in-Ok.orders.items in let text : List ℕ = c.in-Ok-carry_out.text.items in
    let says = subst (λ (d : Dialect). AreReadings (order_of d o.callers) script orders) c.dialect.ensures
    c.in-Ok.ensures.orders in
    answered orders text says (subst (λ (os : List Order). IsTold o.plain o os text) c.deref.ensures.value
    c.in-Ok-carry_out.ensures.told)

pub returns : goal.returns
returns g c =
    let fault = c.in-Err-Setup.fault in let o = c.args.options.now in let script = c.args.script.now in
    let orders : List Order = c.in-Ok.orders.items in
    let text_is = c.in_ok-text-in-Err-Setup.ensures ∙ ap setup_text c.in-Err-Setup.fault-is in
    let says = subst (λ (d : Dialect). AreReadings (order_of d o.callers) script orders) c.dialect.ensures
    c.in-Ok.ensures.orders in
    let why = subst (λ (f : OpenFault). IsOpenFault (IsRefusedSetup o.plain o) f) c.in-Err-Setup.field-0-is
    c.in-Err-Setup.ensures.fault in
    subst (λ (t : List ℕ). Owed o script t (Refused c.setup_refusal.result)) (sym text_is)
    (refused orders fault (Refused c.setup_refusal.result) says why c.setup_refusal.ensures)
