use Rattle.std.proofs.Common.{length, ap, ◌∙◌}
use Rattle.std.proofs.lemmas.Result.{err_from_is_err_and}
use Rattle.rs_packet_property.specs.Properties.{nothing, none_yet, number}
use Rattle.rs_packet_field.specs.Reading.{collect_on, properties_in}
use Rattle.rs_packet_field.proofs.PropertyLoop.{stepped, fails, done, some_left, none_left}
use Rattle.rs_packet_field.proofs.properties.values_in.Goals as goal

pub next-smaller : goal.next-smaller
next-smaller c = c.in_ok-property.ensures.shorter

pub next-preserved : goal.next-preserved
next-preserved c =
    stepped c.args.owner c.next.values c.next.seen c.next.rest (collect_on nothing (properties_in (length c.args.section) c.args.owner none_yet c.args.section)) c.in_ok-property.property c.read_property.new.rest c.put.new.self c.from.result
    c.next.invariant (some_left c.next.rest c.is_empty.result c.is_empty.ensures c.next-test.true) c.in_ok-property.ensures.read c.in_ok-property.ensures.shorter c.in_ok-put.ensures
    (c.from.ensures ∙ c.number.ensures.value ∙ ap number c.identifier.ensures)

pub returns : goal.returns
returns c =
    done c.args.owner c.next.values c.next.seen c.next.rest (collect_on nothing (properties_in (length c.args.section) c.args.owner none_yet c.args.section)) c.next.invariant
    (none_left c.next.rest c.is_empty.result c.is_empty.ensures c.next-test.false)

pub returns-in_err-property : goal.returns-in_err-property
returns-in_err-property c =
    let p = err_from_is_err_and c.from_residual.result c.from_residual.ensures.1 in
    rw (p.1, p.2) (fails c.args.owner c.next.values c.next.seen c.next.rest (collect_on nothing (properties_in (length c.args.section) c.args.owner none_yet c.args.section)) c.in_err-property.field-0.0
    c.next.invariant (some_left c.next.rest c.is_empty.result c.is_empty.ensures c.next-test.true) c.in_err-property.ensures.read)
