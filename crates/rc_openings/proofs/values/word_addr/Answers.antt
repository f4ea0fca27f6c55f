use Rattle.std.proofs.Common.{Some, sym, ap, ◌∙◌}
use Rattle.rc_openings.specs.Values.{address_of_octets}
use Rattle.rc_openings.proofs.AddressLemmas.{by_octets}
use Rattle.rc_openings.proofs.values.word_addr.Goals as goal

pub returns-in-Some-octet_value : goal.returns-in-Some-octet_value
returns-in-Some-octet_value c =
    let first = c.in-Some in
    let second = c.in-Some-octet_and_rest in
    let third = c.in-Some-octet_and_rest-2 in
    let address = by_octets c.args.word.now first.rest.now second.rest.now third.rest.now first.first second.second third.third first.ensures.value second.ensures.value third.ensures.value in
    sym (address ∙ ap (address_of_octets (Some first.first) (Some second.second) (Some third.third)) (sym c.in-Some-octet_value.ensures.value) ∙ ap Some (sym c.new.ensures))

pub returns-in-None : goal.returns-in-None
returns-in-None c =
    let first = c.in-Some in
    let second = c.in-Some-octet_and_rest in
    let third = c.in-Some-octet_and_rest-2 in
    let address = by_octets c.args.word.now first.rest.now second.rest.now third.rest.now first.first second.second third.third first.ensures.value second.ensures.value third.ensures.value in
    sym (address ∙ ap (address_of_octets (Some first.first) (Some second.second) (Some third.third)) (sym c.in-None.ensures.value))
