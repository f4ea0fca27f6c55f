use Rattle.std.proofs.Common.{◌∙◌, subst, IfSome}
use Rattle.rc_rounds.specs.AtAddress.{IsFirstState}
use Rattle.rc_rounds.proofs.KnownLaws.{known, own_at}
use Rattle.rc_rounds.proofs.at_address.known_at.Goals as goal

pub first_state-requires-clause-setting : goal.first_state-requires-clause-setting
first_state-requires-clause-setting g c κs within = record {
  lawful = c.requires.lawful;
  routes = c.in_ok-internal.ensures.in_order;
  own = own_at c.args.net.now c.in_ok-internal.internal c.args.address c.in_ok-internal.ensures.internal;
  sessions = c.in_ok-sessions.ensures;
}

pub returns-in-Some : goal.returns-in-Some
returns-in-Some g c =
    let net = c.args.net.now in
    let internal = c.in_ok-internal.internal in
    let own = c.in_ok-internal.ensures.links ∙ c.in_ok-links.ensures in
    let first = subst (λ o. IfSome o (IsFirstState net internal)) c.in-Some.is c.in_ok-found.ensures in
    known net internal c.args.address c.into_links.result c.in-Some.state own (c.into_links.ensures ∙ own) c.in_ok-internal.ensures.internal (c.all_read_nothing.ensures c.if-not-all_read_nothing.false) first
