use Rattle.std.proofs.Common.{◌∙◌, ap, sym, subst}
use Rattle.rc_bgp.specs.Reaching.{metric_to}
use Rattle.rc_bgp.specs.Ways.{AreWays}
use Rattle.rc_bgp.proofs.WayLaws.{found_way, noted_ways}
use Rattle.rc_bgp.proofs.resolver.Resolver.metric_to.Goals as goal

pub invariant_of-self-in-None : goal.invariant_of-self-in-None
invariant_of-self-in-None c =
    let table = c.self.inside.table in
    record {
      in_order = c.self.invariant.in_order;
      noted = subst (AreWays table) (sym c.in_ok-note-in-None.ensures.ok)
          (noted_ways table (record { addr = c.args.addr; metric = c.in_ok-metric-in-None.metric }) c.self.inside.known c.self.invariant.noted c.in_ok-metric-in-None.ensures);
    }

pub returns-in-Some-clause-value : goal.returns-in-Some-clause-value
returns-in-Some-clause-value c =
    found_way c.self.inside.table c.self.inside.known c.args.addr c.in-Some.metric c.self.invariant.noted c.in-Some.ensures ∙ ap (λ t. metric_to t c.args.addr) c.self.view_is
