use Rattle.rc_ospf.proofs.GroundLaws.{whole_is, whole_of}
use Rattle.rc_ospf.proofs.grounds.Grounds.of.Goals as goal

pub returns-clause-grounds : goal.returns-clause-grounds
returns-clause-grounds g c =
    let net = c.args.net.now in
    let paths = c.in_ok-boundaries.boundaries in
    record {
      whole = whole_of net c.args.links paths c.in_ok-boundaries.ensures;
      is_internal = whole_is net c.args.links paths c.in_ok-boundaries.ensures;
      bare = λ k. record { links = c.args.links; routes = c.new.ensures k; boundaries = paths; own = c.new-2.ensures k };
      interfaces = c.in_ok-interfaces.ensures;
      areas = c.in_ok-areas.ensures;
      walks = c.in_ok-walks.ensures;
    }
