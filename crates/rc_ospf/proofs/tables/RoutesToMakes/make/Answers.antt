use Rattle.std.proofs.Common.{All}
use Rattle.rc_ospf.specs.Members.{table_of}
use Rattle.rc_ospf.specs.Routes.{IsShortRoute}
use Rattle.rc_shares.proofs.MakingLaws.{is_given}
use Rattle.rc_ospf.proofs.tables.RoutesToMakes.make.Goals as goal

pub returns : goal.returns
returns c = is_given (table_of c.args.self.now.destinations.now) (All IsShortRoute) c.args.member.now c.routes_of.result c.routes_of.ensures.value c.routes_of.ensures.short
