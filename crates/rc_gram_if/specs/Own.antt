-- The commands of this grammar.
use Rattle.rc_config.specs.declared.command.Command.{Command}
use Rattle.rc_config.specs.declared.command.Command.TheVariants.{Passed, Remark, Hostname, Interface, InterfaceLine, StaticRoute, ListLine, MapOpened, MapLine, OspfOpened, OspfLine, BgpOpened, BgpLine, FamilyOpened, OtherFamilyOpened, FamilyClosed}
use Rattle.rc_config.specs.Lawful.{IsInRange}

-- values are in range, and no list, route map, OSPF process or BGP process is opened or gets a line
abbrev pub IsOwn : Command → Type 0
IsOwn Passed = IsInRange Passed
IsOwn Remark = IsInRange Remark
IsOwn (Hostname name line) = IsInRange (Hostname name line)
IsOwn (Interface name line) = IsInRange (Interface name line)
IsOwn (InterfaceLine name line) = IsInRange (InterfaceLine name line)
IsOwn (StaticRoute route) = IsInRange (StaticRoute route)
IsOwn (ListLine list line) = ⊥
IsOwn (MapOpened map n action) = ⊥
IsOwn (MapLine map n line) = ⊥
IsOwn (OspfOpened process) = ⊥
IsOwn (OspfLine line) = ⊥
IsOwn (BgpOpened asn) = ⊥
IsOwn (BgpLine line) = ⊥
IsOwn FamilyOpened = ⊥
IsOwn OtherFamilyOpened = ⊥
IsOwn FamilyClosed = ⊥
