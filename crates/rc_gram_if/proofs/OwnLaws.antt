-- A command of this grammar is in range, and fits each file.
use Rattle.std.specs.Prelude.{Result, Ok, Err, IfOk}
use Rattle.rc_openings.specs.declared.reading.LineError.{LineError}
use Rattle.rc_config.specs.declared.command.Command.{Command}
use Rattle.rc_config.specs.declared.command.Command.TheVariants.{Passed, Remark, Hostname, Interface, InterfaceLine, StaticRoute, ListLine, MapOpened, MapLine, OspfOpened, OspfLine, BgpOpened, BgpLine, FamilyOpened, OtherFamilyOpened, FamilyClosed}
use Rattle.rc_config.specs.declared.router_text.RouterText.{RouterText}
use Rattle.rc_config.specs.Lawful.{FitsFile, IsInRange}
use Rattle.rc_gram_if.specs.Own.{IsOwn}

pub range-of : (c : Command) → IsOwn c → IsInRange c
range-of Passed h = h
range-of Remark h = h
range-of (Hostname name line) h = h
range-of (Interface name line) h = h
range-of (InterfaceLine name line) h = h
range-of (StaticRoute route) h = h
range-of (ListLine list line) h = absurd h
range-of (MapOpened map n action) h = absurd h
range-of (MapLine map n line) h = absurd h
range-of (OspfOpened process) h = absurd h
range-of (OspfLine line) h = absurd h
range-of (BgpOpened asn) h = absurd h
range-of (BgpLine line) h = absurd h
range-of FamilyOpened h = absurd h
range-of OtherFamilyOpened h = absurd h
range-of FamilyClosed h = absurd h

pub fits-of : (file : RouterText) (c : Command) → IsOwn c → FitsFile file c
fits-of file Passed h = tt
fits-of file Remark h = tt
fits-of file (Hostname name line) h = tt
fits-of file (Interface name line) h = tt
fits-of file (InterfaceLine name line) h = tt
fits-of file (StaticRoute route) h = tt
fits-of file (ListLine list line) h = absurd h
fits-of file (MapOpened map n action) h = absurd h
fits-of file (MapLine map n line) h = absurd h
fits-of file (OspfOpened process) h = absurd h
fits-of file (OspfLine line) h = absurd h
fits-of file (BgpOpened asn) h = absurd h
fits-of file (BgpLine line) h = absurd h
fits-of file FamilyOpened h = absurd h
fits-of file OtherFamilyOpened h = absurd h
fits-of file FamilyClosed h = absurd h

pub own-range : (r : Result Command LineError) → IfOk r IsOwn → IfOk r IsInRange
own-range (Ok c) h = range-of c h
own-range (Err e) h = h

pub own-fits : (file : RouterText) (r : Result Command LineError) → IfOk r IsOwn → IfOk r (FitsFile file)
own-fits file (Ok c) h = fits-of file c h
own-fits file (Err e) h = h
