-- Lines `ip access-group` with what they say, by computation.
use Rattle.std.specs.Prelude.{◌≡◌, ◌++◌, refl, ℕ, List, Ok, Err, codes, replicate}
use Rattle.rc_openings.specs.InterfaceOpenings.{interface, interface_forms, interface_refused, interface_ignored}
use Rattle.rc_openings.specs.Opening.{decisive_row}
use Rattle.rc_openings.specs.Reading.{decided}
use Rattle.rc_openings.specs.Words.{words_of}
use Rattle.rc_openings.specs.declared.reading.LineRefusal.TheVariants.{BadValue}
use Rattle.rc_config.specs.Update.{empty}
use Rattle.rc_config.specs.declared.command.Command.TheVariants as command
use Rattle.rc_config.specs.declared.interface.InterfaceLine.TheVariants as interface_line
use Rattle.rc_config.specs.declared.context.OpenBlock.TheVariants as place
use Rattle.rc_config.specs.declared.interface.Direction.TheVariants.{In, Out}
use Rattle.rc_gram_if.specs.Reading.{says}
use Rattle.rc_gram_if.specs.Rows.{Answer}

-- a line in the block of the interface Serial0 says this
abbrev pub Says : List ℕ → Answer → Type 0
Says text answer = says (place.Interface (codes "Serial0")) empty 1 (words_of text) ≡ answer

-- each direction, and a list of any name, which need not be there; a number stands for itself
pub groups :
    Says (codes " ip access-group WEB in") (Ok (command.InterfaceLine (codes "Serial0") (interface_line.AccessGroup (codes "WEB") In)))
    × Says (codes " ip access-group 101 out") (Ok (command.InterfaceLine (codes "Serial0") (interface_line.AccessGroup (codes "101") Out)))
    × Says (codes " ip access-group 005 in") (Ok (command.InterfaceLine (codes "Serial0") (interface_line.AccessGroup (codes "005") In)))
unfolding decided decisive_row interface interface_forms interface_refused interface_ignored words_of
groups = (refl, refl, refl)

-- a name and a direction, and no word more
pub wrong_groups :
    Says (codes " ip access-group") (Err BadValue)
    × Says (codes " ip access-group WEB") (Err BadValue)
    × Says (codes " ip access-group in") (Err BadValue)
    × Says (codes " ip access-group WEB In") (Err BadValue)
    × Says (codes " ip access-group WEB in out") (Err BadValue)
    × Says (codes " ip access-group " ++ (replicate 64 65 ++ codes " in")) (Err BadValue)
unfolding decided decisive_row interface interface_forms interface_refused interface_ignored words_of
wrong_groups = (refl, refl, refl, refl, refl, refl)
