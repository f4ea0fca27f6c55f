-- Lines `ip route` with what they say, by computation.
use Rattle.std.specs.Prelude.{◌≡◌, refl, ℕ, List, Ok, Err, codes}
use Rattle.rc_base.specs.Addr.{mask_len}
use Rattle.rc_openings.specs.GlobalOpenings.{global, global_forms, global_refused, global_ignored}
use Rattle.rc_openings.specs.Opening.{decisive_row}
use Rattle.rc_openings.specs.Reading.{decided}
use Rattle.rc_openings.specs.Words.{words_of}
use Rattle.rc_openings.specs.declared.reading.LineRefusal.TheVariants.{Unsupported, BadValue}
use Rattle.rc_config.specs.Update.{empty}
use Rattle.rc_config.specs.declared.command.Command.TheVariants as command
use Rattle.rc_config.specs.declared.context.OpenBlock.TheVariants as place
use Rattle.rc_config.specs.declared.static_route.Target.{Target}
use Rattle.rc_config.specs.declared.static_route.Target.TheVariants as target
use Rattle.rc_gram_if.specs.Reading.{says}
use Rattle.rc_gram_if.specs.Rows.{Answer}

-- a line without indent says this
abbrev pub Says : List ℕ → Answer → Type 0
Says text answer = says place.Global empty 1 (words_of text) ≡ answer

-- the route to 10.1.0.0/16 with this target and distance
abbrev pub route : Target → ℕ → Answer
route to distance = Ok (command.StaticRoute (record { prefix = record { network = 0x0a010000; len = 16 }; target = to; distance = distance }))

-- host bits are cleared, and the mask of no ones is one
pub prefixes :
    Says (codes "ip route 10.1.2.3 255.255.0.0 Null0") (route target.Null 1)
    × Says (codes "ip route 10.1.2.3 0.0.0.0 10.0.0.1") (Ok (command.StaticRoute (record { prefix = record { network = 0; len = 0 }; target = target.Via 0x0a000001; distance = 1 })))
    × Says (codes "ip route 10.1.2.3 255.255.255.255 Null0") (Ok (command.StaticRoute (record { prefix = record { network = 0x0a010203; len = 32 }; target = target.Null; distance = 1 })))
    × Says (codes "ip route 10.1.2.3 255.0.255.0 Null0") (Err BadValue)
    × Says (codes "ip route 10.1.2 255.255.0.0 Null0") (Err BadValue)
    × Says (codes "ip route 10.1.2.3 255.255.0.0") (Err BadValue)
    × Says (codes "ip route") (Err BadValue)
unfolding decided decisive_row global global_forms global_refused global_ignored words_of mask_len
prefixes = (refl, refl, refl, refl, refl, refl, refl)

-- the target: a gateway, `Null0`, an interface or both; the letters of `Null0` count, and an interface begins with one
pub targets :
    Says (codes "ip route 10.1.2.3 255.255.0.0 10.0.0.1 20") (route (target.Via 0x0a000001) 20)
    × Says (codes "ip route 10.1.2.3 255.255.0.0 Serial0 20") (route (target.Dev (codes "Serial0")) 20)
    × Says (codes "ip route 10.1.2.3 255.255.0.0 Serial0 10.0.0.1 20") (route (target.ViaDev 0x0a000001 (codes "Serial0")) 20)
    × Says (codes "ip route 10.1.2.3 255.255.0.0 null0") (route (target.Dev (codes "null0")) 1)
    × Says (codes "ip route 10.1.2.3 255.255.0.0 Null0 10.0.0.1") (Err BadValue)
    × Says (codes "ip route 10.1.2.3 255.255.0.0 10.0.0.1 Serial0") (Err BadValue)
    × Says (codes "ip route 10.1.2.3 255.255.0.0 Serial0 10.0.0.1 10.0.0.2") (Err BadValue)
    × Says (codes "ip route 10.1.2.3 255.255.0.0 Serial0 10.0.0.256") (Err BadValue)
    × Says (codes "ip route 10.1.2.3 255.255.0.0 0Serial") (Err BadValue)
unfolding decided decisive_row global global_forms global_refused global_ignored words_of mask_len
targets = (refl, refl, refl, refl, refl, refl, refl, refl, refl)

-- without a target `name` and `tag` are interfaces
pub options_alone :
    Says (codes "ip route 10.1.2.3 255.255.0.0 name 5") (route (target.Dev (codes "name")) 5)
    × Says (codes "ip route 10.1.2.3 255.255.0.0 name x") (Err BadValue)
    × Says (codes "ip route 10.1.2.3 255.255.0.0 name name x tag 7") (route (target.Dev (codes "name")) 1)
    × Says (codes "ip route 10.1.2.3 255.255.0.0 tag 5") (route (target.Dev (codes "tag")) 5)
unfolding decided decisive_row global global_forms global_refused global_ignored words_of mask_len
options_alone = (refl, refl, refl, refl)

-- options in any order, each at most once; a distance from 1 to 255, a tag below 2^32, any word as a name
pub options :
    Says (codes "ip route 10.1.2.3 255.255.0.0 Null0 255 name x tag 0") (route target.Null 255)
    × Says (codes "ip route 10.1.2.3 255.255.0.0 Null0 tag 4294967295 1 name tag") (route target.Null 1)
    × Says (codes "ip route 10.1.2.3 255.255.0.0 Null0 name 7 tag 8 9") (route target.Null 9)
    × Says (codes "ip route 10.1.2.3 255.255.0.0 Null0 name track") (route target.Null 1)
    × Says (codes "ip route 10.1.2.3 255.255.0.0 Null0 0") (Err BadValue)
    × Says (codes "ip route 10.1.2.3 255.255.0.0 Null0 256") (Err BadValue)
    × Says (codes "ip route 10.1.2.3 255.255.0.0 Null0 5 5") (Err BadValue)
    × Says (codes "ip route 10.1.2.3 255.255.0.0 Null0 name x name x") (Err BadValue)
    × Says (codes "ip route 10.1.2.3 255.255.0.0 Null0 tag 7 tag 7") (Err BadValue)
    × Says (codes "ip route 10.1.2.3 255.255.0.0 Null0 name") (Err BadValue)
    × Says (codes "ip route 10.1.2.3 255.255.0.0 Null0 tag") (Err BadValue)
    × Says (codes "ip route 10.1.2.3 255.255.0.0 Null0 tag 4294967296") (Err BadValue)
unfolding decided decisive_row global global_forms global_refused global_ignored words_of mask_len
options = (refl, refl, refl, refl, refl, refl, refl, refl, refl, refl, refl, refl)

-- a line that fits no row and has a refused word isn't modelled; `vrf` begins another opening
pub refused :
    Says (codes "ip route 10.1.2.3 255.255.0.0 10.0.0.1 track 1") (Err Unsupported)
    × Says (codes "ip route 10.1.2.3 255.255.0.0 10.0.0.1 5 permanent") (Err Unsupported)
    × Says (codes "ip route 10.1.2.3 255.255.0.0 10.0.0.1 global") (Err Unsupported)
    × Says (codes "ip route 10.1.2.3 255.255.0.0 10.0.0.1 multicast") (Err Unsupported)
    × Says (codes "ip route 10.1.2.3 255.255.0.0 dhcp") (Err Unsupported)
    × Says (codes "ip route 10.1.2.3 255.255.0.0 Serial0 dhcp 250") (Err Unsupported)
    × Says (codes "ip route 10.1.2.3 255.0.255.0 track") (Err Unsupported)
    × Says (codes "ip route vrf RED 10.1.2.3 255.255.0.0 Null0") (Err Unsupported)
unfolding decided decisive_row global global_forms global_refused global_ignored words_of mask_len
refused = (refl, refl, refl, refl, refl, refl, refl, refl)
