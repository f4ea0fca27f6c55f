-- Worked cases of which routers one reads, each by computation: three routers, of which one case alone brings in another.
use Rattle.std.specs.Prelude.{◌≡◌, ℕ, true, false, List, [], ◌∷◌, Some, None, codes, refl}
use Rattle.rc_bgp_session.specs.Nets.{ip, gigabit, gigabit_1, loopback, on, peer, process, router, three}
use Rattle.rc_config.specs.Bgp.{fresh as no_lines_about, with_own}
use Rattle.rc_config.specs.Ospf.{no_lines}
use Rattle.rc_config.specs.Update.{empty}
use Rattle.rc_config.specs.declared.bgp.Neighbor.{Neighbor}
use Rattle.rc_config.specs.declared.bgp.NeighborSetting.TheVariants.{Shutdown}
use Rattle.rc_config.specs.declared.interface.Interface.{Interface}
use Rattle.rc_config.specs.declared.network.Network.{Network}
use Rattle.rc_config.specs.declared.ospf.OspfProcess.{OspfProcess}
use Rattle.rc_config.specs.declared.ospf.RedistributedSource.TheVariants.{Connected}
use Rattle.rc_config.specs.declared.router_text.RouterText.{RouterText}
use Rattle.rc_reads.specs.Reads.{reads}

-- what the three routers read
abbrev Gives : Network → List ℕ → List ℕ → List ℕ → Type 0
Gives net first second third = (reads net 0 ≡ first) × (reads net 1 ≡ second) × (reads net 2 ≡ third)

-- ---- nobody names another: each reads itself

-- a router with this interface alone
abbrev plain : Interface → RouterText
plain i = record empty { interfaces = (gigabit, i) ∷ [] }

-- also where two are on one subnet
pub itself_alone : Gives (three (plain (on 12 1 24)) (plain (on 12 2 24)) (plain (on 13 3 24))) (0 ∷ []) (1 ∷ []) (2 ∷ [])
itself_alone = (refl, refl, refl)

-- ---- the third router has 10.0.23.3, and the second a statement about this neighbour: both read each other, by the one statement

-- the second router, with statements about these neighbours alone
abbrev naming : List Neighbor → RouterText
naming neighbors = router ((gigabit, on 23 2 24) ∷ []) (process 65002 neighbors)

-- a router that has the address on such an interface
abbrev Named : Neighbor → Interface → Type 0
Named n i = Gives (three (plain (on 12 1 24)) (naming (n ∷ [])) (plain i)) (0 ∷ []) (1 ∷ 2 ∷ []) (1 ∷ 2 ∷ [])

pub one_statement : Named (peer (ip 23 3) 65003) (on 23 3 24)
one_statement = (refl, refl, refl)

-- whatever the statement says of the neighbour
pub no_remote_as : Named (no_lines_about (ip 23 3)) (on 23 3 24)
no_remote_as = (refl, refl, refl)

pub shut_down : Named (with_own (no_lines_about (ip 23 3)) Shutdown) (on 23 3 24)
shut_down = (refl, refl, refl)

pub inactive : Named (record (no_lines_about (ip 23 3)) { is_active = false }) (on 23 3 24)
inactive = (refl, refl, refl)

-- and on whatever interface the address is declared: one that is shut, or as a secondary address
pub on_a_shut_interface : Named (peer (ip 23 3) 65003) (record (on 23 3 24) { shutdown = true })
on_a_shut_interface = (refl, refl, refl)

pub secondary : Named (peer (ip 23 3) 65003) (record (on 13 3 24) { secondary = record { addr = ip 23 3; len = 24 } ∷ [] })
secondary = (refl, refl, refl)

-- on the second of its interfaces
pub second_interface : Gives (three (plain (on 12 1 24)) (naming (peer (ip 3 3) 65003 ∷ [])) (record empty { interfaces = (gigabit, on 23 3 24) ∷ (loopback, on 3 3 32) ∷ [] })) (0 ∷ []) (1 ∷ 2 ∷ []) (1 ∷ 2 ∷ [])
second_interface = (refl, refl, refl)

-- another address of the same subnet names nobody
pub another_address : Gives (three (plain (on 12 1 24)) (naming (peer (ip 23 4) 65003 ∷ [])) (plain (on 23 3 24))) (0 ∷ []) (1 ∷ []) (2 ∷ [])
another_address = (refl, refl, refl)

-- one address on two routers names both
pub both_have_it : Gives (three (plain (on 23 3 24)) (naming (peer (ip 23 3) 65003 ∷ [])) (plain (on 23 3 24))) (0 ∷ 1 ∷ []) (0 ∷ 1 ∷ 2 ∷ []) (1 ∷ 2 ∷ [])
both_have_it = (refl, refl, refl)

-- an own address names nobody else
pub own_address : Gives (three (plain (on 12 1 24)) (naming (peer (ip 23 2) 65002 ∷ [])) (plain (on 23 3 24))) (0 ∷ []) (1 ∷ []) (2 ∷ [])
own_address = (refl, refl, refl)

-- ---- a chain of statements on both sides: who is two sessions away isn't read

pub chain : Gives (three (router ((gigabit, on 12 1 24) ∷ []) (process 65000 (peer (ip 12 2) 65000 ∷ [])))
    (router ((gigabit, on 12 2 24) ∷ (gigabit_1, on 23 2 24) ∷ []) (process 65000 (peer (ip 12 1) 65000 ∷ peer (ip 23 3) 65000 ∷ [])))
    (router ((gigabit, on 23 3 24) ∷ []) (process 65000 (peer (ip 23 2) 65000 ∷ []))))
    (0 ∷ 1 ∷ []) (0 ∷ 1 ∷ 2 ∷ []) (1 ∷ 2 ∷ [])
chain = (refl, refl, refl)

-- ---- OSPF: who has a process reads each router that sends routes from outside of the AS

abbrev running : OspfProcess → RouterText
running p = record empty { ospf = Some p }

abbrev redistributing : OspfProcess
redistributing = record (no_lines 1) { redistributions = record { source = Connected; metric = None; metric_type = None; subnets = true; route_map = None } ∷ [] }

abbrev with_default : OspfProcess
with_default = record (no_lines 1) { default_information = Some (record { always = false; metric = None; metric_type = None }) }

-- a line `redistribute` of the third router; the second one has no process
pub redistribution : Gives (three (running (no_lines 1)) empty (running redistributing)) (0 ∷ 2 ∷ []) (1 ∷ []) (2 ∷ [])
redistribution = (refl, refl, refl)

-- a line `default-information originate`, and a process of another number
pub default_route : Gives (three (running (no_lines 7)) empty (running with_default)) (0 ∷ 2 ∷ []) (1 ∷ []) (2 ∷ [])
default_route = (refl, refl, refl)

-- one that has both lines is read once, and boundary routers read each other
pub both_lines : Gives (three (running redistributing) (running (no_lines 1)) (running (record redistributing { default_information = with_default.default_information }))) (0 ∷ 2 ∷ []) (0 ∷ 1 ∷ 2 ∷ []) (0 ∷ 2 ∷ [])
both_lines = (refl, refl, refl)

-- a process without such a line is read by nobody else
pub no_line : Gives (three (running (no_lines 1)) (running (no_lines 1)) (running (no_lines 1))) (0 ∷ []) (1 ∷ []) (2 ∷ [])
no_line = (refl, refl, refl)
