-- Worked cases of what changes from one state to the next, each by computation.
use Rattle.std.specs.Prelude.{◌≡◌, ℕ, true, false, List, [], ◌∷◌, map, refl}
use Rattle.rc_base.specs.Prefix.{Cidr}
use Rattle.rc_config.specs.declared.network.Network.{Network}
use Rattle.rc_fib.specs.Forwarding.{hops_within}
use Rattle.rc_route.specs.Best.{alone}
use Rattle.rc_route.specs.declared.best.Best.{Best}
use Rattle.rc_route.specs.declared.path.BgpPath.{BgpPath}
use Rattle.rc_route.specs.declared.path.PathSource.{PathSource}
use Rattle.rc_route.specs.declared.path.PathSource.TheVariants.{Network as ByNetwork, External, Internal}
use Rattle.rc_route.specs.declared.route.Route.{Route}
use Rattle.rc_route.specs.declared.state.RouterState.{RouterState}
use Rattle.rc_bgp_decide.specs.Multipath.{multi_places}
use Rattle.rc_bgp.specs.Candidates.{best_paths}
use Rattle.rc_bgp.specs.Changes.{changed_inside, changes_of, updated_paths, changed_at_senders}
use Rattle.rc_bgp_session.specs.Nets.{ip, subnet, gigabit, gigabit_1, on, peer, process, router, two, three, external, internal, connected, knows, ninth}
use Rattle.rc_bgp.specs.Sessions.{is_up}
use Rattle.rc_bgp_session.specs.declared.session.Session.{Session}

-- a path for 10.0.n.0/24
abbrev from_source : PathSource → ℕ → BgpPath
from_source source n = record (ninth 0 source) { prefix = subnet n }

pub changes_past_the_end : changes_of ((subnet 9 ∷ []) ∷ []) 1 ≡ []
changes_past_the_end = refl

-- ---- what senders may tell anew: R1 of AS 65001 hears R2 of AS 65002 and R3 of AS 65003, or of its own AS

abbrev three_ases : Network
three_ases = three (router [] (process 65001 [])) (router [] (process 65002 [])) (router [] (process 65003 []))

-- R2 and R3 know paths of these prefixes, which they originate
abbrev known : List ℕ → List ℕ → List RouterState
known second third = knows [] [] ∷ knows [] (map (from_source ByNetwork) second) ∷ knows [] (map (from_source ByNetwork) third) ∷ []

abbrev from_r2 : Session
from_r2 = external 1 (ip 12 2) 0 (ip 12 1)

abbrev from_r3 : Session
from_r3 = external 2 (ip 13 3) 0 (ip 13 1)

-- what two senders tell counts once, in order; a router without a session to this one is none of them
pub changed_at_two : changed_at_senders three_ases (known [] []) (known (8 ∷ 9 ∷ []) (9 ∷ [])) ((subnet 7 ∷ []) ∷ (subnet 9 ∷ subnet 8 ∷ []) ∷ (subnet 9 ∷ []) ∷ []) [] (from_r2 ∷ from_r3 ∷ []) ≡ subnet 8 ∷ subnet 9 ∷ []
changed_at_two = refl

-- over an internal session counts what changed in what internal peers may be told, and over an external one all that changed
pub changed_inside_at_one : changed_at_senders three_ases (known [] []) (known (8 ∷ 9 ∷ []) (6 ∷ [])) ((subnet 7 ∷ []) ∷ (subnet 9 ∷ subnet 8 ∷ []) ∷ (subnet 6 ∷ []) ∷ []) ([] ∷ (subnet 9 ∷ []) ∷ [] ∷ []) (record from_r2 { is_external = false } ∷ from_r3 ∷ [])
    ≡ subnet 6 ∷ subnet 9 ∷ []
changed_inside_at_one = refl

-- R2 had this best path for 10.0.9.0/24, if any, and has that one
abbrev told_over : List BgpPath → List BgpPath → List Cidr
told_over before now = changed_at_senders three_ases (knows [] [] ∷ knows [] before ∷ []) (knows [] [] ∷ knows [] now ∷ []) ([] ∷ (subnet 9 ∷ []) ∷ []) [] (from_r2 ∷ [])

-- what R2 heard over these ASes
abbrev over : List ℕ → BgpPath
over numbers = record (from_source External 9) { as_path = numbers }

-- what R1 told R2, R2 tells back: R1's AS comes first on it
pub told_back : told_over [] (over (65001 ∷ []) ∷ []) ≡ []
told_back = refl

-- where R1's AS stands further behind, that is seen when the path is decided
pub told_back_from_afar : told_over [] (over (65004 ∷ 65001 ∷ 65005 ∷ []) ∷ []) ≡ subnet 9 ∷ []
told_back_from_afar = refl

pub told_back_before : told_over (over (65001 ∷ []) ∷ []) [] ≡ []
told_back_before = refl

pub told_back_otherwise : told_over (over (65001 ∷ []) ∷ []) (over (65001 ∷ 65004 ∷ []) ∷ []) ≡ []
told_back_otherwise = refl

-- R2 told R1 of another way before, which is no longer there
pub told_back_in_place_of_another : told_over (over (65004 ∷ []) ∷ []) (over (65001 ∷ []) ∷ []) ≡ subnet 9 ∷ []
told_back_in_place_of_another = refl

pub withdrawn : told_over (over (65004 ∷ []) ∷ []) [] ≡ subnet 9 ∷ []
withdrawn = refl

pub told_anew_in_place_of_a_loop : told_over (over (65001 ∷ []) ∷ []) (over (65004 ∷ []) ∷ []) ≡ subnet 9 ∷ []
told_anew_in_place_of_a_loop = refl

-- ---- what internal peers may be told: of a router with such a peer what it originates or heard outside, before or now

abbrev has_peer : List (List Session)
has_peer = (internal 1 (ip 12 2) 0 (ip 12 1) ∷ []) ∷ []

abbrev first_knows : List BgpPath → List RouterState
first_knows paths = knows [] paths ∷ []

abbrev told_anew : List BgpPath → List BgpPath → List (List Cidr)
told_anew before now = changed_inside has_peer ((subnet 8 ∷ subnet 9 ∷ []) ∷ []) (first_knows before) (first_knows now)

pub it_originates_it_now : told_anew [] (from_source ByNetwork 9 ∷ []) ≡ (subnet 9 ∷ []) ∷ []
it_originates_it_now = refl

pub it_heard_it_outside_before : told_anew (from_source External 8 ∷ []) [] ≡ (subnet 8 ∷ []) ∷ []
it_heard_it_outside_before = refl

pub an_internal_peer_tells_it : told_anew [] (from_source Internal 8 ∷ from_source Internal 9 ∷ []) ≡ [] ∷ []
an_internal_peer_tells_it = refl

pub an_internal_peer_tells_it_in_place_of_another : told_anew (from_source External 9 ∷ []) (from_source Internal 9 ∷ []) ≡ (subnet 9 ∷ []) ∷ []
an_internal_peer_tells_it_in_place_of_another = refl

-- and of one without internal peers all that changed
pub nobody_asks : changed_inside ([] ∷ []) ((subnet 8 ∷ subnet 9 ∷ []) ∷ []) (first_knows []) (first_knows (from_source Internal 9 ∷ [])) ≡ (subnet 8 ∷ subnet 9 ∷ []) ∷ []
nobody_asks = refl

-- ---- R1 of AS 65001 has a session with R2 of AS 65002 on 10.0.12.0/24

abbrev net : Network
net = two (router ((gigabit, on 12 1 24) ∷ (gigabit_1, on 9 1 24) ∷ []) (process 65001 (peer (ip 12 2) 65002 ∷ []))) (router ((gigabit, on 12 2 24) ∷ []) (process 65002 (peer (ip 12 1) 65001 ∷ [])))

abbrev to_r2 : Session
to_r2 = external 0 (ip 12 1) 1 (ip 12 2)

abbrev all : List (List Session)
all = (external 1 (ip 12 2) 0 (ip 12 1) ∷ []) ∷ (to_r2 ∷ []) ∷ []

-- R1 has these best paths, and R2 those
abbrev state : List BgpPath → List BgpPath → List RouterState
state first second = knows (connected 0 (subnet 12) 0 ∷ []) first ∷ knows (connected 1 (subnet 12) 0 ∷ []) second ∷ []

abbrev sent : Cidr → BgpPath
sent p = record (ninth 0 ByNetwork) { prefix = p }

abbrev heard : Cidr → BgpPath
heard p = record (ninth 0 External) { prefix = p; next_hop = ip 12 1; weight = 0; as_path = 65001 ∷ []; sender_id = ip 12 1; neighbor = ip 12 1 }

-- what R2 makes of its known paths, where R1 tells of these prefixes, had the first of these best paths and has the second
abbrev made : List Cidr → List BgpPath → List BgpPath → List BgpPath → List Best
made changed before first second = updated_paths net all (state first second) 1 (changed_at_senders net (state before []) (state first second) (changed ∷ [] ∷ []) [] (to_r2 ∷ []))

pub gains : made (subnet 9 ∷ []) [] (sent (subnet 9) ∷ []) [] ≡ map alone (heard (subnet 9) ∷ [])
unfolding hops_within multi_places
gains = refl

pub gains_between : made (subnet 9 ∷ []) (sent (subnet 8) ∷ sent (subnet 10) ∷ []) (sent (subnet 8) ∷ sent (subnet 9) ∷ sent (subnet 10) ∷ []) (heard (subnet 8) ∷ heard (subnet 10) ∷ []) ≡ map alone (heard (subnet 8) ∷ heard (subnet 9) ∷ heard (subnet 10) ∷ [])
unfolding hops_within multi_places
gains_between = refl

pub loses : made (subnet 9 ∷ []) (sent (subnet 9) ∷ []) [] (heard (subnet 9) ∷ []) ≡ []
unfolding hops_within multi_places
loses = refl

pub stays : made (subnet 9 ∷ []) [] (sent (subnet 9) ∷ []) (heard (subnet 9) ∷ []) ≡ map alone (heard (subnet 9) ∷ [])
unfolding hops_within multi_places
stays = refl

pub changes_its_med : made (subnet 9 ∷ []) (sent (subnet 9) ∷ []) (record (sent (subnet 9)) { med = 7 } ∷ []) (heard (subnet 9) ∷ []) ≡ map alone (record (heard (subnet 9)) { med = 7 } ∷ [])
unfolding hops_within multi_places
changes_its_med = refl

-- nothing is decided at a prefix of which nobody tells
pub untold : made (subnet 9 ∷ []) [] (sent (subnet 9) ∷ []) (heard (subnet 8) ∷ []) ≡ map alone (heard (subnet 8) ∷ heard (subnet 9) ∷ [])
unfolding hops_within multi_places
untold = refl

-- ---- off a shared subnet R2 needs a route to R1: once it has one, it hears what R1 had long before, and R1 tells of nothing

abbrev far : Session
far = record to_r2 { is_shared = false }

abbrev with_route : List Route → List RouterState
with_route routes = knows (connected 0 (subnet 12) 0 ∷ []) (sent (subnet 9) ∷ []) ∷ knows routes [] ∷ []

pub is_down_at_first : is_up (with_route []) far ≡ false
unfolding hops_within multi_places
is_down_at_first = refl

pub comes_up : is_up (with_route (connected 1 (subnet 12) 0 ∷ [])) far ≡ true
unfolding hops_within multi_places
comes_up = refl

pub hears_nothing_at_first : best_paths net ([] ∷ (far ∷ []) ∷ []) (with_route []) 1 ≡ []
unfolding best_paths hops_within multi_places
hears_nothing_at_first = refl

pub hears_what_was_there : best_paths net ([] ∷ (far ∷ []) ∷ []) (with_route (connected 1 (subnet 12) 0 ∷ [])) 1 ≡ map alone (heard (subnet 9) ∷ [])
unfolding best_paths hops_within multi_places
hears_what_was_there = refl
