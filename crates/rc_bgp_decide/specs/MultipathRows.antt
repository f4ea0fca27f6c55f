-- Worked cases of several paths at once.
use Rattle.std.specs.Prelude.{◌≡◌, ℕ, [], ◌∷◌, map}
use Rattle.std.proofs.Common.{refl}
use Rattle.std.specs.List.{range_with_len}
use Rattle.rc_base.specs.declared.origin.Origin.TheVariants.{Igp, Incomplete}
use Rattle.rc_route.specs.declared.path.BgpPath.{BgpPath}
use Rattle.rc_route.specs.declared.path.PathSource.TheVariants.{Connected, External, Internal, Ospf}
use Rattle.rc_bgp_decide.specs.Multipath.{multi_places}

-- 10.9.1.0/24 from a peer in AS 65001, behind which is AS 65009: the sender has a next hop, an identifier and an address of this number
abbrev path : ℕ → BgpPath
path n = record {
  prefix = record { network = 168362240; len = 24 };
  next_hop = n;
  med = 10;
  local_preference = 100;
  weight = 0;
  igp_metric = 10;
  sender_id = n;
  neighbor = n;
  origin = Igp;
  source = External;
  sender = 0;
  as_path = 65001 ∷ 65009 ∷ [];
  communities = [];
}

-- ---- how many

pub none_of_none : multi_places 4 [] ≡ []
unfolding multi_places
none_of_none = refl

-- below, at and above the number of those that are as good; the best one, of the lowest identifier, stands first, and the others in turn
pub one_of_three : multi_places 1 (path 3 ∷ path 1 ∷ path 2 ∷ []) ≡ 1 ∷ []
unfolding multi_places
one_of_three = refl

pub two_of_three : multi_places 2 (path 3 ∷ path 1 ∷ path 2 ∷ []) ≡ 1 ∷ 2 ∷ []
unfolding multi_places
two_of_three = refl

pub three_of_three : multi_places 3 (path 3 ∷ path 1 ∷ path 2 ∷ []) ≡ 1 ∷ 2 ∷ 0 ∷ []
unfolding multi_places
three_of_three = refl

pub four_of_three : multi_places 4 (path 3 ∷ path 1 ∷ path 2 ∷ []) ≡ 1 ∷ 2 ∷ 0 ∷ []
unfolding multi_places
four_of_three = refl

-- the greatest number that a line says, of 40 paths
pub thirty_two_of_forty : multi_places 32 (map path (range_with_len 1 40)) ≡ range_with_len 0 32
unfolding multi_places
thirty_two_of_forty = refl

-- ---- the order behind the best one: identifier, then the sender's address, then place

pub by_identifier : multi_places 3 (path 1 ∷ record (path 3) { sender_id = 2; neighbor = 9 } ∷ record (path 2) { sender_id = 3 } ∷ []) ≡ 0 ∷ 1 ∷ 2 ∷ []
unfolding multi_places
by_identifier = refl

pub by_address : multi_places 3 (path 1 ∷ record (path 3) { sender_id = 2; neighbor = 9 } ∷ record (path 2) { sender_id = 2; neighbor = 8 } ∷ []) ≡ 0 ∷ 2 ∷ 1 ∷ []
unfolding multi_places
by_address = refl

pub by_place : multi_places 3 (path 1 ∷ record (path 1) { next_hop = 7 } ∷ record (path 1) { next_hop = 6 } ∷ []) ≡ 0 ∷ 1 ∷ 2 ∷ []
unfolding multi_places
by_place = refl

-- ---- what is as good as the best one: equal but for one thing, a path isn't taken

pub other_weight : multi_places 4 (record (path 1) { weight = 1 } ∷ path 2 ∷ []) ≡ 0 ∷ []
unfolding multi_places
other_weight = refl

pub other_local_preference : multi_places 4 (path 1 ∷ record (path 2) { local_preference = 99 } ∷ []) ≡ 0 ∷ []
unfolding multi_places
other_local_preference = refl

pub other_origin : multi_places 4 (path 1 ∷ record (path 2) { origin = Incomplete } ∷ []) ≡ 0 ∷ []
unfolding multi_places
other_origin = refl

pub other_med : multi_places 4 (path 1 ∷ record (path 2) { med = 11 } ∷ []) ≡ 0 ∷ []
unfolding multi_places
other_med = refl

pub external_and_internal : multi_places 4 (path 2 ∷ record (path 1) { source = Internal } ∷ []) ≡ 0 ∷ []
unfolding multi_places
external_and_internal = refl

pub two_internal : multi_places 4 (record (path 2) { source = Internal } ∷ record (path 1) { source = Internal } ∷ []) ≡ 1 ∷ 0 ∷ []
unfolding multi_places
two_internal = refl

pub other_metric : multi_places 4 (path 1 ∷ record (path 2) { igp_metric = 11 } ∷ []) ≡ 0 ∷ []
unfolding multi_places
other_metric = refl

-- another neighbouring AS; and AS paths of one length with another number behind the first
pub other_neighbor_as : multi_places 4 (path 1 ∷ record (path 2) { as_path = 65002 ∷ 65009 ∷ [] } ∷ []) ≡ 0 ∷ []
unfolding multi_places
other_neighbor_as = refl

pub other_as_behind : multi_places 4 (path 1 ∷ record (path 2) { as_path = 65001 ∷ 65008 ∷ [] } ∷ []) ≡ 0 ∷ []
unfolding multi_places
other_as_behind = refl

-- what doesn't count: communities, and the sender's place
pub uncounted : multi_places 4 (path 1 ∷ record (path 2) { communities = 1 ∷ []; sender = 7 } ∷ []) ≡ 0 ∷ 1 ∷ []
unfolding multi_places
uncounted = refl

-- ---- next hops

-- of two paths over one next hop the first in turn counts, and another one takes the room
pub one_next_hop : multi_places 2 (path 1 ∷ record (path 2) { next_hop = 1 } ∷ path 3 ∷ []) ≡ 0 ∷ 2 ∷ []
unfolding multi_places
one_next_hop = refl

pub one_next_hop_behind : multi_places 4 (path 1 ∷ path 2 ∷ record (path 3) { next_hop = 2 } ∷ []) ≡ 0 ∷ 1 ∷ []
unfolding multi_places
one_next_hop_behind = refl

-- ---- what the router originates stands alone

pub originated : multi_places 4 (record (path 1) { source = Connected; as_path = [] } ∷ record (path 2) { source = Ospf; as_path = [] } ∷ path 3 ∷ []) ≡ 0 ∷ []
unfolding multi_places
originated = refl

-- ---- the MED of another AS drops none: the best one is the second path, and no other has its AS path
abbrev first_as_1 : ℕ → ℕ → BgpPath
first_as_1 med metric = record (path 10) { as_path = 65001 ∷ []; med = med; igp_metric = metric }

pub other_as_alone : multi_places 2 (first_as_1 10 5 ∷ record (path 10) { as_path = 65002 ∷ []; med = 5; igp_metric = 10 } ∷ first_as_1 0 20 ∷ []) ≡ 1 ∷ []
unfolding multi_places
other_as_alone = refl
