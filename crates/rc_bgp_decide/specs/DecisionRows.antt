-- Worked cases of the decision.
use Rattle.std.specs.Prelude.{◌≡◌, ℕ, [], ◌∷◌, Some, None}
use Rattle.std.proofs.Common.{refl}
use Rattle.rc_base.specs.declared.origin.Origin.TheVariants.{Igp, Egp, Incomplete}
use Rattle.rc_route.specs.declared.path.BgpPath.{BgpPath}
use Rattle.rc_route.specs.declared.path.PathSource.{PathSource}
use Rattle.rc_route.specs.declared.path.PathSource.TheVariants.{Network, Connected, Static, Ospf, External, Internal}
use Rattle.rc_bgp_decide.specs.Decision.{best_path, best_place}

-- 10.9.1.0/24 from a peer in AS 65001, behind which is AS 65009
abbrev path : BgpPath
path = record {
  prefix = record { network = 168362240; len = 24 };
  next_hop = 167772161;
  med = 10;
  local_preference = 100;
  weight = 0;
  igp_metric = 10;
  sender_id = 10;
  neighbor = 10;
  origin = Egp;
  source = External;
  sender = 0;
  as_path = 65001 ∷ 65009 ∷ [];
  communities = [];
}

-- no path, one, and two that are equal: the first stays
pub none_of_none : best_place [] ≡ None
none_of_none = refl

pub sole : best_place (path ∷ []) ≡ Some 0
sole = refl

pub first_of_equal : best_place (path ∷ path ∷ path ∷ []) ≡ Some 0
first_of_equal = refl

-- what doesn't count: prefix, next hop, sender's place, communities, and numbers behind the first of the AS path
pub uncounted : best_place (path ∷ record path { next_hop = 1; sender = 7; communities = 1 ∷ []; as_path = 65001 ∷ 1 ∷ [] } ∷ []) ≡ Some 0
uncounted = refl

-- ---- each elimination alone: the second path is better by it, and worse by all that come behind

pub higher_weight : best_place (path ∷ record path { weight = 1; local_preference = 50; source = Internal; as_path = 65001 ∷ 2 ∷ 3 ∷ []; origin = Incomplete; med = 20; igp_metric = 20; sender_id = 20; neighbor = 20 } ∷ []) ≡ Some 1
higher_weight = refl

pub higher_local_preference : best_place (path ∷ record path { local_preference = 101; source = Internal; as_path = 65001 ∷ 2 ∷ 3 ∷ []; origin = Incomplete; med = 20; igp_metric = 20; sender_id = 20; neighbor = 20 } ∷ []) ≡ Some 1
higher_local_preference = refl

pub originated : best_place (path ∷ record path { source = Ospf; as_path = 65001 ∷ 2 ∷ 3 ∷ []; origin = Incomplete; med = 20; igp_metric = 20; sender_id = 20; neighbor = 20 } ∷ []) ≡ Some 1
originated = refl

pub shorter_path : best_place (path ∷ record path { source = Internal; as_path = 65001 ∷ []; origin = Incomplete; med = 20; igp_metric = 20; sender_id = 20; neighbor = 20 } ∷ []) ≡ Some 1
shorter_path = refl

pub lower_origin : best_place (path ∷ record path { source = Internal; origin = Igp; med = 20; igp_metric = 20; sender_id = 20; neighbor = 20 } ∷ []) ≡ Some 1
lower_origin = refl

pub egp_before_incomplete : best_place (record path { origin = Incomplete } ∷ path ∷ []) ≡ Some 1
egp_before_incomplete = refl

pub lower_med : best_place (path ∷ record path { source = Internal; med = 9; igp_metric = 20; sender_id = 20; neighbor = 20 } ∷ []) ≡ Some 1
lower_med = refl

pub external_first : best_place (record path { source = Internal } ∷ record path { igp_metric = 20; sender_id = 20; neighbor = 20 } ∷ []) ≡ Some 1
external_first = refl

pub lower_igp_metric : best_place (path ∷ record path { igp_metric = 9; sender_id = 20; neighbor = 20 } ∷ []) ≡ Some 1
lower_igp_metric = refl

pub lower_sender_id : best_place (path ∷ record path { sender_id = 9; neighbor = 20 } ∷ []) ≡ Some 1
lower_sender_id = refl

pub lower_neighbor : best_place (path ∷ record path { neighbor = 9 } ∷ []) ≡ Some 1
lower_neighbor = refl

-- ---- originated paths that are equal otherwise go by source, wherever they stand

abbrev from : PathSource → BgpPath
from source = record path { source = source; as_path = []; weight = 32768 }

pub network_first : best_place (from Ospf ∷ from Static ∷ from Connected ∷ from Network ∷ []) ≡ Some 3
network_first = refl

pub connected_before_static : best_place (from Ospf ∷ from Static ∷ from Connected ∷ []) ≡ Some 2
connected_before_static = refl

pub static_before_ospf : best_place (from Ospf ∷ from Static ∷ []) ≡ Some 1
static_before_ospf = refl

-- a lower MED counts before the source: the empty AS paths of originated routes are one group
pub med_before_source : best_place (from Network ∷ record (from Ospf) { med = 9 } ∷ []) ≡ Some 1
med_before_source = refl

-- ---- the MED counts among paths of one first AS alone

-- the other first AS: the lower MED says nothing, and the IGP metric decides
pub other_first_as : best_place (path ∷ record path { as_path = 65002 ∷ 65009 ∷ []; med = 0; igp_metric = 20 } ∷ []) ≡ Some 0
other_first_as = refl

-- one first AS, also where those behind it differ
pub one_first_as : best_place (path ∷ record path { as_path = 65001 ∷ 65008 ∷ []; med = 0; igp_metric = 20 } ∷ []) ≡ Some 1
one_first_as = refl

-- empty AS paths are one group
pub empty_paths : best_place (record path { source = Internal; as_path = [] } ∷ record path { source = Internal; as_path = []; med = 9; igp_metric = 20 } ∷ []) ≡ Some 1
empty_paths = refl

-- of three paths the third drops the first by the MED, and then the second is better than the third by the IGP metric. By pairs
-- each is better than the next, in a circle: a comparison in any order of the list alone would go wrong
abbrev first_as_1 : ℕ → ℕ → BgpPath
first_as_1 med metric = record path { as_path = 65001 ∷ []; med = med; igp_metric = metric }

abbrev a : BgpPath
a = first_as_1 10 5

abbrev b : BgpPath
b = record path { as_path = 65002 ∷ []; med = 5; igp_metric = 10 }

abbrev c : BgpPath
c = first_as_1 0 20

pub in_order_abc : best_place (a ∷ b ∷ c ∷ []) ≡ Some 1
in_order_abc = refl

pub in_order_acb : best_place (a ∷ c ∷ b ∷ []) ≡ Some 2
in_order_acb = refl

pub in_order_bac : best_place (b ∷ a ∷ c ∷ []) ≡ Some 0
in_order_bac = refl

pub in_order_bca : best_place (b ∷ c ∷ a ∷ []) ≡ Some 0
in_order_bca = refl

pub in_order_cab : best_place (c ∷ a ∷ b ∷ []) ≡ Some 2
in_order_cab = refl

pub in_order_cba : best_place (c ∷ b ∷ a ∷ []) ≡ Some 1
in_order_cba = refl

pub a_before_b : best_place (b ∷ a ∷ []) ≡ Some 1
a_before_b = refl

pub b_before_c : best_place (c ∷ b ∷ []) ≡ Some 1
b_before_c = refl

pub c_before_a : best_place (a ∷ c ∷ []) ≡ Some 1
c_before_a = refl

-- the best path is the one at the best place
pub best_is_b : best_path (a ∷ b ∷ c ∷ []) ≡ Some b
best_is_b = refl

-- a path that an earlier elimination drops drops none by a later one: c's weight is lower, so its MED doesn't drop a
pub dropped_drops_none : best_place (record a { weight = 1 } ∷ record b { weight = 1 } ∷ c ∷ []) ≡ Some 0
dropped_drops_none = refl
