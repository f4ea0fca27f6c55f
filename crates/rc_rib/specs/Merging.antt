-- Two tables as one, as the code makes it: from their fronts on.
use Rattle.std.specs.Prelude.{◌≡◌, ◌+◌, ◌<◌, List, [], ◌∷◌, ◌++◌, length, Option, Some, None, slice_get, MatchOption}
use Rattle.std.specs.Option.{option_map}
use Rattle.std.specs.Ordering.{match_ordering}
use Rattle.std.specs.declared.cmp.Ordering.{Ordering}
use Rattle.std.specs.declared.cmp.Ordering.TheVariants.{Less, Greater}
use Rattle.rc_base.specs.Prefix.{Cidr, prefix_cmp}
use Rattle.rc_route.specs.declared.route.Route.{Route}
use Rattle.rc_rib.specs.Best.{better}
use Rattle.rc_rib.specs.Offers.{prefix_of}

-- a route, and what comes behind it, beside other routes
abbrev pub beside : Route → (List Route → List Route) → List Route → List Route
beside x behind [] = x ∷ behind []
beside x behind (y ∷ ys) = match_ordering (prefix_cmp x.prefix y.prefix) (x ∷ behind (y ∷ ys)) (better x y ∷ behind ys) (y ∷ beside x behind ys)

-- the routes of both, by address, then length; of two for one prefix the preferred one
abbrev pub merged : List Route → List Route → List Route
merged [] ys = ys
merged (x ∷ xs) ys = beside x (merged xs) ys

-- which of two fronts comes first: the second where there is no first one
abbrev pub which : Option Cidr → Option Cidr → Ordering
which None q = Greater
which (Some p) None = Less
which (Some p) (Some q) = prefix_cmp p q

abbrev pub front_prefix : List Route → Option Cidr
front_prefix routes = option_map prefix_of (slice_get routes 0)

-- the preferred of one and another
abbrev pub of_both : Option Route → Option Route → Option Route
of_both None y = y
of_both (Some x) None = Some x
of_both (Some x) (Some y) = Some (better x y)

-- this is the front of some routes, where they have one, and those are left
abbrev pub IsFront : List Route → Option Route → List Route → Type 0
IsFront routes front left = MatchOption front ((routes ≡ []) × (left ≡ [])) (λ x. routes ≡ x ∷ left)

-- this is the front of two tables as one, where they have one, and those are left, which are fewer
abbrev pub IsNext : List Route → List Route → Option Route → List Route → List Route → Type 0
IsNext xs ys next xs-left ys-left = MatchOption next (merged xs ys ≡ []) (λ x. (merged xs ys ≡ x ∷ merged xs-left ys-left) × (length xs-left + length ys-left < length xs + length ys))

-- ---- a table is merged with routes that come one after another: what is made of both so far stands in front, and what is left of the table is
-- still to be merged with the routes ahead

-- a step keeps the whole: with any routes behind those ahead, before it and after it, the same table comes of it
pub record KeepsWhole (left made ahead left-now made-now ahead-now : List Route) : Type 0 where
  pub same : (behind : List Route) → made ++ merged left (ahead ++ behind) ≡ made-now ++ merged left-now (ahead-now ++ behind)
