-- What stands behind `redistribute` and its source (RFC 4271 s.9.4): what a line says by its words, where it fits its row.
use Rattle.std.specs.Prelude.{◌≡◌, ℕ, ◌&&◌, ◌||◌, Bool, true, false, List, [], ◌∷◌, Option, Some, None, if◌then◌else◌, codes}
use Rattle.std.specs.Option.{option_map, option_or}
use Rattle.std.specs.Str.{bytes_eq}
use Rattle.rc_config.specs.declared.bgp.BgpRedistribution.{BgpRedistribution}
use Rattle.rc_config.specs.declared.bgp.OspfKinds.{OspfKinds}
use Rattle.rc_config.specs.declared.bgp.OspfRedistribution.{OspfRedistribution}
use Rattle.rc_config.specs.declared.route_map.Mention.{Mention}
use Rattle.rc_openings.specs.Values.{number_of}
use Rattle.rc_openings.specs.Words.{words_left}
use Rattle.rc_openings.specs.declared.words.Words.{Words}
use Rattle.rc_gram_bgp.specs.NeighborLines.{mention_of}

-- no option
abbrev pub without_options : BgpRedistribution
without_options = record { metric = None; route_map = None }

abbrev pub by_metric : Option ℕ → Option BgpRedistribution
by_metric metric = option_map (λ n. record { metric = Some n; route_map = None }) metric

abbrev pub by_map : Option Mention → Option BgpRedistribution
by_map map = option_map (λ m. record { metric = None; route_map = Some m }) map

abbrev pub by_both : Option ℕ → Option Mention → Option BgpRedistribution
by_both (Some n) (Some m) = Some (record { metric = Some n; route_map = Some m })
by_both _ _ = None

-- `metric N`, or `route-map NAME`, in the line of this number
abbrev pub one_option : ℕ → List ℕ → List ℕ → Option BgpRedistribution
one_option number w x = if bytes_eq w (codes "metric") then by_metric (number_of x) else (if bytes_eq w (codes "route-map") then by_map (mention_of number x) else None)

-- `metric N route-map NAME`
abbrev pub two_options : ℕ → List ℕ → List ℕ → List ℕ → List ℕ → Option BgpRedistribution
two_options number w x v y = if bytes_eq w (codes "metric") && bytes_eq v (codes "route-map") then by_both (number_of x) (mention_of number y) else None

-- `[metric N] [route-map NAME]`, in this order
abbrev pub options_in_order : ℕ → List (List ℕ) → Option BgpRedistribution
options_in_order number [] = Some without_options
options_in_order number (w ∷ x ∷ []) = one_option number w x
options_in_order number (w ∷ x ∷ v ∷ y ∷ []) = two_options number w x v y
options_in_order number _ = None

-- the two in either order
abbrev pub either_way : ℕ → List ℕ → List ℕ → List ℕ → List ℕ → Option BgpRedistribution
either_way number w x v y = option_or (two_options number w x v y) (two_options number v y w x)

-- `[metric N] [route-map NAME]`, in either order
abbrev pub options : ℕ → List (List ℕ) → Option BgpRedistribution
options number [] = Some without_options
options number (w ∷ x ∷ []) = one_option number w x
options number (w ∷ x ∷ v ∷ y ∷ []) = either_way number w x v y
options number _ = None

abbrev pub no_kinds : OspfKinds
no_kinds = record { internal = false; external_1 = false; external_2 = false }

-- all that is redistributed without `match`
abbrev pub internal_kinds : OspfKinds
internal_kinds = record { internal = true; external_1 = false; external_2 = false }

-- the external ones of a type, and those of both
abbrev pub type_1_kinds : OspfKinds
type_1_kinds = record { internal = false; external_1 = true; external_2 = false }

abbrev pub type_2_kinds : OspfKinds
type_2_kinds = record { internal = false; external_1 = false; external_2 = true }

abbrev pub external_kinds : OspfKinds
external_kinds = record { internal = false; external_1 = true; external_2 = true }

-- those of the one and those of the other
abbrev pub joined : OspfKinds → OspfKinds → OspfKinds
joined k l = record { internal = k.internal || l.internal; external_1 = k.external_1 || l.external_1; external_2 = k.external_2 || l.external_2 }

-- kinds beside those that the words behind name
abbrev pub beside : OspfKinds → OspfKinds × List (List ℕ) → OspfKinds × List (List ℕ)
beside k p = (joined k p.0, p.1)

-- The kinds that the words in front name, in any order and more than once, and the words behind them: `internal`, `external 1`,
-- `external 2`, and `external` without a type behind it for both.
abbrev pub kinds_in_front : List (List ℕ) → OspfKinds × List (List ℕ)
kinds_in_front [] = (no_kinds, [])
kinds_in_front (w ∷ []) =
    if bytes_eq w (codes "internal") then (internal_kinds, [])
    else (if bytes_eq w (codes "external") then (external_kinds, [])
    else (no_kinds, w ∷ []))
kinds_in_front (w ∷ x ∷ rest) =
    if bytes_eq w (codes "internal") then beside internal_kinds (kinds_in_front (x ∷ rest))
    else (if bytes_eq w (codes "external") && bytes_eq x (codes "1") then beside type_1_kinds (kinds_in_front rest)
    else (if bytes_eq w (codes "external") && bytes_eq x (codes "2") then beside type_2_kinds (kinds_in_front rest)
    else (if bytes_eq w (codes "external") then beside external_kinds (kinds_in_front (x ∷ rest))
    else (no_kinds, w ∷ x ∷ rest))))

abbrev pub has_kind : OspfKinds → Bool
has_kind k = k.internal || k.external_1 || k.external_2

abbrev pub some_kinds : OspfKinds × List (List ℕ) → Option (OspfKinds × List (List ℕ))
some_kinds (k, rest) = if has_kind k then Some (k, rest) else None

-- `[match KINDS]` in front, with one kind or more, and the words behind it
abbrev pub matched : List (List ℕ) → Option (OspfKinds × List (List ℕ))
matched [] = Some (internal_kinds, [])
matched (w ∷ ws) = if bytes_eq w (codes "match") then some_kinds (kinds_in_front ws) else Some (internal_kinds, w ∷ ws)

-- the code found this, with a cursor over the words behind
abbrev pub IsMatched : Option (OspfKinds × List (List ℕ)) → Option (OspfKinds × Words) → Type 0
IsMatched found None = found ≡ None
IsMatched found (Some p) = found ≡ Some (p.0, words_left p.1)

abbrev pub from_process : Option ℕ → OspfKinds → Option BgpRedistribution → Option OspfRedistribution
from_process (Some process) kinds (Some r) = Some (record { process = process; kinds = kinds; redistribution = r })
from_process _ kinds _ = None

abbrev pub from_matched : ℕ → Option ℕ → Option (OspfKinds × List (List ℕ)) → Option OspfRedistribution
from_matched number process None = None
from_matched number process (Some (kinds, rest)) = from_process process kinds (options_in_order number rest)

-- `N [match KINDS] [metric N] [route-map NAME]`, in this order
abbrev pub ospf_redistribution : ℕ → List (List ℕ) → Option OspfRedistribution
ospf_redistribution number [] = None
ospf_redistribution number (n ∷ rest) = from_matched number (number_of n) (matched rest)
