-- The openings of a line under `route-map`.
use Rattle.std.specs.Prelude.{List, [], ◌∷◌, ◌++◌, codes}
use Rattle.rc_openings.specs.declared.form.Form.TheVariants.{MapEntry}
use Rattle.rc_openings.specs.declared.form.MapEntryForm.TheVariants.{MatchAddress, MatchPrefixList, MatchCommunity, SetLocalPreference, SetMetric, SetMetricType1, SetMetricType2, SetWeight, SetOrigin, SetOriginIgp, SetOriginIncomplete, SetCommunity, PrependAsPath}
use Rattle.rc_openings.specs.Opening.{Row, form, refused, ignored}

-- with these begin the forms
unfoldable pub route_map_forms : List Row
route_map_forms =
    form (codes "match ip address") (MapEntry MatchAddress)
    ∷ form (codes "match ip address prefix-list") (MapEntry MatchPrefixList)
    ∷ form (codes "match community") (MapEntry MatchCommunity)
    ∷ form (codes "set local-preference") (MapEntry SetLocalPreference)
    ∷ form (codes "set metric") (MapEntry SetMetric)
    ∷ form (codes "set metric-type type-1") (MapEntry SetMetricType1)
    ∷ form (codes "set metric-type type-2") (MapEntry SetMetricType2)
    ∷ form (codes "set weight") (MapEntry SetWeight)
    ∷ form (codes "set origin") (MapEntry SetOrigin)
    ∷ form (codes "set origin igp") (MapEntry SetOriginIgp)
    ∷ form (codes "set origin incomplete") (MapEntry SetOriginIncomplete)
    ∷ form (codes "set community") (MapEntry SetCommunity)
    ∷ form (codes "set as-path prepend") (MapEntry PrependAsPath)
    ∷ []

-- with these begin lines whose meaning is not modelled
unfoldable pub route_map_refused : List Row
route_map_refused =
    refused (codes "match")
    ∷ refused (codes "set")
    ∷ refused (codes "continue")
    ∷ []

-- with these begin lines that do not matter
unfoldable pub route_map_ignored : List Row
route_map_ignored =
    ignored (codes "") (codes "description")
    ++ ignored (codes "set") (codes "tag")
    ++ ignored (codes "") (codes "exit")

unfoldable pub route_map : List Row
route_map = route_map_forms ++ route_map_refused ++ route_map_ignored
