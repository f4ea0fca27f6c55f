-- What may stand behind `redistribute` and its source: options in any order, each kind at most once.
use Rattle.std.specs.Prelude.{ℕ, Bool, true, false, ◌&&◌, List, [], ◌∷◌, ◌++◌, Option, Some, None, if◌then◌else◌, is_some, option_map, codes}
use Rattle.std.specs.List.{filter_map}
use Rattle.std.specs.Option.{option_and_then, option_to_list}
use Rattle.std.specs.Str.{bytes_eq}
use Rattle.rc_base.specs.Name.{name_of}
use Rattle.rc_config.specs.declared.sets.MetricType.{MetricType}
use Rattle.rc_config.specs.declared.sets.MetricType.TheVariants.{Type1, Type2}
use Rattle.rc_openings.specs.Values.{number_within}
use Rattle.rc_gram_ospf.specs.declared.redistribute_options.RedistributeOptions.{RedistributeOptions}

-- `metric N`, below LSInfinity (RFC 2328 appendix B); `metric-type 1` or `metric-type 2`; `subnets`; or `route-map NAME`
pub data RedistributeOption : Type 0 where
  Metric : (metric : ℕ) → RedistributeOption
  OfType : (metric_type : MetricType) → RedistributeOption
  Subnets : RedistributeOption
  ByMap : (route_map : List ℕ) → RedistributeOption

-- the type of external metrics that a word is (RFC 2328 s.2.3)
abbrev pub metric_type_of : List ℕ → Option MetricType
metric_type_of word = if bytes_eq word (codes "1") then Some Type1 else (if bytes_eq word (codes "2") then Some Type2 else None)

-- the option that one word is
abbrev pub option_alone : List ℕ → Option RedistributeOption
option_alone w = if bytes_eq w (codes "subnets") then Some Subnets else None

-- the options of each kind that have a value, by that value
abbrev pub metric_with : List ℕ → Option RedistributeOption
metric_with x = option_map Metric (number_within 0 16777214 x)

abbrev pub type_with : List ℕ → Option RedistributeOption
type_with x = option_map OfType (metric_type_of x)

abbrev pub map_with : List ℕ → Option RedistributeOption
map_with x = option_map ByMap (name_of x)

-- the option that a word and its value are
abbrev pub option_with : List ℕ → List ℕ → Option RedistributeOption
option_with w x =
    if bytes_eq w (codes "metric") then metric_with x
    else (if bytes_eq w (codes "metric-type") then type_with x
    else (if bytes_eq w (codes "route-map") then map_with x else None))

-- one option in front of others
abbrev pub followed : Option RedistributeOption → Option (List RedistributeOption) → Option (List RedistributeOption)
followed None os = None
followed (Some o) None = None
followed (Some o) (Some os) = Some (o ∷ os)

-- the options that words are, one behind the other, where they are no other words
abbrev pub options_of : List (List ℕ) → Option (List RedistributeOption)
options_of [] = Some []
options_of (w ∷ []) = followed (option_alone w) (Some [])
options_of (w ∷ x ∷ rest) = if bytes_eq w (codes "subnets") then followed (Some Subnets) (options_of (x ∷ rest)) else followed (option_with w x) (options_of rest)

-- what an option of each kind says
abbrev pub metric_in : RedistributeOption → Option ℕ
metric_in (Metric n) = Some n
metric_in (OfType type) = None
metric_in Subnets = None
metric_in (ByMap name) = None

abbrev pub type_in : RedistributeOption → Option MetricType
type_in (Metric n) = None
type_in (OfType type) = Some type
type_in Subnets = None
type_in (ByMap name) = None

abbrev pub subnets_in : RedistributeOption → Option Bool
subnets_in (Metric n) = None
subnets_in (OfType type) = None
subnets_in Subnets = Some true
subnets_in (ByMap name) = None

abbrev pub map_in : RedistributeOption → Option (List ℕ)
map_in (Metric n) = None
map_in (OfType type) = None
map_in Subnets = None
map_in (ByMap name) = Some name

abbrev pub is_at_most_one : {A : Type 0} → List A → Bool
is_at_most_one [] = true
is_at_most_one (x ∷ []) = true
is_at_most_one (x ∷ y ∷ rest) = false

abbrev pub first_of : {A : Type 0} → List A → Option A
first_of [] = None
first_of (x ∷ xs) = Some x

-- what options say, each kind of which stands there at most once: those of a kind are given as a list
abbrev pub said_once : List ℕ → List MetricType → List Bool → List (List ℕ) → Option RedistributeOptions
said_once metrics types subnets maps =
    if is_at_most_one metrics && is_at_most_one types && is_at_most_one subnets && is_at_most_one maps
    then Some (record { metric = first_of metrics; metric_type = first_of types; subnets = is_some (first_of subnets); route_map = first_of maps }) else None

abbrev pub said_by : List RedistributeOption → Option RedistributeOptions
said_by os = said_once (filter_map metric_in os) (filter_map type_in os) (filter_map subnets_in os) (filter_map map_in os)

abbrev pub options_said : Option (List RedistributeOption) → Option RedistributeOptions
options_said None = None
options_said (Some os) = said_by os

-- what words say, where they are options
abbrev pub options_in : List (List ℕ) → Option RedistributeOptions
options_in words = options_said (options_of words)

-- ---- options behind others

-- the options that say this, as they are written
abbrev pub written : RedistributeOptions → List RedistributeOption
written o =
    option_to_list (option_map Metric o.metric) ++ option_to_list (option_map OfType o.metric_type)
    ++ (if o.subnets then Subnets ∷ [] else []) ++ option_to_list (option_map ByMap o.route_map)

-- what options say behind those that say this
abbrev pub said_behind : RedistributeOptions → Option (List RedistributeOption) → Option RedistributeOptions
said_behind before os = option_and_then (λ (more : List RedistributeOption). said_by (written before ++ more)) os

-- what words say behind them
abbrev pub options_behind : RedistributeOptions → List (List ℕ) → Option RedistributeOptions
options_behind before words = said_behind before (options_of words)
