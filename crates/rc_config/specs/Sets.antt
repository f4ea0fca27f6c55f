-- What an entry of a route map sets (IOS `set`): a later line of one opening counts in place of an earlier one.
use Rattle.std.specs.Prelude.{ℕ, ◌≤◌, if◌then◌else◌, List, [], All, length, Some, None}
use Rattle.rc_config.specs.declared.map_line.SetLine.{SetLine}
use Rattle.rc_config.specs.declared.map_line.SetLine.TheVariants.{LocalPreference, Metric, MetricType, Weight, Origin, Communities, Prepend}
use Rattle.rc_config.specs.declared.sets.MetricType.{MetricType as ExternalType}
use Rattle.rc_config.specs.declared.sets.MetricType.TheVariants.{Type1, Type2}
use Rattle.rc_config.specs.declared.sets.CommunityChange.TheVariants.{Keep, Replace, Add}
use Rattle.rc_config.specs.declared.sets.Sets.{Sets}

-- the type of an external metric (RFC 2328 s.2.3): any type 1 is preferred to any type 2
abbrev pub metric_type_number : ExternalType → ℕ
metric_type_number Type1 = 1
metric_type_number Type2 = 2

-- an entry that sets nothing
abbrev pub no_sets : Sets
no_sets = record { local_preference = None; metric = None; metric_type = None; weight = None; origin = None; communities = Keep; prepended = [] }

-- what is set after one more line
abbrev pub with_set : Sets → SetLine → Sets
with_set s (LocalPreference n) = record s { local_preference = Some n }
with_set s (Metric n) = record s { metric = Some n }
with_set s (MetricType type) = record s { metric_type = Some type }
with_set s (Weight n) = record s { weight = Some n }
with_set s (Origin origin) = record s { origin = Some origin }
with_set s (Communities numbers additive) = record s { communities = if additive then Add numbers else Replace numbers }
with_set s (Prepend numbers) = record s { prepended = numbers }

-- at most ten numbers of AS, each from 1 on
pub record IsPrepended (numbers : List ℕ) : Type 0 where
  pub few : length numbers ≤ 10
  pub each : All (λ n. 1 ≤ n) numbers

-- a line that may be set: only `set as-path prepend` has a range that its type doesn't say, one to ten numbers
abbrev pub IsLawfulSet : SetLine → Type 0
IsLawfulSet (LocalPreference n) = Unit {0}
IsLawfulSet (Metric n) = Unit {0}
IsLawfulSet (MetricType type) = Unit {0}
IsLawfulSet (Weight n) = Unit {0}
IsLawfulSet (Origin origin) = Unit {0}
IsLawfulSet (Communities numbers additive) = Unit {0}
IsLawfulSet (Prepend numbers) = (1 ≤ length numbers) × IsPrepended numbers
