-- What a way to a prefix outside of the AS costs (RFC 2328 s.2.3 and 16.4).
use Rattle.std.specs.Prelude.{ℕ, ◌+◌, List, [], ◌∷◌}
use Rattle.std.specs.Ordering.{nat_cmp}
use Rattle.std.specs.Cmp.Lexicographic.{slice_cmp}
use Rattle.std.specs.declared.cmp.Ordering.{Ordering}
use Rattle.rc_config.specs.Sets.{metric_type_number}
use Rattle.rc_config.specs.declared.sets.MetricType.{MetricType}
use Rattle.rc_config.specs.declared.sets.MetricType.TheVariants.{Type1, Type2}
use Rattle.rc_external.specs.AsExternal.{AsExternal}
use Rattle.rc_external.specs.declared.cost.ExternalCost.{ExternalCost}

-- of type 1 the distance of the boundary router and its metric together; of type 2 its metric, and then its distance
abbrev pub cost_by_type : MetricType → ℕ → ℕ → ExternalCost
cost_by_type Type1 metric distance = record { metric_type = Type1; metric = distance + metric; distance = 0 }
cost_by_type Type2 metric distance = record { metric_type = Type2; metric = metric; distance = distance }

abbrev pub cost_over : AsExternal → ℕ → ExternalCost
cost_over e distance = cost_by_type e.metric_type e.metric distance

-- any type 1 before any type 2, then by metric, then by distance
abbrev pub cost_key : ExternalCost → List ℕ
cost_key c = metric_type_number c.metric_type ∷ c.metric ∷ c.distance ∷ []

-- external costs: any of type 1 before any of type 2, then by metric, then by distance
abbrev pub cost_cmp : ExternalCost → ExternalCost → Ordering
cost_cmp b c = slice_cmp nat_cmp (cost_key b) (cost_key c)
