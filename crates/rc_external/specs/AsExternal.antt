-- Routes from outside of the AS, as AS boundary routers send them (RFC 2328 s.12.4.4).
use Rattle.std.specs.Prelude.{ℕ, ◌≤◌, min}
use Rattle.rc_base.specs.Prefix.{Cidr}
use Rattle.rc_config.specs.declared.sets.MetricType.{MetricType}

-- an AS boundary router sends a prefix with a metric of a type
pub record AsExternal : Type 0 where
  pub boundary : ℕ
  pub prefix : Cidr
  pub metric : ℕ
  pub metric_type : MetricType

-- the greatest metric that is sent: LSInfinity (RFC 2328 appendix B) less one
abbrev pub greatest_metric : ℕ
greatest_metric = 16777214

-- a metric as it is sent
abbrev pub sent_metric : ℕ → ℕ
sent_metric metric = min greatest_metric metric

abbrev pub HasFiniteMetric : AsExternal → Type 0
HasFiniteMetric e = e.metric ≤ greatest_metric
