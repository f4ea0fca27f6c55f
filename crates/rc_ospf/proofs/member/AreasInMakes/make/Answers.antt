use Rattle.std.proofs.Common.{◌∙◌, ap}
use Rattle.rc_ospf.specs.RouterAreas.{open_areas}
use Rattle.rc_ospf.proofs.member.AreasInMakes.make.Goals as goal

pub returns : goal.returns
returns c = record {
  value = (let all = c.in_ok-all.ensures in let left = c.in_ok-non_stub.ensures ∙ ap open_areas (c.as_slice.ensures ∙ all) in λ i. record { all = all i; non_stub = left i });
  is_of_kind = tt;
}
