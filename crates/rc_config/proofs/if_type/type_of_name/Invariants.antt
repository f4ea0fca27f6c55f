use Rattle.std.proofs.Common.{◌≡◌, drop}
use Rattle.std.specs.List.{find}
use Rattle.rc_base.specs.Name.{same_name}
use Rattle.rc_config.specs.IfType.{type_of, type_word}
use Rattle.rc_config.proofs.if_type.type_of_name.Given as goal

abbrev pub invariant-loop-kind : goal.invariant-loop-kind
invariant-loop-kind l = find (λ t. same_name (type_word t) l.front) (drop l.kind-index l.kind-items) ≡ type_of l.name
