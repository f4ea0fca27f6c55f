use Rattle.std.proofs.Common.{refl}
use Rattle.rc_gram_acl.specs.NumberName.{icmp_type_names}
use Rattle.rc_gram_acl.proofs.number_name.icmp_type_names.Goals as goal

pub returns : goal.returns
unfolding icmp_type_names
returns c = refl
