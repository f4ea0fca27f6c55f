use Rattle.std.proofs.Common.{refl}
use Rattle.rc_gram_acl.specs.NumberName.{port_names}
use Rattle.rc_gram_acl.proofs.number_name.port_names.Goals as goal

pub returns : goal.returns
unfolding port_names
returns c = refl
