use Rattle.std.proofs.Common.{refl}
use Rattle.rc_gram_acl.specs.NumberName.{protocol_names}
use Rattle.rc_gram_acl.proofs.number_name.protocol_names.Goals as goal

pub returns : goal.returns
unfolding protocol_names
returns c = refl
