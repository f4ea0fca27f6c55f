use Rattle.rc_base.proofs.FieldLaws.{fields_are_apart}
use Rattle.rc_base.proofs.BitLaws.{fields_are_read, bits_are_set}
use Rattle.rc_base.proofs.HeaderLaws.{headers_are_bits}
use Rattle.rc_base.proofs.bits.header_laws.Goals as goal

pub returns-clause-apart : goal.returns-clause-apart
returns-clause-apart c = fields_are_apart

pub returns-clause-read : goal.returns-clause-read
returns-clause-read c = fields_are_read

pub returns-clause-set : goal.returns-clause-set
returns-clause-set c = bits_are_set

pub returns-clause-from_bits : goal.returns-clause-from_bits
returns-clause-from_bits c = headers_are_bits
