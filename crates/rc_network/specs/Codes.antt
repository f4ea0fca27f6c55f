-- The numbers of a network's refusals. Nothing is decided by them.
use Rattle.std.specs.Prelude.{ℕ}
use Rattle.rc_grammar.specs.Codes.{cause_code}
use Rattle.rc_network.specs.declared.refusal.NetCause.{NetCause}
use Rattle.rc_network.specs.declared.refusal.NetCause.TheVariants.{File, TwiceNamed, Undefined, FileTooLong}

-- the number of a refusal of a folder
abbrev pub net_code : NetCause → ℕ
net_code (File cause) = cause_code cause
net_code TwiceNamed = 8
net_code Undefined = 9
net_code FileTooLong = 11
