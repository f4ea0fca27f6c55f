-- What is told of a file or of a network that is not there: its refusal, where it has one.
use Rattle.std.specs.Prelude.{Option, Some, None, Result, Ok, Err}
use Rattle.rc_config.specs.declared.network.Network.{Network}
use Rattle.rc_grammar.specs.declared.refusal.FileRefusal.{FileRefusal}
use Rattle.rc_grammar.specs.declared.refusal.ReadError.{ReadError}
use Rattle.rc_grammar.specs.declared.refusal.ReadError.TheVariants as reading
use Rattle.rc_network.specs.declared.refusal.BuildError.{BuildError}
use Rattle.rc_network.specs.declared.refusal.BuildError.TheVariants as building
use Rattle.rc_network.specs.declared.refusal.NetRefusal.{NetRefusal}
use Rattle.rc_outside.specs.declared.folder.SourceError.{SourceError}
use Rattle.rc_outside.specs.declared.folder.SourceError.TheVariants.{Memory}

-- the refusal of a file that has no model
abbrev pub refusal_of : ReadError → Option FileRefusal
refusal_of (reading.Refused refusal) = Some refusal
refusal_of reading.Memory = None

-- what was built, or the refusal of it
abbrev pub network_or_refusal : Result Network BuildError → Result (Result Network NetRefusal) SourceError
network_or_refusal (Ok net) = Ok (Ok net)
network_or_refusal (Err (building.Refused refusal)) = Ok (Err refusal)
network_or_refusal (Err building.Memory) = Err Memory
