-- What is built of models.
use Rattle.std.proofs.Common.{List, Result, Ok, Err, IfOk}
use Rattle.rc_config.specs.Lawful.{IsLawful}
use Rattle.rc_config.specs.declared.network.Network.{Network}
use Rattle.rc_network.specs.Build.{Model, IsBuilt}
use Rattle.rc_network.specs.Files.{IsNetOfModels}
use Rattle.rc_network.specs.declared.refusal.BuildError.{BuildError}
use Rattle.rc_network.specs.declared.refusal.BuildError.TheVariants as building
use Rattle.rc_loading.specs.Causes.{network_or_refusal}

pub built_net : (models : List Model) (made : Result Network BuildError) → IsBuilt models made → IfOk (network_or_refusal made) (IsNetOfModels models)
built_net models (Ok net) is = is
built_net models (Err (building.Refused refusal)) is = is
built_net models (Err building.Memory) is = tt

pub built_lawful : (made : Result Network BuildError) → IfOk made IsLawful → IfOk (network_or_refusal made) (λ net. IfOk net IsLawful)
built_lawful (Ok net) lawful = lawful
built_lawful (Err (building.Refused refusal)) lawful = tt
built_lawful (Err building.Memory) lawful = tt
