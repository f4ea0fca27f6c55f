-- What is gathered of models, one after another, and the network of it.
use Rattle.std.specs.Prelude.{◌≡◌, List, [], ◌∷◌, ◌++◌, map, Some, None, Result, Ok, Err, IsSome}
use Rattle.rc_config.specs.Named.{named}
use Rattle.rc_config.specs.declared.network.Network.{Network}
use Rattle.rc_network.specs.Build.{Model, HasRouters, host_of, under_host, twice, twice_refusal, first_undefined}
use Rattle.rc_network.specs.declared.building.Gathered.{Gathered}
use Rattle.rc_network.specs.declared.refusal.BuildError.{BuildError}
use Rattle.rc_network.specs.declared.refusal.BuildError.TheVariants as error

-- what is gathered of models: their routers under their host names, as they come, and the refusal of the first undefined name among them
abbrev pub gathered_of : List Model → Gathered
gathered_of models = record { routers = map under_host models; undefined = first_undefined models }

-- what was gathered of some models becomes that of these and one more, whose host name none of them has; or the one more is refused, as one
-- of them has its host name
abbrev pub Adds : {T : Type 0} → List Model → Model → Gathered → Result T BuildError → Type 0
Adds models m more (Ok x) = (named (map under_host models) (host_of m.1) ≡ None) × (more ≡ gathered_of (models ++ m ∷ []))
Adds models m more (Err error.Memory) = Unit {0}
Adds models m more (Err (error.Refused refusal)) = IsSome (named (map under_host models) (host_of m.1)) × (refusal ≡ twice_refusal m)

-- all models are gathered, none of which has the host name of an earlier one; or the first that has is refused
abbrev pub GathersAll : {T : Type 0} → List Model → Gathered → Result T BuildError → Type 0
GathersAll models g (Ok x) = (twice models ≡ None) × (g ≡ gathered_of models)
GathersAll models g (Err error.Memory) = Unit {0}
GathersAll models g (Err (error.Refused refusal)) = twice models ≡ Some refusal

-- the network of the routers that are gathered; or the refusal of the first undefined name, where there is one
abbrev pub IsFinished : Gathered → Result Network BuildError → Type 0
IsFinished g (Ok net) = (g.undefined ≡ None) × HasRouters g.routers net
IsFinished g (Err error.Memory) = Unit {0}
IsFinished g (Err (error.Refused refusal)) = g.undefined ≡ Some refusal
