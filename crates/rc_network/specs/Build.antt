-- The network of the models of files, in the order of their files' names.
use Rattle.std.specs.Prelude.{◌≡◌, ℕ, List, [], ◌∷◌, ◌++◌, map, Option, Some, None, Result, Ok, Err, if◌then◌else◌, is_some, slice_get, IsPermutation}
use Rattle.std.specs.List.{filter_map}
use Rattle.std.specs.Option.{option_map, option_map_or, option_or}
use Rattle.rc_config.specs.Named.{named, AreNamesInOrder}
use Rattle.rc_config.specs.Update.{settled_router}
use Rattle.rc_config.specs.declared.network.Network.{Network}
use Rattle.rc_config.specs.declared.router_text.RouterText.{RouterText}
use Rattle.rc_network.specs.Undefined.{undefined_line}
use Rattle.rc_network.specs.declared.refusal.BuildError.{BuildError}
use Rattle.rc_network.specs.declared.refusal.BuildError.TheVariants as error
use Rattle.rc_network.specs.declared.refusal.NetCause.TheVariants.{TwiceNamed, Undefined}
use Rattle.rc_network.specs.declared.refusal.NetRefusal.{NetRefusal}
use Rattle.rc_network.specs.declared.refusal.NetRefusal.TheVariants.{InFile}

-- the name of a file, and its model
abbrev pub Model : Type 0
Model = List ℕ × RouterText

-- the host name of a model, and the line that gives it
abbrev pub host_of : RouterText → List ℕ
host_of r = option_map_or (λ h. h.name) r.host []

abbrev pub host_line : RouterText → ℕ
host_line r = option_map_or (λ h. h.line) r.host 0

-- the router of a model under its host name, with what holds of each BGP neighbour in the end
abbrev pub under_host : Model → List ℕ × RouterText
under_host m = (host_of m.1, settled_router m.1)

-- the first model whose host name is that of an earlier one
abbrev pub first_twice : List (List ℕ × RouterText) → List Model → Option Model
first_twice earlier [] = None
first_twice earlier (m ∷ ms) = if is_some (named earlier (host_of m.1)) then Some m else first_twice (earlier ++ under_host m ∷ []) ms

-- it is refused at its `hostname` line
abbrev pub twice_refusal : Model → NetRefusal
twice_refusal m = InFile m.0 (host_line m.1) TwiceNamed

abbrev pub twice_from : List (List ℕ × RouterText) → List Model → Option NetRefusal
twice_from earlier models = option_map twice_refusal (first_twice earlier models)

abbrev pub twice : List Model → Option NetRefusal
twice models = twice_from [] models

-- a file that names what it doesn't define is refused at the least line that does
abbrev pub undefined_in : Model → Option NetRefusal
undefined_in m = option_map (λ line. InFile m.0 line Undefined) (undefined_line m.1)

-- the first such file
abbrev pub first_undefined : List Model → Option NetRefusal
first_undefined models = slice_get (filter_map undefined_in models) 0

-- the first refusal of a network: of a host name that is there already, in whichever file, before that of an undefined name
abbrev pub first_refusal : List Model → Option NetRefusal
first_refusal models = option_or (twice models) (first_undefined models)

-- a network of these routers, in byte order of their names, that is cut nowhere
pub record HasRouters (routers : List (List ℕ × RouterText)) (net : Network) : Type 0 where
  pub same : IsPermutation routers net.routers
  pub in_order : AreNamesInOrder net.routers
  pub uncut : net.cuts ≡ []

-- the routers of the models under their host names
abbrev pub IsNetworkOf : List Model → Network → Type 0
IsNetworkOf models net = HasRouters (map under_host models) net

-- models have one network
abbrev pub HasOneNetwork : Type 0
HasOneNetwork = (models : List Model) (this that : Network) → IsNetworkOf models this → IsNetworkOf models that → this ≡ that

-- what a call gave is the network of the models, or their first refusal; unless memory ran out
abbrev pub IsBuilt : List Model → Result Network BuildError → Type 0
IsBuilt models (Ok net) = (first_refusal models ≡ None) × IsNetworkOf models net
IsBuilt models (Err error.Memory) = Unit {0}
IsBuilt models (Err (error.Refused refusal)) = first_refusal models ≡ Some refusal
