-- Files that netcheck read before it knew address families and peer groups: they still have their network.
--
-- How they were read is told by two words of the grammar that reads them now: which opening decides a line, where with some fronts the lines of a
-- process were refused (`decided_before`), and that an `activate` line said nothing (`file_before`).
use Rattle.std.specs.Prelude.{◌≡◌, ℕ, true, List, [], Result, Ok, Err, All, IfSome}
use Rattle.rc_config.specs.declared.bgp.BgpProcess.{BgpProcess}
use Rattle.rc_config.specs.declared.bgp.Neighbor.{Neighbor}
use Rattle.rc_config.specs.declared.network.Network.{Network}
use Rattle.rc_config.specs.declared.router_text.RouterText.{RouterText}
use Rattle.rc_grammar.specs.File.{file_before}
use Rattle.rc_network.specs.Build.{Model}
use Rattle.rc_network.specs.Files.{models_of, IsNetBy, IsNetOfConfigs}
use Rattle.rc_network.specs.declared.refusal.NetRefusal.{NetRefusal}

-- no line of the file declares a peer group
abbrev pub HasNoGroups : RouterText → Type 0
HasNoGroups r = IfSome r.bgp (λ (p : BgpProcess). p.peering.groups ≡ [])

abbrev pub HaveNoGroups : Result (List Model) NetRefusal → Type 0
HaveNoGroups (Ok models) = All (λ (m : Model). HasNoGroups m.1) models
HaveNoGroups (Err refusal) = Unit {0}

-- each BGP neighbour of the router is active
abbrev pub HasActiveNeighbors : RouterText → Type 0
HasActiveNeighbors r = IfSome r.bgp (λ (p : BgpProcess). All (λ (n : Neighbor). n.is_active ≡ true) p.neighbors)

-- the files have this network, without peer groups and with every neighbour active
pub record IsKept (bytes : List ℕ → List ℕ) (configs : List (List ℕ)) (net : Network) : Type 0 where
  pub same : IsNetOfConfigs bytes configs (Ok net)
  pub no_groups : HaveNoGroups (models_of bytes configs)
  pub active : All (λ e. HasActiveNeighbors e.1) net.routers

-- files that had a network when address families and peer groups were refused have the same one, without groups and with every neighbour active
abbrev pub KeepsOldFiles : Type 0
KeepsOldFiles = (bytes : List ℕ → List ℕ) (configs : List (List ℕ)) (net : Network) → IsNetBy file_before bytes configs (Ok net) → IsKept bytes configs net
