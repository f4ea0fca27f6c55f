-- How many paths to one prefix a router may use at once (multipath).
use Rattle.std.specs.Prelude.{ℕ}
use Rattle.std.specs.Option.{option_map_or}
use Rattle.rc_config.specs.declared.bgp.MaximumPaths.{MaximumPaths}
use Rattle.rc_config.specs.Bgp.{one_path}
use Rattle.rc_config.specs.Members.{router_at}
use Rattle.rc_config.specs.declared.bgp.BgpProcess.{BgpProcess}
use Rattle.rc_config.specs.declared.network.Network.{Network}
use Rattle.rc_config.specs.declared.router_text.RouterText.{RouterText}
use Rattle.rc_route.specs.declared.path.PathSource.{PathSource}
use Rattle.rc_route.specs.declared.path.PathSource.TheVariants.{External, Internal}

-- what the BGP process of a file says, one of each kind without a process
abbrev pub maximum_in : RouterText → MaximumPaths
maximum_in file = option_map_or (λ (process : BgpProcess). process.maximum_paths) file.bgp one_path

-- what a router may use
abbrev pub maximum_of : Network → ℕ → MaximumPaths
maximum_of net r = option_map_or maximum_in (router_at net r) one_path

-- the number for the kind of the best path: `maximum-paths` where another AS sent it, `maximum-paths ibgp` where the own one did; what the
-- router originates stands alone
abbrev pub number_for : MaximumPaths → PathSource → ℕ
number_for most External = most.external
number_for most Internal = most.internal
number_for most _ = 1
