-- The routes of one router after another.
use Rattle.std.proofs.Common.{◌≡◌, ap, sym, ℕ, ◌≤◌, ◌<◌, List, [], length, take, get_or, arith}
use Rattle.std.specs.Option.{option_map_or}
use Rattle.std.proofs.lemmas.List.{take_all}
use Rattle.std.proofs.lemmas.List.FromFn.{length-range_with_len, get_or-range_with_len}
use Rattle.std.proofs.lemmas.Option.{slice_get_past}
use Rattle.rc_config.specs.Members.{router_ids}
use Rattle.rc_config.specs.declared.network.Network.{Network}
use Rattle.rc_report.specs.RouteText.{routes_text}
use Rattle.rc_route.specs.declared.state.RouterState.{RouterState}
use Rattle.rc_report.specs.StateText.{routes_in}

-- a state has no routes past its end
pub nothing_past : (net : Network) (state : List RouterState) (r : ℕ) → length state ≤ r → [] ≡ routes_in net state r
nothing_past net state r past = sym (ap (λ found. option_map_or (λ (s : RouterState). routes_text net r s.table) found []) (slice_get_past state r past))

-- the routers of a network are those of its indexes
pub within : (net : Network) (r : ℕ) → r < length net.routers → r < length (router_ids net)
within net r less = rw (length-range_with_len 0 (length net.routers)) less

pub at_index : (net : Network) (r : ℕ) → r < length net.routers → r ≡ get_or (router_ids net) r r
at_index net r less = rw (get_or-range_with_len 0 (length net.routers) r r less) (omega arith)

pub all_taken : (net : Network) (r : ℕ) → length net.routers ≤ r → take r (router_ids net) ≡ router_ids net
all_taken net r past = take_all r (router_ids net) (rw (length-range_with_len 0 (length net.routers)) past)
