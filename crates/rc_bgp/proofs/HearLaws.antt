-- What is heard of tellers, and of a path that is the last one but for the prefix.
use Rattle.std.proofs.Common.{refl, ◌≡◌, ap, sym, ◌∙◌, List, [], ◌∷◌, ◌++◌, Option, Some, None}
use Rattle.std.specs.List.{cons_option, filter_map}
use Rattle.std.specs.Prelude.{option_and_then, option_map}
use Rattle.rc_base.specs.Prefix.{Cidr}
use Rattle.rc_config.specs.declared.bgp.MaximumPaths.{MaximumPaths}
use Rattle.rc_config.specs.declared.network.Network.{Network}
use Rattle.rc_route.specs.Paths.{for_prefix}
use Rattle.rc_route.specs.declared.path.BgpPath.{BgpPath}
use Rattle.rc_route.specs.declared.route.Route.{Route}
use Rattle.rc_route.specs.declared.state.RouterState.{RouterState}
use Rattle.rc_bgp.specs.Candidates.{best_among, best_with_further, candidates_at, own_at, path_heard, reachable}
use Rattle.rc_bgp.specs.Listening.{IsHeard, best_by, candidates_by, heard, heard_from, tellers, without_metric}
use Rattle.rc_bgp.specs.declared.listener.Heard.{Heard}
use Rattle.rc_bgp_session.specs.Passed.{passed}
use Rattle.rc_bgp_session.specs.declared.session.Session.{Session}

-- ---- the tellers of some sessions

module _ (net : Network) (old : List RouterState) (table : List Route) (own : List (List BgpPath)) (p : Cidr) where
  all_heard : (ss : List Session) → filter_map (heard_from table p) (tellers net old ss) ≡ filter_map (λ s. path_heard net old table s p) ss
  all_heard [] = refl
  all_heard (s ∷ ss) = ap (cons_option (path_heard net old table s p)) (all_heard ss)

pub by_tellers : (net : Network) (old : List RouterState) (table : List Route) (own : List (List BgpPath)) (ss : List Session) (p : Cidr) → candidates_by table own (tellers net old ss) p ≡ candidates_at net old table own ss p
by_tellers net old table own ss p = ap (λ xs. own_at own p ++ xs) (all_heard net old table own p ss)

pub best_by_tellers : (net : Network) (old : List RouterState) (most : MaximumPaths) (table : List Route) (own : List (List BgpPath)) (ss : List Session) (p : Cidr) → best_by most table own (tellers net old ss) p ≡ best_among net old most table own ss p
best_by_tellers net old most table own ss p = ap (best_with_further most) (by_tellers net old table own ss p)

-- ---- the last path

pub heard_again : (net : Network) (table : List Route) (s : Session) (last : Heard) (told : BgpPath) (made : Option BgpPath) → IsHeard net s last → for_prefix told.prefix last.told ≡ told
    → made ≡ option_and_then (reachable table) (option_map (for_prefix told.prefix) last.made) → made ≡ heard net table s told
heard_again net table s last told made is like again =
    again ∙ sym (apart last.made) ∙ ap reached is.made ∙ apart (passed net s last.told)
    ∙ ap (option_and_then (reachable table)) (sym (is.any.each told.prefix last.told) ∙ ap (passed net s) like)
  where
    reached : Option BgpPath → Option BgpPath
    reached o = option_and_then (reachable table) (option_map (for_prefix told.prefix) o)

    apart : (o : Option BgpPath) → reached (option_map without_metric o) ≡ reached o
    apart None = refl
    apart (Some x) = refl
