-- Best paths are the same where the senders of sessions know the same.
use Rattle.std.proofs.Common.{refl, ◌≡◌, ap, sym, ◌∙◌, ℕ, cond, ◌&&◌, ◌||◌, List, [], ◌∷◌, ◌++◌, Option}
use Rattle.std.specs.Prelude.{option_and_then}
use Rattle.std.specs.List.{AllByRecursion, cons_option, filter, filter_map, flat_map}
use Rattle.std.specs.Option.{option_or}
use Rattle.rc_base.specs.Lists.{in_order}
use Rattle.rc_base.specs.Prefix.{Cidr, prefix_cmp, same_prefix, default_prefix}
use Rattle.rc_config.specs.declared.network.Network.{Network}
use Rattle.rc_route.specs.declared.path.BgpPath.{BgpPath}
use Rattle.rc_route.specs.declared.route.Route.{Route}
use Rattle.rc_route.specs.declared.state.RouterState.{RouterState}
use Rattle.rc_topology.proofs.ListLaws.{all_filter, filter_agree}
use Rattle.rc_bgp.specs.Candidates.{all_best, best_paths, best_prefixes, best_with_further, own_at, path_heard, prefixes_of, reachable, sender_prefixes}
use Rattle.rc_bgp.specs.Maximum.{maximum_of}
use Rattle.rc_bgp.specs.RouterStates.{paths_of, table_of}
use Rattle.rc_bgp.specs.AllOriginated.{own_paths}
use Rattle.rc_config.specs.declared.bgp.MaximumPaths.{MaximumPaths}
use Rattle.rc_route.specs.Tables.{best_path_for}
use Rattle.rc_route.specs.declared.best.Best.{Best}
use Rattle.rc_bgp.specs.Reaching.{reaches}
use Rattle.rc_bgp.specs.Sessions.{is_up, sessions_of, up_sessions}
use Rattle.rc_bgp_session.specs.Passing.{export, import, originated_default}
use Rattle.rc_bgp_session.specs.declared.session.Session.{Session}

-- a session to the router, whose sender knows the same in both states
pub record IsKnownAlike (r : ℕ) (old now : List RouterState) (s : Session) : Type 0 where
  pub receiver : s.receiver ≡ r
  pub table : table_of old s.sender ≡ table_of now s.sender
  pub paths : paths_of old s.sender ≡ paths_of now s.sender

module _ (net : Network) (r : ℕ) (old now : List RouterState) where
  abbrev AllAlike : List Session → Type 0
  AllAlike ss = AllByRecursion (IsKnownAlike r old now) ss

  -- ---- sessions that are up

  ups : table_of old r ≡ table_of now r → (ss : List Session) → AllAlike ss → AllByRecursion (λ s. is_up old s ≡ is_up now s) ss
  ups same [] all = tt
  ups same (s ∷ ss) all =
      let here : table_of old s.receiver ≡ table_of now s.receiver = ap (table_of old) all.0.receiver ∙ same ∙ ap (table_of now) (sym all.0.receiver) in
      let there = all.0.table in
      ((λ i. s.is_shared || (reaches (here i) s.sender_address && reaches (there i) s.receiver_address)), ups same ss all.1)

  same_up : table_of old r ≡ table_of now r → (ss : List Session) → AllAlike ss → filter (is_up old) ss ≡ filter (is_up now) ss
  same_up same ss all = filter_agree (is_up old) (is_up now) ss (ups same ss all)

  -- ---- what is heard

  module _ (table : List Route) where
    -- from the paths of the sender
    abbrev hear : Session → Cidr → List Best → Option BgpPath
    hear s p paths =
        option_and_then (reachable table) (option_and_then (import net s)
        (cond (same_prefix p default_prefix) (option_or (originated_default net s) (option_and_then (export net s) (best_path_for paths p))) (option_and_then (export net s) (best_path_for paths p))))

    all_heard : (p : Cidr) (ss : List Session) → AllAlike ss → filter_map (λ s. path_heard net old table s p) ss ≡ filter_map (λ s. path_heard net now table s p) ss
    all_heard p [] all = refl
    all_heard p (s ∷ ss) all =
        let here = ap (hear s p) all.0.paths in
        let rest = all_heard p ss all.1 in
        λ i. cons_option (here i) (rest i)

    all_seen : (ss : List Session) → AllAlike ss → flat_map (sender_prefixes old) ss ≡ flat_map (sender_prefixes now) ss
    all_seen [] all = refl
    all_seen (s ∷ ss) all =
        let here = ap best_prefixes all.0.paths in
        let rest = all_seen ss all.1 in
        λ i. here i ++ rest i

    same_best : (most : MaximumPaths) (own : List (List BgpPath)) (ss : List Session) → AllAlike ss → all_best net old most table own ss ≡ all_best net now most table own ss
    same_best most own ss all =
        let seen = all_seen ss all in
        let each = λ (p : Cidr). all_heard p ss all in
        λ i. filter_map (λ p. best_with_further most (own_at own p ++ each p i)) (in_order prefix_cmp (default_prefix ∷ (flat_map prefixes_of own ++ seen i)))

  pub same_paths : (all : List (List Session)) → table_of old r ≡ table_of now r → AllAlike (sessions_of all r) → best_paths net all old r ≡ best_paths net all now r
  unfolding best_paths
  same_paths all same alike =
      same_best (table_of old r) (maximum_of net r) (own_paths net (table_of old r) r) (up_sessions all old r) (all_filter (IsKnownAlike r old now) (is_up old) (sessions_of all r) alike)
      ∙ (λ i. all_best net now (maximum_of net r) (same i) (own_paths net (same i) r) (same_up same (sessions_of all r) alike i))
