-- The plane of a network and its state.
use Rattle.std.proofs.Common.{refl, ◌≡◌, ap, sym, ◌∙◌, subst, ℕ, ◌+◌, true, List, [], ◌∷◌, All, length, map, get_or}
use Rattle.std.specs.List.{fold}
use Rattle.std.proofs.lemmas.List.{length-map}
use Rattle.std.proofs.lemmas.List.Elements.{All-map}
use Rattle.rc_route.specs.declared.route.Route.{Route}
use Rattle.rc_route.specs.declared.route.Hop.{Hop}
use Rattle.rc_route.specs.declared.state.RouterState.{RouterState}
use Rattle.rc_fib.specs.Entry.{Entry}
use Rattle.rc_fib.specs.Entries.{IsFib}
use Rattle.rc_fib.specs.Forwarding.{is_resolved, resolved}
use Rattle.rc_fib.proofs.EndLaws.{resolved-resolved}
use Rattle.rc_moves.specs.Moves.{ArePrepared, HasResolvedHops, route_count, tables_of}

-- each hop of each prepared table says where a packet goes
pub prepared : (state : List RouterState) → HasResolvedHops (map (λ (s : RouterState). resolved s.table) state)
prepared state =
    All-map (All (λ (e : Entry). All (λ (hop : Hop). is_resolved hop ≡ true) e.hops)) (λ (s : RouterState). resolved s.table) state (λ k d less. resolved-resolved (get_or state k d).table)

-- the tables of a state are prepared, where each is in order
pub are_prepared : (state : List RouterState) (fibs : List (List Entry)) → fibs ≡ tables_of state → All IsFib fibs → ArePrepared fibs
are_prepared state fibs is in_order = record { resolved = subst HasResolvedHops (sym is) (prepared state); in_order = in_order }

as_many : (table : List Route) → length (resolved table) ≡ length table
as_many table = length-map table _

counted_from : (n : ℕ) (state : List RouterState) → fold (λ m (t : List Entry). m + length t) n (tables_of state) ≡ fold (λ m (s : RouterState). m + length s.table) n state
counted_from n [] = refl
counted_from n (s ∷ ss) = ap (λ k. fold (λ m (t : List Entry). m + length t) (n + k) (tables_of ss)) (as_many s.table) ∙ counted_from (n + length s.table) ss

-- the tables of a state have as many routes as its routers know
pub routes_counted : (state : List RouterState) → route_count (tables_of state) ≡ fold (λ n (s : RouterState). n + length s.table) 0 state
routes_counted state = counted_from 0 state
