-- A prepared table that grows route by route.
use Rattle.std.proofs.Common.{refl, ◌≡◌, ap, sym, ◌∙◌, subst, ℕ, ◌+◌, ◌<◌, Bool, true, arith, List, [], ◌∷◌, ◌++◌, append-nil, append_assoc, length, map, All, Option, None, Some}
use Rattle.std.specs.Prelude.{MatchOption}
use Rattle.std.specs.List.{AllByRecursion, list_all}
use Rattle.std.proofs.lemmas.List.{map-append, length-append}
use Rattle.rc_base.specs.Prefix.{Cidr, IsCidr}
use Rattle.rc_route.specs.Tables.{IsTable}
use Rattle.rc_route.specs.declared.route.Hop.{Hop}
use Rattle.rc_route.specs.declared.route.Route.{Route}
use Rattle.rc_fib.specs.Entries.{IsFib, entries_over}
use Rattle.rc_fib.specs.Entry.{Entry}
use Rattle.rc_fib.specs.Forwarding.{is_resolved, resolve_all, resolved, resolved_hops}
use Rattle.rc_fib.specs.Growing.{HasHops, IsLayer}
use Rattle.rc_fib.specs.Making.{IsMadeOf, IsOpenRun}
use Rattle.rc_fib.specs.Stretches.{Cover, spread}
use Rattle.rc_fib.specs.declared.growing.Growing.{Growing}
use Rattle.rc_fib.specs.declared.making.FibMaking.{FibMaking}
use Rattle.rc_fib.specs.declared.stretch.Stretch.{Stretch}
use Rattle.rc_fib.proofs.GrowingLaws.{canonical_entries, no_layer, run_pushed}
use Rattle.rc_fib.proofs.LayerLaws.{in_order_over, plain_layer}

abbrev prefixes : List Route → List Cidr
prefixes routes = map (λ (r : Route). r.prefix) routes

abbrev no_run : List Route
no_run = []

-- the runs that are closed, with these prefixes
abbrev part : FibMaking → List Cidr → Growing
part m ps = record { prefixes = ps; stretches = m.stretches; is_plain = m.is_plain }

-- nothing is made of no routes
pub none_made : (m : FibMaking) → m.prefixes ≡ [] → m.stretches ≡ [] → m.hops ≡ None → IsMadeOf [] m
none_made m no_prefix no_stretch no_hops = record {
  before = [];
  run = [];
  parts = refl;
  closed = [];
  layer = no_layer [] (part m []) refl no_stretch;
  behind = no_prefix;
  canonical = subst (All IsCidr) (sym no_prefix) (search arith);
  last = subst (λ o. MatchOption o (no_run ≡ []) (IsOpenRun no_run)) (sym no_hops) refl;
}

-- all runs are closed, where none is open
all_closed : (routes : List Route) (m : FibMaking) → m.hops ≡ None → IsMadeOf routes m → IsLayer [] routes (part m m.prefixes)
all_closed routes m no_hops made =
    let none : made.run ≡ [] = subst (λ o. MatchOption o (made.run ≡ []) (IsOpenRun made.run)) no_hops made.last in
    let all : routes ≡ made.before = made.parts ∙ ap (λ rs. made.before ++ rs) none ∙ append-nil made.before in
    let ps : m.prefixes ≡ made.closed = made.behind ∙ ap (λ rs. made.closed ++ prefixes rs) none ∙ append-nil made.closed in
    subst (λ qs. IsLayer [] routes (part m qs)) (sym ps) (subst (λ rs. IsLayer [] rs (part m made.closed)) (sym all) made.layer)

-- what is closed is made of its routes
of_layer : (routes : List Route) (m : FibMaking) → m.hops ≡ None → All IsCidr m.prefixes → IsLayer [] routes (part m m.prefixes) → IsMadeOf routes m
of_layer routes m no_hops canonical layer = record {
  before = routes;
  run = [];
  parts = sym (append-nil routes);
  closed = m.prefixes;
  layer = layer;
  behind = sym (append-nil m.prefixes);
  canonical = canonical;
  last = subst (λ o. MatchOption o (no_run ≡ []) (IsOpenRun no_run)) (sym no_hops) refl;
}

-- the open run is closed
pub run_closed : (m n : FibMaking) (hops : List Hop) (stretch : Stretch) → m.hops ≡ Some hops → n.hops ≡ None → n.prefixes ≡ m.prefixes → n.stretches ≡ m.stretches ++ stretch ∷ []
    → stretch.end ≡ length m.prefixes → stretch.hops ≡ resolve_all (resolved_hops []) hops → (n.is_plain ≡ true → (m.is_plain ≡ true) × (list_all is_resolved hops ≡ true))
    → (routes : List Route) → IsMadeOf routes m → IsMadeOf routes n
run_closed m n hops stretch was no_hops same put ends resolved_are plain routes made =
    let open_run : IsOpenRun made.run hops = subst (λ o. MatchOption o (made.run ≡ []) (IsOpenRun made.run)) was made.last in
    let canonical : All IsCidr n.prefixes = subst (All IsCidr) (sym same) made.canonical in
    let layer : IsLayer [] (made.before ++ made.run) (part n n.prefixes) =
    run_pushed [] hops made.run open_run.0 open_run.1 (part m made.closed) (part n n.prefixes) stretch resolved_are (ends ∙ ap length (sym same)) (same ∙ made.behind) (λ few. canonical) put plain made.before made.layer
    in
    of_layer routes n no_hops canonical (subst (λ rs. IsLayer [] rs (part n n.prefixes)) (sym made.parts) layer)

-- nothing is closed, where nothing is open
pub none_closed : (m n : FibMaking) → n ≡ m → (routes : List Route) → IsMadeOf routes m → IsMadeOf routes n
none_closed m n same routes made = subst (IsMadeOf routes) (sym same) made

each_append : (hops : List Hop) (run : List Route) (r : Route) → AllByRecursion (HasHops hops) run → r.hops ≡ hops → AllByRecursion (HasHops hops) (run ++ r ∷ [])
each_append hops [] r alike is = (is, tt)
each_append hops (x ∷ run) r alike is = (alike.0, each_append hops run r alike.1 is)

longer : (run : List Route) (r : Route) → 0 < length (run ++ r ∷ [])
longer [] r = omega arith
longer (x ∷ run) r = omega arith

-- a route more, with the hops of the open run
pub one_again : (m n : FibMaking) (p : Cidr) (hops : List Hop) → m.hops ≡ Some hops → n.hops ≡ m.hops → n.prefixes ≡ m.prefixes ++ p ∷ [] → (All IsCidr m.prefixes → All IsCidr n.prefixes)
    → n.stretches ≡ m.stretches → n.is_plain ≡ m.is_plain → (routes : List Route) (r : Route) → IsMadeOf routes m → r.prefix ≡ p → r.hops ≡ hops → IsMadeOf (routes ++ r ∷ []) n
one_again m n p hops was same put canonical stretches plain routes r made is_prefix has =
    let open_run : IsOpenRun made.run hops = subst (λ o. MatchOption o (made.run ≡ []) (IsOpenRun made.run)) was made.last in
    record {
      before = made.before;
      run = made.run ++ r ∷ [];
      parts = ap (λ rs. rs ++ r ∷ []) made.parts ∙ append_assoc made.before made.run (r ∷ []);
      closed = made.closed;
      layer = subst (λ (g : Growing). IsLayer [] made.before g) (λ i. record { prefixes = made.closed; stretches = sym stretches i; is_plain = sym plain i }) made.layer;
      behind =
          put ∙ ap (λ ps. ps ++ p ∷ []) made.behind ∙ append_assoc made.closed (prefixes made.run) (p ∷ [])
          ∙ ap (λ q. made.closed ++ (prefixes made.run ++ q ∷ [])) (sym is_prefix) ∙ ap (λ ps. made.closed ++ ps) (sym (map-append (λ (x : Route). x.prefix) made.run (r ∷ [])));
      canonical = canonical made.canonical;
      last = subst (λ o. MatchOption o (made.run ++ r ∷ [] ≡ []) (IsOpenRun (made.run ++ r ∷ []))) (sym (same ∙ was)) (longer made.run r, each_append hops made.run r open_run.1 has);
    }

-- a route more, which begins a run
pub one_begun : (m n : FibMaking) (p : Cidr) (hops : List Hop) → m.hops ≡ None → n.hops ≡ Some hops → n.prefixes ≡ m.prefixes ++ p ∷ [] → (All IsCidr m.prefixes → All IsCidr n.prefixes)
    → n.stretches ≡ m.stretches → n.is_plain ≡ m.is_plain → (routes : List Route) (r : Route) → IsMadeOf routes m → r.prefix ≡ p → r.hops ≡ hops → IsMadeOf (routes ++ r ∷ []) n
one_begun m n p hops none now put canonical stretches plain routes r made is_prefix has = record {
  before = routes;
  run = r ∷ [];
  parts = refl;
  closed = m.prefixes;
  layer = subst (λ (g : Growing). IsLayer [] routes g) (λ i. record { prefixes = m.prefixes; stretches = sym stretches i; is_plain = sym plain i }) (all_closed routes m none made);
  behind = put ∙ ap (λ q. m.prefixes ++ q ∷ []) (sym is_prefix);
  canonical = canonical made.canonical;
  last = subst (λ o. MatchOption o (r ∷ [] ≡ []) (IsOpenRun (r ∷ []))) (sym now) (omega arith, (has, tt));
}

-- what is made of a table
module _ (m : FibMaking) (none : m.hops ≡ None) (routes : List Route) (table : IsTable routes) (made : IsMadeOf routes m) where
  abbrev layer : IsLayer [] routes (part m m.prefixes)
  layer = all_closed routes m none made

  pub covered : Cover 0 m.prefixes m.stretches
  covered = layer.covers

  pub is_fib : IsFib (spread 0 m.prefixes m.stretches)
  is_fib = in_order_over [] (spread 0 m.prefixes m.stretches) routes table layer.value (canonical_entries m.prefixes m.stretches layer.covers made.canonical)

  pub is_resolved_table : m.is_plain ≡ true → spread 0 m.prefixes m.stretches ≡ resolved routes
  is_resolved_table plain = plain_layer routes [] (spread 0 m.prefixes m.stretches) layer.value (layer.plain plain)
