-- The sessions that are up, taken router by router, are the configured ones to the router that are up.
use Rattle.std.proofs.Common.{refl, ◌≡◌, ap, sym, ◌∙◌, ℕ, zero, suc, ◌+◌, ◌<◌, ◌==◌, Bool, true, false, cond, ◌||◌, List, [], ◌∷◌, ◌++◌, length, map, arith, Option, Some, None, option_and_then, unwrap_or, eq-eqb, subst, append-nil}
use Rattle.std.specs.Prelude.{slice_get}
use Rattle.std.specs.List.{AllByRecursion, cons_option, filter, filter_map, flat_map, range_with_len}
use Rattle.std.specs.Option.{option_map_or}
use Rattle.std.proofs.lemmas.Bool.{ne_eqb}
use Rattle.std.proofs.lemmas.List.Elements.{filter-append}
use Rattle.rc_config.specs.Members.{router_at, router_ids}
use Rattle.rc_config.specs.declared.bgp.BgpProcess.{BgpProcess}
use Rattle.rc_config.specs.declared.network.Network.{Network}
use Rattle.rc_config.specs.declared.router_text.RouterText.{RouterText}
use Rattle.rc_route.specs.declared.state.RouterState.{RouterState}
use Rattle.rc_topology.proofs.ListLaws.{all_append}
use Rattle.rc_topology.specs.Topology.{Topology}
use Rattle.rc_bgp.specs.Sessions.{are_shared, configured_sessions, fit, is_up, may_be_far, received, session_between, session_from, session_of, sessions_from, sessions_of, sessions_to, up_sessions}
use Rattle.rc_bgp.specs.Speakers.{router_addresses, silent, speaker_with, speaker_at, speaker_of, speakers, statement_about}
use Rattle.rc_bgp.specs.declared.speaker.Speaker.{Speaker}
use Rattle.rc_bgp.specs.declared.statement.Statement.{Statement}
use Rattle.rc_bgp_session.specs.declared.session.Session.{Session}

-- each session that may come is to this router
abbrev IsTo : ℕ → Option Session → Type 0
IsTo k o = (s : Session) → o ≡ Some s → s.receiver ≡ k

none_to : (k : ℕ) → IsTo k None
none_to k s e = absurd (cc)

some_to : (k : ℕ) (x : Session) → x.receiver ≡ k → IsTo k (Some x)
some_to k x is s e = (let same : x ≡ s = cc in ap (λ (t : Session). t.receiver) (sym same) ∙ is)

either_to : (k : ℕ) (b : Bool) (o : Option Session) → IsTo k o → IsTo k (cond b o None)
either_to k true o is = is
either_to k false o is = none_to k

then_to : (k : ℕ) (f : Statement → Option Session) → ((x : Statement) → IsTo k (f x)) → (o : Option Statement) → IsTo k (option_and_then f o)
then_to k f each None = none_to k
then_to k f each (Some x) = each x

abbrev AreTo : ℕ → List Session → Type 0
AreTo k ss = AllByRecursion (λ (s : Session). s.receiver ≡ k) ss

module _ (links : Topology) (net : Network) (to : Speaker) where
  of_statements : (from : Speaker) (x y : Statement) → IsTo to.router (session_of links to from x y)
  of_statements from x y =
      let is_shared = are_shared links to.own x.local from.own x.neighbor in
      either_to to.router (fit to from x y) _
      (either_to to.router (is_shared || may_be_far _ x y) (Some (session_between to from x is_shared)) (some_to to.router (session_between to from x is_shared) refl))

  from_address : (from : Speaker) (b : ℕ) → IsTo to.router (session_from links net to from b)
  from_address from b = then_to to.router _ (λ x. then_to to.router (session_of links to from x) (of_statements from x) (statement_about net from x.local)) (statement_about net to b)

  from_addresses : (from : Speaker) (bs : List ℕ) → AreTo to.router (filter_map (session_from links net to from) bs)
  from_addresses from [] = tt
  from_addresses from (b ∷ bs) = by (session_from links net to from b) (from_address from b) (from_addresses from bs)
    where
      by : (o : Option Session) → IsTo to.router o → AreTo to.router (filter_map (session_from links net to from) bs) → AreTo to.router (cons_option o (filter_map (session_from links net to from) bs))
      by None is rest = rest
      by (Some s) is rest = (is s refl, rest)

  from_all : (all : List Speaker) → AreTo to.router (sessions_to links net all to)
  from_all [] = tt
  from_all (from ∷ rest) = all_append (λ (s : Session). s.receiver ≡ to.router) (sessions_from links net to from) (sessions_to links net rest to) (from_addresses from from.locals) (from_all rest)

speaks_as : (net : Network) (r : ℕ) → (speaker_at net r).router ≡ r
speaks_as net r = at_router (router_at net r)
  where
    at_process : (file : RouterText) (o : Option BgpProcess) → (option_map_or (λ process. speaker_with r file.interfaces process (router_addresses r file.interfaces)) o (silent r)).router ≡ r
    at_process file None = refl
    at_process file (Some process) = refl

    at_router : (o : Option RouterText) → (option_map_or (speaker_of r) o (silent r)).router ≡ r
    at_router None = refl
    at_router (Some file) = at_process file file.bgp

mapped_twice : {X Y Z : Type 0} (f : Y → Z) (g : X → Y) (xs : List X) → map f (map g xs) ≡ map (λ x. f (g x)) xs
mapped_twice f g [] = refl
mapped_twice f g (x ∷ xs) = ap (λ ys. f (g x) ∷ ys) (mapped_twice f g xs)

-- ---- of lists, each to its number, those to a number are the list of that number

module _ (up : Session → Bool) where
  others : (k r : ℕ) → (k ≡ r → ⊥) → (ss : List Session) → AreTo k ss → received (filter up ss) r ≡ []
  others k r other [] all = refl
  others k r other (s ∷ ss) all = by (up s) (others k r other ss all.1)
    where
      by : (b : Bool) → received (filter up ss) r ≡ [] → received (cond b (s ∷ filter up ss) (filter up ss)) r ≡ []
      by true rest = ap (λ is. cond is (s ∷ received (filter up ss) r) (received (filter up ss) r)) (ne_eqb s.receiver r (λ e. other (sym all.0 ∙ e))) ∙ rest
      by false rest = rest

  own : (k : ℕ) (ss : List Session) → AreTo k ss → received (filter up ss) k ≡ filter up ss
  own k [] all = refl
  own k (s ∷ ss) all = by (up s) (own k ss all.1)
    where
      by : (b : Bool) → received (filter up ss) k ≡ filter up ss → received (cond b (s ∷ filter up ss) (filter up ss)) k ≡ cond b (s ∷ filter up ss) (filter up ss)
      by true rest = ap (λ is. cond is (s ∷ received (filter up ss) k) (received (filter up ss) k)) (eq-eqb s.receiver k all.0) ∙ ap (λ ts. s ∷ ts) rest
      by false rest = rest

  module _ (f : ℕ → List Session) (each : (k : ℕ) → AreTo k (f k)) where
    abbrev those : ℕ → ℕ → List Session
    those k n = flat_map (filter up) (map f (range_with_len k n))

    in_parts : (k n r : ℕ) → received (filter up (f k) ++ those (k + 1) n) r ≡ received (filter up (f k)) r ++ received (those (k + 1) n) r
    in_parts k n r = filter-append (λ (s : Session). s.receiver == r) (filter up (f k)) (those (k + 1) n)

    none_below : (k n r : ℕ) → r < k → received (those k n) r ≡ []
    none_below k zero r less = refl
    none_below k (suc n) r less = in_parts k n r ∙ ap (λ ss. ss ++ received (those (k + 1) n) r) (others k r (λ e. omega arith) (f k) (each k)) ∙ none_below (k + 1) n r (omega arith)

    at_number : (k n i : ℕ) → received (those k n) (k + i) ≡ filter up (unwrap_or (slice_get (map f (range_with_len k n)) i) [])
    at_number k zero i = refl
    at_number k (suc n) zero =
        ap (received (those k (suc n))) (let same : k + 0 ≡ k = omega arith in same) ∙ in_parts k n k
        ∙ ap (λ ss. ss ++ received (those (k + 1) n) k) (own k (f k) (each k)) ∙ ap (λ ss. filter up (f k) ++ ss) (none_below (k + 1) n k (omega arith)) ∙ append-nil (filter up (f k))
    at_number k (suc n) (suc i) =
        in_parts k n (k + suc i) ∙ ap (λ ss. ss ++ received (those (k + 1) n) (k + suc i)) (others k (k + suc i) (λ e. omega arith) (f k) (each k))
        ∙ ap (received (those (k + 1) n)) (let same : k + suc i ≡ k + 1 + i = omega arith in same) ∙ at_number (k + 1) n i

module _ (net : Network) (links : Topology) where
  abbrev to_router : ℕ → List Session
  to_router r = sessions_to links net (speakers net) (speaker_at net r)

  as_numbered : configured_sessions net links ≡ map to_router (router_ids net)
  unfolding configured_sessions speakers
  as_numbered = mapped_twice (sessions_to links net (speakers net)) (speaker_at net) (router_ids net)

  each_to : (r : ℕ) → AreTo r (to_router r)
  each_to r = subst (λ k. AreTo k (to_router r)) (speaks_as net r) (from_all links net (speaker_at net r) (speakers net))

  -- so the sessions that are up say of each router what is found of it in the rounds
  pub rounds_find : (old : List RouterState) (up : List Session) → up ≡ flat_map (filter (is_up old)) (configured_sessions net links) → (r : ℕ) → received up r ≡ up_sessions (configured_sessions net links) old r
  rounds_find old up is r =
      ap (λ ss. received ss r) (is ∙ ap (flat_map (filter (is_up old))) as_numbered)
      ∙ ap (received (those (is_up old) to_router each_to 0 (length net.routers))) (let same : r ≡ 0 + r = omega arith in same)
      ∙ at_number (is_up old) to_router each_to 0 (length net.routers) r
      ∙ ap (λ all. filter (is_up old) (sessions_of all r)) (sym as_numbered)
