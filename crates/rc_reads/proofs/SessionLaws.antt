-- A router reads the senders of the sessions to it.
use Rattle.std.proofs.Common.{refl, ◌≡◌, ap, sym, ◌∙◌, subst, ℕ, ◌+◌, ◌<◌, ◌==◌, Bool, true, false, cond, not, ◌&&◌, ◌||◌, List, [], ◌∷◌, ◌++◌, map, length, Option, Some, None, IfSome, eq-eqb, inl, arith}
use Rattle.std.specs.Prelude.{slice_get, option_and_then, unwrap_or}
use Rattle.std.specs.List.{AllByRecursion, find, flat_map, range_with_len}
use Rattle.std.specs.Option.{option_map, option_map_or}
use Rattle.std.proofs.lemmas.Bool.Decides.{nat_tests}
use Rattle.std.proofs.lemmas.Option.{slice_get-get_or, slice_get-map}
use Rattle.std.proofs.lemmas.List.FromFn.{length-range_with_len, get_or-range_with_len}
use Rattle.rc_base.specs.Prefix.{contains}
use Rattle.rc_base.proofs.KeepLaws.{In}
use Rattle.rc_config.specs.Bgp.{address_of}
use Rattle.rc_config.specs.ByNumber.{has_number, with_number}
use Rattle.rc_config.specs.Down.{Entries, is_down}
use Rattle.rc_config.specs.Interface.{declared_addresses}
use Rattle.rc_config.specs.Members.{router_at, router_ids}
use Rattle.rc_config.specs.Named.{named}
use Rattle.rc_base.specs.Name.{same_name}
use Rattle.rc_config.specs.declared.bgp.BgpProcess.{BgpProcess}
use Rattle.rc_config.specs.declared.bgp.Neighbor.{Neighbor}
use Rattle.rc_config.specs.declared.interface.IfAddr.{IfAddr}
use Rattle.rc_config.specs.declared.interface.Interface.{Interface}
use Rattle.rc_config.specs.declared.network.Network.{Network}
use Rattle.rc_config.specs.declared.router_text.RouterText.{RouterText}
use Rattle.rc_topology.specs.Topology.{Topology}
use Rattle.rc_bgp.specs.Sessions.{are_shared, configured_sessions, fit, session_between, session_from, session_of, session_on, sessions_from, sessions_of, sessions_to}
use Rattle.rc_bgp.specs.Speakers.{addresses_at, facing, local_address, own_addr, router_addresses, silent, source_address, speaker_at, speaker_of, speaker_with, speakers, statement_about, statement_in, statement_of}
use Rattle.rc_bgp.specs.declared.speaker.OwnAddr.{OwnAddr}
use Rattle.rc_bgp.specs.declared.speaker.Speaker.{Speaker}
use Rattle.rc_bgp.specs.declared.statement.Statement.{Statement}
use Rattle.rc_bgp_session.specs.declared.session.Session.{Session}
use Rattle.rc_ospf.specs.Boundaries.{is_boundary}
use Rattle.rc_reads.specs.Reads.{addresses_of_entry, addresses_on, is_read, named_by, names, names_address, runs_ospf}
use Rattle.rc_reads.proofs.ListLaws.{all_members, all_flat_map, all_flat_map_map, all_map, all_filter_map, in_map, in_flat_map, found_in, some_passes, then_some, map_some, if_some, unless_some, any_some, find_some, lookup_some}

abbrev declared_in : Entries → List ℕ
declared_in entries = flat_map addresses_of_entry entries

-- ---- the local address of a statement is declared on its router

own_declared : (q : ℕ) (entries : Entries) → AllByRecursion (λ (o : OwnAddr). In o.addr (declared_in entries)) (router_addresses q entries)
own_declared q entries = all_flat_map (λ (o : OwnAddr). In o.addr (declared_in entries)) (addresses_at q entries) (range_with_len 0 (length entries)) (λ index there. by index (slice_get entries index) refl)
  where
    by : (index : ℕ) (o : Option (List ℕ × Interface)) → slice_get entries index ≡ o
        → AllByRecursion (λ (own : OwnAddr). In own.addr (declared_in entries)) (option_map_or (λ (e : List ℕ × Interface). cond (is_down entries e.0) [] (map (own_addr (record { router = q; index = index }) e.0) (declared_addresses e.1))) o [])
    by index None e = tt
    by index (Some e) is = up (is_down entries e.0)
      where
        up : (b : Bool) → AllByRecursion (λ (own : OwnAddr). In own.addr (declared_in entries)) (cond b [] (map (own_addr (record { router = q; index = index }) e.0) (declared_addresses e.1)))
        up true = tt
        up false = all_map (λ (own : OwnAddr). In own.addr (declared_in entries)) (own_addr (record { router = q; index = index }) e.0) (declared_addresses e.1)
            (λ a there. in_flat_map addresses_of_entry entries e a.addr (found_in entries index e is) (in_map (λ (b : IfAddr). b.addr) (declared_addresses e.1) a there))

primary_declared : (entries : Entries) → AllByRecursion (λ (e : List ℕ × Interface). IfSome e.1.primary (λ (a : IfAddr). In a.addr (declared_in entries))) entries
primary_declared entries = all_members (λ (e : List ℕ × Interface). IfSome e.1.primary (λ (a : IfAddr). In a.addr (declared_in entries))) entries (λ e there. by e (e.1.primary) (λ a here. in_flat_map addresses_of_entry entries e a.addr there (in_map (λ (b : IfAddr). b.addr) (declared_addresses e.1) a here)) refl)
  where
    by : (e : List ℕ × Interface) (o : Option IfAddr) → ((a : IfAddr) → In a (declared_addresses e.1) → In a.addr (declared_in entries)) → e.1.primary ≡ o → IfSome o (λ (a : IfAddr). In a.addr (declared_in entries))
    by e None each is = tt
    by e (Some a) each is = each a (subst (λ p. In a (option_map_or (λ b. b ∷ []) p [] ++ e.1.secondary)) (sym is) (inl refl))

source_declared : (entries : Entries) (name : List ℕ) → IfSome (source_address entries name) (λ a. In a (declared_in entries))
source_declared entries name =
    unless_some (λ a. In a (declared_in entries)) (is_down entries name) (option_and_then (λ (i : Interface). option_map (λ (a : IfAddr). a.addr) i.primary) (named entries name))
    (then_some (λ (i : Interface). IfSome i.primary (λ (a : IfAddr). In a.addr (declared_in entries))) (λ a. In a (declared_in entries)) (λ (i : Interface). option_map (λ (a : IfAddr). a.addr) i.primary) (named entries name)
    (lookup_some (λ (i : Interface). IfSome i.primary (λ (a : IfAddr). In a.addr (declared_in entries))) (same_name name) entries (primary_declared entries))
    (λ i here. map_some (λ (a : IfAddr). In a.addr (declared_in entries)) (λ a. In a (declared_in entries)) (λ (a : IfAddr). a.addr) i.primary here (λ a h. h)))

module _ (entries : Entries) (own : List OwnAddr) (declared : AllByRecursion (λ (o : OwnAddr). In o.addr (declared_in entries)) own) where
  local_declared : (n : Neighbor) → IfSome (local_address entries own n) (λ a. In a (declared_in entries))
  local_declared n = by n.settings.update_source
    where
      by : (o : Option (List ℕ)) → IfSome (option_map_or (source_address entries) o (facing own n.address)) (λ a. In a (declared_in entries))
      by (Some name) = source_declared entries name
      by None = map_some (λ (o : OwnAddr). In o.addr (declared_in entries)) (λ a. In a (declared_in entries)) (λ (o : OwnAddr). o.addr) (find (λ (o : OwnAddr). contains o.prefix n.address) own) (find_some (λ (o : OwnAddr). In o.addr (declared_in entries)) (λ (o : OwnAddr). contains o.prefix n.address) own declared) (λ o h. h)

  -- a statement speaks from a declared address, and names what a `neighbor` statement names
  abbrev IsSaid : Option BgpProcess → Statement → Type 0
  IsSaid bgp y = In y.local (declared_in entries) × (named_by bgp y.neighbor ≡ true)

  said_of : (bgp : Option BgpProcess) (n : Neighbor) → named_by bgp n.address ≡ true → IfSome (statement_of entries own n) (IsSaid bgp)
  said_of bgp n named_it =
      unless_some (IsSaid bgp) (n.settings.is_shutdown || not n.is_active) _
      (then_some (λ _. Unit {0}) (IsSaid bgp) (λ asn. option_map (λ a. record { local = a; neighbor = n.address; remote_as = asn; is_multihop = n.settings.is_multihop }) (local_address entries own n)) n.settings.remote_as (any_some n.settings.remote_as)
      (λ asn _. map_some (λ a. In a (declared_in entries)) (IsSaid bgp) (λ a. record { local = a; neighbor = n.address; remote_as = asn; is_multihop = n.settings.is_multihop }) (local_address entries own n) (local_declared n) (λ a h. (h, named_it))))

  said_by : (a : ℕ) (bgp : Option BgpProcess) → IfSome (option_and_then (λ (process : BgpProcess). option_and_then (statement_of entries own) (with_number address_of a process.neighbors)) bgp) (IsSaid bgp)
  said_by a None = tt
  said_by a (Some process) =
      let Is : Neighbor → Type 0 = λ n. has_number address_of n.address process.neighbors ≡ true in
      then_some Is (IsSaid (Some process)) (statement_of entries own) (with_number address_of a process.neighbors)
      (find_some Is (λ n. address_of n == a) process.neighbors (all_members Is process.neighbors (λ n there. some_passes (λ x. address_of x == n.address) process.neighbors n there (eq-eqb n.address n.address refl))))
      (λ n named_it. said_of (Some process) n named_it)

abbrev entries_of : Option RouterText → Entries
entries_of o = option_map_or (λ (text : RouterText). text.interfaces) o []

abbrev names_it : Option RouterText → ℕ → Bool
names_it o a = option_map_or (λ (text : RouterText). named_by text.bgp a) o false

said_in : (own : List OwnAddr) (a : ℕ) (o : Option RouterText) → AllByRecursion (λ (k : OwnAddr). In k.addr (declared_in (entries_of o))) own
    → IfSome (option_and_then (statement_in own a) o) (λ (y : Statement). In y.local (declared_in (entries_of o)) × (names_it o y.neighbor ≡ true))
said_in own a None declared = tt
said_in own a (Some file) declared = said_by file.interfaces own declared a file.bgp

-- ---- speakers

module _ (net : Network) where
  speaker_router : (q : ℕ) → (speaker_at net q).router ≡ q
  speaker_router q = by (router_at net q)
    where
      with_file : (file : RouterText) (bgp : Option BgpProcess) → (option_map_or (λ process. speaker_with q file.interfaces process (router_addresses q file.interfaces)) bgp (silent q)).router ≡ q
      with_file file None = refl
      with_file file (Some process) = refl

      by : (o : Option RouterText) → (option_map_or (speaker_of q) o (silent q)).router ≡ q
      by None = refl
      by (Some file) = with_file file file.bgp

  speaker_own : (q : ℕ) → AllByRecursion (λ (k : OwnAddr). In k.addr (declared_in (entries_of (router_at net q)))) (speaker_at net q).own
  speaker_own q = by (router_at net q)
    where
      with_file : (file : RouterText) (bgp : Option BgpProcess) → AllByRecursion (λ (k : OwnAddr). In k.addr (declared_in file.interfaces)) (option_map_or (λ process. speaker_with q file.interfaces process (router_addresses q file.interfaces)) bgp (silent q)).own
      with_file file None = tt
      with_file file (Some process) = own_declared q file.interfaces

      by : (o : Option RouterText) → AllByRecursion (λ (k : OwnAddr). In k.addr (declared_in (entries_of o))) (option_map_or (speaker_of q) o (silent q)).own
      by None = tt
      by (Some file) = with_file file file.bgp

  abbrev IsStatement : ℕ → Statement → Type 0
  IsStatement q y = In y.local (addresses_on net q) × (names_address net q y.neighbor ≡ true)

  said_about : (q a : ℕ) → IfSome (statement_about net (speaker_at net q) a) (IsStatement q)
  said_about q a =
      subst (λ k. IfSome (option_and_then (statement_in (speaker_at net q).own a) (router_at net k)) (IsStatement q)) (sym (speaker_router q))
      (said_in (speaker_at net q).own a (router_at net q) (speaker_own q))

  -- ---- sessions

  -- a session to the router, from one that it reads
  pub record IsRead (r : ℕ) (s : Session) : Type 0 where
    pub receiver : s.receiver ≡ r
    pub sender : In s.sender (router_ids net)
    pub is_read : is_read net r s.sender ≡ true

  second : (a b c : Bool) → b ≡ true → (a || (b || c)) ≡ true
  second true b c e = refl
  second false b c e = ap (λ t. t || c) e

  fit_names : (to from : Speaker) (x y : Statement) → fit to from x y ≡ true → x.neighbor ≡ y.local
  fit_names to from x y e = grind (arith, nat_tests)

  module _ (links : Topology) (r q : ℕ) (there : In q (router_ids net)) where
    named_one : (x y : Statement) → IsStatement r x → IsStatement q y → x.neighbor ≡ y.local → is_read net r q ≡ true
    named_one x y at_x at_y same =
        let one : names net r q ≡ true = some_passes (names_address net r) (addresses_on net q) y.local at_y.0 (ap (names_address net r) (sym same) ∙ at_x.1) in
        second (q == r) (names net r q) (names net q r || (runs_ospf net r && is_boundary net q)) one

    session_read : (b : ℕ) → IfSome (session_from links net (speaker_at net r) (speaker_at net q) b) (IsRead r)
    session_read b =
        then_some (IsStatement r) (IsRead r) _ (statement_about net (speaker_at net r) b) (said_about r b)
        (λ x at_x. then_some (IsStatement q) (IsRead r) (session_of links (speaker_at net r) (speaker_at net q) x) (statement_about net (speaker_at net q) x.local) (said_about q x.local)
        (λ y at_y. if_some (IsRead r) (fit (speaker_at net r) (speaker_at net q) x y) _
        (λ fits. if_some (IsRead r) _ (Some (session_between (speaker_at net r) (speaker_at net q) x (are_shared links (speaker_at net r).own x.local (speaker_at net q).own x.neighbor)))
        (λ _. record {
          receiver = speaker_router r;
          sender = subst (λ k. In k (router_ids net)) (sym (speaker_router q)) there;
          is_read = subst (λ k. is_read net r k ≡ true) (sym (speaker_router q)) (named_one x y at_x at_y (fit_names (speaker_at net r) (speaker_at net q) x y fits));
        }))))

    from_one : AllByRecursion (IsRead r) (sessions_from links net (speaker_at net r) (speaker_at net q))
    from_one = all_filter_map (IsRead r) (session_from links net (speaker_at net r) (speaker_at net q)) (speaker_at net q).locals session_read

  numbered : (n r : ℕ) → r < n → slice_get (range_with_len 0 n) r ≡ Some r
  numbered n r less =
      slice_get-get_or (range_with_len 0 n) r 0 (omega (arith, less, length-range_with_len 0 n)) ∙ ap Some (get_or-range_with_len 0 n r 0 less ∙ (let e : 0 + r ≡ r = omega arith in e))

  -- the sessions to a router come from routers that it reads
  pub all_read : (links : Topology) (r : ℕ) → r < length net.routers → AllByRecursion (IsRead r) (sessions_of (configured_sessions net links) r)
  unfolding configured_sessions speakers
  all_read links r here = subst (AllByRecursion (IsRead r)) (sym found) to_one
    where
      to_one : AllByRecursion (IsRead r) (sessions_to links net (map (speaker_at net) (router_ids net)) (speaker_at net r))
      to_one = all_flat_map_map (IsRead r) (sessions_from links net (speaker_at net r)) (speaker_at net) (router_ids net) (λ q there. from_one links r q there)

      found : sessions_of (configured_sessions net links) r ≡ sessions_to links net (map (speaker_at net) (router_ids net)) (speaker_at net r)
      found =
          let all = map (speaker_at net) (router_ids net) in
          ap (λ o. unwrap_or o []) (slice_get-map (sessions_to links net all) all r ∙ ap (option_map (sessions_to links net all)) (slice_get-map (speaker_at net) (router_ids net) r ∙ ap (option_map (speaker_at net)) (numbered (length net.routers) r here)))
