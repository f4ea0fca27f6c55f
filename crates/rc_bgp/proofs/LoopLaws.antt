-- The AS numbers of a path stay on it over a session, so its receiver takes none that holds its own AS (RFC 4271 s.9.1.2).
use Rattle.std.proofs.Common.{refl, ◌≡◌, ap, sym, ◌∙◌, ℕ, ◌==◌, Bool, true, false, not, cond, ◌||◌, List, [], ◌∷◌, ◌++◌, Option, Some, None, IfSome, option_and_then}
use Rattle.std.specs.List.{find, list_any}
use Rattle.std.specs.Option.{option_map, option_map_or, option_or}
use Rattle.rc_base.specs.Prefix.{Cidr, same_prefix, default_prefix}
use Rattle.rc_config.specs.Bgp.{address_of}
use Rattle.rc_config.specs.ByNumber.{with_number}
use Rattle.rc_config.specs.Members.{router_at}
use Rattle.rc_config.specs.Named.{named}
use Rattle.rc_config.specs.declared.access_list.Action.{Action}
use Rattle.rc_config.specs.declared.access_list.Action.TheVariants.{Permit, Deny}
use Rattle.rc_config.specs.declared.bgp.BgpProcess.{BgpProcess}
use Rattle.rc_config.specs.declared.bgp.Neighbor.{Neighbor}
use Rattle.rc_config.specs.declared.lists.Lists.{Lists}
use Rattle.rc_config.specs.declared.network.Network.{Network}
use Rattle.rc_config.specs.declared.route_map.MapEntry.{MapEntry}
use Rattle.rc_config.specs.declared.route_map.Mention.{Mention}
use Rattle.rc_config.specs.declared.route_map.RouteMap.{RouteMap}
use Rattle.rc_config.specs.declared.router_text.RouterText.{RouterText}
use Rattle.rc_config.specs.declared.sets.Sets.{Sets}
use Rattle.rc_policy.specs.Policy.{decided, mapped, matches_entry, route_map}
use Rattle.rc_policy.specs.declared.attrs.Attrs.{Attrs}
use Rattle.rc_route.specs.Tables.{best_for}
use Rattle.rc_route.specs.declared.best.Best.{Best}
use Rattle.rc_route.specs.declared.path.BgpPath.{BgpPath}
use Rattle.rc_bgp.specs.Changes.{asn_of, is_told_back, may_hear}
use Rattle.rc_bgp_session.specs.Passing.{as_received, as_sent, attrs_of_path, export, exported, import, imported, is_withheld, mapped_path, originated_default, passes_list, weight_of, with_attrs, with_med}
use Rattle.rc_bgp_session.specs.declared.session.Session.{Session}
use Rattle.rc_bgp.proofs.PartLaws.{Each, ask_each, either_each, mapped_each, none_each, some_each}

or_true : (x : Bool) → x || true ≡ true
or_true true = refl
or_true false = refl

-- ---- what goes over a session has all numbers of the path that it is made of

module _ (t : ℕ → Bool) where
  abbrev Holds : BgpPath → Type 0
  Holds x = list_any t x.as_path ≡ true

  abbrev AreHeld : Option Attrs → Type 0
  AreHeld o = IfSome o (λ a. list_any t a.as_path ≡ true)

  behind_others : (front numbers : List ℕ) → list_any t numbers ≡ true → list_any t (front ++ numbers) ≡ true
  behind_others [] numbers is = is
  behind_others (a ∷ front) numbers is = ap (λ b. t a || b) (behind_others front numbers is) ∙ or_true (t a)

  -- a route map puts numbers in front
  decided_holds : (action : Action) (sets : Sets) (a : Attrs) → list_any t a.as_path ≡ true → AreHeld (decided action sets a)
  decided_holds Permit sets a is = behind_others sets.prepended a.as_path is
  decided_holds Deny sets a is = tt

  route_map_holds : (lists : Lists) (map : RouteMap) (a : Attrs) → list_any t a.as_path ≡ true → AreHeld (route_map lists map a)
  route_map_holds lists map a is = by (find (matches_entry lists a) map.entries)
    where
      by : (o : Option MapEntry) → AreHeld (option_and_then (λ (e : MapEntry). decided e.action e.sets a) o)
      by None = tt
      by (Some e) = decided_holds e.action e.sets a is

  mapped_holds : (file : RouterText) (map : Option Mention) (a : Attrs) → list_any t a.as_path ≡ true → AreHeld (mapped file map a)
  mapped_holds file None a is = is
  mapped_holds file (Some map) a is = by (named file.route_maps map.name)
    where
      by : (o : Option RouteMap) → AreHeld (option_and_then (λ (m : RouteMap). route_map file.lists m a) o)
      by None = tt
      by (Some m) = route_map_holds file.lists m a is

  path_holds : (file : RouterText) (map : Option Mention) (x : BgpPath) → Holds x → Each Holds (mapped_path file map x)
  path_holds file map x is = by (mapped file map (attrs_of_path x)) (mapped_holds file map (attrs_of_path x) is)
    where
      by : (o : Option Attrs) → AreHeld o → Each Holds (option_map (with_attrs x) o)
      by None held = none_each Holds
      by (Some a) held = some_each Holds (with_attrs x a) held

  -- and so does the sender
  sent_holds : (asn : ℕ) (s : Session) (n : Neighbor) (x : BgpPath) → Holds x → Holds (as_sent asn s n x)
  sent_holds asn s n x is = by s.is_external
    where
      by : (e : Bool) → list_any t (cond e (asn ∷ x.as_path) x.as_path) ≡ true
      by true = ap (λ b. t asn || b) is ∙ or_true (t asn)
      by false = is

  exported_holds : (file : RouterText) (asn : ℕ) (n : Neighbor) (s : Session) (x : BgpPath) → Holds x → Each Holds (exported file asn n s x)
  exported_holds file asn n s x is =
      either_each Holds (is_withheld s x) None _ (none_each Holds)
      (either_each Holds (not (passes_list file n.settings.list_out x.prefix)) None _ (none_each Holds)
      (mapped_each Holds Holds (as_sent asn s n) (λ y held. sent_holds asn s n y held) (mapped_path file n.settings.map_out (with_med s x)) (path_holds file n.settings.map_out (with_med s x) is)))

  export_holds : (net : Network) (s : Session) (x : BgpPath) → Holds x → Each Holds (export net s x)
  export_holds net s x is = ask_each Holds net s.sender s.receiver_address (λ file asn n. exported file asn n s x) (λ file asn n. exported_holds file asn n s x is)

-- ---- a loop isn't taken

abbrev IsLoop : Option ℕ → BgpPath → Type 0
IsLoop own x = not (option_map_or (λ asn. list_any (λ a. a == asn) x.as_path) own false) ≡ false

-- a path that begins with an AS holds it
told_back_goes_round : (own : Option ℕ) (numbers : List ℕ) → not (is_told_back own numbers) ≡ false → not (option_map_or (λ asn. list_any (λ a. a == asn) numbers) own false) ≡ false
told_back_goes_round None numbers is = is
told_back_goes_round (Some asn) [] is = is
told_back_goes_round (Some asn) (a ∷ numbers) is = by (a == asn) is
  where
    by : (b : Bool) → not b ≡ false → not (b || list_any (λ c. c == asn) numbers) ≡ false
    by true e = refl
    by false e = absurd (let clash : true ≡ false = e in cc clash)

loop_goes : (net : Network) (s : Session) (own : Option ℕ) (x : BgpPath) → IsLoop own x → Each (IsLoop own) (export net s x)
loop_goes net s None x is = absurd (let clash : true ≡ false = is in cc)
loop_goes net s (Some asn) x is = λ y made. ap not (export_holds (λ a. a == asn) net s x (held (list_any (λ a. a == asn) x.as_path) is) y made)
  where
    held : (b : Bool) → not b ≡ false → b ≡ true
    held true e = refl
    held false e = absurd (let clash : true ≡ false = e in cc)

module _ (net : Network) (s : Session) where
  loop_not_taken : (x : BgpPath) → IsLoop (asn_of net s.receiver) x → import net s x ≡ None
  loop_not_taken x = at_router (router_at net s.receiver)
    where
      at_neighbor : (file : RouterText) (asn : ℕ) (o : Option Neighbor) → IsLoop (Some asn) x → option_and_then (λ n. imported file asn n s x) o ≡ None
      at_neighbor file asn None is = refl
      at_neighbor file asn (Some n) is = by (list_any (λ a. a == asn) x.as_path) is
        where
          by : (b : Bool) → not b ≡ false
              → cond b None (cond (not (passes_list file n.settings.list_in x.prefix)) None (option_map (as_received s) (mapped_path file n.settings.map_in (record x { weight = weight_of n })))) ≡ None
          by true e = refl
          by false e = absurd (let clash : true ≡ false = e in cc)

      at_process : (file : RouterText) (o : Option BgpProcess) → IsLoop (option_map (λ (process : BgpProcess). process.asn) o) x
          → option_and_then (λ (process : BgpProcess). option_and_then (λ n. imported file process.asn n s x) (with_number address_of s.sender_address process.neighbors)) o ≡ None
      at_process file None is = refl
      at_process file (Some process) is = at_neighbor file process.asn (with_number address_of s.sender_address process.neighbors) is

      at_router : (o : Option RouterText) → IsLoop (option_and_then (λ (file : RouterText). option_map (λ (process : BgpProcess). process.asn) file.bgp) o) x
          → option_and_then (λ (file : RouterText). option_and_then (λ (process : BgpProcess). option_and_then (λ n. imported file process.asn n s x) (with_number address_of s.sender_address process.neighbors)) file.bgp) o ≡ None
      at_router None is = refl
      at_router (Some file) is = at_process file file.bgp is

  -- of the best path for a prefix nothing is taken, where it is told back or there is none
  pub nothing_taken : (paths : List Best) (p : Cidr) → may_hear (asn_of net s.receiver) paths p ≡ false
      → option_and_then (import net s) (option_and_then (export net s) (option_map (λ (b : Best). b.path) (best_for paths p))) ≡ None
  nothing_taken paths p = by (best_for paths p)
    where
      of_sent : (o : Option BgpPath) → Each (IsLoop (asn_of net s.receiver)) o → option_and_then (import net s) o ≡ None
      of_sent None loops = refl
      of_sent (Some y) loops = loop_not_taken y (loops y refl)

      by : (o : Option Best) → option_map_or (λ (b : Best). not (is_told_back (asn_of net s.receiver) b.path.as_path)) o false ≡ false
          → option_and_then (import net s) (option_and_then (export net s) (option_map (λ (b : Best). b.path) o)) ≡ None
      by None is = refl
      by (Some b) is = of_sent (export net s b.path) (loop_goes net s (asn_of net s.receiver) b.path (told_back_goes_round (asn_of net s.receiver) b.path.as_path is))

  -- what `default-originate` tells goes before any path, so beside it the same is taken of two paths of which nothing is taken
  pub same_taken : (p : Cidr) (o q : Option BgpPath) → option_and_then (import net s) o ≡ None → option_and_then (import net s) q ≡ None
      → option_and_then (import net s) (cond (same_prefix p default_prefix) (option_or (originated_default net s) o) o)
      ≡ option_and_then (import net s) (cond (same_prefix p default_prefix) (option_or (originated_default net s) q) q)
  same_taken p o q none none' = by (same_prefix p default_prefix) (originated_default net s)
    where
      by : (b : Bool) (d : Option BgpPath) → option_and_then (import net s) (cond b (option_or d o) o) ≡ option_and_then (import net s) (cond b (option_or d q) q)
      by false d = none ∙ sym none'
      by true None = none ∙ sym none'
      by true (Some x) = refl
