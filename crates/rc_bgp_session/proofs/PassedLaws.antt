-- Where a session names no list and no route map, its paths come alike for all prefixes.
use Rattle.std.proofs.Common.{refl, ◌≡◌, ap, sym, ◌∙◌, subst, ℕ, Bool, true, false, not, if◌then◌else◌, Option, Some, None}
use Rattle.std.specs.Prelude.{option_and_then, option_map}
use Rattle.rc_base.specs.Prefix.{Cidr}
use Rattle.rc_config.specs.Bgp.{address_of}
use Rattle.rc_config.specs.ByNumber.{with_number}
use Rattle.rc_config.specs.Members.{router_at}
use Rattle.rc_config.specs.declared.bgp.BgpProcess.{BgpProcess}
use Rattle.rc_config.specs.declared.bgp.Neighbor.{Neighbor}
use Rattle.rc_config.specs.declared.network.Network.{Network}
use Rattle.rc_config.specs.declared.route_map.Mention.{Mention}
use Rattle.rc_config.specs.declared.router_text.RouterText.{RouterText}
use Rattle.rc_route.specs.Paths.{for_prefix}
use Rattle.rc_route.specs.declared.path.BgpPath.{BgpPath}
use Rattle.rc_bgp_session.specs.Passed.{AsksNoPrefix, statement}
use Rattle.rc_bgp_session.specs.Passing.{as_received, as_sent, ask, export, exported, import, imported, is_withheld, mapped_path, passes_list, weight_of, with_med}
use Rattle.rc_bgp_session.specs.declared.session.Session.{Session}
use Rattle.std.specs.List.{list_any}
use Rattle.std.specs.Prelude.{◌==◌}

-- ---- one statement

module _ (p : Cidr) (file : RouterText) (asn : ℕ) (n : Neighbor) (s : Session) (x : BgpPath) where
  exported_alike : n.settings.list_out ≡ None → n.settings.map_out ≡ None → exported file asn n s (for_prefix p x) ≡ option_map (for_prefix p) (exported file asn n s x)
  exported_alike = by n.settings.list_out n.settings.map_out (is_withheld s x)
    where
      by : (l m : Option Mention) (w : Bool) → l ≡ None → m ≡ None
          → (if w then None else if not (passes_list file l p) then None else option_map (as_sent asn s n) (mapped_path file m (with_med s (for_prefix p x))))
          ≡ option_map (for_prefix p) (if w then None else if not (passes_list file l x.prefix) then None else option_map (as_sent asn s n) (mapped_path file m (with_med s x)))
      by None None true list map = refl
      by None None false list map = refl
      by (Some l) m w list map = absurd (cc)
      by None (Some m) w list map = absurd (cc)

  imported_alike : n.settings.list_in ≡ None → n.settings.map_in ≡ None → imported file asn n s (for_prefix p x) ≡ option_map (for_prefix p) (imported file asn n s x)
  imported_alike = by n.settings.list_in n.settings.map_in (list_any (λ a. a == asn) x.as_path)
    where
      by : (l m : Option Mention) (w : Bool) → l ≡ None → m ≡ None
          → (if w then None else if not (passes_list file l p) then None else option_map (as_received s) (mapped_path file m (record (for_prefix p x) { weight = weight_of n })))
          ≡ option_map (for_prefix p) (if w then None else if not (passes_list file l x.prefix) then None else option_map (as_received s) (mapped_path file m (record x { weight = weight_of n })))
      by None None true list map = refl
      by None None false list map = refl
      by (Some l) m w list map = absurd (cc)
      by None (Some m) w list map = absurd (cc)

-- ---- the statement that is asked

module _ (g : BgpPath → BgpPath) (answer other : RouterText → ℕ → Neighbor → Option BgpPath) (n : Neighbor) (alike : (file : RouterText) (asn : ℕ) → answer file asn n ≡ option_map g (other file asn n)) where
  of_neighbor : (file : RouterText) (asn : ℕ) (o : Option Neighbor) → option_and_then (λ m. Some m) o ≡ Some n → option_and_then (answer file asn) o ≡ option_map g (option_and_then (other file asn) o)
  of_neighbor file asn None e = absurd (cc)
  of_neighbor file asn (Some m) e = (let is : m ≡ n = cc in subst (λ k. answer file asn k ≡ option_map g (other file asn k)) (sym is) (alike file asn))

  of_process : (a : ℕ) (file : RouterText) (o : Option BgpProcess) → option_and_then (λ (process : BgpProcess). option_and_then (λ m. Some m) (with_number address_of a process.neighbors)) o ≡ Some n
      → option_and_then (λ (process : BgpProcess). option_and_then (answer file process.asn) (with_number address_of a process.neighbors)) o
      ≡ option_map g (option_and_then (λ (process : BgpProcess). option_and_then (other file process.asn) (with_number address_of a process.neighbors)) o)
  of_process a file None e = absurd (cc)
  of_process a file (Some process) e = of_neighbor file process.asn (with_number address_of a process.neighbors) e

  asked_alike : (net : Network) (r a : ℕ) → statement net r a ≡ Some n → ask net r a answer ≡ option_map g (ask net r a other)
  asked_alike net r a = by (router_at net r)
    where
      by : (o : Option RouterText) → option_and_then (λ (file : RouterText). option_and_then (λ (process : BgpProcess). option_and_then (λ m. Some m) (with_number address_of a process.neighbors)) file.bgp) o ≡ Some n
          → option_and_then (λ (file : RouterText). option_and_then (λ (process : BgpProcess). option_and_then (answer file process.asn) (with_number address_of a process.neighbors)) file.bgp) o
          ≡ option_map g (option_and_then (λ (file : RouterText). option_and_then (λ (process : BgpProcess). option_and_then (other file process.asn) (with_number address_of a process.neighbors)) file.bgp) o)
      by None e = absurd (cc)
      by (Some file) e = of_process a file file.bgp e

-- ---- the session

pub asks_none : (net : Network) (s : Session) (told heard : Neighbor) → statement net s.sender s.receiver_address ≡ Some told → statement net s.receiver s.sender_address ≡ Some heard
    → told.settings.list_out ≡ None → told.settings.map_out ≡ None → heard.settings.list_in ≡ None → heard.settings.map_in ≡ None → AsksNoPrefix net s
asks_none net s told heard sends receives list_out map_out list_in map_in = record { each = λ p x. ap (option_and_then (import net s)) (sent p x) ∙ by p (export net s x) }
  where
    sent : (p : Cidr) (x : BgpPath) → export net s (for_prefix p x) ≡ option_map (for_prefix p) (export net s x)
    sent p x = asked_alike (for_prefix p) (λ file asn n. exported file asn n s (for_prefix p x)) (λ file asn n. exported file asn n s x) told (λ file asn. exported_alike p file asn told s x list_out map_out) net s.sender s.receiver_address sends

    by : (p : Cidr) (o : Option BgpPath) → option_and_then (import net s) (option_map (for_prefix p) o) ≡ option_map (for_prefix p) (option_and_then (import net s) o)
    by p None = refl
    by p (Some x) = asked_alike (for_prefix p) (λ file asn n. imported file asn n s (for_prefix p x)) (λ file asn n. imported file asn n s x) heard (λ file asn. imported_alike p file asn heard s x list_in map_in) net s.receiver s.sender_address receives
