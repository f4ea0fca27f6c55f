-- What the sender of a session keeps to itself.
use Rattle.std.proofs.Common.{refl, ◌≡◌, ap, ℕ, Bool, true, false, not, cond, ◌&&◌, ◌||◌, Option, Some, None, option_and_then}
use Rattle.std.specs.Option.{option_map}
use Rattle.rc_base.specs.Communities.{has_community}
use Rattle.rc_bgp_decide.specs.Decision.{is_internal}
use Rattle.rc_config.specs.Bgp.{address_of}
use Rattle.rc_config.specs.ByNumber.{with_number}
use Rattle.rc_config.specs.Members.{router_at}
use Rattle.rc_config.specs.declared.bgp.BgpProcess.{BgpProcess}
use Rattle.rc_config.specs.declared.bgp.Neighbor.{Neighbor}
use Rattle.rc_config.specs.declared.network.Network.{Network}
use Rattle.rc_config.specs.declared.router_text.RouterText.{RouterText}
use Rattle.rc_route.specs.declared.path.BgpPath.{BgpPath}
use Rattle.rc_bgp_session.specs.Passing.{as_sent, ask, export, exported, is_withheld, mapped_path, no_advertise, no_export, no_export_subconfed, passes_list, with_med}
use Rattle.rc_bgp_session.specs.declared.session.Session.{Session}

kept_back : (e i : Bool) → (e || not i) ≡ false → (i && not e) ≡ true
kept_back true i is = absurd (let clash : true ≡ false = is in cc)
kept_back false true is = refl
kept_back false false is = absurd (let clash : true ≡ false = is in cc)

none_asked : (net : Network) (r a : ℕ) (f : RouterText → ℕ → Neighbor → Option BgpPath) → ((file : RouterText) (asn : ℕ) (n : Neighbor) → f file asn n ≡ None) → ask net r a f ≡ None
none_asked net r a f none = at_router (router_at net r)
  where
    at_neighbor : (file : RouterText) (asn : ℕ) (o : Option Neighbor) → option_and_then (f file asn) o ≡ None
    at_neighbor file asn None = refl
    at_neighbor file asn (Some n) = none file asn n

    at_process : (file : RouterText) (o : Option BgpProcess) → option_and_then (λ (process : BgpProcess). option_and_then (f file process.asn) (with_number address_of a process.neighbors)) o ≡ None
    at_process file None = refl
    at_process file (Some process) = at_neighbor file process.asn (with_number address_of a process.neighbors)

    at_router : (o : Option RouterText) → option_and_then (λ (file : RouterText). option_and_then (λ (process : BgpProcess). option_and_then (f file process.asn) (with_number address_of a process.neighbors)) file.bgp) o ≡ None
    at_router None = refl
    at_router (Some file) = at_process file file.bgp

pub none_exported : (net : Network) (s : Session) (x : BgpPath) → (s.is_external || not (is_internal x.source)) ≡ false → export net s x ≡ None
none_exported net s x is = none_asked net s.sender s.receiver_address (λ file asn n. exported file asn n s x) stays
  where
    withheld : is_withheld s x ≡ true
    withheld =
        ap (λ b. b || has_community x.communities no_advertise || (s.is_external && (has_community x.communities no_export || has_community x.communities no_export_subconfed))) (kept_back s.is_external (is_internal x.source) is)

    stays : (file : RouterText) (asn : ℕ) (n : Neighbor) → exported file asn n s x ≡ None
    stays file asn n =
        ap (λ b. cond b None (cond (not (passes_list file n.settings.list_out x.prefix)) None (option_map (as_sent asn s n) (mapped_path file n.settings.map_out (with_med s x))))) withheld
