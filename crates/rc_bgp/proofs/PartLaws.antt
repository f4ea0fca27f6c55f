-- What is the same in every path that may come of one.
use Rattle.std.proofs.Common.{refl, ◌≡◌, ◌∙◌, subst, ℕ, Bool, true, false, cond, Option, Some, None, option_and_then}
use Rattle.std.specs.Option.{option_map, option_or}
use Rattle.rc_config.specs.Bgp.{address_of}
use Rattle.rc_config.specs.ByNumber.{with_number}
use Rattle.rc_config.specs.Members.{router_at}
use Rattle.rc_config.specs.declared.bgp.BgpProcess.{BgpProcess}
use Rattle.rc_config.specs.declared.bgp.Neighbor.{Neighbor}
use Rattle.rc_config.specs.declared.network.Network.{Network}
use Rattle.rc_config.specs.declared.route_map.Mention.{Mention}
use Rattle.rc_config.specs.declared.router_text.RouterText.{RouterText}
use Rattle.rc_policy.specs.Policy.{mapped}
use Rattle.rc_policy.specs.declared.attrs.Attrs.{Attrs}
use Rattle.rc_route.specs.declared.path.BgpPath.{BgpPath}
use Rattle.rc_bgp_session.specs.Passing.{ask, attrs_of_path, mapped_path, with_attrs}

module _ (P : BgpPath → Type 0) where
  -- each path that may come is such
  abbrev pub Each : Option BgpPath → Type 0
  Each o = (x : BgpPath) → o ≡ Some x → P x

  pub none_each : Each None
  none_each x e = absurd (cc)

  pub some_each : (y : BgpPath) → P y → Each (Some y)
  some_each y is x e = (let same : y ≡ x = cc in subst P same is)

  -- made of others
  pub mapped_each : (Q : BgpPath → Type 0) (f : BgpPath → BgpPath) → ((x : BgpPath) → Q x → P (f x)) → (o : Option BgpPath) → ((x : BgpPath) → o ≡ Some x → Q x) → Each (option_map f o)
  mapped_each Q f keeps None each = none_each
  mapped_each Q f keeps (Some y) each = some_each (f y) (keeps y (each y refl))

  pub then_each : (Q : BgpPath → Type 0) (f : BgpPath → Option BgpPath) → ((x : BgpPath) → Q x → Each (f x)) → (o : Option BgpPath) → ((x : BgpPath) → o ≡ Some x → Q x) → Each (option_and_then f o)
  then_each Q f keeps None each = none_each
  then_each Q f keeps (Some y) each = keeps y (each y refl)

  pub either_each : (b : Bool) (o q : Option BgpPath) → Each o → Each q → Each (cond b o q)
  either_each true o q a c = a
  either_each false o q a c = c

  pub or_each : (o q : Option BgpPath) → Each o → Each q → Each (option_or o q)
  or_each None q a c = c
  or_each (Some x) q a c = a

  -- a statement is asked
  pub ask_each : (net : Network) (r a : ℕ) (f : RouterText → ℕ → Neighbor → Option BgpPath) → ((file : RouterText) (asn : ℕ) (n : Neighbor) → Each (f file asn n)) → Each (ask net r a f)
  ask_each net r a f each = at_router (router_at net r)
    where
      at_neighbor : (file : RouterText) (asn : ℕ) (o : Option Neighbor) → Each (option_and_then (f file asn) o)
      at_neighbor file asn None = none_each
      at_neighbor file asn (Some n) = each file asn n

      at_process : (file : RouterText) (o : Option BgpProcess) → Each (option_and_then (λ (process : BgpProcess). option_and_then (f file process.asn) (with_number address_of a process.neighbors)) o)
      at_process file None = none_each
      at_process file (Some process) = at_neighbor file process.asn (with_number address_of a process.neighbors)

      at_router : (o : Option RouterText) → Each (option_and_then (λ (file : RouterText). option_and_then (λ (process : BgpProcess). option_and_then (f file process.asn) (with_number address_of a process.neighbors)) file.bgp) o)
      at_router None = none_each
      at_router (Some file) = at_process file file.bgp

  -- a route map makes others of a path, by its attributes alone
  pub map_each : (file : RouterText) (map : Option Mention) (x : BgpPath) → ((a : Attrs) → P (with_attrs x a)) → Each (mapped_path file map x)
  map_each file map x is = attrs_each (mapped file map (attrs_of_path x))
    where
      attrs_each : (o : Option Attrs) → Each (option_map (with_attrs x) o)
      attrs_each None = none_each
      attrs_each (Some a) = some_each (with_attrs x a) (is a)

module _ {X : Type 0} (part : BgpPath → X) where
  -- each path that may come has this part
  abbrev pub Has : X → Option BgpPath → Type 0
  Has v o = (x : BgpPath) → o ≡ Some x → part x ≡ v

  abbrev Is : X → BgpPath → Type 0
  Is v x = part x ≡ v

  pub none_has : (v : X) → Has v None
  none_has v = none_each (Is v)

  pub some_has : (v : X) (y : BgpPath) → part y ≡ v → Has v (Some y)
  some_has v = some_each (Is v)

  pub mapped_has : (v : X) (f : BgpPath → BgpPath) → ((x : BgpPath) → part (f x) ≡ part x) → (o : Option BgpPath) → Has v o → Has v (option_map f o)
  mapped_has v f keeps = mapped_each (Is v) (Is v) f (λ x is. keeps x ∙ is)

  pub then_has : (v : X) (f : BgpPath → Option BgpPath) → ((x : BgpPath) → part x ≡ v → Has v (f x)) → (o : Option BgpPath) → Has v o → Has v (option_and_then f o)
  then_has v = then_each (Is v) (Is v)

  pub either_has : (v : X) (b : Bool) (o q : Option BgpPath) → Has v o → Has v q → Has v (cond b o q)
  either_has v = either_each (Is v)

  pub or_has : (v : X) (o q : Option BgpPath) → Has v o → Has v q → Has v (option_or o q)
  or_has v = or_each (Is v)

  pub ask_has : (v : X) (net : Network) (r a : ℕ) (f : RouterText → ℕ → Neighbor → Option BgpPath) → ((file : RouterText) (asn : ℕ) (n : Neighbor) → Has v (f file asn n)) → Has v (ask net r a f)
  ask_has v = ask_each (Is v)

  -- a route map leaves the part as it is
  pub map_has : ((x : BgpPath) (a : Attrs) → part (with_attrs x a) ≡ part x) → (v : X) (file : RouterText) (map : Option Mention) (x : BgpPath) → part x ≡ v → Has v (mapped_path file map x)
  map_has stays v file map x is = map_each (Is v) file map x (λ a. stays x a ∙ is)
