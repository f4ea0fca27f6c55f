-- The lines in the block of an OSPF process (RFC 2328 C): what a line of each form says, by its words behind the opening, where it fits
-- its row.
use Rattle.std.specs.Prelude.{ℕ, ◌==◌, Bool, true, false, List, [], ◌∷◌, Option, Some, None, if◌then◌else◌, codes}
use Rattle.std.specs.Option.{option_and_then, option_map}
use Rattle.std.specs.Str.{bytes_eq}
use Rattle.rc_config.specs.declared.ospf.OspfLine.{OspfLine}
use Rattle.rc_config.specs.declared.ospf.OspfLine.TheVariants.{RouterId, Network, PassiveDefault, Passive, ReferenceBandwidth, Stub, Redistribute, DefaultInformation}
use Rattle.rc_config.specs.declared.ospf.RedistributedSource.{RedistributedSource}
use Rattle.rc_config.specs.declared.ospf.RedistributedSource.TheVariants.{Bgp}
use Rattle.rc_config.specs.declared.sets.MetricType.{MetricType}
use Rattle.rc_openings.specs.Values.{address_of, area_of, interface_of, number_of, number_within}
use Rattle.rc_gram_ospf.specs.RedistributeOptions.{metric_type_of, options_in}
use Rattle.rc_gram_ospf.specs.declared.redistribute_options.RedistributeOptions.{RedistributeOptions}

-- `router-id A`
abbrev pub router_id : List (List ℕ) → Option OspfLine
router_id (a ∷ []) = option_map RouterId (address_of a)
router_id _ = None

abbrev pub network_in : Option ℕ → Option ℕ → Option ℕ → Option OspfLine
network_in (Some a) (Some w) (Some n) = Some (Network (record { address = a; wildcard = w; area = n }))
network_in _ _ _ = None

-- `network A W area N`: no bit of A is cleared, and the ones of W may stand anywhere
abbrev pub network : List (List ℕ) → Option OspfLine
network (a ∷ w ∷ word ∷ n ∷ []) = if bytes_eq word (codes "area") then network_in (address_of a) (address_of w) (area_of n) else None
network _ = None

-- `passive-interface IF`, and `no passive-interface IF`
abbrev pub passive_interface : Bool → List (List ℕ) → Option OspfLine
passive_interface passive (name ∷ []) = option_map (λ interface. Passive interface passive) (interface_of name)
passive_interface passive _ = None

-- `passive-interface default`
abbrev pub passive_default : List (List ℕ) → Option OspfLine
passive_default [] = Some PassiveDefault
passive_default (w ∷ ws) = None

-- `auto-cost reference-bandwidth N`, from 1 to 4,294,967 Mbit/s
abbrev pub reference_bandwidth : List (List ℕ) → Option OspfLine
reference_bandwidth (n ∷ []) = option_map ReferenceBandwidth (number_within 1 4294967 n)
reference_bandwidth _ = None

-- `[no-summary]`, and nothing behind
abbrev pub no_summary_of : List (List ℕ) → Option Bool
no_summary_of [] = Some false
no_summary_of (w ∷ []) = if bytes_eq w (codes "no-summary") then Some true else None
no_summary_of _ = None

-- an area that may be a stub: any but the backbone (RFC 2328 s.3.6)
abbrev pub stub_in : Option ℕ → Option Bool → Option OspfLine
stub_in (Some area) (Some no_summary) = if area == 0 then None else Some (Stub (record { area = area; no_summary = no_summary }))
stub_in _ _ = None

-- `area N stub [no-summary]`, by all words of the line: the opening fits any word in the place of N
abbrev pub stub_area : List (List ℕ) → Option OspfLine
stub_area (word ∷ n ∷ stub ∷ rest) = stub_in (area_of n) (no_summary_of rest)
stub_area _ = None

-- a `redistribute` line with these options, the line of this number
abbrev pub redistributed : RedistributedSource → ℕ → RedistributeOptions → OspfLine
redistributed source number o = Redistribute (record {
  source = source;
  metric = o.metric;
  metric_type = o.metric_type;
  subnets = o.subnets;
  route_map = option_map (λ name. record { name = name; line = number }) o.route_map;
})

-- `redistribute connected ..` and `redistribute static ..`: options in any order, each at most once
abbrev pub redistribute : RedistributedSource → ℕ → List (List ℕ) → Option OspfLine
redistribute source number behind = option_map (redistributed source number) (options_in behind)

abbrev pub redistribute_from : ℕ → Option ℕ → List (List ℕ) → Option OspfLine
redistribute_from number (Some asn) options = redistribute (Bgp asn) number options
redistribute_from number None options = None

-- `redistribute bgp N ..`, N the number of an AS
abbrev pub redistribute_bgp : ℕ → List (List ℕ) → Option OspfLine
redistribute_bgp number (n ∷ options) = redistribute_from number (number_of n) options
redistribute_bgp number [] = None

abbrev pub default_with : Bool → Option ℕ → Option MetricType → OspfLine
default_with always metric metric_type = DefaultInformation (record { always = always; metric = metric; metric_type = metric_type })

-- `[metric-type 1|2]`, and nothing behind
abbrev pub default_typed : Bool → Option ℕ → List (List ℕ) → Option OspfLine
default_typed always metric [] = Some (default_with always metric None)
default_typed always metric (w ∷ t ∷ []) = if bytes_eq w (codes "metric-type") then option_map (λ type. default_with always metric (Some type)) (metric_type_of t) else None
default_typed always metric _ = None

-- `[metric N] [metric-type 1|2]`
abbrev pub default_measured : Bool → List (List ℕ) → Option OspfLine
default_measured always (w ∷ n ∷ rest) =
    if bytes_eq w (codes "metric") then option_and_then (λ metric. default_typed always (Some metric) rest) (number_of n) else default_typed always None (w ∷ n ∷ rest)
default_measured always words = default_typed always None words

-- `default-information originate [always] [metric N] [metric-type 1|2]`, in this order
abbrev pub default_information : List (List ℕ) → Option OspfLine
default_information [] = default_measured false []
default_information (w ∷ rest) = if bytes_eq w (codes "always") then default_measured true rest else default_measured false (w ∷ rest)
