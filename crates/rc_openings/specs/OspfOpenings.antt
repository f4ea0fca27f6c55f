-- The openings of a line under `router ospf`.
use Rattle.std.specs.Prelude.{List, [], ◌∷◌, ◌++◌, codes}
use Rattle.rc_openings.specs.declared.form.Form.TheVariants.{Ospf}
use Rattle.rc_openings.specs.declared.form.OspfForm.TheVariants.{RouterId, Network, StubArea, PassiveInterface, NoPassiveInterface, PassiveInterfaceDefault, ReferenceBandwidth, RedistributeConnected, RedistributeStatic, RedistributeBgp, DefaultInformationOriginate}
use Rattle.rc_openings.specs.Opening.{Row, form, refused, ignored}

-- with these begin the forms
unfoldable pub ospf_forms : List Row
ospf_forms =
    form (codes "router-id") (Ospf RouterId)
    ∷ form (codes "network") (Ospf Network)
    ∷ form (codes "area * stub") (Ospf StubArea)
    ∷ form (codes "passive-interface") (Ospf PassiveInterface)
    ∷ form (codes "no passive-interface") (Ospf NoPassiveInterface)
    ∷ form (codes "passive-interface default") (Ospf PassiveInterfaceDefault)
    ∷ form (codes "auto-cost reference-bandwidth") (Ospf ReferenceBandwidth)
    ∷ form (codes "redistribute connected") (Ospf RedistributeConnected)
    ∷ form (codes "redistribute static") (Ospf RedistributeStatic)
    ∷ form (codes "redistribute bgp") (Ospf RedistributeBgp)
    ∷ form (codes "default-information originate") (Ospf DefaultInformationOriginate)
    ∷ []

-- with these begin lines whose meaning is not modelled
unfoldable pub ospf_refused : List Row
ospf_refused =
    refused (codes "area")
    ∷ refused (codes "summary-address")
    ∷ refused (codes "distance")
    ∷ refused (codes "maximum-paths")
    ∷ refused (codes "distribute-list")
    ∷ refused (codes "neighbor")
    ∷ refused (codes "max-metric")
    ∷ refused (codes "default-metric")
    ∷ refused (codes "redistribute")
    ∷ refused (codes "default-information")
    ∷ []

-- with these begin lines that do not matter
unfoldable pub ospf_ignored : List Row
ospf_ignored =
    ignored (codes "") (codes "log-adjacency-changes timers ispf nsf bfd max-lsa no exit")

unfoldable pub ospf : List Row
ospf = ospf_forms ++ ospf_refused ++ ospf_ignored
