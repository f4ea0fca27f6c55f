-- The openings of a line under `address-family ipv4`, and of one under `address-family ipv6` (RFC 4760).
use Rattle.std.specs.Prelude.{Bool, true, false, not, List, [], ◌∷◌, ◌++◌, codes}
use Rattle.std.specs.List.{filter}
use Rattle.rc_openings.specs.declared.form.Form.TheVariants.{Bgp}
use Rattle.rc_openings.specs.declared.form.BgpForm.TheVariants.{RouterId, NeighborRemoteAs, NeighborUpdateSource, NeighborEbgpMultihop, NeighborShutdown, AddressFamilyIpv4, AddressFamilyIpv6, ExitAddressFamily}
use Rattle.rc_openings.specs.declared.opening.Verdict.{Verdict}
use Rattle.rc_openings.specs.declared.opening.Verdict.TheVariants.{Form, Ignored}
use Rattle.rc_openings.specs.BgpOpenings.{bgp}
use Rattle.rc_openings.specs.Opening.{Row, form}

-- the forms of the process, of its sessions and of other families, which stand outside of every family
abbrev pub stands_outside : Verdict → Bool
stands_outside (Form (Bgp RouterId)) = true
stands_outside (Form (Bgp NeighborRemoteAs)) = true
stands_outside (Form (Bgp NeighborUpdateSource)) = true
stands_outside (Form (Bgp NeighborEbgpMultihop)) = true
stands_outside (Form (Bgp NeighborShutdown)) = true
stands_outside (Form (Bgp AddressFamilyIpv4)) = true
stands_outside (Form (Bgp AddressFamilyIpv6)) = true
stands_outside _ = false

-- with this ends a family
abbrev pub family_end : Row
family_end = form (codes "exit-address-family") (Bgp ExitAddressFamily)

-- the openings of the process but for the forms that stand outside, and the end of the family
unfoldable pub ipv4_family : List Row
ipv4_family = filter (λ r. not (stands_outside r.verdict)) bgp ++ family_end ∷ []

-- of another family every line is passed over, up to its end
unfoldable pub other_family : List Row
other_family = record { words = []; verdict = Ignored } ∷ family_end ∷ []
