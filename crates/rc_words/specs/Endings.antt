-- The sets of endings that may be asked for.
use Rattle.std.specs.Prelude.{ℕ, true, false, List, Option, Some, None}
use Rattle.std.specs.Option.{option_map}
use Rattle.rc_base.specs.Endings.{kind_named}
use Rattle.rc_base.specs.declared.ending.Ends.{Ends}
use Rattle.rc_base.specs.declared.ending.Kind.{Kind}
use Rattle.rc_base.specs.declared.ending.Kind.TheVariants.{DeniedIn, Accepted, NoRoute, NullRouted, DeniedOut, Unreachable, Exits, Delivered}

abbrev pub no_endings : Ends
no_endings = record { denied_in = false; accepted = false; no_route = false; null_routed = false; denied_out = false; unreachable = false; exits = false; delivered = false }

-- one ending alone
abbrev pub only : Kind → Ends
only DeniedIn = record no_endings { denied_in = true }
only Accepted = record no_endings { accepted = true }
only NoRoute = record no_endings { no_route = true }
only NullRouted = record no_endings { null_routed = true }
only DeniedOut = record no_endings { denied_out = true }
only Unreachable = record no_endings { unreachable = true }
only Exits = record no_endings { exits = true }
only Delivered = record no_endings { delivered = true }

-- the endings in which a packet comes to its destination: a router accepts it, or it leaves onto the subnet that holds it
abbrev pub arrivals : Ends
arrivals = record no_endings { accepted = true; delivered = true }

-- the endings that are asked for: the one that a text names, or arrivals where there is no text
abbrev pub endings_of : Option (List ℕ) → Option Ends
endings_of None = Some arrivals
endings_of (Some text) = option_map only (kind_named text)
