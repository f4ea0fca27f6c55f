-- The text of what becomes of a packet without each link, by computation.
use Rattle.std.specs.Prelude.{◌≡◌, ℕ, Bool, true, false, [], ◌∷◌, codes, map, refl}
use Rattle.std.specs.Fmt.{digits}
use Rattle.rc_base.specs.declared.position.IfId.{IfId}
use Rattle.rc_config.specs.Cuts.{uncut}
use Rattle.rc_config.specs.Interface.{fresh}
use Rattle.rc_config.specs.Update.{empty}
use Rattle.rc_config.specs.declared.network.Network.{Network}
use Rattle.rc_report.specs.FailureText.{without_text, failure_line, failures_text}
use Rattle.rc_report.specs.OutcomeText.{outcome_line}
use Rattle.rc_report.specs.declared.failures.FailRow.{FailRow}
use Rattle.rc_route.specs.declared.outcome.RoundsEnd.{RoundsEnd}
use Rattle.rc_route.specs.declared.outcome.RoundsEnd.TheVariants.{Fixed, Repeats, Limit}

-- R1 and R2, each with two interfaces
abbrev net : Network
net = uncut ((codes "R1", record empty { interfaces = (codes "Serial0/0", fresh) ∷ (codes "Serial0/1", fresh) ∷ [] }) ∷ (codes "R2", record empty { interfaces = (codes "Gi0/0", fresh) ∷ (codes "Gi0/1", fresh) ∷ [] }) ∷ [])

abbrev port : ℕ → ℕ → IfId
port r n = record { router = r; index = n }

-- without the link from R1's first interface to R2's second
abbrev row : RoundsEnd → Bool → FailRow
row end arrives = record { first = port 0 0; second = port 1 1; end = end; arrives = arrives }

-- at a fixed point whether the packet arrives stands behind it
pub of_an_arrival : failure_line net (row (Fixed 2) true) ≡ codes "without R1 Serial0/0 R2 Gi0/1 fixed 2 yes\n"
unfolding failure_line without_text digits
of_an_arrival = refl

pub of_no_arrival : failure_line net (row (Fixed 100000) false) ≡ codes "without R1 Serial0/0 R2 Gi0/1 fixed 100000 no\n"
unfolding failure_line without_text digits
of_no_arrival = refl

-- and nothing where there is none
pub of_a_repetition : map (λ arrives. failure_line net (row (Repeats 4 7) arrives)) (true ∷ false ∷ []) ≡ codes "without R1 Serial0/0 R2 Gi0/1 repeats 4 7\n" ∷ codes "without R1 Serial0/0 R2 Gi0/1 repeats 4 7\n" ∷ []
unfolding failure_line without_text digits
of_a_repetition = refl

pub of_the_limit : map (λ arrives. failure_line net (row (Limit 1000) arrives)) (true ∷ false ∷ []) ≡ codes "without R1 Serial0/0 R2 Gi0/1 limit 1000\n" ∷ codes "without R1 Serial0/0 R2 Gi0/1 limit 1000\n" ∷ []
unfolding failure_line without_text digits
of_the_limit = refl

-- pairs have a line each, in their order, and no pairs have no line; an interface that isn't there has no name, nor has such a router
pub of_two_pairs : failures_text net (row (Fixed 3) true ∷ record { first = port 0 1; second = port 2 0; end = Fixed 0; arrives = false } ∷ [])
    ≡ codes "without R1 Serial0/0 R2 Gi0/1 fixed 3 yes\nwithout R1 Serial0/1   fixed 0 no\n"
unfolding failure_line without_text digits
of_two_pairs = refl

pub of_no_pairs : failures_text net [] ≡ []
of_no_pairs = refl

-- ---- an outcome by itself

pub each_outcome : map outcome_line (Fixed 2 ∷ Repeats 4 7 ∷ Limit 1000 ∷ []) ≡ codes "outcome fixed 2\n" ∷ codes "outcome repeats 4 7\n" ∷ codes "outcome limit 1000\n" ∷ []
unfolding outcome_line digits
each_outcome = refl
