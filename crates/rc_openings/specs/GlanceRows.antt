-- Worked cases of a glance at the texts of an opening and of a line, and of where joined lists start, each by computation.
use Rattle.std.specs.Prelude.{◌≡◌, ℕ, [], ◌∷◌, Some, None, codes, refl}
use Rattle.rc_openings.specs.Groups.{starts_from}
use Rattle.rc_openings.specs.Opening.{first_difference, glance}
use Rattle.rc_openings.specs.declared.opening.Glance.TheVariants.{Begins, Differs, Unclear}

-- the line's text begins with the opening's, whose last word ends there
pub whole_line : glance (codes "exit") (codes "exit") ≡ Begins
whole_line = refl

pub before_a_blank : glance (codes "ip route") (codes "ip route 10.0.0.0") ≡ Begins
before_a_blank = refl

-- its last word goes on
pub word_goes_on : glance (codes "exit") (codes "exit-address-family") ≡ Unclear
word_goes_on = refl

-- the texts first differ within a word
pub within_a_word : glance (codes "ip route") (codes "ip access-list") ≡ Differs
within_a_word = refl

-- at `*`, which stands for any word; at a blank, of which there may be several; or the line ends first
pub at_a_star : glance (codes "neighbor * weight") (codes "neighbor 10.0.0.1 weight") ≡ Unclear
at_a_star = refl

pub at_a_blank : glance (codes "ip route") (codes "ip  route") ≡ Unclear
at_a_blank = refl

-- but a blank behind a byte of a word ends a word that the opening's goes on
pub word_ends : glance (codes "ipv6") (codes "ip address") ≡ Differs
word_ends = refl

pub line_ends : glance (codes "ip route") (codes "ip") ≡ Unclear
line_ends = refl

-- the first bytes that differ, `x` and `y`, behind an `a`, and none where one text begins with the other
pub first_bytes : first_difference 32 (codes "ax") (codes "ayz") ≡ Some (97, 120, 121)
first_bytes = refl

pub no_bytes : first_difference 32 (codes "a") (codes "ayz") ≡ None
no_bytes = refl

-- where joined lists start, an empty one where the next does, and where the last ends
pub joined : starts_from {X = ℕ} 0 ((7 ∷ 8 ∷ []) ∷ [] ∷ (9 ∷ []) ∷ []) ≡ 0 ∷ 2 ∷ 2 ∷ 3 ∷ []
joined = refl
