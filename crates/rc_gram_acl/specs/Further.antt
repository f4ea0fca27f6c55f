-- What an extended line tests behind its destination: `established` in tcp lines (RFC 9293 s.3.1), the ICMP type in icmp
-- lines (RFC 792).
use Rattle.std.specs.Prelude.{ℕ, Bool, ◌||◌, ◌==◌, List, [], ◌∷◌, Option, Some, None, if◌then◌else◌, codes}
use Rattle.std.specs.Option.{option_map}
use Rattle.std.specs.Str.{bytes_eq}
use Rattle.rc_config.specs.declared.access_list.FurtherTest.{FurtherTest}
use Rattle.rc_config.specs.declared.access_list.FurtherTest.TheVariants.{Any, Established, Icmp}
use Rattle.rc_config.specs.declared.access_list.ProtocolTest.{ProtocolTest}
use Rattle.rc_config.specs.declared.access_list.ProtocolTest.TheVariants as proto
use Rattle.rc_gram_acl.specs.Values.{icmp_number_of, icmp_type_of}

-- what matches is logged, which changes no answer
abbrev pub is_log : List ℕ → Bool
is_log w = bytes_eq w (codes "log") || bytes_eq w (codes "log-input")

-- ACK or RST is 1
abbrev pub is_established : List ℕ → Bool
is_established w = bytes_eq w (codes "established")

-- one word: a type in an icmp line, `established` in a tcp line
abbrev pub by_word : ProtocolTest → List ℕ → Option FurtherTest
by_word proto.Any w = None
by_word (proto.Is n) w =
    if n == 1 then option_map (λ t. Icmp t None) (icmp_type_of w)
    else (if n == 6 then (if is_established w then Some Established else None) else None)

-- two words: `T C` in an icmp line
abbrev pub type_and_code : Option ℕ → Option ℕ → Option FurtherTest
type_and_code (Some t) (Some c) = Some (Icmp t (Some c))
type_and_code _ _ = None

abbrev pub by_type_and_code : ProtocolTest → List ℕ → List ℕ → Option FurtherTest
by_type_and_code proto.Any t c = None
by_type_and_code (proto.Is n) t c = if n == 1 then type_and_code (icmp_number_of t) (icmp_number_of c) else None

-- `[MORE]` by all its words
abbrev pub more : ProtocolTest → List (List ℕ) → Option FurtherTest
more p [] = Some Any
more p (w ∷ []) = by_word p w
more p (t ∷ c ∷ []) = by_type_and_code p t c
more p _ = None

-- the words without one that logs, which may stand last
abbrev pub without_log : List (List ℕ) → List (List ℕ)
without_log [] = []
without_log (w ∷ []) = if is_log w then [] else w ∷ []
without_log (w ∷ v ∷ rest) = w ∷ without_log (v ∷ rest)

-- `[MORE] [log|log-input]`, which are all the words behind the destination
abbrev pub further : ProtocolTest → List (List ℕ) → Option FurtherTest
further p words = more p (without_log words)
