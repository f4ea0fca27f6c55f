-- A prepared table by its prefixes and its stretches: routes side by side that have the same hops.
use Rattle.std.specs.Prelude.{◌≡◌, ℕ, ◌-◌, ◌<◌, ◌≤◌, nat_lt, List, [], ◌∷◌, ◌++◌, length, map, take, drop}
use Rattle.std.specs.List.{AllByRecursion, find}
use Rattle.std.specs.Option.{option_map_or}
use Rattle.rc_base.specs.Prefix.{Cidr}
use Rattle.rc_route.specs.declared.route.Hop.{Hop}
use Rattle.rc_fib.specs.Entry.{Entry}
use Rattle.rc_fib.specs.declared.stretch.Stretch.{Stretch}

abbrev pub entry_with : List Hop → Cidr → Entry
entry_with hops p = record { prefix = p; hops = hops }

-- the entries of the prefixes from a place on: each stretch gives its hops to those up to its end that no stretch before it has
abbrev pub spread : ℕ → List Cidr → List Stretch → List Entry
spread from ps [] = []
spread from ps (s ∷ ss) = map (entry_with s.hops) (take (s.end - from) ps) ++ spread s.end (drop (s.end - from) ps) ss

-- the stretches have all prefixes from a place on, and each has some
abbrev pub Cover : ℕ → List Cidr → List Stretch → Type 0
Cover from ps [] = ps ≡ []
Cover from ps (s ∷ ss) = (from < s.end) × (s.end - from ≤ length ps) × Cover s.end (drop (s.end - from) ps) ss

-- the stretches from a place on are all of these entries: each has some more than the one before it, and all of them have its hops
abbrev pub AreStretches : ℕ → List Stretch → List Entry → Type 0
AreStretches from [] es = es ≡ []
AreStretches from (s ∷ ss) es =
    (from < s.end) × (s.end - from ≤ length es) × AllByRecursion (λ (e : Entry). e.hops ≡ s.hops) (take (s.end - from) es) × AreStretches s.end ss (drop (s.end - from) es)

-- each stretch ends behind the one before it
abbrev pub Rise : ℕ → List Stretch → Type 0
Rise from [] = Unit {0}
Rise from (s ∷ ss) = (from < s.end) × Rise s.end ss

-- the hops of a place: those of the first stretch that ends behind it
abbrev pub hops_at : List Stretch → ℕ → List Hop
hops_at ss place = option_map_or (λ (s : Stretch). s.hops) (find (λ (s : Stretch). nat_lt place s.end) ss) []
