-- The endings of a walk: their order and their words.
use Rattle.std.specs.Prelude.{ℕ, List, [], ◌∷◌, codes, find, Option}
use Rattle.std.specs.Str.{bytes_eq}
use Rattle.rc_base.specs.declared.ending.Kind.{Kind}
use Rattle.rc_base.specs.declared.ending.Kind.TheVariants.{DeniedIn, Accepted, NoRoute, NullRouted, DeniedOut, Unreachable, Exits, Delivered}

-- the eight endings, in their order
abbrev pub all_kinds : List Kind
all_kinds = DeniedIn ∷ Accepted ∷ NoRoute ∷ NullRouted ∷ DeniedOut ∷ Unreachable ∷ Exits ∷ Delivered ∷ []

-- the word for an ending
abbrev pub kind_word : Kind → List ℕ
kind_word DeniedIn = codes "denied-in"
kind_word Accepted = codes "accepted"
kind_word NoRoute = codes "no-route"
kind_word NullRouted = codes "null-routed"
kind_word DeniedOut = codes "denied-out"
kind_word Unreachable = codes "unreachable"
kind_word Exits = codes "exits"
kind_word Delivered = codes "delivered"

-- the ending for which a text is the word
abbrev pub kind_named : List ℕ → Option Kind
kind_named text = find (λ kind. bytes_eq (kind_word kind) text) all_kinds
