-- The cubes of a set of headers, as text, with examples and their walks.
use Rattle.std.specs.Prelude.{ℕ, Bool, true, false, not, ◌&&◌, ◌==◌, List, [], ◌∷◌, ◌++◌, codes, decimal, flat_map, take, if◌then◌else◌, Option, Some, None}
use Rattle.rc_base.specs.Addr.{dotted}
use Rattle.rc_base.specs.Fields.{fields, name, of}
use Rattle.rc_base.specs.Header.{is_free}
use Rattle.rc_base.specs.declared.field.Field.{Field}
use Rattle.rc_base.specs.declared.field.Field.TheVariants.{Dst, Src, IcmpType, IcmpCode, Ack, Rst}
use Rattle.rc_config.specs.declared.network.Network.{Network}
use Rattle.rc_cubes.specs.declared.cube.Cube.{Cube}
use Rattle.rc_report.specs.declared.cubes.Told.{Told}
use Rattle.rc_report.specs.declared.cubes.Told.TheVariants.{Tests, Values}
use Rattle.rc_report.specs.WalkText.{walk_text}
use Rattle.rc_moves.specs.declared.walk.Walk.{Walk}

-- a field's number: an address with dots, and every other one in decimal
abbrev pub number_text : Field → ℕ → List ℕ
number_text Dst n = dotted n
number_text Src n = dotted n
number_text f n = decimal n

-- a field that a cube tests, with the blank before it, its value and its mask; nothing where no bit of it is tested
unfoldable pub test_of : Cube → Field → List ℕ
test_of c f = if of f c.mask == 0 then [] else codes " " ++ name f ++ codes "=" ++ number_text f (of f c.value) ++ codes "&" ++ number_text f (of f c.mask)

-- an example shows addresses, protocol and ports, and of the other fields those that its cube tests
abbrev pub is_always_shown : Field → Bool
is_always_shown IcmpType = false
is_always_shown IcmpCode = false
is_always_shown Ack = false
is_always_shown Rst = false
is_always_shown f = true

-- a field of a cube's example
unfoldable pub value_of : Cube → Field → List ℕ
value_of c f = if not (is_always_shown f) && of f c.mask == 0 then [] else codes " " ++ name f ++ codes "=" ++ number_text f (of f c.value)

-- what a line shows of a field: what a cube tests of it, or its number in the cube's example
abbrev pub field_text : Told → Field → List ℕ
field_text (Tests c) f = test_of c f
field_text (Values c) f = value_of c f

-- of all fields, in the header's order
unfoldable pub fields_text : Told → List ℕ
fields_text s = flat_map (field_text s) fields

-- the line of a cube
unfoldable pub cube_line : Cube → List ℕ
cube_line c = if is_free c.mask then codes "cube all\n" else (codes "cube" ++ fields_text (Tests c)) ++ codes "\n"

-- the line of a cube's example, which is its value
unfoldable pub example_line : Cube → List ℕ
example_line c = (codes "example" ++ fields_text (Values c)) ++ codes "\n"

-- the line of an example, then the lines of its walks
unfoldable pub example_text : Network → Cube → List Walk → List ℕ
example_text net c walks = example_line c ++ flat_map (walk_text net) walks

-- the line of a cube, and its example where there are walks of it
abbrev pub cube_text : Network → Cube → Option (List Walk) → List ℕ
cube_text net c None = cube_line c
cube_text net c (Some walks) = cube_line c ++ example_text net c walks

-- the lines of cubes in order, of which the first ones have examples, as many as there are lists of walks
abbrev pub cubes_text : Network → List Cube → List (List Walk) → List ℕ
cubes_text net [] examples = []
cubes_text net (c ∷ cs) [] = cube_text net c None ++ cubes_text net cs []
cubes_text net (c ∷ cs) (walks ∷ examples) = cube_text net c (Some walks) ++ cubes_text net cs examples

-- the cubes that are shown: all of them, or the first alone
abbrev pub shown : Bool → List Cube → List Cube
shown only_first cs = if only_first then take 1 cs else cs
