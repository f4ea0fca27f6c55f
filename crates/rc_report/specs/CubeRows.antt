-- Lines of cubes, by computation.
use Rattle.std.specs.Prelude.{◌≡◌, [], ◌∷◌, codes, flat_map, true, refl}
use Rattle.std.specs.Fmt.{digits}
use Rattle.rc_base.specs.Addr.{dotted}
use Rattle.rc_base.specs.Fields.{zeros}
use Rattle.rc_base.specs.Header.{last_bit, set_bit}
use Rattle.rc_base.specs.Prefix.{prefix_at}
use Rattle.rc_base.specs.declared.field.Field.TheVariants.{Proto, IcmpType, IcmpCode, Ack, Rst}
use Rattle.rc_base.specs.declared.ending.Kind.TheVariants.{Delivered}
use Rattle.rc_base.specs.declared.position.Pos.TheVariants.{Own}
use Rattle.rc_config.specs.declared.network.Network.{Network}
use Rattle.rc_config.specs.Cuts.{uncut}
use Rattle.rc_cubes.specs.declared.cube.Cube.{Cube}
use Rattle.rc_cubes.specs.Cubes.{all, cubes, with_test}
use Rattle.rc_report.specs.CubeText.{test_of, value_of, fields_text, cube_line, cubes_text, example_line, example_text, shown}
use Rattle.rc_report.specs.WalkText.{position_line, stop_line, walk_text}
use Rattle.rc_trees.specs.Combine.{and}
use Rattle.rc_trees.specs.Fields.{chain, exact, masked}
use Rattle.rc_trees.specs.Recipes.{tree}
use Rattle.rc_trees.specs.Trees.{Tree, never, always, node}
use Rattle.rc_moves.specs.declared.walk.Stop.TheVariants.{At}
use Rattle.rc_moves.specs.declared.walk.Walk.{Walk}

-- 10.0.0.0/24, and telnet to it
abbrev lan : Cube
lan = record { value = record zeros { dst = 167772160 }; mask = record zeros { dst = 4294967040 } }

abbrev telnet : Cube
telnet = record { value = record zeros { dst = 167772160; proto = 6; dport = 23 }; mask = record zeros { dst = 4294967040; proto = 255; dport = 65535 } }

pub of_all : cube_line all ≡ codes "cube all\n"
unfolding cube_line
of_all = refl

pub of_a_network : cube_line lan ≡ codes "cube dst=10.0.0.0&255.255.255.0\n"
unfolding cube_line fields_text test_of dotted digits
of_a_network = refl

pub of_telnet : cube_line telnet ≡ codes "cube dst=10.0.0.0&255.255.255.0 proto=6&255 dport=23&65535\n"
unfolding cube_line fields_text test_of dotted digits
of_telnet = refl

-- a field whose tested bits are 0 is printed, and one without tested bits isn't
pub of_zeros : cube_line (record { value = zeros; mask = record zeros { src = 16711680; sport = 65520 } }) ≡ codes "cube src=0.0.0.0&0.255.0.0 sport=0&65520\n"
unfolding cube_line fields_text test_of dotted digits
of_zeros = refl

pub an_example : example_line telnet ≡ codes "example dst=10.0.0.0 src=0.0.0.0 proto=6 sport=0 dport=23\n"
unfolding example_line fields_text value_of dotted digits
an_example = refl

-- ---- fields that an example shows only where its cube tests them

-- tcp to 10.0.0.0/24 with ACK or RST
abbrev established : Tree
established = and (tree (chain (prefix_at 167772160 24))) (and (exact (last_bit Proto) 8 6) (node (last_bit Ack) (node (last_bit Rst) never always) always))

pub of_established : flat_map cube_line (cubes established)
    ≡ codes "cube dst=10.0.0.0&255.255.255.0 proto=6&255 ack=0&1 rst=1&1\ncube dst=10.0.0.0&255.255.255.0 proto=6&255 ack=1&1\n"
unfolding and masked with_test set_bit cube_line fields_text test_of dotted digits
of_established = refl

-- of the flags the first cube tests both, the second ACK alone
pub examples_of_established : flat_map example_line (cubes established)
    ≡ codes "example dst=10.0.0.0 src=0.0.0.0 proto=6 sport=0 dport=0 ack=0 rst=1\nexample dst=10.0.0.0 src=0.0.0.0 proto=6 sport=0 dport=0 ack=1\n"
unfolding and masked with_test set_bit example_line fields_text value_of dotted digits
examples_of_established = refl

-- an echo request, and one whose code is 0
abbrev echo : Tree
echo = and (exact (last_bit Proto) 8 1) (exact (last_bit IcmpType) 8 8)

abbrev echo_of_code_0 : Tree
echo_of_code_0 = and echo (exact (last_bit IcmpCode) 8 0)

pub of_echo : flat_map cube_line (cubes echo) ≡ codes "cube proto=1&255 type=8&255\n"
unfolding and masked with_test set_bit cube_line fields_text test_of dotted digits
of_echo = refl

pub an_example_of_echo : flat_map example_line (cubes echo) ≡ codes "example dst=0.0.0.0 src=0.0.0.0 proto=1 sport=0 dport=0 type=8\n"
unfolding and masked with_test set_bit example_line fields_text value_of dotted digits
an_example_of_echo = refl

pub of_echo_of_code_0 : flat_map cube_line (cubes echo_of_code_0) ≡ codes "cube proto=1&255 type=8&255 code=0&255\n"
unfolding and masked with_test set_bit cube_line fields_text test_of dotted digits
of_echo_of_code_0 = refl

pub an_example_of_echo_of_code_0 : flat_map example_line (cubes echo_of_code_0) ≡ codes "example dst=0.0.0.0 src=0.0.0.0 proto=1 sport=0 dport=0 type=8 code=0\n"
unfolding and masked with_test set_bit example_line fields_text value_of dotted digits
an_example_of_echo_of_code_0 = refl

-- ---- cubes with examples

abbrev net : Network
net = uncut []

abbrev walk : Walk
walk = record { positions = Own 0 ∷ []; stop = At Delivered }

-- the first cube has an example with its walk, the second none
pub one_example : cubes_text net (lan ∷ telnet ∷ []) ((walk ∷ []) ∷ [])
    ≡ codes "cube dst=10.0.0.0&255.255.255.0\nexample dst=10.0.0.0 src=0.0.0.0 proto=0 sport=0 dport=0\nat  self\nend delivered\ncube dst=10.0.0.0&255.255.255.0 proto=6&255 dport=23&65535\n"
unfolding cube_line fields_text test_of value_of example_text example_line walk_text position_line stop_line dotted digits
one_example = refl

-- examples beyond the last cube are not shown, nor is more than the first cube where that is asked for
pub the_first_alone : cubes_text net (shown true (lan ∷ telnet ∷ [])) ((walk ∷ []) ∷ (walk ∷ []) ∷ []) ≡ cubes_text net (lan ∷ []) ((walk ∷ []) ∷ [])
unfolding cube_line fields_text test_of value_of example_text example_line walk_text position_line stop_line dotted digits
the_first_alone = refl
