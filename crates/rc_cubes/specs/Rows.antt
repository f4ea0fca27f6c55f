-- Cubes by computation.
use Rattle.std.specs.Prelude.{◌≡◌, refl, true, [], ◌∷◌}
use Rattle.rc_base.specs.Fields.{zeros}
use Rattle.rc_base.specs.Header.{last_bit, set_bit}
use Rattle.rc_base.specs.declared.field.Field.TheVariants.{Proto, IcmpType, IcmpCode, Ack, Rst}
use Rattle.rc_trees.specs.Trees.{Tree, never, always, node}
use Rattle.rc_trees.specs.Combine as trees
use Rattle.rc_trees.specs.Recipes.{minus, tree}
use Rattle.rc_trees.specs.Fields.{chain, exact, masked}
use Rattle.rc_cubes.specs.Cubes.{all, cubes, with_test}

nothing_has_none : cubes never ≡ []
nothing_has_none = refl

all_is_one : cubes always ≡ all ∷ []
all_is_one = refl

-- 10.0.0.0/24 is one cube
prefix_is_one : cubes (tree (chain (record { network = 167772160; len = 24 }))) ≡ record { value = record zeros { dst = 167772160 }; mask = record zeros { dst = 4294967040 } } ∷ []
unfolding masked with_test set_bit
prefix_is_one = refl

-- 10.0.0.0/30 without 10.0.0.2: the low side first, 10.0.0.0/31 and then 10.0.0.3
low_side_first : cubes (tree (minus (chain (record { network = 167772160; len = 30 })) (chain (record { network = 167772162; len = 32 }))))
    ≡ record { value = record zeros { dst = 167772160 }; mask = record zeros { dst = 4294967294 } } ∷ record { value = record zeros { dst = 167772163 }; mask = record zeros { dst = 4294967295 } } ∷ []
unfolding masked with_test set_bit trees.minus
low_side_first = refl

-- tcp, whatever the addresses and ports
of_tcp : cubes (exact (last_bit Proto) 8 6) ≡ record { value = record zeros { proto = 6 }; mask = record zeros { proto = 255 } } ∷ []
unfolding masked with_test set_bit
of_tcp = refl

-- ---- the fields that stand last

abbrev ack_or_rst : Tree
ack_or_rst = node (last_bit Ack) (node (last_bit Rst) never always) always

-- one of them: the type of an echo request
one_of_the_last : cubes (exact (last_bit IcmpType) 8 8) ≡ record { value = record zeros { icmp_type = 8 }; mask = record zeros { icmp_type = 255 } } ∷ []
unfolding masked with_test set_bit
one_of_the_last = refl

-- two: RST where there is no ACK, and then ACK, whatever RST is
two_of_the_last : cubes ack_or_rst
    ≡ record { value = record zeros { rst = true }; mask = record zeros { ack = true; rst = true } } ∷ record { value = record zeros { ack = true }; mask = record zeros { ack = true } } ∷ []
unfolding with_test set_bit
two_of_the_last = refl

-- all four, of which the code's tested bits are 0
all_of_the_last : cubes (trees.and (exact (last_bit IcmpType) 8 3) (trees.and (exact (last_bit IcmpCode) 8 0) ack_or_rst))
    ≡ record { value = record zeros { icmp_type = 3; rst = true }; mask = record zeros { icmp_type = 255; icmp_code = 255; ack = true; rst = true } }
    ∷ record { value = record zeros { icmp_type = 3; ack = true }; mask = record zeros { icmp_type = 255; icmp_code = 255; ack = true } } ∷ []
unfolding masked with_test set_bit trees.and
all_of_the_last = refl
