-- Worked cases of the definitions, each by computation.
use Rattle.std.specs.Prelude.{◌≡◌, ℕ, ◌+◌, ◌-◌, ◌*◌, List, [], ◌∷◌, Some, None, refl}
use Rattle.rc_base.specs.Prefix.{Cidr}
use Rattle.rc_trie.specs.Tree.{longest_row, with_row}

-- 10.0.n.m
abbrev address : ℕ → ℕ → ℕ
address n m = 10 * 16777216 + n * 256 + m

-- 0.0.0.0/0
abbrev everything : Cidr
everything = record { network = 0; len = 0 }

-- 10.0.0.0/8
abbrev eight : Cidr
eight = record { network = address 0 0; len = 8 }

-- 10.0.n.0/24
abbrev subnet : ℕ → Cidr
subnet n = record { network = address n 0; len = 24 }

-- 10.0.n.m/32
abbrev host : ℕ → ℕ → Cidr
host n m = record { network = address n m; len = 32 }

-- ---- 0.0.0.0/0, 10.0.0.0/8 and 10.0.0.0/24, put in another order

abbrev three : List (Cidr × ℕ)
three = with_row (with_row (with_row [] (subnet 0) 3) everything 1) eight 2

pub in_order : three ≡ (everything, 1) ∷ (eight, 2) ∷ (subnet 0, 3) ∷ []
in_order = refl

pub by_24_bits : longest_row three (address 0 9) ≡ Some (subnet 0, 3)
by_24_bits = refl

-- 10.1.0.0
pub by_8_bits : longest_row three (10 * 16777216 + 65536) ≡ Some (eight, 2)
by_8_bits = refl

-- 11.0.0.0
pub by_default : longest_row three (11 * 16777216) ≡ Some (everything, 1)
by_default = refl

pub nothing_in_an_empty_tree : longest_row [] (address 0 9) ≡ None
nothing_in_an_empty_tree = refl

-- ---- the same prefix again

-- it stands once, with the later value
pub the_later_value : with_row three eight 7 ≡ (everything, 1) ∷ (eight, 7) ∷ (subnet 0, 3) ∷ []
the_later_value = refl

pub found_with_the_later_value : longest_row (with_row three (subnet 0) 8) (address 0 9) ≡ Some (subnet 0, 8)
found_with_the_later_value = refl

-- ---- the order of putting counts for nothing

pub longer_before_shorter : with_row (with_row [] (subnet 0) 3) eight 2 ≡ (eight, 2) ∷ (subnet 0, 3) ∷ []
longer_before_shorter = refl

pub shorter_before_longer : with_row (with_row [] eight 2) (subnet 0) 3 ≡ (eight, 2) ∷ (subnet 0, 3) ∷ []
shorter_before_longer = refl

-- ---- the shortest and the longest

-- 255.255.255.255 and 0.0.0.0
pub everything_holds_the_last : longest_row (with_row [] everything 1) 4294967295 ≡ Some (everything, 1)
everything_holds_the_last = refl

pub everything_holds_the_first : longest_row (with_row [] everything 1) 0 ≡ Some (everything, 1)
everything_holds_the_first = refl

-- by its own address alone
pub a_host : longest_row (with_row three (host 0 9) 4) (address 0 9) ≡ Some (host 0 9, 4)
a_host = refl

pub beside_a_host : longest_row (with_row three (host 0 9) 4) (address 0 8) ≡ Some (subnet 0, 3)
beside_a_host = refl

pub a_host_alone_holds_no_other : longest_row (with_row [] (host 0 9) 4) (address 0 10) ≡ None
a_host_alone_holds_no_other = refl

-- ---- siblings: 10.0.0.0/24, 10.0.1.0/24 and 10.0.3.0/24

abbrev siblings : List (Cidr × ℕ)
siblings = with_row (with_row (with_row [] (subnet 1) 1) (subnet 3) 3) (subnet 0) 0

pub the_last_of_the_first : longest_row siblings (address 0 255) ≡ Some (subnet 0, 0)
the_last_of_the_first = refl

pub the_first_of_the_second : longest_row siblings (address 1 0) ≡ Some (subnet 1, 1)
the_first_of_the_second = refl

pub between_siblings : longest_row siblings (address 2 9) ≡ None
between_siblings = refl

pub behind_siblings : longest_row siblings (address 4 0) ≡ None
behind_siblings = refl

-- 9.255.255.255
pub before_siblings : longest_row siblings (10 * 16777216 - 1) ≡ None
before_siblings = refl

-- one address with several lengths: the shorter one stands first, and the longest that holds is found
pub of_one_address : with_row (with_row (with_row [] (host 0 0) 2) (subnet 0) 1) eight 0 ≡ (eight, 0) ∷ (subnet 0, 1) ∷ (host 0 0, 2) ∷ []
of_one_address = refl

pub the_longest_of_one_address : longest_row (with_row (with_row (with_row [] (host 0 0) 2) (subnet 0) 1) eight 0) (address 0 0) ≡ Some (host 0 0, 2)
the_longest_of_one_address = refl
