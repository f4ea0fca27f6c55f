-- Worked cases of addresses, prefixes, names, orders and endings, each by computation.
use Rattle.std.specs.Prelude.{◌≡◌, ℕ, ◌+◌, ◌*◌, true, false, List, [], ◌∷◌, map, replicate, Some, None, codes, refl}
use Rattle.std.specs.BTreeMap.{insert_entry}
use Rattle.std.specs.Cmp.Lexicographic.{slice_cmp}
use Rattle.std.specs.Fmt.{digits}
use Rattle.std.specs.Ordering.{nat_cmp}
use Rattle.std.specs.declared.cmp.Ordering.{Ordering}
use Rattle.std.specs.declared.cmp.Ordering.TheVariants.{Less, Equal, Greater}
use Rattle.rc_base.specs.Addr.{mask}
use Rattle.rc_base.specs.Communities.{community_set, has_all, has_community, joined}
use Rattle.rc_base.specs.Endings.{all_kinds, kind_named, kind_word}
use Rattle.rc_base.specs.Groups.{under}
use Rattle.rc_base.specs.Index.{Rows, members, with_member}
use Rattle.rc_base.specs.Name.{is_name, name_of_number, same_name}
use Rattle.rc_base.specs.Orders.{interface_cmp, origin_number}
use Rattle.rc_base.specs.Positions.{is_among, same_position}
use Rattle.rc_base.specs.Prefix.{Cidr, contains, covers, prefix_at, prefix_cmp}
use Rattle.rc_base.specs.declared.ending.Ends.{Ends}
use Rattle.rc_base.specs.declared.ending.Kind.TheVariants.{Accepted, Delivered, Exits}
use Rattle.rc_base.specs.declared.origin.Origin.TheVariants.{Igp, Egp, Incomplete}
use Rattle.rc_base.specs.declared.position.IfId.{IfId}
use Rattle.rc_base.specs.declared.position.Pos.TheVariants.{Own}

-- a prefix has no host bits, whatever its address has
pub no_host_bits :
    (prefix_at 0x0a0102ff 24 ≡ record { network = 0x0a010200; len = 24 })
    × (prefix_at 0x0a0102ff 8 ≡ record { network = 0x0a000000; len = 8 })
    × (prefix_at 0xffffffff 32 ≡ record { network = 0xffffffff; len = 32 })
    × (prefix_at 0xffffffff 0 ≡ record { network = 0; len = 0 })
no_host_bits = (refl, refl, refl, refl)

-- 10.0.0.0/8 and 10.1.2.0/24
abbrev wide : Cidr
wide = prefix_at 0x0a000000 8

abbrev narrow : Cidr
narrow = prefix_at 0x0a010200 24

-- a prefix holds its addresses, and covers longer ones of them, which stand behind it
pub holds_its_addresses :
    (contains wide 0x0affffff ≡ true)
    × (contains wide 0x0b000000 ≡ false)
    × (covers wide narrow ≡ true)
    × (covers narrow wide ≡ false)
    × (prefix_cmp wide narrow ≡ Less)
holds_its_addresses = (refl, refl, refl, refl, refl)

-- a mask is so many ones and then zeros
pub masks : (mask 24 ≡ 0xffffff00) × (mask 0 ≡ 0)
masks = (refl, refl)

abbrev interface : ℕ → ℕ → IfId
interface r n = record { router = r; index = n }

-- 10.0.1.0/24, and the same address under a mask of one bit more
abbrev first : Cidr
first = prefix_at 0x0a000100 24

abbrev second : Cidr
second = prefix_at 0x0a000100 25

-- two interfaces under the first prefix, of which one was put there twice, and one of them under the second
abbrev indexed : Rows
indexed = with_member (with_member (with_member (with_member [] second (interface 0 1)) first (interface 0 1)) first (interface 0 1)) first (interface 3 1)

pub interfaces_by_prefix : indexed ≡ (first, interface 0 1 ∷ interface 3 1 ∷ []) ∷ (second, interface 0 1 ∷ []) ∷ []
interfaces_by_prefix = refl

pub members_by_prefix : (members indexed first ≡ interface 0 1 ∷ interface 3 1 ∷ []) × (members indexed second ≡ interface 0 1 ∷ []) × (members indexed (prefix_at 0 0) ≡ [])
members_by_prefix = (refl, refl, refl)

-- a value stands under its prefix until another one takes its place
abbrev put : List (Cidr × ℕ) → ℕ → List (Cidr × ℕ)
put rows n = insert_entry prefix_cmp rows first n

pub values_by_prefix :
    (under {V = ℕ} [] first ≡ None)
    × (put [] 7 ≡ (first, 7) ∷ [])
    × (under (put [] 7) first ≡ Some 7)
    × (put (put [] 7) 9 ≡ (first, 9) ∷ [])
    × (under (put (put [] 7) 9) first ≡ Some 9)
values_by_prefix = (refl, refl, refl, refl, refl)

-- a name is 1 to 63 printed bytes without a blank: 127 is no such byte, and neither are the two of an é
pub names :
    (is_name (codes "Gi0/0.10") ≡ true)
    × (is_name (codes "~") ≡ true)
    × (is_name (replicate 63 120) ≡ true)
    × (is_name [] ≡ false)
    × (is_name (codes "a b") ≡ false)
    × (is_name (127 ∷ []) ≡ false)
    × (is_name (195 ∷ 169 ∷ []) ≡ false)
    × (is_name (replicate 64 120) ≡ false)
names = (refl, refl, refl, refl, refl, refl, refl, refl)

-- names of routers and of files stand in byte order: what begins another stands in front of it, and capitals before small letters
pub names_in_order :
    (slice_cmp nat_cmp (codes "R") (codes "R1") ≡ Less)
    × (same_name (codes "R") (codes "R1") ≡ false)
    × (slice_cmp nat_cmp (codes "B.cfg") (codes "a.cfg") ≡ Less)
names_in_order = (refl, refl, refl)

pub names_of_numbers :
    (name_of_number 5 ≡ codes "5")
    × (name_of_number 2699 ≡ codes "2699")
    × (name_of_number 4294967295 ≡ codes "4294967295")
unfolding digits
names_of_numbers = (refl, refl, refl)

-- two routers are two positions
pub positions : (same_position (Own 0) (Own 1) ≡ false) × (same_position (Own 1) (Own 1) ≡ true)
positions = (refl, refl)

-- each of a list compared with each
abbrev compared : {A : Type 0} → (A → A → Ordering) → List A → List (List Ordering)
compared cmp xs = map (λ x. map (cmp x) xs) xs

-- of origins the interior one is preferred, and the incomplete one least
pub origins_in_order : compared (λ a b. nat_cmp (origin_number a) (origin_number b)) (Igp ∷ Egp ∷ Incomplete ∷ [])
    ≡ (Equal ∷ Less ∷ Less ∷ []) ∷ (Greater ∷ Equal ∷ Less ∷ []) ∷ (Greater ∷ Greater ∷ Equal ∷ []) ∷ []
origins_in_order = refl

-- interfaces stand by router, then as declared
pub interfaces_in_order : compared interface_cmp (interface 0 0 ∷ interface 0 2 ∷ interface 1 0 ∷ interface 1 1 ∷ [])
    ≡ (Equal ∷ Less ∷ Less ∷ Less ∷ []) ∷ (Greater ∷ Equal ∷ Less ∷ Less ∷ []) ∷ (Greater ∷ Greater ∷ Equal ∷ Less ∷ []) ∷ (Greater ∷ Greater ∷ Greater ∷ Equal ∷ []) ∷ []
interfaces_in_order = refl

-- a set of endings has those that are set
abbrev ends : Ends
ends = record { denied_in = false; accepted = true; no_route = false; null_routed = false; denied_out = false; unreachable = false; exits = false; delivered = true }

pub endings : (is_among ends Accepted ≡ true) × (is_among ends Delivered ≡ true) × (is_among ends Exits ≡ false)
endings = (refl, refl, refl)

-- communities, each once in order
abbrev three : List ℕ
three = community_set (30 ∷ 10 ∷ 20 ∷ 10 ∷ [])

pub three_communities : three ≡ 10 ∷ 20 ∷ 30 ∷ []
three_communities = refl

pub those_of_three : map (has_community three) (10 ∷ 15 ∷ 30 ∷ 31 ∷ []) ≡ true ∷ false ∷ true ∷ false ∷ []
those_of_three = refl

pub includes_none : has_all three [] ≡ true
includes_none = refl

-- the union of two sets is one, whichever comes first; NO_EXPORT is no member of it
abbrev two : List ℕ
two = community_set (40 ∷ 10 ∷ [])

pub unions :
    (joined two three ≡ 10 ∷ 20 ∷ 30 ∷ 40 ∷ [])
    × (joined three two ≡ 10 ∷ 20 ∷ 30 ∷ 40 ∷ [])
    × (has_all three two ≡ false)
    × (has_all (joined two three) two ≡ true)
    × (has_community (joined two three) (65535 * 65536 + 65281) ≡ false)
unions = (refl, refl, refl, refl, refl)

-- each ending has the word that is written for it, and is the one that its word names
pub words_of_endings : map kind_word all_kinds
    ≡ codes "denied-in" ∷ codes "accepted" ∷ codes "no-route" ∷ codes "null-routed" ∷ codes "denied-out" ∷ codes "unreachable" ∷ codes "exits" ∷ codes "delivered" ∷ []
words_of_endings = refl

pub endings_of_words : map (λ k. kind_named (kind_word k)) all_kinds ≡ map Some all_kinds
endings_of_words = refl

pub no_such_ending : (kind_named (codes "loop") ≡ None) × (kind_named (codes "accept") ≡ None) × (kind_named (codes "Exits") ≡ None) × (kind_named [] ≡ None)
no_such_ending = (refl, refl, refl, refl)
