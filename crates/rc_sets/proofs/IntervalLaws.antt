-- Intervals of a number, bit by bit.
use Rattle.std.proofs.Common.{refl, ◌≡◌, ap, sym, ◌∙◌, subst, ℕ, zero, suc, ◌+◌, ◌-◌, ◌*◌, ◌%◌, ◌^◌, ◌<◌, ◌≤◌, Bool, true, false, not, ◌&&◌, cond, ◌==◌, nat_lt, nat_le, List, inl, inr, Result, Ok, Err, IfOk, arith}
use Rattle.std.specs.Int.{bit_at}
use Rattle.std.proofs.Math.Nat.{mod-eq_of_lt}
use Rattle.std.proofs.lemmas.Bool.Decides.{nat_tests}
use Rattle.std.proofs.lemmas.Nat.{mod-pow-add, pow-add, mod_below, pow_pos}
use Rattle.std.proofs.lemmas.Nat.Bits.{bit_at-lt}
use Rattle.rc_base.specs.Fields.{of}
use Rattle.rc_base.specs.Header.{IsHeader, bit, bit_count, last_bit}
use Rattle.rc_base.specs.declared.field.Field.TheVariants.{Sport, Dport}
use Rattle.rc_base.specs.declared.header.Header.{Header}
use Rattle.rc_trees.specs.Trees.{Tree, never, always, value, HasNodesOf}
use Rattle.rc_trees.specs.Combine.{constant, joined, minus}
use Rattle.rc_trees.specs.Fields.{below, at_most}
use Rattle.rc_trees.proofs.TreeLaws.{value-joined, value-constant, value-minus}
use Rattle.rc_trees.proofs.ReducedLaws.{Starts, starts-joined, sooner, reduced-minus}
use Rattle.rc_trees.proofs.SideLaws.{joined_low, joined_high}
use Rattle.rc_trees.proofs.FieldLaws.{Reads, fewer, value-below, value-at_most, reads}
use Rattle.rc_trees.proofs.FieldsReduced.{reduced-below, reduced-at_most}
use Rattle.rc_trees.proofs.HeaderLaws.{one_tree_per_set}
use Rattle.rc_nodes.specs.Seats.{TableView, SeatView, SeatKnows}
use Rattle.rc_nodes.specs.declared.table.Full.{Full}
use Rattle.rc_nodes.specs.declared.words.Ref.{Ref}
use Rattle.rc_nodes.proofs.KnownLaws.{knows_never, knows_always}
use Rattle.rc_bdd.specs.Work.{MayBranch}
use Rattle.rc_sets.specs.Intervals.{IsPort, between}

double : (k : ℕ) → 2 ^ suc k ≡ 2 * 2 ^ k
double k = ap (λ j. 2 ^ j) (let e : suc k ≡ 1 + k = omega arith in e) ∙ pow-add 2 1 k

-- ---- where no number is in it, or each

module _ (last : ℕ) where
  empty_test : (low end : ℕ) → end ≤ low → (nat_le low 0 && nat_lt 0 end) ≡ false
  empty_test low end le = grind (arith, nat_tests)

  past_test : (low end : ℕ) → 1 ≤ low → (nat_le low 0 && nat_lt 0 end) ≡ false
  past_test low end le = grind (arith, nat_tests)

  all_test : (low end : ℕ) → low ≡ 0 → 1 ≤ end → (nat_le low 0 && nat_lt 0 end) ≡ true
  all_test low end e le = grind (arith, nat_tests)

  empty : (count low end : ℕ) → end ≤ low → between last count low end ≡ never
  unfolding between
  empty zero low end le = ap constant (empty_test low end le)
  empty (suc k) low end le = λ i. joined (last - k) (empty k low end le i) (empty k (low - 2 ^ k) (end - 2 ^ k) (omega arith) i)

  past : (count low end : ℕ) → 2 ^ count ≤ low → between last count low end ≡ never
  unfolding between
  past zero low end le = ap constant (past_test low end le)
  past (suc k) low end le = let e = double k in λ i. joined (last - k) (past k low end (omega arith) i) (past k (low - 2 ^ k) (end - 2 ^ k) (omega arith) i)

  all : (count low end : ℕ) → low ≡ 0 → 2 ^ count ≤ end → between last count low end ≡ always
  unfolding between
  all zero low end none le = ap constant (all_test low end none le)
  all (suc k) low end none le = let e = double k in λ i. joined (last - k) (all k low end none (omega arith) i) (all k (low - 2 ^ k) (end - 2 ^ k) (omega arith) (omega arith) i)

pub known_empty : (count low end : ℕ) → end ≤ low → (seat : SeatView) (last : ℕ) → SeatKnows seat 0 (between last count low end)
known_empty count low end le = λ seat last. subst (SeatKnows seat 0) (sym (empty last count low end le)) (knows_never seat)

pub known_past : (count low end : ℕ) → 2 ^ count ≤ low → (seat : SeatView) (last : ℕ) → SeatKnows seat 0 (between last count low end)
known_past count low end le = λ seat last. subst (SeatKnows seat 0) (sym (past last count low end le)) (knows_never seat)

pub known_all : (count low end : ℕ) → low ≡ 0 → 2 ^ count ≤ end → (seat : SeatView) (last : ℕ) → SeatKnows seat 1 (between last count low end)
known_all count low end none le = λ seat last. subst (SeatKnows seat 1) (sym (all last count low end none le)) (knows_always seat)

-- ---- the two sides

again : (last k low end : ℕ) → between last (suc k) low end ≡ joined (last - k) (between last k low end) (between last k (low - 2 ^ k) (end - 2 ^ k))
unfolding between
again last k low end = refl

module _ (last count low end : ℕ) (some : 1 ≤ count) where
  abbrev pub zeros : Tree
  zeros = between last (count - 1) low end

  abbrev pub ones : Tree
  ones = between last (count - 1) (low - 2 ^ (count - 1)) (end - 2 ^ (count - 1))

  pub sides : between last count low end ≡ joined (last - (count - 1)) zeros ones
  sides = ap (λ n. between last n low end) (let e : count ≡ suc (count - 1) = omega arith in e) ∙ again last (count - 1) low end

-- ---- it is reduced

module _ (last : ℕ) (is_bit : last < bit_count) where
  starts-constant : (u : ℕ) (b : Bool) → u ≤ bit_count → Starts u (constant b)
  starts-constant u true le = (tt, le)
  starts-constant u false le = (tt, le)

  pub starts-between : (count low end : ℕ) → count ≤ last + 1 → Starts (last + 1 - count) (between last count low end)
  unfolding between
  starts-between zero low end le = starts-constant (last + 1 - zero) (nat_le low 0 && nat_lt 0 end) (omega arith)
  starts-between (suc k) low end le =
      let at : last + 1 - k ≡ suc (last - k) = omega arith in
      let l = subst (λ u. Starts u (between last k low end)) at (starts-between k low end (omega arith)) in
      let h = subst (λ u. Starts u (between last k (low - 2 ^ k) (end - 2 ^ k))) at (starts-between k (low - 2 ^ k) (end - 2 ^ k) (omega arith)) in
      sooner (last + 1 - suc k) (last - k) (joined (last - k) (between last k low end) (between last k (low - 2 ^ k) (end - 2 ^ k))) (omega arith) (starts-joined (last - k) (between last k low end) (between last k (low - 2 ^ k) (end - 2 ^ k)) l h)

-- ---- what the builder asks of both sides

module _ (may : List Tree) (last count low end : ℕ) (some : 1 ≤ count) (has : HasNodesOf may (between last count low end)) where
  here : HasNodesOf may (joined (last - (count - 1)) (zeros last count low end some) (ones last count low end some))
  here = subst (HasNodesOf may) (sides last count low end some) has

  pub may_zeros : HasNodesOf may (zeros last count low end some)
  may_zeros = joined_low may (last - (count - 1)) (zeros last count low end some) (ones last count low end some) here

  pub may_ones : HasNodesOf may (ones last count low end some)
  may_ones = joined_high may (last - (count - 1)) (zeros last count low end some) (ones last count low end some) here

pub may_join : (nodes : TableView) (seat : SeatView) (last count low end : ℕ) (some : 1 ≤ count) → last < bit_count → count ≤ last + 1 → HasNodesOf nodes.may (between last count low end)
    → (a b : ℕ) → SeatKnows seat a (zeros last count low end some) → SeatKnows seat b (ones last count low end some) → MayBranch nodes seat (last - (count - 1)) a b
may_join nodes seat last count low end some is_bit fits has a b ka kb =
    let l = starts-between last is_bit (count - 1) low end (omega arith) in
    let h = starts-between last is_bit (count - 1) (low - 2 ^ (count - 1)) (end - 2 ^ (count - 1)) (omega arith) in
    record {
      bit = omega arith;
      low = zeros last count low end some;
      high = ones last count low end some;
      knows_low = ka;
      knows_high = kb;
      rises_low = let u = l.1 in omega arith;
      rises_high = let u = h.1 in omega arith;
      allowed = here nodes.may last count low end some has;
    }

-- ---- its headers

module _ (h : Header) (last m : ℕ) where
  by_bit : (b P x low end : ℕ) → b < 2 → x < P → cond (b == 1) (nat_le (low - P) x && nat_lt x (end - P)) (nat_le low x && nat_lt x end) ≡ (nat_le low (b * P + x) && nat_lt (b * P + x) end)
  by_bit zero P x low end two less = grind (arith, nat_tests)
  by_bit (suc zero) P x low end two less = grind (arith, nat_tests)
  by_bit (suc (suc b)) P x low end two less = absurd (omega arith)

  first_bit : (k : ℕ) → m % 2 ^ suc k ≡ bit_at m k * 2 ^ k + m % 2 ^ k
  first_bit k = ap (λ j. m % 2 ^ j) (let e : suc k ≡ 1 + k = omega arith in e) ∙ mod-pow-add m 1 k

  value-between : (count low end : ℕ) → Reads h last m count → value (between last count low end) (bit h) ≡ (nat_le low (m % 2 ^ count) && nat_lt (m % 2 ^ count) end)
  unfolding between
  value-between zero low end reads =
      let small : m % 1 < 1 = mod_below m 1 (omega arith) in
      value-constant (bit h) (nat_le low 0 && nat_lt 0 end) ∙ ap (λ n. nat_le low n && nat_lt n end) (let e : 0 ≡ m % 1 = omega arith in e)
  value-between (suc k) low end reads =
      value-joined (bit h) (last - k) (between last k low end) (between last k (low - 2 ^ k) (end - 2 ^ k))
      ∙ (λ i. cond (reads k (let x : k < suc k = omega arith in x) i) (value-between k (low - 2 ^ k) (end - 2 ^ k) (fewer h last m k reads) i) (value-between k low end (fewer h last m k reads) i))
      ∙ by_bit (bit_at m k) (2 ^ k) (m % 2 ^ k) low end (bit_at-lt m k) (mod_below m (2 ^ k) (pow_pos k))
      ∙ ap (λ n. nat_le low n && nat_lt n end) (sym (first_bit k))

-- ---- the tests of ports

module _ (last : ℕ) (number : Header → ℕ) (reads : (h : Header) → Reads h last (number h) 16) (small : (h : Header) → IsHeader h → number h < 2 ^ 16) (is_bit : last < bit_count) (wide : 16 ≤ last + 1) where
  value-port : (low end : ℕ) (h : Header) → IsHeader h → value (between last 16 low end) (bit h) ≡ (nat_le low (number h) && nat_lt (number h) end)
  value-port low end h is = value-between h last (number h) 16 low end (reads h) ∙ ap (λ n. nat_le low n && nat_lt n end) (mod-eq_of_lt (small h is))

  below_test : (p n : ℕ) → nat_lt p n ≡ (nat_le 0 p && nat_lt p n)
  below_test p n = grind (arith, nat_tests)

  above_test : (p n : ℕ) → p < 65536 → not (nat_le p n) ≡ (nat_le (n + 1) p && nat_lt p 65536)
  above_test p n less = grind (arith, nat_tests)

  within_test : (p low high : ℕ) → (nat_le p high && not (nat_lt p low)) ≡ (nat_le low p && nat_lt p (high + 1))
  within_test p low high = grind (arith, nat_tests)

  below_port : (n : ℕ) → between last 16 0 n ≡ below last 16 n
  below_port n =
      one_tree_per_set (between last 16 0 n) (below last 16 n) (starts-between last is_bit 16 0 n wide).0 (reduced-below last is_bit 16 n wide)
      (λ h is. value-port 0 n h is ∙ sym (below_test (number h) n) ∙ sym (value-below h last (number h) 16 (reads h) (small h is) n))

  above_port : (n : ℕ) → between last 16 (n + 1) 65536 ≡ minus always (at_most last 16 n)
  above_port n =
      one_tree_per_set (between last 16 (n + 1) 65536) (minus always (at_most last 16 n)) (starts-between last is_bit 16 (n + 1) 65536 wide).0 (reduced-minus always (at_most last 16 n) tt (reduced-at_most last is_bit 16 n wide))
      (λ h is. value-port (n + 1) 65536 h is ∙ sym (above_test (number h) n (small h is)) ∙ sym (value-minus (bit h) always (at_most last 16 n) ∙ ap not (value-at_most h last (number h) 16 (reads h) (small h is) n)))

  within_port : (low high : ℕ) → between last 16 low (high + 1) ≡ minus (at_most last 16 high) (below last 16 low)
  within_port low high =
      one_tree_per_set (between last 16 low (high + 1)) (minus (at_most last 16 high) (below last 16 low)) (starts-between last is_bit 16 low (high + 1) wide).0
      (reduced-minus (at_most last 16 high) (below last 16 low) (reduced-at_most last is_bit 16 high wide) (reduced-below last is_bit 16 low wide))
      (λ h is. value-port low (high + 1) h is ∙ sym (within_test (number h) low high)
      ∙ sym (value-minus (bit h) (at_most last 16 high) (below last 16 low) ∙ (λ i. value-at_most h last (number h) 16 (reads h) (small h is) high i && not (value-below h last (number h) 16 (reads h) (small h is) low i))))

pub below_is : (last n : ℕ) → IsPort last → between last 16 0 n ≡ below last 16 n
below_is last n (inl e) = subst (λ v. between v 16 0 n ≡ below v 16 n) (sym e) (below_port (last_bit Sport) (of Sport) (λ h. reads h Sport) (λ h is. is Sport) (omega arith) (omega arith) n)
below_is last n (inr e) = subst (λ v. between v 16 0 n ≡ below v 16 n) (sym e) (below_port (last_bit Dport) (of Dport) (λ h. reads h Dport) (λ h is. is Dport) (omega arith) (omega arith) n)

pub above_is : (last n : ℕ) → IsPort last → between last 16 (n + 1) 65536 ≡ minus always (at_most last 16 n)
above_is last n (inl e) = subst (λ v. between v 16 (n + 1) 65536 ≡ minus always (at_most v 16 n)) (sym e) (above_port (last_bit Sport) (of Sport) (λ h. reads h Sport) (λ h is. is Sport) (omega arith) (omega arith) n)
above_is last n (inr e) = subst (λ v. between v 16 (n + 1) 65536 ≡ minus always (at_most v 16 n)) (sym e) (above_port (last_bit Dport) (of Dport) (λ h. reads h Dport) (λ h is. is Dport) (omega arith) (omega arith) n)

pub within_is : (last low high : ℕ) → IsPort last → between last 16 low (high + 1) ≡ minus (at_most last 16 high) (below last 16 low)
within_is last low high (inl e) = subst (λ v. between v 16 low (high + 1) ≡ minus (at_most v 16 high) (below v 16 low)) (sym e) (within_port (last_bit Sport) (of Sport) (λ h. reads h Sport) (λ h is. is Sport) (omega arith) (omega arith) low high)
within_is last low high (inr e) = subst (λ v. between v 16 low (high + 1) ≡ minus (at_most v 16 high) (below v 16 low)) (sym e) (within_port (last_bit Dport) (of Dport) (λ h. reads h Dport) (λ h is. is Dport) (omega arith) (omega arith) low high)

-- the bits of a port
pub port_bits : (last : ℕ) → IsPort last → (last < bit_count) × (16 ≤ last + 1)
port_bits last (inl e) = (omega arith, omega arith)
port_bits last (inr e) = (omega arith, omega arith)

-- after the step a reference is known as the interval
pub joined_set : (before after : SeatView) (last count low end : ℕ) (some : 1 ≤ count) (a b : ℕ) → SeatKnows before a (zeros last count low end some) → SeatKnows before b (ones last count low end some) → (result : Result Ref Full)
    → IfOk result (λ r. (l h : Tree) → SeatKnows before a l → SeatKnows before b h → SeatKnows after r.index (joined (last - (count - 1)) l h)) → IfOk result (λ r. SeatKnows after r.index (between last count low end))
joined_set before after last count low end some a b ka kb (Ok r) made = subst (SeatKnows after r.index) (sym (sides last count low end some)) (made (zeros last count low end some) (ones last count low end some) ka kb)
joined_set before after last count low end some a b ka kb (Err e) made = tt

-- what is left of an end
pub left_of : (r a half n : ℕ) → r ≡ a - half → half ≡ n → r ≡ a - n
left_of r a half n is same = is ∙ ap (λ m. a - m) same
