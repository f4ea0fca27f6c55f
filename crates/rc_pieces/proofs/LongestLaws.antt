-- The longest prefix in pieces: what a later piece has for an address is longer than all that holds it before.
use Rattle.std.proofs.Common.{refl, ◌≡◌, ap, sym, subst, ◌∙◌, ℕ, ◌+◌, ◌-◌, ◌<◌, ◌≤◌, Bool, true, false, cond, List, [], ◌∷◌, ◌++◌, length, map, filter, take, drop, get_or, take-append-drop, append-nil, nat_lt, Option, Some, None, arith}
use Rattle.std.specs.List.{AllByRecursion, fold, reduce}
use Rattle.std.specs.Option.{is_some, option_map, option_or}
use Rattle.std.proofs.lemmas.Bool.Decides.{nat_tests}
use Rattle.std.proofs.lemmas.Grind.{flat_map-append}
use Rattle.std.proofs.lemmas.List.{drop_more, take_more}
use Rattle.std.proofs.lemmas.List.Elements.{All-from_recursion, recursion_from_All, filter-append}
use Rattle.std.proofs.lemmas.List.Sums.{fold-append}
use Rattle.rc_base.specs.Prefix.{Cidr, IsCidr, contains, prefix_at}
use Rattle.rc_route.specs.Tables.{IsListed}
use Rattle.rc_trie.specs.Tree.{AreInOrder, longest_by}
use Rattle.rc_pieces.specs.Pieces.{AllBehind, joined}
use Rattle.rc_pieces.proofs.HoldLaws.{later_longer, none_later}
use Rattle.rc_pieces.proofs.OrderLaws.{apart, back_in_order, front_in_order}

-- so it is with what is read through references
pub read_some : {X Y : Type 0} (f : X → Y) (o : Option X) (b : Bool) → b ≡ is_some o → is_some (option_map f o) ≡ b
read_some f None b is = sym is
read_some f (Some x) b is = sym is

is_lt : (m n : ℕ) → m < n → nat_lt m n ≡ true
is_lt m n less = grind (arith, nat_tests)

-- the first of the pieces from a place on
pub next_piece : {A : Type 0} (pieces : List (List A)) (k : ℕ) (piece : List A) → k < length pieces → piece ≡ get_or pieces k piece → drop k pieces ≡ piece ∷ drop (k + 1) pieces
next_piece pieces k piece less is = drop_more pieces k piece less ∙ ap (λ (p : List _). p ∷ drop (k + 1) pieces) (sym is)

module _ {A : Type 0} (prefix_of : A → Cidr) where
  abbrev AreCidrs : List A → Type 0
  AreCidrs xs = AllByRecursion (λ x. IsCidr (prefix_of x)) xs

  cidrs_front : (xs ys : List A) → AreCidrs (xs ++ ys) → AreCidrs xs
  cidrs_front [] ys all = tt
  cidrs_front (x ∷ xs) ys all = (all.0, cidrs_front xs ys all.1)

  cidrs_back : (xs ys : List A) → AreCidrs (xs ++ ys) → AreCidrs ys
  cidrs_back [] ys all = all
  cidrs_back (x ∷ xs) ys all = cidrs_back xs ys all.1

  cidrs_of : (xs : List A) → AreInOrder prefix_of xs → AreCidrs xs
  cidrs_of xs are = recursion_from_All (λ x. IsCidr (prefix_of x)) xs are.canonical

  in_order_of : (xs : List A) → IsListed prefix_of xs → AreCidrs xs → AreInOrder prefix_of xs
  in_order_of xs up all = record { sorted = up; canonical = All-from_recursion (λ x. IsCidr (prefix_of x)) xs all }

  front_are : (xs ys : List A) → AreInOrder prefix_of (xs ++ ys) → AreInOrder prefix_of xs
  front_are xs ys are = in_order_of xs (front_in_order prefix_of xs ys are.sorted) (cidrs_front xs ys (cidrs_of (xs ++ ys) are))

  back_are : (xs ys : List A) → AreInOrder prefix_of (xs ++ ys) → AreInOrder prefix_of ys
  back_are xs ys are = in_order_of ys (back_in_order prefix_of xs ys are.sorted) (cidrs_back xs ys (cidrs_of (xs ++ ys) are))

  module _ (a : ℕ) where
    abbrev holds : A → Bool
    holds x = contains (prefix_of x) a

    abbrev pick : A → A → A
    pick x y = cond (nat_lt (prefix_of x).len (prefix_of y).len) y x

    -- ---- nothing behind the address holds it

    none_kept : (xs : List A) → AreCidrs xs → AllBehind prefix_of (prefix_at a 32) xs → filter holds xs ≡ []
    none_kept [] all later = refl
    none_kept (x ∷ xs) all later = by (holds x) refl (none_kept xs all.1 later.1)
      where
        by : (b : Bool) → holds x ≡ b → filter holds xs ≡ [] → cond b (x ∷ filter holds xs) (filter holds xs) ≡ []
        by true e rest = absurd (none_later (prefix_of x) a all.0 e later.0)
        by false e rest = rest

    none_longest : (xs : List A) → AreCidrs xs → AllBehind prefix_of (prefix_at a 32) xs → longest_by prefix_of xs a ≡ None
    none_longest xs all later = ap (reduce pick) (none_kept xs all later)

    -- ---- what holds it later is longer

    -- it holds the address, and all of the others stand behind it
    record IsBefore (ys : List A) (x : A) : Type 0 where
      canonical : IsCidr (prefix_of x)
      holds : contains (prefix_of x) a ≡ true
      behind : AllBehind prefix_of (prefix_of x) ys

    all_before : (xs ys : List A) → AreCidrs xs → AllByRecursion (λ q. AllBehind prefix_of q ys) (map prefix_of xs) → AllByRecursion (IsBefore ys) (filter holds xs)
    all_before [] ys all apart = tt
    all_before (x ∷ xs) ys all apart = by (holds x) refl (all_before xs ys all.1 apart.1)
      where
        by : (b : Bool) → holds x ≡ b → AllByRecursion (IsBefore ys) (filter holds xs) → AllByRecursion (IsBefore ys) (cond b (x ∷ filter holds xs) (filter holds xs))
        by true e rest = (record { canonical = all.0; holds = e; behind = apart.0 }, rest)
        by false e rest = rest

    one_before : (ys : List A) (x : A) (xs : List A) → IsBefore ys x → AllByRecursion (IsBefore ys) xs → IsBefore ys (fold pick x xs)
    one_before ys x [] is all = is
    one_before ys x (y ∷ xs) is all = one_before ys (pick x y) xs (by (nat_lt (prefix_of x).len (prefix_of y).len)) all.1
      where
        by : (b : Bool) → IsBefore ys (cond b y x)
        by true = all.0
        by false = is

    -- the first of some others that hold it is longer than one before all of them
    taken : (x : A) (ys : List A) → AreCidrs ys → IsBefore ys x → option_or (reduce pick (filter holds ys)) (Some x) ≡ Some (fold pick x (filter holds ys))
    taken x [] all is = refl
    taken x (y ∷ ys) all is = by (holds y) refl (taken x ys all.1 (record { canonical = is.canonical; holds = is.holds; behind = is.behind.1 }))
      where
        by : (b : Bool) → holds y ≡ b → option_or (reduce pick (filter holds ys)) (Some x) ≡ Some (fold pick x (filter holds ys))
            → option_or (reduce pick (cond b (y ∷ filter holds ys) (filter holds ys))) (Some x) ≡ Some (fold pick x (cond b (y ∷ filter holds ys) (filter holds ys)))
        by true e rest =
            let longer = later_longer (prefix_of x) (prefix_of y) a is.canonical all.0 is.holds e is.behind.0 in
            ap (λ b. Some (fold pick (cond b y x) (filter holds ys))) (sym (is_lt (prefix_of x).len (prefix_of y).len longer))
        by false e rest = rest

    option_or_none : (o : Option A) → option_or o None ≡ o
    option_or_none None = refl
    option_or_none (Some x) = refl

    joined_kept : (us ys : List A) → AreCidrs ys → AllByRecursion (IsBefore ys) us → reduce pick (us ++ filter holds ys) ≡ option_or (reduce pick (filter holds ys)) (reduce pick us)
    joined_kept [] ys all before = sym (option_or_none (reduce pick (filter holds ys)))
    joined_kept (u ∷ us) ys all before =
        ap Some (fold-append pick u us (filter holds ys)) ∙ sym (taken (fold pick u us) ys all (one_before ys u us before.0 before.1))

    pub longest_append : (xs ys : List A) → AreInOrder prefix_of (xs ++ ys) → longest_by prefix_of (xs ++ ys) a ≡ option_or (longest_by prefix_of ys a) (longest_by prefix_of xs a)
    longest_append xs ys are =
        let all = cidrs_of (xs ++ ys) are in
        ap (reduce pick) (filter-append holds xs ys)
        ∙ joined_kept (filter holds xs) ys (cidrs_back xs ys all) (all_before xs ys (cidrs_front xs ys all) (apart prefix_of xs ys are.sorted))

    -- ---- piece by piece

    -- all that holds the address stands in the pieces before a place
    pub record IsLeft (pieces : List (List A)) (end : ℕ) : Type 0 where
      pub within : end ≤ length pieces
      pub in_order : AreInOrder prefix_of (joined (take end pieces))
      pub same : longest_by prefix_of (joined (take end pieces)) a ≡ longest_by prefix_of (joined pieces) a

    parts : (pieces : List (List A)) (end : ℕ) → joined (take end pieces) ++ joined (drop end pieces) ≡ joined pieces
    parts pieces end = sym (flat_map-append (λ (piece : List A). piece) (take end pieces) (drop end pieces)) ∙ ap joined (take-append-drop end pieces)

    -- the pieces that begin at the address or before it
    pub begun : (pieces : List (List A)) (end : ℕ) → end ≤ length pieces → AreInOrder prefix_of (joined pieces) → AllBehind prefix_of (prefix_at a 32) (joined (drop end pieces)) → IsLeft pieces end
    begun pieces end within are later =
        let front = joined (take end pieces) in
        let back = joined (drop end pieces) in
        let split : AreInOrder prefix_of (front ++ back) = subst (AreInOrder prefix_of) (sym (parts pieces end)) are in
        let all = cidrs_of (front ++ back) split in
        record {
          within = within;
          in_order = front_are front back split;
          same = sym (
              ap (λ xs. longest_by prefix_of xs a) (sym (parts pieces end)) ∙ longest_append front back split
              ∙ ap (λ o. option_or o (longest_by prefix_of front a)) (none_longest back (cidrs_back front back all) later)
              );
        }

    module _ (pieces : List (List A)) (end : ℕ) (left : IsLeft pieces end) (some : 0 < end) (piece : List A) (is : piece ≡ get_or pieces (end - 1) piece) where
      last : joined (take end pieces) ≡ joined (take (end - 1) pieces) ++ piece
      last =
          let within = left.within in
          let end_is : end - 1 + 1 ≡ end = omega arith in
          ap (λ n. joined (take n pieces)) (sym end_is) ∙ ap joined (take_more pieces (end - 1) piece (omega arith))
          ∙ flat_map-append (λ (piece : List A). piece) (take (end - 1) pieces) (get_or pieces (end - 1) piece ∷ [])
          ∙ ap (λ (p : List A). joined (take (end - 1) pieces) ++ (p ++ [])) (sym is) ∙ ap (λ (p : List A). joined (take (end - 1) pieces) ++ p) (append-nil piece)

      split : AreInOrder prefix_of (joined (take (end - 1) pieces) ++ piece)
      split = subst (AreInOrder prefix_of) last left.in_order

      whole : option_or (longest_by prefix_of piece a) (longest_by prefix_of (joined (take (end - 1) pieces)) a) ≡ longest_by prefix_of (joined pieces) a
      whole = sym (longest_append (joined (take (end - 1) pieces)) piece split) ∙ ap (λ xs. longest_by prefix_of xs a) (sym last) ∙ left.same

      -- what is read of the piece
      module _ (read : List A) (reads : read ≡ piece) where
        pub read_in_order : AreInOrder prefix_of read
        read_in_order = subst (AreInOrder prefix_of) (sym reads) (back_are (joined (take (end - 1) pieces)) piece split)

        last_found : (r : Option A) → r ≡ longest_by prefix_of read a → option_or r (longest_by prefix_of (joined (take (end - 1) pieces)) a) ≡ longest_by prefix_of (joined pieces) a
        last_found r e = ap (λ o. option_or o (longest_by prefix_of (joined (take (end - 1) pieces)) a)) (e ∙ ap (λ xs. longest_by prefix_of xs a) reads) ∙ whole

        pub found : (r : Option A) → r ≡ longest_by prefix_of read a → is_some r ≡ true → r ≡ longest_by prefix_of (joined pieces) a
        found None e some = absurd (cc some)
        found (Some x) e some = last_found (Some x) e

        pub next_left : (r : Option A) → r ≡ longest_by prefix_of read a → is_some r ≡ false → IsLeft pieces (end - 1)
        next_left (Some x) e none = absurd (cc none)
        next_left None e none = record {
          within = let within = left.within in omega arith;
          in_order = front_are (joined (take (end - 1) pieces)) piece split;
          same = last_found None e;
        }

    pub none_found : (pieces : List (List A)) (end : ℕ) → end ≡ 0 → IsLeft pieces end → None ≡ longest_by prefix_of (joined pieces) a
    none_found pieces end is left = ap (λ n. longest_by prefix_of (joined (take n pieces)) a) (sym is) ∙ left.same

  -- ---- piece by piece, to read their prefixes

  -- what is left in order suffices, since all before it was read
  pub record AreRead (pieces left : List (List A)) : Type 0 where
    pub up : IsListed prefix_of (joined left)
    pub enough : AreCidrs (joined left) → AreCidrs (joined pieces)

  pub none_read : (pieces left : List (List A)) → left ≡ pieces → IsListed prefix_of (joined pieces) → AreRead pieces left
  none_read pieces left are up = record {
    up = subst (λ (l : List (List A)). IsListed prefix_of (joined l)) (sym are) up;
    enough = subst (λ (l : List (List A)). AreCidrs (joined l)) are;
  }

  cidrs_join : (xs ys : List A) → AreCidrs xs → AreCidrs ys → AreCidrs (xs ++ ys)
  cidrs_join [] ys front back = back
  cidrs_join (x ∷ xs) ys front back = (front.0, cidrs_join xs ys front.1 back)

  module _ (pieces left rest : List (List A)) (piece : List A) (are : left ≡ piece ∷ rest) (read : AreRead pieces left) where
    up_front : IsListed prefix_of (piece ++ joined rest)
    up_front = subst (λ (l : List (List A)). IsListed prefix_of (joined l)) are read.up

    pub next_up : IsListed prefix_of piece
    next_up = front_in_order prefix_of piece (joined rest) up_front

    pub read_more : AreInOrder prefix_of piece → AreRead pieces rest
    read_more is = record {
      up = back_in_order prefix_of piece (joined rest) up_front;
      enough = λ all. read.enough (subst (λ (l : List (List A)). AreCidrs (joined l)) (sym are) (cidrs_join piece (joined rest) (cidrs_of piece is) all));
    }

  pub all_read : (pieces left : List (List A)) → left ≡ [] → IsListed prefix_of (joined pieces) → AreRead pieces left → AreInOrder prefix_of (joined pieces)
  all_read pieces left none up read = in_order_of (joined pieces) up (read.enough (subst (λ (l : List (List A)). AreCidrs (joined l)) (sym none) tt))
