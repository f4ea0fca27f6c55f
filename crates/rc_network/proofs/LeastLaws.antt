-- The least line that names what its file doesn't define, looked for part by part.
use Rattle.std.proofs.Common.{◌≡◌, ◌∙◌, ◌+◌, ◌<◌, add-one, arith, get_or, length, ℕ, zero, suc, min, not, List, [], ◌∷◌, ◌++◌, drop, filter, fold, map, Option, Some, None, refl, sym, ap}
use Rattle.std.specs.List.{flat_map}
use Rattle.std.specs.Option.{option_map_or}
use Rattle.std.specs.Prelude.{slice_get}
use Rattle.std.proofs.lemmas.List.Elements.{filter-append}
use Rattle.std.proofs.lemmas.List.Sums.{fold-append}
use Rattle.std.proofs.lemmas.List.{drop_more, map-append}
use Rattle.rc_config.specs.declared.route_map.Mention.{Mention}
use Rattle.rc_config.specs.declared.router_text.RouterText.{RouterText}
use Rattle.rc_network.specs.Undefined.{NamedThing, defines, least, least_line, lower, of_kind, undefined_lines}
use Rattle.rc_network.specs.declared.undefined.NamedKind.{NamedKind}

min-three : (a b c : ℕ) → min (min a b) c ≡ min a (min b c)
min-three a b c = omega arith

-- the lower of two is the other one where one is none, and of three it is the same whichever two come first
pub lower-none : (line : Option ℕ) → lower None line ≡ line
lower-none None = refl
lower-none (Some line) = refl

lower-three : (a b c : Option ℕ) → lower (lower a b) c ≡ lower a (lower b c)
lower-three a b None = refl
lower-three a None (Some z) = ap (lower a) (sym (lower-none (Some z)))
lower-three None (Some y) (Some z) = refl
lower-three (Some x) (Some y) (Some z) = ap Some (min-three x y z)

-- the least of numbers and of others is the lower of both
min-first : (a b : ℕ) (numbers : List ℕ) → fold min (min a b) numbers ≡ min a (fold min b numbers)
min-first a b [] = refl
min-first a b (n ∷ numbers) = ap (λ m. fold min m numbers) (min-three a b n) ∙ min-first a (min b n) numbers

lower-known : (known : ℕ) (numbers : List ℕ) → Some (fold min known numbers) ≡ lower (Some known) (least numbers)
lower-known known [] = refl
lower-known known (n ∷ numbers) = ap Some (min-first known n numbers)

least-append : (these those : List ℕ) → least (these ++ those) ≡ lower (least these) (least those)
least-append [] those = sym (lower-none (least those))
least-append (n ∷ these) those = ap Some (fold-append min n these those) ∙ lower-known (fold min n these) those

drop-here : {X : Type 0} (xs : List X) (i : ℕ) (x : X) → i < length xs → x ≡ get_or xs i x → drop i xs ≡ x ∷ drop (i + 1) xs
drop-here xs i x lt is = drop_more xs i x lt ∙ ap (λ y. y ∷ drop (i + 1) xs) (sym is)

module _ (r : RouterText) where
  lines-append : (these those : List NamedThing) → undefined_lines r (these ++ those) ≡ undefined_lines r these ++ undefined_lines r those
  lines-append these those =
      ap (map (λ (n : NamedThing). n.1.line)) (filter-append (λ (n : NamedThing). not (defines r n.0 n.1.name)) these those)
      ∙ map-append (λ (n : NamedThing). n.1.line) (filter (λ (n : NamedThing). not (defines r n.0 n.1.name)) these) (filter (λ (n : NamedThing). not (defines r n.0 n.1.name)) those)

  line-append : (these those : List NamedThing) → least_line r (these ++ those) ≡ lower (least_line r these) (least_line r those)
  line-append these those = ap least (lines-append these those) ∙ least-append (undefined_lines r these) (undefined_lines r those)

  -- the least line of two parts is the lower one of theirs
  pub both_parts : (these those : List NamedThing) (here there all : Option ℕ) → here ≡ least_line r these → there ≡ least_line r those → all ≡ lower here there → all ≡ least_line r (these ++ those)
  both_parts these those here there all of_these of_those is = is ∙ (λ i. lower (of_these i) (of_those i)) ∙ sym (line-append these those)

  -- one part more: with what is left it is the same
  left-more : (known here more whole : Option ℕ) (part rest : List NamedThing) → here ≡ least_line r part → more ≡ lower known here
      → lower known (least_line r (part ++ rest)) ≡ whole → lower more (least_line r rest) ≡ whole
  left-more known here more whole part rest of_part joined h =
      ap (λ n. lower n (least_line r rest)) (joined ∙ ap (lower known) of_part) ∙ lower-three known (least_line r part) (least_line r rest)
      ∙ ap (lower known) (sym (line-append part rest)) ∙ h

  pub left-part : {A : Type 0} (named_by_part : A → List NamedThing) (known here more whole : Option ℕ) (left rest : List A) (e : A) → left ≡ e ∷ rest → here ≡ least_line r (named_by_part e)
      → more ≡ lower known here → lower known (least_line r (flat_map named_by_part left)) ≡ whole → lower more (least_line r (flat_map named_by_part rest)) ≡ whole
  left-part named_by_part known here more whole left rest e is of_part joined h =
      left-more known here more whole (named_by_part e) (flat_map named_by_part rest) of_part joined (ap (λ es. lower known (least_line r (flat_map named_by_part es))) (sym is) ∙ h)

  -- the same of a slice
  pub left-slice : {A : Type 0} (named_by_part : A → List NamedThing) (known here more whole : Option ℕ) (parts : List A) (i : ℕ) (e : A) → i < length parts → e ≡ get_or parts i e
      → here ≡ least_line r (named_by_part e) → more ≡ lower known here
      → lower known (least_line r (flat_map named_by_part (drop i parts))) ≡ whole → lower more (least_line r (flat_map named_by_part (drop (i + 1) parts))) ≡ whole
  left-slice named_by_part known here more whole parts i e lt is = left-part named_by_part known here more whole (drop i parts) (drop (i + 1) parts) e (drop-here parts i e lt is)

  -- and of what is named of a kind
  pub left-mention : (kind : NamedKind) (known here more whole : Option ℕ) (mentions : List Mention) (i : ℕ) (m : Mention) → i < length mentions → m ≡ get_or mentions i m
      → here ≡ least_line r ((kind, m) ∷ []) → more ≡ lower known here
      → lower known (least_line r (of_kind kind (drop i mentions))) ≡ whole → lower more (least_line r (of_kind kind (drop (i + 1) mentions))) ≡ whole
  left-mention kind known here more whole mentions i m lt is of_mention joined h =
      left-more known here more whole ((kind, m) ∷ []) (of_kind kind (drop (i + 1) mentions)) of_mention joined
      (ap (λ ms. lower known (least_line r (of_kind kind ms))) (sym (drop-here mentions i m lt is)) ∙ h)

  -- what the one at an index names, of those under names, and then what those behind it do
  index-line : {V : Type 0} (named_by_one : V → List NamedThing) (ones : List (List ℕ × V)) (index : ℕ)
      → lower (option_map_or (λ e. least_line r (named_by_one e.1)) (slice_get ones index) None) (least_line r (flat_map (λ e. named_by_one e.1) (drop (suc index) ones)))
      ≡ least_line r (flat_map (λ e. named_by_one e.1) (drop index ones))
  index-line named_by_one [] zero = refl
  index-line named_by_one [] (suc index) = refl
  index-line named_by_one (e ∷ ones) zero = sym (line-append (named_by_one e.1) (flat_map (λ e. named_by_one e.1) ones))
  index-line named_by_one (e ∷ ones) (suc index) = index-line named_by_one ones index

  -- and one more of those under names
  pub left-named : {V : Type 0} (named_by_one : V → List NamedThing) (known here more whole : Option ℕ) (ones : List (List ℕ × V)) (index : ℕ)
      → here ≡ option_map_or (λ e. least_line r (named_by_one e.1)) (slice_get ones index) None → more ≡ lower known here
      → lower known (least_line r (flat_map (λ e. named_by_one e.1) (drop index ones))) ≡ whole → lower more (least_line r (flat_map (λ e. named_by_one e.1) (drop (index + 1) ones))) ≡ whole
  left-named named_by_one known here more whole ones index of_one joined h =
      let behind = λ (n : ℕ). least_line r (flat_map (λ e. named_by_one e.1) (drop n ones)) in
      ap (λ n. lower more (behind n)) (add-one index) ∙ ap (λ n. lower n (behind (suc index))) (joined ∙ ap (lower known) of_one)
      ∙ lower-three known (option_map_or (λ e. least_line r (named_by_one e.1)) (slice_get ones index) None) (behind (suc index))
      ∙ ap (lower known) (index-line named_by_one ones index) ∙ h
