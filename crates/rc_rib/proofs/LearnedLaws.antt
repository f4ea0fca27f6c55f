-- A table is merged with routes that come one after another.
use Rattle.std.proofs.Common.{refl, ◌≡◌, ap, sym, ◌∙◌, subst, ℕ, suc, ◌+◌, ◌≤◌, ◌<◌, ◌==◌, true, List, [], ◌∷◌, ◌++◌, drop, drop-cons, add-one, length, get_or, arith, append_assoc, Option, Some, None}
use Rattle.std.proofs.lemmas.Grind.{common_steps}
use Rattle.std.proofs.lemmas.List.{drop_all, drop_more}
use Rattle.std.proofs.lemmas.List.Elements.{filter_map-append}
use Rattle.std.proofs.lemmas.Bool.Decides.{nat_tests}
use Rattle.std.specs.List.{cons_option}
use Rattle.std.specs.declared.cmp.Ordering.TheVariants.{Less, Equal, Greater}
use Rattle.rc_bgp.specs.Learning.{learned_route}
use Rattle.rc_pieces.specs.Pieces.{joined}
use Rattle.rc_route.specs.declared.best.Best.{Best}
use Rattle.rc_route.specs.declared.route.Route.{Route}
use Rattle.rc_rib.specs.Best.{better}
use Rattle.rc_rib.specs.Merging.{KeepsWhole, merged, which, front_prefix}
use Rattle.rc_rib.specs.Next.{learned_routes}
use Rattle.rc_rib.proofs.MergingLaws.{first_is_next, second_is_next, both_are_next, with_none}

greater_less : Greater ≡ Less → ⊥
greater_less e = absurd (cc)

greater_equal : Greater ≡ Equal → ⊥
greater_equal e = absurd (cc)

-- one thing at the end, before others
one_before : (made more : List Route) (x : Route) (made-now : List Route) → made-now ≡ made ++ x ∷ [] → made ++ x ∷ more ≡ made-now ++ more
one_before made more x made-now pushed = sym (append_assoc made (x ∷ []) more) ∙ ap (λ t. t ++ more) (sym pushed)

pub moved : (left made left-now made-now : List Route) (r x : Route) → which (front_prefix left) (Some r.prefix) ≡ Less → left ≡ x ∷ left-now → made-now ≡ made ++ x ∷ [] → KeepsWhole left made (r ∷ []) left-now made-now (r ∷ [])
moved left made left-now made-now r x less is pushed = record {
  same = λ rest. ap (λ t. made ++ t) (first_is_next left (r ∷ rest) left-now (Some x) less is).0 ∙ one_before made (merged left-now (r ∷ rest)) x made-now pushed;
}

pub fewer_left : (left left-now : List Route) (x : Route) → left ≡ x ∷ left-now → length left-now < length left
fewer_left left left-now x is = let one_more : length left ≡ suc (length left-now) = ap length is in omega (arith, one_more)

pub none_moved : (left : List Route) (r : Route) → which (front_prefix left) (Some r.prefix) ≡ Less → left ≡ [] → ⊥
none_moved left r less is = greater_less (sym (ap (λ t. which (front_prefix t) (Some r.prefix)) is) ∙ less)

pub both_placed : (left made left-now made-now : List Route) (r x : Route) → which (front_prefix left) (Some r.prefix) ≡ Equal → left ≡ x ∷ left-now → made-now ≡ made ++ better x r ∷ [] → KeepsWhole left made (r ∷ []) left-now made-now []
both_placed left made left-now made-now r x equal is pushed = record {
  same = λ rest. ap (λ t. made ++ t) (both_are_next left (r ∷ rest) left-now rest (Some x) (Some r) equal is refl).0 ∙ one_before made (merged left-now rest) (better x r) made-now pushed;
}

pub none_placed : (left : List Route) (r : Route) → which (front_prefix left) (Some r.prefix) ≡ Equal → left ≡ [] → ⊥
none_placed left r equal is = greater_equal (sym (ap (λ t. which (front_prefix t) (Some r.prefix)) is) ∙ equal)

pub one_placed : (left made made-now : List Route) (r : Route) → which (front_prefix left) (Some r.prefix) ≡ Greater → made-now ≡ made ++ r ∷ [] → KeepsWhole left made (r ∷ []) left made-now []
one_placed left made made-now r greater pushed = record {
  same = λ rest. ap (λ t. made ++ t) (second_is_next left (r ∷ rest) rest (Some r) greater refl).0 ∙ one_before made (merged left rest) r made-now pushed;
}

-- what was moved before a route is placed
pub placed_behind : (left made mid made-mid left-now made-now : List Route) (r : Route) → ((rest : List Route) → made ++ merged left (r ∷ rest) ≡ made-mid ++ merged mid (r ∷ rest)) → KeepsWhole mid made-mid (r ∷ []) left-now made-now [] → KeepsWhole left made (r ∷ []) left-now made-now []
placed_behind left made mid made-mid left-now made-now r before placed = record { same = λ rest. before rest ∙ placed.same rest }

-- a route that may be there, and others behind it
one_ahead : (o : Option Route) (more rest : List Route) → cons_option o [] ++ (more ++ rest) ≡ cons_option o more ++ rest
one_ahead None more rest = refl
one_ahead (Some r) more rest = refl

pub none_learned : (left made : List Route) (path : Best) → learned_route path ≡ None → KeepsWhole left made (learned_routes (path ∷ [])) left made []
none_learned left made path none = record { same = λ rest. ap (λ o. made ++ merged left (cons_option o [] ++ rest)) none }

pub one_learned : (left made left-now made-now : List Route) (path : Best) (r : Route) → learned_route path ≡ Some r → KeepsWhole left made (r ∷ []) left-now made-now [] → KeepsWhole left made (learned_routes (path ∷ [])) left-now made-now []
one_learned left made left-now made-now path r is placed = record { same = λ rest. ap (λ o. made ++ merged left (cons_option o [] ++ rest)) is ∙ placed.same rest }

pub no_path : (paths : List Best) → (length paths == 0) ≡ true → paths ≡ []
no_path [] none = refl
no_path (path ∷ paths) none = absurd (grind (arith, common_steps, nat_tests))

-- one path more
pub next_learned : (paths : List Best) (i : ℕ) (path : Best) (left made left-now made-now : List Route) → i < length paths → path ≡ get_or paths i path → KeepsWhole left made (learned_routes (path ∷ [])) left-now made-now []
    → (rest all : List Route) → all ≡ made ++ merged left (learned_routes (drop i paths) ++ rest) → all ≡ made-now ++ merged left-now (learned_routes (drop (i + 1) paths) ++ rest)
next_learned paths i path left made left-now made-now less is learned rest all kept =
    let first : drop i paths ≡ path ∷ drop (i + 1) paths = drop-cons paths i path less ∙ ap (λ y. y ∷ drop (suc i) paths) (sym is) ∙ ap (λ k. path ∷ drop k paths) (sym (add-one i)) in
    let ahead = learned_routes (drop (i + 1) paths) in
    kept ∙ ap (λ ps. made ++ merged left (learned_routes ps ++ rest)) first ∙ ap (λ rs. made ++ merged left rs) (sym (one_ahead (learned_route path) ahead rest)) ∙ learned.same (ahead ++ rest)

-- all are placed
pub all_placed : (paths : List Best) (i : ℕ) (left made left-now made-now : List Route) → length paths ≤ i
    → ((rest : List Route) → made ++ merged left (learned_routes paths ++ rest) ≡ made-now ++ merged left-now (learned_routes (drop i paths) ++ rest)) → KeepsWhole left made (learned_routes paths) left-now made-now []
all_placed paths i left made left-now made-now past kept = record { same = λ rest. kept rest ∙ ap (λ ps. made-now ++ merged left-now (learned_routes ps ++ rest)) (drop_all i paths past) }

-- one piece more
pub piece_learned : (pieces : List (List Best)) (i : ℕ) (piece : List Best) (left made left-now made-now all : List Route) → i < length pieces → piece ≡ get_or pieces i piece → KeepsWhole left made (learned_routes piece) left-now made-now []
    → made ++ merged left (learned_routes (joined (drop i pieces))) ≡ all → made-now ++ merged left-now (learned_routes (joined (drop (i + 1) pieces))) ≡ all
piece_learned pieces i piece left made left-now made-now all less is placed kept =
    let first : drop i pieces ≡ piece ∷ drop (i + 1) pieces = drop_more pieces i piece less ∙ ap (λ p. p ∷ drop (i + 1) pieces) (sym is) in
    let ahead = learned_routes (joined (drop (i + 1) pieces)) in
    sym (placed.same ahead) ∙ ap (λ rs. made ++ merged left rs) (sym (filter_map-append learned_route piece (joined (drop (i + 1) pieces)))) ∙ ap (λ ps. made ++ merged left (learned_routes (joined ps))) (sym first) ∙ kept

-- a piece, as a slice of it is read
pub piece_placed : (pieces : List (List Best)) (i : ℕ) (piece read : List Best) (left made left-now made-now all : List Route) → i < length pieces → piece ≡ get_or pieces i piece → read ≡ piece → KeepsWhole left made (learned_routes read) left-now made-now []
    → made ++ merged left (learned_routes (joined (drop i pieces))) ≡ all → made-now ++ merged left-now (learned_routes (joined (drop (i + 1) pieces))) ≡ all
piece_placed pieces i piece read left made left-now made-now all less is same placed =
    piece_learned pieces i piece left made left-now made-now all less is (subst (λ ps. KeepsWhole left made (learned_routes ps) left-now made-now []) same placed)

-- none is left
pub all_learned : (left made rest made-now all : List Route) → rest ≡ [] → made ++ merged left rest ≡ all → made-now ≡ made ++ left → made-now ≡ all
all_learned left made rest made-now all none kept pushed = pushed ∙ ap (λ t. made ++ t) (with_none left rest none) ∙ kept
