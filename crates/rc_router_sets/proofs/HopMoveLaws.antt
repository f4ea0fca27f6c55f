-- Whether some move passes a test, by what is asked on the way.
use Rattle.std.proofs.Common.{refl, ◌≡◌, ap, sym, ◌∙◌, ℕ, Bool, true, false, not, ◌&&◌, ◌||◌, cond, List, [], ◌∷◌, Some, None}
use Rattle.std.specs.List.{list_any}
use Rattle.rc_base.specs.declared.ending.Kind.TheVariants.{DeniedIn, Accepted, NoRoute, NullRouted, DeniedOut, Unreachable, Exits, Delivered}
use Rattle.rc_base.specs.declared.header.Header.{Header}
use Rattle.rc_base.specs.declared.position.IfId.{IfId}
use Rattle.rc_base.specs.declared.position.Pos.{Pos}
use Rattle.rc_base.specs.declared.position.Pos.TheVariants.{Entering}
use Rattle.rc_fib.specs.Forwarding.{resolved_hops}
use Rattle.rc_route.specs.declared.route.Hop.{Hop}
use Rattle.rc_route.specs.declared.route.Hop.TheVariants.{Null, Dev, Via}
use Rattle.rc_topology.specs.Links.{linked, takers, holds, is_own, port_is}
use Rattle.rc_topology.specs.Ports.{is_loopback, is_serial, owns}
use Rattle.rc_moves.specs.Moves.{DataPlane, fib_of, router_of, is_let_in, is_let_out, moves, moves_by, moves_by_hops, moves_inside, moves_on_link, moves_onto, moves_onto_or, moves_out_of}
use Rattle.rc_moves.specs.declared.walk.Move.{Move}
use Rattle.rc_moves.specs.declared.walk.Move.TheVariants.{Next, End}
use Rattle.rc_router_sets.specs.Endings.{is_none}
use Rattle.rc_router_sets.proofs.SentLaws.{any-flat_map}
use Rattle.rc_router_sets.proofs.Tests.{same, equal, try8}
use Rattle.rc_router_sets.proofs.MemberLaws.{none-filter}

or_false : (b : Bool) → (b || false) ≡ b
or_false true = refl
or_false false = refl

module _ (m : Move → Bool) where
  -- some move onto one of these interfaces passes
  abbrev pub onto : List IfId → Bool
  onto js = list_any (λ j. m (Next (Entering j))) js

  any-onto : (js : List IfId) → list_any m (moves_onto js) ≡ onto js
  any-onto [] = refl
  any-onto (j ∷ js) = ap (λ b. m (Next (Entering j)) || b) (any-onto js)

  any-onto_or : (js : List IfId) (others : List Move) → list_any m (moves_onto_or js others) ≡ (onto js || (is_none js && list_any m others))
  any-onto_or [] others = refl
  any-onto_or (j ∷ js) others = any-onto (j ∷ js) ∙ sym (or_false (onto (j ∷ js)))

  one : (k : Move) → list_any m (k ∷ []) ≡ m k
  one k = or_false (m k)

  choice : (b : Bool) (xs ys : List Move) → list_any m (cond b xs ys) ≡ cond b (list_any m xs) (list_any m ys)
  choice true xs ys = refl
  choice false xs ys = refl

  module _ (plane : DataPlane) (h : Header) where
    -- out of an interface straight to the destination
    abbrev pub on_link : IfId → Bool
    on_link i =
        cond (holds plane.links i h.dst) (m (End Delivered)) (cond (port_is plane.links is_serial i) (onto (linked plane.links i) || (is_none (linked plane.links i) && m (End Exits))) (m (End Exits)))

    any-on_link : (i : IfId) → list_any m (moves_on_link plane.links h i) ≡ on_link i
    any-on_link i =
        choice (holds plane.links i h.dst) (End Delivered ∷ []) (cond (port_is plane.links is_serial i) (moves_onto_or (linked plane.links i) (End Exits ∷ [])) (End Exits ∷ []))
        ∙ (λ n. cond (holds plane.links i h.dst) (one (End Delivered) n) (choice (port_is plane.links is_serial i) (moves_onto_or (linked plane.links i) (End Exits ∷ [])) (End Exits ∷ []) n))
        ∙ (λ n. cond (holds plane.links i h.dst) (m (End Delivered)) (cond (port_is plane.links is_serial i) (any-onto_or (linked plane.links i) (End Exits ∷ []) n) (one (End Exits) n)))
        ∙ (λ n. cond (holds plane.links i h.dst) (m (End Delivered)) (cond (port_is plane.links is_serial i) (onto (linked plane.links i) || (is_none (linked plane.links i) && one (End Exits) n)) (m (End Exits))))

    -- out of an interface towards a gateway
    abbrev pub to_gateway : IfId → ℕ → Bool
    to_gateway i g = cond (port_is plane.links is_loopback i) (m (End Unreachable)) (onto (takers plane.links i g) || (is_none (takers plane.links i g) && m (End Exits)))

    any-to_gateway : (i : IfId) (g : ℕ) → list_any m (moves_out_of plane.links h i (Some g)) ≡ to_gateway i g
    any-to_gateway i g =
        choice (port_is plane.links is_loopback i) (End Unreachable ∷ []) (moves_onto_or (takers plane.links i g) (End Exits ∷ []))
        ∙ (λ n. cond (port_is plane.links is_loopback i) (one (End Unreachable) n) (any-onto_or (takers plane.links i g) (End Exits ∷ []) n))
        ∙ (λ n. cond (port_is plane.links is_loopback i) (m (End Unreachable)) (onto (takers plane.links i g) || (is_none (takers plane.links i g) && one (End Exits) n)))

    -- out of an interface to the destination
    abbrev pub to_host : IfId → Bool
    to_host i = cond (port_is plane.links is_loopback i) (m (End Unreachable)) (onto (takers plane.links i h.dst) || (is_none (takers plane.links i h.dst) && on_link i))

    any-to_host : (i : IfId) → list_any m (moves_out_of plane.links h i None) ≡ to_host i
    any-to_host i =
        choice (port_is plane.links is_loopback i) (End Unreachable ∷ []) (moves_onto_or (takers plane.links i h.dst) (moves_on_link plane.links h i))
        ∙ (λ n. cond (port_is plane.links is_loopback i) (one (End Unreachable) n) (any-onto_or (takers plane.links i h.dst) (moves_on_link plane.links h i) n))
        ∙ (λ n. cond (port_is plane.links is_loopback i) (m (End Unreachable)) (onto (takers plane.links i h.dst) || (is_none (takers plane.links i h.dst) && any-on_link i n)))

    module _ (q : Pos) where
      -- some move that a hop gives passes
      abbrev pub by_hop : Hop → Bool
      by_hop Null = m (End NullRouted)
      by_hop (Dev i) = cond (is_let_out plane.network h q i) (to_host i) (m (End DeniedOut))
      by_hop (Via g None) = false
      by_hop (Via g (Some i)) = cond (is_let_out plane.network h q i) (to_gateway i g) (m (End DeniedOut))

      pub any-by_hop : (x : Hop) → list_any m (moves_by plane h q x) ≡ by_hop x
      any-by_hop Null = one (End NullRouted)
      any-by_hop (Dev i) =
          choice (is_let_out plane.network h q i) (moves_out_of plane.links h i None) (End DeniedOut ∷ [])
          ∙ (λ n. cond (is_let_out plane.network h q i) (any-to_host i n) (one (End DeniedOut) n))
      any-by_hop (Via g None) = refl
      any-by_hop (Via g (Some i)) =
          choice (is_let_out plane.network h q i) (moves_out_of plane.links h i (Some g)) (End DeniedOut ∷ [])
          ∙ (λ n. cond (is_let_out plane.network h q i) (any-to_gateway i g n) (one (End DeniedOut) n))

      abbrev pub hops : List Hop
      hops = resolved_hops (fib_of plane (router_of q)) h.dst

      any-by_hops : (xs : List Hop) → list_any m (moves_by_hops plane h q xs) ≡ ((is_none xs && m (End NoRoute)) || list_any by_hop xs)
      any-by_hops [] = refl
      any-by_hops (x ∷ xs) = any-flat_map m (moves_by plane h q) (x ∷ xs) ∙ (λ n. list_any (λ y. any-by_hop y n) (x ∷ xs))

      -- some move of the header passes
      pub any-moves : list_any m (moves plane h q)
          ≡ cond (is_let_in plane.network h q) (cond (is_own plane.links (router_of q) h.dst) (m (End Accepted)) ((is_none hops && m (End NoRoute)) || list_any by_hop hops)) (m (End DeniedIn))
      any-moves =
          choice (is_let_in plane.network h q) (moves_inside plane h q) (End DeniedIn ∷ [])
          ∙ (λ n. cond (is_let_in plane.network h q) (choice (is_own plane.links (router_of q) h.dst) (End Accepted ∷ []) (moves_by_hops plane h q hops) n) (one (End DeniedIn) n))
          ∙ (λ n. cond (is_let_in plane.network h q) (cond (is_own plane.links (router_of q) h.dst) (one (End Accepted) n) (any-by_hops hops n)) (m (End DeniedIn)))

-- ---- tests that no next position passes

module _ (m : Move → Bool) (no_next : (j : IfId) → m (Next (Entering j)) ≡ false) where
  none_onto : (js : List IfId) → onto m js ≡ false
  none_onto [] = refl
  none_onto (j ∷ js) = λ n. no_next j n || none_onto js n

  module _ (plane : DataPlane) (h : Header) (q : Pos) where
    -- some interface on a link of this one owns the destination
    abbrev pub some_owner : IfId → Bool
    some_owner i = list_any (port_is plane.links (owns h.dst)) (linked plane.links i)

    abbrev pub ends_by_hop : Hop → Bool
    ends_by_hop Null = m (End NullRouted)
    ends_by_hop (Dev i) =
        cond (is_let_out plane.network h q i) (cond (port_is plane.links is_loopback i) (m (End Unreachable)) (not (some_owner i) && cond (holds plane.links i h.dst) (m (End Delivered)) (cond (port_is plane.links is_serial i) (is_none (linked plane.links i) && m (End Exits)) (m (End Exits))))) (m (End DeniedOut))
    ends_by_hop (Via g None) = false
    ends_by_hop (Via g (Some i)) = cond (is_let_out plane.network h q i) (cond (port_is plane.links is_loopback i) (m (End Unreachable)) (is_none (takers plane.links i g) && m (End Exits))) (m (End DeniedOut))

    pub by_hop-ends : (x : Hop) → by_hop m plane h q x ≡ ends_by_hop x
    by_hop-ends Null = refl
    by_hop-ends (Dev i) =
        (λ n. cond (is_let_out plane.network h q i) (cond (port_is plane.links is_loopback i) (m (End Unreachable))
        (none_onto (takers plane.links i h.dst) n || (none-filter (port_is plane.links (owns h.dst)) (linked plane.links i) n
        && cond (holds plane.links i h.dst) (m (End Delivered)) (cond (port_is plane.links is_serial i) (none_onto (linked plane.links i) n || (is_none (linked plane.links i) && m (End Exits))) (m (End Exits)))))) (m (End DeniedOut)))
    by_hop-ends (Via g None) = refl
    by_hop-ends (Via g (Some i)) =
        (λ n. cond (is_let_out plane.network h q i) (cond (port_is plane.links is_loopback i) (m (End Unreachable)) (none_onto (takers plane.links i g) n || (is_none (takers plane.links i g) && m (End Exits)))) (m (End DeniedOut)))

    -- where it passes no ending of a hop either
    pub by_hop-none : (m (End NullRouted) ≡ false) × (m (End DeniedOut) ≡ false) × (m (End Unreachable) ≡ false) × (m (End Exits) ≡ false) × (m (End Delivered) ≡ false) → (x : Hop) → by_hop m plane h q x ≡ false
    by_hop-none none Null = none.0
    by_hop-none none (Dev i) =
        by_hop-ends (Dev i)
        ∙ (λ n. cond (is_let_out plane.network h q i) (cond (port_is plane.links is_loopback i) (none.2 n) (not (some_owner i) && cond (holds plane.links i h.dst) (none.4 n) (cond (port_is plane.links is_serial i) (is_none (linked plane.links i) && none.3 n) (none.3 n)))) (none.1 n))
        ∙ off (is_let_out plane.network h q i) (port_is plane.links is_loopback i) (some_owner i) (holds plane.links i h.dst) (port_is plane.links is_serial i) (is_none (linked plane.links i))
      where
        off : (a b c d e f : Bool) → cond a (cond b false (not c && cond d false (cond e (f && false) false))) false ≡ false
        off a b c d e f = equal _ _ (try8 (λ a b c d e f g i. same (cond a (cond b false (not c && cond d false (cond e (f && false) false))) false) false) refl a b c d e f true true)
    by_hop-none none (Via g None) = refl
    by_hop-none none (Via g (Some i)) =
        by_hop-ends (Via g (Some i))
        ∙ (λ n. cond (is_let_out plane.network h q i) (cond (port_is plane.links is_loopback i) (none.2 n) (is_none (takers plane.links i g) && none.3 n)) (none.1 n))
        ∙ off (is_let_out plane.network h q i) (port_is plane.links is_loopback i) (is_none (takers plane.links i g))
      where
        off : (a b c : Bool) → cond a (cond b false (c && false)) false ≡ false
        off a b c = equal _ _ (try8 (λ a b c d e f g i. same (cond a (cond b false (c && false)) false) false) refl a b c true true true true true)
