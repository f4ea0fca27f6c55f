-- A loop over pieces: what the pieces that are left give is the rest; and where no route is sent.
use Rattle.std.proofs.Common.{refl, ◌≡◌, ap, sym, ◌∙◌, ℕ, ◌+◌, ◌<◌, List, [], ◌∷◌, ◌++◌, length, drop, get_or, Option, append_assoc}
use Rattle.std.specs.Prelude.{option_and_then}
use Rattle.std.specs.List.{cons_option, filter_map, find}
use Rattle.std.proofs.lemmas.List.{drop_more}
use Rattle.std.proofs.lemmas.List.Elements.{filter_map-append}
use Rattle.rc_config.specs.declared.ospf.OspfProcess.{OspfProcess}
use Rattle.rc_config.specs.declared.ospf.Redistribution.{Redistribution}
use Rattle.rc_config.specs.declared.router_text.RouterText.{RouterText}
use Rattle.rc_pieces.specs.Pieces.{joined}
use Rattle.rc_route.specs.declared.best.Best.{Best}
use Rattle.rc_route.specs.declared.route.Route.{Route}
use Rattle.rc_external.specs.Origination.{matches_source, redistributed, redistributed_by}

module _ {X Y : Type 0} (f : X → Option Y) where
  left_is : (pieces : List (List X)) (k : ℕ) (piece : List X) → k < length pieces → piece ≡ get_or pieces k piece
      → filter_map f (joined (drop k pieces)) ≡ filter_map f piece ++ filter_map f (joined (drop (k + 1) pieces))
  left_is pieces k piece less is =
      ap (λ (left : List (List X)). filter_map f (joined left)) (drop_more pieces k piece less ∙ ap (λ (p : List X). p ∷ drop (k + 1) pieces) (sym is))
      ∙ filter_map-append f piece (joined (drop (k + 1) pieces))

  pub piece_more : (pieces : List (List X)) (k : ℕ) (piece : List X) (all new done : List Y) → k < length pieces → piece ≡ get_or pieces k piece
      → new ≡ all ++ filter_map f piece → all ++ filter_map f (joined (drop k pieces)) ≡ done → new ++ filter_map f (joined (drop (k + 1) pieces)) ≡ done
  piece_more pieces k piece all new done less is made rest =
      ap (λ (ys : List Y). ys ++ filter_map f (joined (drop (k + 1) pieces))) made
      ∙ append_assoc all (filter_map f piece) (filter_map f (joined (drop (k + 1) pieces)))
      ∙ ap (λ (ys : List Y). all ++ ys) (sym (left_is pieces k piece less is)) ∙ rest

-- a process that redistributes nothing sends no route
pub nothing_sent : (r : ℕ) (file : RouterText) (p : OspfProcess) (paths : List Best) (table : List Route) → p.redistributions ≡ [] → filter_map (redistributed r file p paths) table ≡ []
nothing_sent r file p paths [] none = refl
nothing_sent r file p paths (x ∷ xs) none =
    ap (λ (lines : List Redistribution). cons_option (option_and_then (redistributed_by r file paths x) (find (λ (l : Redistribution). matches_source file l.source x.source) lines)) (filter_map (redistributed r file p paths) xs)) none
    ∙ nothing_sent r file p paths xs none
