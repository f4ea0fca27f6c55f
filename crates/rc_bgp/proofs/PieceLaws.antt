-- Loops over the pieces of a list.
use Rattle.std.proofs.Common.{◌≡◌, ap, sym, ◌∙◌, ℕ, ◌+◌, ◌<◌, append_assoc, List, ◌++◌, length, get_or, drop, Option}
use Rattle.std.specs.List.{AllByRecursion, filter_map}
use Rattle.std.proofs.lemmas.List.Elements.{filter_map-append}
use Rattle.std.proofs.lemmas.List.Sums.{fold-append}
use Rattle.rc_base.specs.Prefix.{Cidr}
use Rattle.rc_pieces.specs.Pieces.{joined}
use Rattle.rc_route.specs.declared.path.BgpPath.{BgpPath}
use Rattle.rc_bgp.specs.Gathering.{with_paths}
use Rattle.rc_bgp.proofs.ListLaws.{first_left}

module _ {X : Type 0} where
  next_piece : (pieces : List (List X)) (i : ℕ) (piece : List X) → i < length pieces → piece ≡ get_or pieces i piece → joined (drop i pieces) ≡ piece ++ joined (drop (i + 1) pieces)
  next_piece pieces i piece less is = ap joined (first_left pieces i piece less is)

  -- what a piece adds to what was made, where what two lists add is what both add, one behind the other
  one_more : {S : Type 0} (with : S → List X → S) → ((s : S) (xs ys : List X) → with s (xs ++ ys) ≡ with (with s xs) ys) → (pieces : List (List X)) (i : ℕ) (piece : List X) (made more done : S) → i < length pieces → piece ≡ get_or pieces i piece
      → more ≡ with made piece → with made (joined (drop i pieces)) ≡ done → with more (joined (drop (i + 1) pieces)) ≡ done
  one_more with parts pieces i piece made more done less is put kept =
      ap (λ s. with s (joined (drop (i + 1) pieces))) put ∙ sym (parts made piece (joined (drop (i + 1) pieces))) ∙ ap (with made) (sym (next_piece pieces i piece less is)) ∙ kept

  pub mapped : {Y : Type 0} (f : X → Option Y) (pieces : List (List X)) (i : ℕ) (piece : List X) (made more done : List Y) → i < length pieces → piece ≡ get_or pieces i piece
      → more ≡ made ++ filter_map f piece → made ++ filter_map f (joined (drop i pieces)) ≡ done → more ++ filter_map f (joined (drop (i + 1) pieces)) ≡ done
  mapped f = one_more (λ made xs. made ++ filter_map f xs) (λ made xs ys. ap (λ t. made ++ t) (filter_map-append f xs ys) ∙ sym (append_assoc made (filter_map f xs) (filter_map f ys)))

  pub put_under : (f : X → Option BgpPath) (pieces : List (List X)) (i : ℕ) (piece : List X) (rows more done : List (Cidr × List BgpPath)) → i < length pieces → piece ≡ get_or pieces i piece
      → more ≡ with_paths rows (filter_map f piece) → with_paths rows (filter_map f (joined (drop i pieces))) ≡ done → with_paths more (filter_map f (joined (drop (i + 1) pieces))) ≡ done
  put_under f = one_more (λ rows xs. with_paths rows (filter_map f xs)) (λ rows xs ys. ap (with_paths rows) (filter_map-append f xs ys) ∙ fold-append _ rows (filter_map f xs) (filter_map f ys))

  -- ---- all have something, where all that are left have it

  pub record HaveAllBut (P : X → Type 0) (left all : List X) : Type 0 where
    pub back : AllByRecursion P left → AllByRecursion P all
