-- The rows that adverts make are the prefixes that are offered, each with its offers.
use Rattle.std.proofs.Common.{refl, ◌≡◌, ap, ◌∙◌, List, [], ◌∷◌, ◌++◌, map, filter, Some, append_assoc}
use Rattle.std.specs.List.{fold, filter_map, cons_option}
use Rattle.std.specs.Option.{option_map}
use Rattle.rc_base.specs.Lists.{in_order}
use Rattle.rc_base.specs.Prefix.{Cidr, prefix_cmp, same_prefix}
use Rattle.rc_base.specs.Groups.{grouped, value_of, value_at}
use Rattle.rc_base.proofs.GroupLaws.{grouped_rows}
use Rattle.rc_ospf.specs.Offered.{Offered}
use Rattle.rc_ospf.specs.declared.offer.Advert.{Advert}
use Rattle.rc_ospf.specs.Routes.{advert_prefix, offers_at, offered_row, offered_rows}
use Rattle.rc_ospf.specs.ByPrefix.{with_offer, row_of}

abbrev offers_of : List Advert → List Offered
offers_of adverts = map (λ (a : Advert). a.offer) adverts

all_offers : (done : List Offered) (adverts : List Advert) → fold (λ v a. Some (with_offer v a)) (Some done) adverts ≡ Some (done ++ offers_of adverts)
all_offers done [] = ap Some (nothing done)
  where
    nothing : (xs : List Offered) → xs ≡ xs ++ []
    nothing [] = refl
    nothing (x ∷ xs) = ap (λ t. x ∷ t) (nothing xs)
all_offers done (a ∷ adverts) = all_offers (done ++ a.offer ∷ []) adverts ∙ ap Some (append_assoc done (a.offer ∷ []) (offers_of adverts))

row_is : (p : Cidr) (adverts : List Advert) → option_map (λ offers. row_of (p, offers)) (value_of advert_prefix with_offer adverts) ≡ offered_row p (offers_of adverts)
row_is p [] = refl
row_is p (a ∷ adverts) = ap (option_map (λ offers. row_of (p, offers))) (all_offers (a.offer ∷ []) adverts)

each_row : (adverts : List Advert) (ps : List Cidr) → filter_map (λ p. option_map (λ offers. row_of (p, offers)) (value_at advert_prefix with_offer p adverts)) ps ≡ filter_map (λ p. offered_row p (offers_at p adverts)) ps
each_row adverts [] = refl
each_row adverts (p ∷ ps) =
    ap (λ o. cons_option o (filter_map (λ q. option_map (λ offers. row_of (q, offers)) (value_at advert_prefix with_offer q adverts)) ps)) (row_is p (filter (λ (a : Advert). same_prefix p a.prefix) adverts))
    ∙ ap (cons_option (offered_row p (offers_at p adverts))) (each_row adverts ps)

pub rows_are : (adverts : List Advert) → map row_of (grouped advert_prefix with_offer adverts) ≡ offered_rows adverts
unfolding offered_rows
rows_are adverts = grouped_rows advert_prefix with_offer (λ p offers. row_of (p, offers)) adverts ∙ each_row adverts (in_order prefix_cmp (map advert_prefix adverts))
