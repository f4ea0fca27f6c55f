-- Where no router is a border router nothing is summarised.
use Rattle.std.proofs.Common.{refl, ◌≡◌, ap, sym, ◌∙◌, Bool, true, false, cond, List, [], ◌∷◌, ◌++◌, map, filter, None}
use Rattle.std.specs.Prelude.{◌||◌}
use Rattle.std.specs.List.{list_any, cons_option, flat_map}
use Rattle.std.specs.Option.{option_map}
use Rattle.rc_ospf.specs.Areas.{OspfRouter, offer, backbone_summary, backbone_summaries, intra_cost, inter_cost, offers_of, outward_summaries, summaries_of}
use Rattle.rc_ospf.specs.Members.{known, is_border_at}
use Rattle.rc_ospf.specs.Offered.{Offered}
use Rattle.rc_ospf.specs.RouterAreas.{is_outside, is_border}
use Rattle.rc_ospf.specs.Wanted.{nothing}
use Rattle.rc_ospf.specs.declared.ospf_router.Member.{Member}
use Rattle.rc_ospf.specs.declared.member.StubAreas.{StubAreas}
use Rattle.rc_ospf.specs.declared.summaries.Summaries.{Summaries}

none_here : (a b : Bool) → (a || b) ≡ false → a ≡ false
none_here true b is = absurd (cc)
none_here false b is = refl

none_there : (a b : Bool) → (a || b) ≡ false → b ≡ false
none_there true b is = absurd (cc)
none_there false b is = is

abbrev pub borders : OspfRouter → Bool
borders m = is_border m.areas

module _ (inside : List Offered) where
  none_into : (ms : List OspfRouter) → list_any borders ms ≡ false → backbone_summaries ms inside ≡ []
  none_into [] none = refl
  none_into (m ∷ ms) none =
      ap (λ b. cons_option (cond b (option_map (offer m.router 0) (backbone_summary m.reach inside)) None) (backbone_summaries ms inside)) (none_here (borders m) (list_any borders ms) none)
      ∙ none_into ms (none_there (borders m) (list_any borders ms) none)

  none_out : (d : Bool) (backbone : List Offered) (ms : List OspfRouter) → list_any borders ms ≡ false → outward_summaries ms d inside backbone ≡ []
  none_out d backbone [] none = refl
  none_out d backbone (m ∷ ms) none =
      ap (λ b. cond b (flat_map (offers_of m d inside (intra_cost m inside) (inter_cost m backbone (intra_cost m inside))) (filter is_outside m.areas)) [] ++ outward_summaries ms d inside backbone)
      (none_here (borders m) (list_any borders ms) none)
      ∙ none_out d backbone ms (none_there (borders m) (list_any borders ms) none)

abbrev made_of : List Offered → List Offered → Summaries
made_of backbone outward = record { backbone = backbone; outward = outward }

pub no_summaries : (ms : List OspfRouter) (d : Bool) (inside : List Offered) → list_any borders ms ≡ false → summaries_of ms d inside ≡ nothing
no_summaries ms d inside none =
    ap (made_of (backbone_summaries ms inside)) (none_out inside d (backbone_summaries ms inside) ms none) ∙ ap (λ b. made_of b []) (none_into inside ms none)

pub border_known : (stubs : StubAreas) (ms : List Member) → list_any borders (map (known stubs) ms) ≡ list_any (is_border_at stubs) ms
border_known stubs [] = refl
border_known stubs (m ∷ ms) = ap (λ b. borders (known stubs m) || b) (border_known stubs ms)

-- one router less that may be a border router
pub one_less : (stubs : StubAreas) (m : Member) (left rest : List Member) (all : Bool) → left ≡ m ∷ rest → is_border_at stubs m ≡ false → list_any (is_border_at stubs) left ≡ all → list_any (is_border_at stubs) rest ≡ all
one_less stubs m left rest all is fails so_far = sym (ap (λ b. b || list_any (is_border_at stubs) rest) fails) ∙ sym (ap (list_any (is_border_at stubs)) is) ∙ so_far
