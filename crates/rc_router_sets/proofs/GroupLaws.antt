-- Where an access group lets everything pass.
use Rattle.std.proofs.Common.{◌≡◌, ap, sym, ◌∙◌, subst, ℕ, List, [], Option, Some, None}
use Rattle.std.specs.Prelude.{slice_get}
use Rattle.std.specs.Option.{option_map_or}
use Rattle.rc_base.specs.declared.position.IfId.{IfId}
use Rattle.rc_base.specs.declared.position.Pos.{Pos}
use Rattle.rc_base.specs.declared.position.Pos.TheVariants.{Own, Entering}
use Rattle.rc_config.specs.Interface.{group_of}
use Rattle.rc_config.specs.Members.{interface_at, router_at}
use Rattle.rc_config.specs.Named.{named}
use Rattle.rc_config.specs.declared.access_list.AccessList.{AccessList}
use Rattle.rc_config.specs.declared.access_list.AccessListLine.{AccessListLine}
use Rattle.rc_config.specs.declared.interface.Direction.{Direction}
use Rattle.rc_config.specs.declared.interface.Direction.TheVariants.{In, Out}
use Rattle.rc_config.specs.declared.interface.Interface.{Interface}
use Rattle.rc_config.specs.declared.network.Network.{Network}
use Rattle.rc_config.specs.declared.router_text.RouterText.{RouterText}
use Rattle.rc_router_sets.specs.Sent.{let_in, let_out, passing_at}
use Rattle.rc_filter.specs.Groups.{access_lists_of}
use Rattle.rc_nodes.specs.Seats.{SeatView, SeatKnows}
use Rattle.rc_nodes.proofs.KnownLaws.{knows_always}
use Rattle.rc_sets.specs.AccessLists.{group_set, passing_set}
use Rattle.rc_trees.specs.Recipes.{Recipe, given, tree}
use Rattle.rc_trees.specs.Trees.{always}

pub everything : (seat : SeatView) (r : Recipe) → given always ≡ r → SeatKnows seat 1 (tree r)
everything seat r e = subst (λ x. SeatKnows seat 1 (tree x)) e (knows_always seat)

pub no_line : (lines : List AccessListLine) → lines ≡ [] → given always ≡ group_set lines
no_line lines e = ap group_set (sym e)

pub no_group : (lists : List (List ℕ × AccessList)) (group : Option (List ℕ)) → group ≡ None → given always ≡ passing_set lists group
no_group lists group e = ap (passing_set lists) (sym e)

pub no_list : (lists : List (List ℕ × AccessList)) (group : Option (List ℕ)) (name : List ℕ) → group ≡ Some name → named lists name ≡ None → given always ≡ passing_set lists group
no_list lists group name e none = ap (λ o. option_map_or (λ (f : AccessList). group_set f.lines) o (given always)) (sym none) ∙ ap (passing_set lists) (sym e)

module _ (net : Network) where
  pub no_interface : (d : Direction) (i : IfId) → interface_at net i ≡ None → given always ≡ passing_at net d i
  no_interface d i none = ap (λ o. option_map_or (λ e. passing_set (access_lists_of net i.router) (group_of e.1 d)) o (given always)) (sym none)

  pub no_router : (d : Direction) (i : IfId) → router_at net i.router ≡ None → given always ≡ passing_at net d i
  no_router d i none = no_interface d i (ap (λ o. slice_get (option_map_or (λ (text : RouterText). text.interfaces) o []) i.index) none)

  pub none_there : (i : IfId) (text : RouterText) → Some text ≡ router_at net i.router → None ≡ slice_get text.interfaces i.index → interface_at net i ≡ None
  none_there i text is none = ap (λ o. slice_get (option_map_or (λ (t : RouterText). t.interfaces) o []) i.index) (sym is) ∙ sym none

  pub in_own : (q : Pos) (r : ℕ) → q ≡ Own r → given always ≡ let_in net q
  unfolding let_in
  in_own q r e = ap (let_in net) (sym e)

  pub in_entering : (q : Pos) (i : IfId) → q ≡ Entering i → passing_at net In i ≡ let_in net q
  unfolding let_in
  in_entering q i e = ap (let_in net) (sym e)

  pub out_own : (q : Pos) (i : IfId) (r : ℕ) → q ≡ Own r → given always ≡ let_out net q i
  unfolding let_out
  out_own q i r e = ap (λ p. let_out net p i) (sym e)

  pub out_entering : (q : Pos) (i j : IfId) → q ≡ Entering j → passing_at net Out i ≡ let_out net q i
  unfolding let_out
  out_entering q i j e = ap (λ p. let_out net p i) (sym e)

  pub one_there : (d : Direction) (i : IfId) (text : RouterText) (name : List ℕ) (block : Interface) (group : Option (List ℕ)) → Some text ≡ router_at net i.router → Some (name, block) ≡ slice_get text.interfaces i.index → group ≡ group_of block d → passing_set text.lists.access_lists group ≡ passing_at net d i
  one_there d i text name block group is there same =
      ap (passing_set text.lists.access_lists) same
      ∙ ap (λ (o : Option (List ℕ × Interface)). option_map_or (λ e. passing_set text.lists.access_lists (group_of e.1 d)) o (given always)) there
      ∙ ap (λ (o : Option RouterText). option_map_or (λ e. passing_set (option_map_or (λ (t : RouterText). t.lists.access_lists) o []) (group_of e.1 d)) (slice_get (option_map_or (λ (t : RouterText). t.interfaces) o []) i.index) (given always)) is
