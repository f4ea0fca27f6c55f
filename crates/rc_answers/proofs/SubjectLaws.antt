-- Where packets start that are asked about is a position of the network.
use Rattle.std.proofs.Common.{refl, ◌≡◌, sym, subst, ℕ, ◌<◌, List, [], Option, Some, None, length}
use Rattle.std.specs.Map.{keys_of}
use Rattle.std.specs.Option.{option_and_then, option_map}
use Rattle.std.proofs.lemmas.Option.{none-some}
use Rattle.std.proofs.lemmas.List.Quantifiers.{position-Some}
use Rattle.std.proofs.lemmas.List.{length-map}
use Rattle.rc_base.specs.Name.{same_name}
use Rattle.rc_base.specs.declared.position.IfId.{IfId}
use Rattle.rc_base.specs.declared.position.Pos.{Pos}
use Rattle.rc_base.specs.declared.position.Pos.TheVariants.{Own, Entering}
use Rattle.rc_config.specs.Lawful.{IsPosition, IsRouter}
use Rattle.rc_config.specs.Members.{router_named, interface_named, interfaces_of}
use Rattle.rc_config.specs.Named.{index_of}
use Rattle.rc_config.specs.declared.network.Network.{Network}
use Rattle.rc_reach.specs.Uneven.{arrivals}
use Rattle.rc_reach.specs.declared.asked.Asked.TheVariants.{Reaching, Looping, Uneven}
use Rattle.rc_words.specs.declared.request.Ask.{Ask}
use Rattle.rc_words.specs.declared.request.Ask.TheVariants.{Routes, Trace, Reach, Loops, Lines, Failures, Summary}
use Rattle.rc_words.specs.declared.request.Ask.TheVariants as ask
use Rattle.rc_words.specs.declared.request.PlaceName.{PlaceName}
use Rattle.rc_writing.specs.Places.{sample_place}
use Rattle.rc_answers.specs.Sound.{AsksWithin}
use Rattle.rc_answers.specs.Subject.{position_at, position_named, question_of, router_of_text}
use Rattle.rc_answers.specs.declared.subject.Detail.TheVariants.{Examples, First}
use Rattle.rc_answers.specs.declared.subject.Question.{Question}
use Rattle.rc_answers.specs.declared.subject.Question.TheVariants.{OfLists, OfTables, OfFailures}
use Rattle.rc_answers.specs.declared.subject.Subject.TheVariants.{AllRouters, OneRouter, Packet, Packets}

-- an index under a name is one of the list
within : {V : Type 0} (es : List (List ℕ × V)) (name : List ℕ) (i : ℕ) → index_of es name ≡ Some i → i < length es
within es name i e = let inside : i < length (keys_of es) = (position-Some (same_name name) (keys_of es) i [] e).0 in subst (λ n. i < n) (length-map es (λ x. x.0)) inside

some_index : {A : Type 0} (f : ℕ → A) (o : Option ℕ) (a : A) → option_map f o ≡ Some a → (i : ℕ) × (o ≡ Some i) × (a ≡ f i)
some_index f None a e = absurd (none-some a e)
some_index f (Some i) a e = let same : f i ≡ a = cc in (i, refl, sym same)

module _ (net : Network) where
  there_at : (r : ℕ) (interface : Option (List ℕ)) (q : Pos) → IsRouter net r → position_at net r interface ≡ Some q → IsPosition net q
  there_at r None q is e = let own : Own r ≡ q = cc in subst (IsPosition net) own is
  there_at r (Some name) q is e = by (interface_named net r name) refl e
    where
      by : (o : Option IfId) → interface_named net r name ≡ o → option_map Entering o ≡ Some q → IsPosition net q
      by None f g = absurd (none-some q g)
      by (Some i) f g =
          let entering : Entering i ≡ q = cc in
          let (n, at, id) = some_index (λ n. record { router = r; index = n }) (index_of (interfaces_of net r) name) i f in
          let inside : n < length (interfaces_of net r) = within (interfaces_of net r) name n at in
          subst (IsPosition net) entering (subst (λ (j : IfId). IsPosition net (Entering j)) (sym id) (is, inside))

  there_named : (place : PlaceName) (q : Pos) → position_named net place ≡ Some q → IsPosition net q
  there_named place q e = by (router_named net place.router) refl e
    where
      by : (o : Option ℕ) → router_named net place.router ≡ o → option_and_then (λ r. position_at net r place.interface) o ≡ Some q → IsPosition net q
      by None f g = absurd (none-some q g)
      by (Some r) f g = there_at r place.interface q (within net.routers place.router r f) g

  at_place : (f : Pos → Question) (place : PlaceName) (question : Question) → ((q : Pos) → IsPosition net q → AsksWithin net (f q)) → option_map f (position_named net place) ≡ Some question → AsksWithin net question
  at_place f place question starts e = by (position_named net place) refl e
    where
      by : (o : Option Pos) → position_named net place ≡ o → option_map f o ≡ Some question → AsksWithin net question
      by None g h = absurd (none-some question h)
      by (Some q) g h = let same : f q ≡ question = cc in subst (AsksWithin net) same (starts q (there_named place q g))

  asked_router : (f : ℕ → Question) (text : List ℕ) (question : Question) → ((r : ℕ) → AsksWithin net (f r)) → option_map f (router_of_text net text) ≡ Some question → AsksWithin net question
  asked_router f text question there e = by (router_of_text net text) e
    where
      by : (o : Option ℕ) → option_map f o ≡ Some question → AsksWithin net question
      by None h = absurd (none-some question h)
      by (Some r) h = let same : f r ≡ question = cc in subst (AsksWithin net) same (there r)

  pub asked_is_there : (ask : Ask) (question : Question) → question_of net ask ≡ Some question → AsksWithin net question
  asked_is_there (Routes None) question e = let same : OfTables AllRouters ≡ question = cc in subst (AsksWithin net) same tt
  asked_is_there (Routes (Some text)) question e = asked_router (λ r. OfTables (OneRouter r)) text question (λ r. tt) e
  asked_is_there (Trace place header) question e = at_place (λ q. OfTables (Packet q header)) place question (λ q is. tt) e
  asked_is_there (Reach place ends examples) question e = at_place (λ q. OfTables (Packets (record { asked = Reaching q ends; detail = Examples examples }))) place question (λ q is. is) e
  asked_is_there (Loops place examples) question e = at_place (λ q. OfTables (Packets (record { asked = Looping q; detail = Examples examples }))) place question (λ q is. is) e
  asked_is_there (ask.Uneven place examples) question e = at_place (λ q. OfTables (Packets (record { asked = Uneven q; detail = Examples examples }))) place question (λ q is. is) e
  asked_is_there (Lines None) question e = let same : OfLists None ≡ question = cc in subst (AsksWithin net) same tt
  asked_is_there (Lines (Some text)) question e = asked_router (λ r. OfLists (Some r)) text question (λ r. tt) e
  asked_is_there (Failures place header ends) question e = at_place (λ q. OfFailures (record { place = q; header = header; ends = ends })) place question (λ q is. tt) e
  asked_is_there Summary question e = at_place (λ q. OfTables (Packets (record { asked = Reaching q arrivals; detail = First }))) sample_place question (λ q is. is) e
