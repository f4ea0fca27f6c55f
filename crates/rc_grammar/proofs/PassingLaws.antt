-- What decided a line that was taken before address families and peer groups were read decides it now, and it is of a form that was there then.
use Rattle.std.proofs.Common.{◌≡◌, ◌∙◌, ℕ, inl, inr, Bool, true, false, cond, ◌||◌, ◌&&◌, not, List, [], ◌∷◌, length, drop, Option, Some, None, refl, sym}
use Rattle.std.specs.Prelude.{codes, nat_lt}
use Rattle.std.specs.List.{list_all, list_any, AllByRecursion}
use Rattle.std.specs.Str.{bytes_eq}
use Rattle.std.proofs.lemmas.Bool.{and_parts, or_cases, false≢true}
use Rattle.std.proofs.lemmas.Slice.Eq.{bytes_eq-Decides}
use Rattle.rc_openings.specs.AccessListOpenings.{access_list, access_list_forms, access_list_ignored, access_list_refused}
use Rattle.rc_openings.specs.BgpOpenings.{bgp, bgp_forms, bgp_ignored, bgp_refused}
use Rattle.rc_openings.specs.Block.{any_line, rows_of}
use Rattle.rc_openings.specs.GlobalOpenings.{global, global_forms, global_ignored, global_refused}
use Rattle.rc_openings.specs.InterfaceOpenings.{interface, interface_forms, interface_ignored, interface_refused}
use Rattle.rc_openings.specs.Opening.{Row, begins_with, decisive_row, longer, stands_for}
use Rattle.rc_openings.specs.OspfOpenings.{ospf, ospf_forms, ospf_ignored, ospf_refused}
use Rattle.rc_openings.specs.Reading.{Decision, Passed, Refused, OfForm, begins_later, decided, decided_before, decision_by, decision_of, is_of_another_family, later, own_words, unplaced, unsays_another_family, verdict_on}
use Rattle.rc_openings.specs.RouteMapOpenings.{route_map, route_map_forms, route_map_ignored, route_map_refused}
use Rattle.rc_openings.specs.Words.{words_of}
use Rattle.rc_openings.specs.declared.block.Block.{Block}
use Rattle.rc_openings.specs.declared.block.Block.TheVariants as block
use Rattle.rc_openings.specs.declared.form.BgpForm.{BgpForm}
use Rattle.rc_openings.specs.declared.form.BgpForm.TheVariants.{NoNeighborActivate, NeighborPeerGroup, NoDefaultIpv4Unicast, AddressFamilyIpv4, AddressFamilyIpv6, ExitAddressFamily}
use Rattle.rc_openings.specs.declared.form.Form.{Form}
use Rattle.rc_openings.specs.declared.form.Form.TheVariants as form
use Rattle.rc_openings.specs.declared.opening.Verdict.{Verdict}
use Rattle.rc_openings.specs.declared.opening.Verdict.TheVariants as verdict
use Rattle.rc_openings.specs.declared.reading.LineRefusal.{LineRefusal}
use Rattle.rc_openings.specs.declared.reading.LineRefusal.TheVariants.{Unknown, Unsupported, BadValue, OutOfPlace}
use Rattle.rc_openings.proofs.ApartLemmas.{or_left, or_right}

-- ---- fronts

-- what stands for a token stands for each word that the token stands for
through : (word token front : List ℕ) → stands_for token word ≡ true → stands_for front token ≡ true → stands_for front word ≡ true
through word token front f g =
    elim (or_cases (bytes_eq front (codes "*")) (bytes_eq front token) g) [
      | inl star ↦ or_left (bytes_eq front (codes "*")) (bytes_eq front word) star
      | inr same ↦ let e : front ≡ token = (bytes_eq-Decides front token).0 same in rw e f
    ]

both : (x y : Bool) → x ≡ true → y ≡ true → (x && y) ≡ true
both true y h g = g
both false y h g = absurd (false≢true h)

-- a line that begins with an opening begins with the opening's front
begins_through : (line words front : List (List ℕ)) → begins_with line words ≡ true → begins_with words front ≡ true → begins_with line front ≡ true
begins_through line words [] f g = refl
begins_through line [] (t ∷ ts) f g = absurd (false≢true g)
begins_through [] (w ∷ ws) (t ∷ ts) f g = absurd (false≢true f)
begins_through (x ∷ xs) (w ∷ ws) (t ∷ ts) f g =
    let p = and_parts (stands_for w x) (begins_with xs ws) f in
    let q = and_parts (stands_for t w) (begins_with ws ts) g in
    both (stands_for t x) (begins_with xs ts) (through x w t p.0 q.0) (begins_through xs ws ts p.1 q.1)

any_through : (line words : List (List ℕ)) (fronts : List (List (List ℕ))) → begins_with line words ≡ true → list_any (begins_with words) fronts ≡ true → list_any (begins_with line) fronts ≡ true
any_through line words [] f g = g
any_through line words (t ∷ ts) f g =
    elim (or_cases (begins_with words t) (list_any (begins_with words) ts) g) [
      | inl here ↦ or_left (begins_with line t) (list_any (begins_with line) ts) (begins_through line words t f here)
      | inr there ↦ or_right (begins_with line t) (list_any (begins_with line) ts) (any_through line words ts f there)
    ]

-- ---- the decisive row

abbrev IfRow : (Row → Type 0) → Option Row → Type 0
IfRow P None = Unit {0}
IfRow P (Some row) = P row

abbrev Fits : (Row → Type 0) → List (List ℕ) → Row → Type 0
Fits P line r = P r × (begins_with line r.words ≡ true)

-- it is one of the rows with which the line begins
decisive-is : (P : Row → Type 0) (line : List (List ℕ)) (rows : List Row) → AllByRecursion P rows → IfRow (Fits P line) (decisive_row rows line)
unfolding decisive_row
decisive-is P line [] all = tt
decisive-is P line (row ∷ rows) all = by (begins_with line row.words) refl (decisive_row rows line) (decisive-is P line rows all.1)
  where
    either : (b : Bool) (r s : Row) → Fits P line r → Fits P line s → Fits P line (cond b s r)
    either true r s p q = q
    either false r s p q = p

    longest : (found : Option Row) → Fits P line row → IfRow (Fits P line) found → Fits P line (longer row found)
    longest None p q = p
    longest (Some other) p q = either (nat_lt (length row.words) (length other.words)) row other p q

    by : (b : Bool) → begins_with line row.words ≡ b → (found : Option Row) → IfRow (Fits P line) found → IfRow (Fits P line) (cond b (Some (longer row found)) found)
    by true fits found rest = longest found (all.0, fits) rest
    by false fits found rest = rest

-- ---- forms that were there

abbrev pub is_early_of_bgp : BgpForm → Bool
is_early_of_bgp NoNeighborActivate = false
is_early_of_bgp NeighborPeerGroup = false
is_early_of_bgp NoDefaultIpv4Unicast = false
is_early_of_bgp AddressFamilyIpv4 = false
is_early_of_bgp AddressFamilyIpv6 = false
is_early_of_bgp ExitAddressFamily = false
is_early_of_bgp f = true

abbrev pub is_early_form : Form → Bool
is_early_form (form.Bgp f) = is_early_of_bgp f
is_early_form (form.General f) = true
is_early_form (form.Interface f) = true
is_early_form (form.AccessList f) = true
is_early_form (form.Policy f) = true
is_early_form (form.MapEntry f) = true
is_early_form (form.Ospf f) = true

abbrev is_early : Verdict → Bool
is_early (verdict.Form f) = is_early_form f
is_early verdict.Refused = true
is_early verdict.Ignored = true

-- a decision by a form that was there, or by none
abbrev pub IsEarly : Decision → Type 0
IsEarly (OfForm f behind) = is_early_form f ≡ true
IsEarly Passed = Unit {0}
IsEarly (Refused refusal) = Unit {0}

early-verdict : (behind : List (List ℕ)) (v : Verdict) → is_early v ≡ true → IsEarly (verdict_on behind v)
early-verdict behind (verdict.Form f) e = e
early-verdict behind verdict.Refused e = tt
early-verdict behind verdict.Ignored e = tt

early-decision : (line : List (List ℕ)) (found : Option Row) → IfRow (Fits (λ row. is_early row.verdict ≡ true) line) found → IsEarly (decision_by line found)
early-decision line None is = tt
early-decision line (Some row) is = early-verdict (drop (length row.words) line) row.verdict is.0

each-of : (p : Row → Bool) (rows : List Row) → list_all p rows ≡ true → AllByRecursion (λ row. p row ≡ true) rows
each-of p [] e = tt
each-of p (row ∷ rows) e = let h = and_parts (p row) (list_all p rows) e in (h.0, each-of p rows h.1)

abbrev AreEarly : List Row → Type 0
AreEarly rows = list_all (λ row. is_early row.verdict) rows ≡ true

early-in : (rows : List Row) (line : List (List ℕ)) → AreEarly rows → IsEarly (decision_by line (decisive_row rows line))
early-in rows line all =
    early-decision line (decisive_row rows line) (decisive-is (λ row. is_early row.verdict ≡ true) line rows (each-of (λ row. is_early row.verdict) rows all))

global-early : AreEarly global
unfolding global global_forms global_refused global_ignored words_of
global-early = refl

interface-early : AreEarly interface
unfolding interface interface_forms interface_refused interface_ignored words_of
interface-early = refl

access_list-early : AreEarly access_list
unfolding access_list access_list_forms access_list_refused access_list_ignored words_of
access_list-early = refl

route_map-early : AreEarly route_map
unfolding route_map route_map_forms route_map_refused route_map_ignored words_of
route_map-early = refl

ospf-early : AreEarly ospf
unfolding ospf ospf_forms ospf_refused ospf_ignored words_of
ospf-early = refl

-- ---- in the block of a process a line of a later form begins as lines did that were refused

abbrev is_early_or_later : Row → Bool
is_early_or_later row = is_early row.verdict || begins_later row.words

bgp-test : list_all is_early_or_later bgp ≡ true
unfolding bgp bgp_forms bgp_refused bgp_ignored later words_of
bgp-test = refl

bgp-found : (line : List (List ℕ)) → begins_later line ≡ false → (found : Option Row) → IfRow (Fits (λ row. is_early_or_later row ≡ true) line) found → IsEarly (decision_by line found)
bgp-found line not_later None is = tt
bgp-found line not_later (Some row) is =
    elim (or_cases (is_early row.verdict) (begins_later row.words) is.0) [
      | inl early ↦ early-verdict (drop (length row.words) line) row.verdict early
      | inr new ↦ absurd (false≢true (sym not_later ∙ any_through line row.words later is.1 new))
    ]

early-bgp : (line : List (List ℕ)) → begins_later line ≡ false → IsEarly (decision_of block.Bgp line)
early-bgp line not_later = bgp-found line not_later (decisive_row bgp line) (decisive-is (λ row. is_early_or_later row ≡ true) line bgp (each-of is_early_or_later bgp bgp-test))

-- ---- before and now

-- it was refused, or it stays and is of a form that was there
pub data Stays (now before : Decision) : Type 0 where
  refused : (refusal : LineRefusal) → before ≡ Refused refusal → Stays now before
  stays : before ≡ now → IsEarly now → Stays now before

other-block : (line : List (List ℕ)) (d : Decision) → IsEarly d → Stays d (unplaced line d)
other-block line Passed is = stays refl is
other-block line (OfForm f behind) is = stays refl is
other-block line (Refused Unknown) is = stays refl is
other-block line (Refused Unsupported) is = stays refl is
other-block line (Refused BadValue) is = stays refl is
other-block line (Refused OutOfPlace) is = by (begins_later line)
  where
    by : (b : Bool) → Stays (Refused OutOfPlace) (cond b (Refused Unknown) (Refused OutOfPlace))
    by true = refused Unknown refl
    by false = refused OutOfPlace refl

abbrev now_in : List (List ℕ) → Bool → Bool → Decision
now_in line family unsays = decision_of (cond (family || unsays) block.Ignored block.Bgp) line

-- all blocks but those of address families, which there were none of
abbrev pub IsEarlyBlock : Block → Type 0
IsEarlyBlock block.Ipv4Family = ⊥
IsEarlyBlock block.OtherFamily = ⊥
IsEarlyBlock b = Unit {0}

pub before-now : (b : Block) (line : List (List ℕ)) → IsEarlyBlock b → Stays (decided b line) (decided_before b line)
unfolding decided
before-now block.Closed line h = other-block (own_words block.Closed line) _ (early-in [] (own_words block.Closed line) refl)
before-now block.Global line h = other-block (own_words block.Global line) _ (early-in global (own_words block.Global line) global-early)
before-now block.Interface line h = other-block (own_words block.Interface line) _ (early-in interface (own_words block.Interface line) interface-early)
before-now block.AccessList line h = other-block (own_words block.AccessList line) _ (early-in access_list (own_words block.AccessList line) access_list-early)
before-now block.RouteMap line h = other-block (own_words block.RouteMap line) _ (early-in route_map (own_words block.RouteMap line) route_map-early)
before-now block.Ospf line h = other-block (own_words block.Ospf line) _ (early-in ospf (own_words block.Ospf line) ospf-early)
before-now block.Ignored line h = other-block (own_words block.Ignored line) _ (early-in any_line (own_words block.Ignored line) refl)
before-now block.Ipv4Family line h = absurd h
before-now block.OtherFamily line h = absurd h
before-now block.Bgp line h = by (is_of_another_family line) refl (begins_later line) refl
  where
    passed : Stays (decision_of block.Ignored line) (decision_of block.Ignored line)
    passed = stays refl (early-in any_line line refl)

    plain : begins_later line ≡ false → (unsays : Bool) → Stays (now_in line false unsays) (now_in line false unsays)
    plain e true = passed
    plain e false = stays refl (early-bgp line e)

    by : (family : Bool) → is_of_another_family line ≡ family → (is_later : Bool) → begins_later line ≡ is_later
        → Stays (now_in line family (unsays_another_family line)) (cond (not family && is_later) (Refused Unsupported) (now_in line family (unsays_another_family line)))
    by true e is_later f = passed
    by false e true f = refused Unsupported refl
    by false e false f = plain f (unsays_another_family line)
