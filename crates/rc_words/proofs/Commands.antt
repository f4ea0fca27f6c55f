-- The commands as clap builds them, with the facts that the laws use of each.
use Rattle.std.proofs.Common.{ap, lit<, ◌<◌, ◌^◌, ◌≡◌, ◌∙◌, ◌==◌, Bool, true, false, List, [], ◌∷◌, ◌++◌, refl, sym, Option, Some, None, find, codes, map, unwrap_or, not, is_some, ◌&&◌, nat_lt, slice_get, subst, true≢false}
use Rattle.std.specs.List.{list_any}
use Rattle.std.specs.Option.{option_map_or}
use Rattle.std.specs.Str.{bytes_eq}
use Rattle.std.proofs.lemmas.Bool.{ltb-true}
use Rattle.clap.specs.Facts.{unwrap_or_range}
use Rattle.clap.specs.Faults.{check_fault, given_default_fault, turn_fault, is_simple_and_free}
use Rattle.clap.specs.Kinds.{check_kinds}
use Rattle.clap.specs.Lexer.{long_of}
use Rattle.clap.specs.Simple.{App, Shape, built, names_of, label_of, new_shape, is_simple}
use Rattle.clap.specs.Takes.{is_given, value_passes}
use Rattle.clap.specs.Walk.{Held, Row, Rule, Text, Walk, idle, walked, walk_from, nothing_held, action_of, answers_to, arg_by_id, arg_by_long, arg_by_short, has_long, most_values}
use Rattle.clap.specs.Words.{new_rule}
use Rattle.clap.specs.declared.builder.ArgAction.TheVariants.{Set}
use Rattle.clap.specs.declared.builder.ValueParser.{ValueParser}
use Rattle.clap.specs.declared.builder.ValueParser.TheVariants as vp
use Rattle.clap.proofs.OnLiterals.{clap_on_literals}
use Rattle.rc_base.specs.Fields.{fields}
use Rattle.rc_base.specs.Header.{same_field}
use Rattle.rc_base.specs.declared.field.Field.{Field}
use Rattle.rc_base.specs.declared.field.Field.TheVariants.{Dst}
use Rattle.rc_base.proofs.FieldLaws.{is_new, is_there, same-is}
use Rattle.rc_words.specs.App.{netcheck_app}
use Rattle.rc_words.specs.Plain.{CommandName, routes, trace, reach, loops, uneven, lines, failures, sample, command_word, OptionName, router, from, field, end, examples, rounds, workers, nodes, option_name, same_option, ValueKind, number, text, kind_of, default, options_of, required_of}
use Rattle.rc_words.proofs.Defaults.{IsDefaulted, defaults_by, looked, or_default}
use Rattle.rc_words.proofs.KeptValues.{IsOwn, AreOwn}
use Rattle.rc_words.proofs.PlainWalk.{IsFirst}
use Rattle.rc_words.proofs.Rules.{AllOf, all_same, find_all}

-- the command is one that clap's model covers
pub simple_and_free : is_simple_and_free netcheck_app ≡ true
simple_and_free = refl

pub simple : is_simple netcheck_app ≡ true
simple = refl

abbrev pub whole : App
whole = built netcheck_app

-- ---- arguments as clap fills them in

abbrev pub parser_by : ValueKind → ValueParser
parser_by (number low high) = vp.Unsigned low high
parser_by text = vp.String

abbrev is_required : OptionName → Bool
is_required from = true
is_required (field Dst) = true
is_required _ = false

abbrev pub rule_for : OptionName → Rule
rule_for o = record (new_rule (option_name o)) {
  long = Some (option_name o);
  action = Some Set;
  range = Some (record { start_inclusive = 1; end_inclusive = 1 });
  defaults = defaults_by (default o);
  parser = Some (parser_by (kind_of o));
  required = is_required o;
}

abbrev pub dir_rule : Rule
dir_rule = record (new_rule (codes "DIR")) {
  index = Some 1;
  action = Some Set;
  range = Some (record { start_inclusive = 1; end_inclusive = 1 });
  parser = Some vp.String;
  required = true;
}

abbrev pub count_rule : Rule
count_rule = record (new_rule (codes "N")) {
  index = Some 1;
  action = Some Set;
  range = Some (record { start_inclusive = 1; end_inclusive = 1 });
  parser = Some (vp.Unsigned 4 512);
  required = true;
}

-- ---- facts of all rules or options, as they are computed

own_all : (c rs : List Rule) → AllOf (λ a. arg_by_id c a.id ≡ Some a) rs → AllOf (λ a. action_of a ≡ Set) rs → AllOf (λ a. (unwrap_or_range a.range).start_inclusive ≡ 1) rs → AllOf (λ a. most_values a ≡ 1) rs → AllOf (IsOwn c) rs
own_all c [] here set least most = tt
own_all c (a ∷ rs) here set least most = (record { here = here.0; set = set.0; least = least.0; most = most.0 }, own_all c rs here.1 set.1 least.1 most.1)

-- the rules are a command's own
own_computed : (c : List Rule) → map (λ a. arg_by_id c a.id) c ≡ map (λ a. Some a) c → map (λ a. action_of a) c ≡ map (λ a. Set) c → map (λ a. (unwrap_or_range a.range).start_inclusive) c ≡ map (λ a. 1) c
    → map (λ a. most_values a) c ≡ map (λ a. 1) c → AllOf (IsOwn c) c
own_computed c here set least most =
    own_all c c (all_same (λ a. arg_by_id c a.id) (λ a. Some a) c here) (all_same (λ a. action_of a) (λ a. Set) c set) (all_same (λ (a : Rule). (unwrap_or_range a.range).start_inclusive) (λ a. 1) c least)
    (all_same (λ a. most_values a) (λ a. 1) c most)

-- each has one default or none
defaulted_computed : (rs : List Rule) → map (λ (a : Rule). a.defaults) rs ≡ map (λ (a : Rule). defaults_by (slice_get a.defaults 0)) rs → AllOf IsDefaulted rs
defaulted_computed [] e = tt
defaulted_computed (a ∷ rs) e =
    let first : a.defaults ≡ defaults_by (slice_get a.defaults 0) = cc in
    let rest : map (λ (x : Rule). x.defaults) rs ≡ map (λ (x : Rule). defaults_by (slice_get x.defaults 0)) rs = cc in
    ((slice_get a.defaults 0, first), defaulted_computed rs rest)

-- ---- names of options

abbrev all_options : List OptionName
all_options = router ∷ from ∷ map field fields ++ (end ∷ examples ∷ rounds ∷ workers ∷ nodes ∷ [])

abbrev pub IsSmall : ValueKind → Type 0
IsSmall (number low high) = high < 2 ^ 32
IsSmall text = Unit {0}

-- the option's word, that no other option and no argument has its name, and that its numbers fit 32 bits
pub record IsNamed (o : OptionName) : Type 0 where
  pub long : long_of (codes "--" ++ option_name o) ≡ Some (option_name o, None)
  pub not_end : bytes_eq (codes "--" ++ option_name o) (45 ∷ 45 ∷ []) ≡ false
  pub own : find (λ a. same_option a o) all_options ≡ Some o
  pub not_dir : bytes_eq (codes "DIR") (option_name o) ≡ false
  pub not_count : bytes_eq (codes "N") (option_name o) ≡ false
  pub small : IsSmall (kind_of o)

abbrev is_small : ValueKind → Bool
is_small (number low high) = nat_lt high (2 ^ 32)
is_small text = true

small_is : (kind : ValueKind) → is_small kind ≡ true → IsSmall kind
small_is (number low high) e = ltb-true high (2 ^ 32) e
small_is text e = tt

named_all : (fs : List Field) → AllOf (λ f. long_of (codes "--" ++ option_name (field f)) ≡ Some (option_name (field f), None)) fs → AllOf (λ f. bytes_eq (codes "--" ++ option_name (field f)) (45 ∷ 45 ∷ []) ≡ false) fs
    → AllOf (λ f. find (λ a. same_option a (field f)) all_options ≡ Some (field f)) fs → AllOf (λ f. bytes_eq (codes "DIR") (option_name (field f)) ≡ false) fs
    → AllOf (λ f. bytes_eq (codes "N") (option_name (field f)) ≡ false) fs → AllOf (λ f. is_small (kind_of (field f)) ≡ true) fs → AllOf (λ f. IsNamed (field f)) fs
named_all [] long not_end own not_dir not_count small = tt
named_all (f ∷ fs) long not_end own not_dir not_count small = (
  record { long = long.0; not_end = not_end.0; own = own.0; not_dir = not_dir.0; not_count = not_count.0; small = small_is (kind_of (field f)) small.0 },
  named_all fs long.1 not_end.1 own.1 not_dir.1 not_count.1 small.1,
)

fields_named : AllOf (λ f. IsNamed (field f)) fields
fields_named =
    named_all fields (all_same (λ f. long_of (codes "--" ++ option_name (field f))) (λ f. Some (option_name (field f), None)) fields refl)
    (all_same (λ f. bytes_eq (codes "--" ++ option_name (field f)) (45 ∷ 45 ∷ [])) (λ f. false) fields refl) (all_same (λ f. find (λ a. same_option a (field f)) all_options) (λ f. Some (field f)) fields refl)
    (all_same (λ f. bytes_eq (codes "DIR") (option_name (field f))) (λ f. false) fields refl) (all_same (λ f. bytes_eq (codes "N") (option_name (field f))) (λ f. false) fields refl)
    (all_same (λ f. is_small (kind_of (field f))) (λ f. true) fields refl)

-- what holds of all fields holds of each
each_field : (P : Field → Type 0) (fs : List Field) → AllOf P fs → (f : Field) → is_new f fs ≡ false → P f
each_field P [] all f e = absurd (true≢false e)
each_field P (g ∷ fs) all f e = go (same_field f g) refl e (each_field P fs all.1 f)
  where
    go : (b : Bool) → same_field f g ≡ b → (not b && is_new f fs) ≡ false → (is_new f fs ≡ false → P f) → P f
    go true same _ later = subst P (sym (same-is f g same)) all.0
    go false other rest later = later rest

pub named : (o : OptionName) → IsNamed o
named router = record { long = refl; not_end = refl; own = refl; not_dir = refl; not_count = refl; small = tt }
named from = record { long = refl; not_end = refl; own = refl; not_dir = refl; not_count = refl; small = tt }
named (field f) = each_field (λ g. IsNamed (field g)) fields fields_named f (is_there f)
named end = record { long = refl; not_end = refl; own = refl; not_dir = refl; not_count = refl; small = tt }
named examples = record { long = refl; not_end = refl; own = refl; not_dir = refl; not_count = refl; small = lit< tt }
named rounds = record { long = refl; not_end = refl; own = refl; not_dir = refl; not_count = refl; small = lit< tt }
named workers = record { long = refl; not_end = refl; own = refl; not_dir = refl; not_count = refl; small = lit< tt }
named nodes = record { long = refl; not_end = refl; own = refl; not_dir = refl; not_count = refl; small = lit< tt }

pub same_is : (a b : OptionName) → option_name a ≡ option_name b → a ≡ b
same_is a b e =
    let both : Some a ≡ Some b = sym (named a).own ∙ ap (λ (n : Text). find (λ (x : OptionName). bytes_eq (option_name x) n) all_options) e ∙ (named b).own in
    cc

-- ---- a command

-- the option is found among the rules, by its name and by its id, and it alone gives its id a default
pub record IsOption (c : List Rule) (o : OptionName) : Type 0 where
  pub long : arg_by_long c (option_name o) ≡ Some (rule_for o)
  pub here : arg_by_id c (option_name o) ≡ Some (rule_for o)
  pub after : (found : Option Row) → looked (option_name o) c found ≡ or_default (rule_for o) found

-- what is found of an option after the defaults of rules, and after its own, from what was found before
abbrev looked_for : List Rule → OptionName → Option Row → Option Row
looked_for c o found = looked (option_name o) c found

abbrev own_default : OptionName → Option Row → Option Row
own_default o found = or_default (rule_for o) found

options_all : (c : List Rule) (os : List OptionName) → AllOf (λ o. arg_by_long c (option_name o) ≡ Some (rule_for o)) os → AllOf (λ o. arg_by_id c (option_name o) ≡ Some (rule_for o)) os
    → AllOf (λ o. looked_for c o ≡ own_default o) os → AllOf (IsOption c) os
options_all c [] long here later = tt
options_all c (o ∷ os) long here later = (record { long = long.0; here = here.0; after = λ found. ap (λ (h : Option Row → Option Row). h found) later.0 }, options_all c os long.1 here.1 later.1)

-- the options are found among the rules
options_computed : (c : List Rule) (os : List OptionName) → map (λ o. arg_by_long c (option_name o)) os ≡ map (λ o. Some (rule_for o)) os → map (λ o. arg_by_id c (option_name o)) os ≡ map (λ o. Some (rule_for o)) os
    → map (looked_for c) os ≡ map own_default os → AllOf (IsOption c) os
options_computed c os long here later =
    options_all c os (all_same (λ o. arg_by_long c (option_name o)) (λ o. Some (rule_for o)) os long) (all_same (λ o. arg_by_id c (option_name o)) (λ o. Some (rule_for o)) os here) (all_same (looked_for c) own_default os later)

abbrev pub gone : Held → Text → List Text → Walk
gone h name rest = record { held = h; waiting = idle; position = 1; is_trailing = false; stopped = Some (name, rest) }

-- the ids of what has to be given: the command's argument, and options
abbrev pub wanted_ids : Rule → CommandName → List Text
wanted_ids a k = a.id ∷ map option_name (required_of k)

-- what the laws use of a command whose one argument has the rule a
pub record IsCommand (k : CommandName) (a : Rule) (s : Shape) : Type 0 where
  pub found : find (λ x. answers_to (command_word k) (label_of x)) whole.subs ≡ Some s
  pub name : s.name ≡ command_word k
  pub enters : walked whole.top.rules (names_of whole) (walk_from nothing_held) (command_word k) ≡ gone nothing_held (command_word k) []
  pub enters_well : turn_fault whole.top (names_of whole) (walk_from nothing_held) (command_word k) ≡ []
  pub once : s.args_override_self ≡ false
  pub own : AreOwn s.rules
  pub first : (v : Text) → value_passes a v ≡ true → IsFirst s.rules a v
  pub after : (found : Option Row) → looked a.id s.rules found ≡ or_default a found
  pub no_default : a.defaults ≡ []
  pub apart : (o : OptionName) → bytes_eq a.id (option_name o) ≡ false
  pub options : AllOf (IsOption s.rules) (options_of k)
  pub required : AllOf (IsOption s.rules) (required_of k)
  pub defaults : AllOf IsDefaulted s.rules
  pub defaults_pass : AllOf (λ a. given_default_fault a a.defaults ≡ []) s.rules
  pub check : (rows : List Row) → check_fault s rows false ≡ check_kinds false false (list_any (λ id. not (is_given id rows)) (wanted_ids a k))

-- arguments are a command's own where each of its rules is
own_by : (c : List Rule) → AllOf (IsOwn c) c → ((x : _) → arg_by_short c x ≡ None) → AreOwn c
own_by c own no_short = record {
  by_id = λ id a e. find_all (IsOwn c) (λ (x : Rule). bytes_eq x.id id) c a own e;
  by_long = λ id a e. find_all (IsOwn c) (λ (x : Rule). not (is_some x.index) && has_long x id) c a own e;
  by_index = λ i a e. find_all (IsOwn c) (λ (x : Rule). option_map_or (λ k. k == i) x.index false) c a own e;
  no_short = no_short;
}

abbrev shape_at : Text → Shape
shape_at name = unwrap_or (find (λ s. answers_to name (label_of s)) whole.subs) (new_shape [])

-- ---- routes

abbrev pub routes_shape : Shape
routes_shape = shape_at (codes "routes")

routes_enters : walked whole.top.rules (names_of whole) (walk_from nothing_held) (codes "routes") ≡ gone nothing_held (codes "routes") []
unfolding clap_on_literals
routes_enters = refl

routes_enters_well : turn_fault whole.top (names_of whole) (walk_from nothing_held) (codes "routes") ≡ []
unfolding clap_on_literals
routes_enters_well = refl

routes_own : AllOf (IsOwn routes_shape.rules) routes_shape.rules
routes_own = own_computed routes_shape.rules refl refl refl refl

routes_options : AllOf (IsOption routes_shape.rules) (options_of routes)
routes_options = options_computed routes_shape.rules (options_of routes) refl refl refl

routes_defaults : AllOf IsDefaulted routes_shape.rules
routes_defaults = defaulted_computed routes_shape.rules refl

routes_defaults_pass : AllOf (λ a. given_default_fault a a.defaults ≡ []) routes_shape.rules
routes_defaults_pass = all_same (λ (a : Rule). given_default_fault a a.defaults) (λ a. []) routes_shape.rules refl

pub routes_is : IsCommand routes dir_rule routes_shape
routes_is = record {
  found = refl;
  name = refl;
  enters = routes_enters;
  enters_well = routes_enters_well;
  once = refl;
  own = own_by routes_shape.rules routes_own (λ x. refl);
  first = λ v e. record { single = record { here = refl; set = refl; least = refl; most = refl; passes = e }; place = refl; one = refl; several = refl; trailing = refl };
  after = λ found. refl;
  no_default = refl;
  apart = λ o. (named o).not_dir;
  options = routes_options;
  required = tt;
  defaults = routes_defaults;
  defaults_pass = routes_defaults_pass;
  check = λ rows. refl;
}

-- ---- trace

abbrev pub trace_shape : Shape
trace_shape = shape_at (codes "trace")

trace_enters : walked whole.top.rules (names_of whole) (walk_from nothing_held) (codes "trace") ≡ gone nothing_held (codes "trace") []
unfolding clap_on_literals
trace_enters = refl

trace_enters_well : turn_fault whole.top (names_of whole) (walk_from nothing_held) (codes "trace") ≡ []
unfolding clap_on_literals
trace_enters_well = refl

trace_own : AllOf (IsOwn trace_shape.rules) trace_shape.rules
trace_own = own_computed trace_shape.rules refl refl refl refl

trace_options : AllOf (IsOption trace_shape.rules) (options_of trace)
trace_options = options_computed trace_shape.rules (options_of trace) refl refl refl

trace_defaults : AllOf IsDefaulted trace_shape.rules
trace_defaults = defaulted_computed trace_shape.rules refl

trace_defaults_pass : AllOf (λ a. given_default_fault a a.defaults ≡ []) trace_shape.rules
trace_defaults_pass = all_same (λ (a : Rule). given_default_fault a a.defaults) (λ a. []) trace_shape.rules refl

pub trace_is : IsCommand trace dir_rule trace_shape
trace_is = record {
  found = refl;
  name = refl;
  enters = trace_enters;
  enters_well = trace_enters_well;
  once = refl;
  own = own_by trace_shape.rules trace_own (λ x. refl);
  first = λ v e. record { single = record { here = refl; set = refl; least = refl; most = refl; passes = e }; place = refl; one = refl; several = refl; trailing = refl };
  after = λ found. refl;
  no_default = refl;
  apart = λ o. (named o).not_dir;
  options = trace_options;
  required = (trace_options.0, (trace_options.1.0, tt));
  defaults = trace_defaults;
  defaults_pass = trace_defaults_pass;
  check = λ rows. refl;
}

-- ---- reach

abbrev pub reach_shape : Shape
reach_shape = shape_at (codes "reach")

reach_enters : walked whole.top.rules (names_of whole) (walk_from nothing_held) (codes "reach") ≡ gone nothing_held (codes "reach") []
unfolding clap_on_literals
reach_enters = refl

reach_enters_well : turn_fault whole.top (names_of whole) (walk_from nothing_held) (codes "reach") ≡ []
unfolding clap_on_literals
reach_enters_well = refl

reach_own : AllOf (IsOwn reach_shape.rules) reach_shape.rules
reach_own = own_computed reach_shape.rules refl refl refl refl

reach_options : AllOf (IsOption reach_shape.rules) (options_of reach)
reach_options = options_computed reach_shape.rules (options_of reach) refl refl refl

reach_defaults : AllOf IsDefaulted reach_shape.rules
reach_defaults = defaulted_computed reach_shape.rules refl

reach_defaults_pass : AllOf (λ a. given_default_fault a a.defaults ≡ []) reach_shape.rules
reach_defaults_pass = all_same (λ (a : Rule). given_default_fault a a.defaults) (λ a. []) reach_shape.rules refl

pub reach_is : IsCommand reach dir_rule reach_shape
reach_is = record {
  found = refl;
  name = refl;
  enters = reach_enters;
  enters_well = reach_enters_well;
  once = refl;
  own = own_by reach_shape.rules reach_own (λ x. refl);
  first = λ v e. record { single = record { here = refl; set = refl; least = refl; most = refl; passes = e }; place = refl; one = refl; several = refl; trailing = refl };
  after = λ found. refl;
  no_default = refl;
  apart = λ o. (named o).not_dir;
  options = reach_options;
  required = (reach_options.0, tt);
  defaults = reach_defaults;
  defaults_pass = reach_defaults_pass;
  check = λ rows. refl;
}

-- ---- loops

abbrev pub loops_shape : Shape
loops_shape = shape_at (codes "loops")

loops_enters : walked whole.top.rules (names_of whole) (walk_from nothing_held) (codes "loops") ≡ gone nothing_held (codes "loops") []
unfolding clap_on_literals
loops_enters = refl

loops_enters_well : turn_fault whole.top (names_of whole) (walk_from nothing_held) (codes "loops") ≡ []
unfolding clap_on_literals
loops_enters_well = refl

loops_own : AllOf (IsOwn loops_shape.rules) loops_shape.rules
loops_own = own_computed loops_shape.rules refl refl refl refl

loops_options : AllOf (IsOption loops_shape.rules) (options_of loops)
loops_options = options_computed loops_shape.rules (options_of loops) refl refl refl

loops_defaults : AllOf IsDefaulted loops_shape.rules
loops_defaults = defaulted_computed loops_shape.rules refl

loops_defaults_pass : AllOf (λ a. given_default_fault a a.defaults ≡ []) loops_shape.rules
loops_defaults_pass = all_same (λ (a : Rule). given_default_fault a a.defaults) (λ a. []) loops_shape.rules refl

pub loops_is : IsCommand loops dir_rule loops_shape
loops_is = record {
  found = refl;
  name = refl;
  enters = loops_enters;
  enters_well = loops_enters_well;
  once = refl;
  own = own_by loops_shape.rules loops_own (λ x. refl);
  first = λ v e. record { single = record { here = refl; set = refl; least = refl; most = refl; passes = e }; place = refl; one = refl; several = refl; trailing = refl };
  after = λ found. refl;
  no_default = refl;
  apart = λ o. (named o).not_dir;
  options = loops_options;
  required = (loops_options.0, tt);
  defaults = loops_defaults;
  defaults_pass = loops_defaults_pass;
  check = λ rows. refl;
}

-- ---- uneven

abbrev pub uneven_shape : Shape
uneven_shape = shape_at (codes "uneven")

uneven_enters : walked whole.top.rules (names_of whole) (walk_from nothing_held) (codes "uneven") ≡ gone nothing_held (codes "uneven") []
unfolding clap_on_literals
uneven_enters = refl

uneven_enters_well : turn_fault whole.top (names_of whole) (walk_from nothing_held) (codes "uneven") ≡ []
unfolding clap_on_literals
uneven_enters_well = refl

uneven_own : AllOf (IsOwn uneven_shape.rules) uneven_shape.rules
uneven_own = own_computed uneven_shape.rules refl refl refl refl

uneven_options : AllOf (IsOption uneven_shape.rules) (options_of uneven)
uneven_options = options_computed uneven_shape.rules (options_of uneven) refl refl refl

uneven_defaults : AllOf IsDefaulted uneven_shape.rules
uneven_defaults = defaulted_computed uneven_shape.rules refl

uneven_defaults_pass : AllOf (λ a. given_default_fault a a.defaults ≡ []) uneven_shape.rules
uneven_defaults_pass = all_same (λ (a : Rule). given_default_fault a a.defaults) (λ a. []) uneven_shape.rules refl

pub uneven_is : IsCommand uneven dir_rule uneven_shape
uneven_is = record {
  found = refl;
  name = refl;
  enters = uneven_enters;
  enters_well = uneven_enters_well;
  once = refl;
  own = own_by uneven_shape.rules uneven_own (λ x. refl);
  first = λ v e. record { single = record { here = refl; set = refl; least = refl; most = refl; passes = e }; place = refl; one = refl; several = refl; trailing = refl };
  after = λ found. refl;
  no_default = refl;
  apart = λ o. (named o).not_dir;
  options = uneven_options;
  required = (uneven_options.0, tt);
  defaults = uneven_defaults;
  defaults_pass = uneven_defaults_pass;
  check = λ rows. refl;
}

-- ---- lines

abbrev pub lines_shape : Shape
lines_shape = shape_at (codes "lines")

lines_enters : walked whole.top.rules (names_of whole) (walk_from nothing_held) (codes "lines") ≡ gone nothing_held (codes "lines") []
unfolding clap_on_literals
lines_enters = refl

lines_enters_well : turn_fault whole.top (names_of whole) (walk_from nothing_held) (codes "lines") ≡ []
unfolding clap_on_literals
lines_enters_well = refl

lines_own : AllOf (IsOwn lines_shape.rules) lines_shape.rules
lines_own = own_computed lines_shape.rules refl refl refl refl

lines_options : AllOf (IsOption lines_shape.rules) (options_of lines)
lines_options = options_computed lines_shape.rules (options_of lines) refl refl refl

lines_defaults : AllOf IsDefaulted lines_shape.rules
lines_defaults = defaulted_computed lines_shape.rules refl

lines_defaults_pass : AllOf (λ a. given_default_fault a a.defaults ≡ []) lines_shape.rules
lines_defaults_pass = all_same (λ (a : Rule). given_default_fault a a.defaults) (λ a. []) lines_shape.rules refl

pub lines_is : IsCommand lines dir_rule lines_shape
lines_is = record {
  found = refl;
  name = refl;
  enters = lines_enters;
  enters_well = lines_enters_well;
  once = refl;
  own = own_by lines_shape.rules lines_own (λ x. refl);
  first = λ v e. record { single = record { here = refl; set = refl; least = refl; most = refl; passes = e }; place = refl; one = refl; several = refl; trailing = refl };
  after = λ found. refl;
  no_default = refl;
  apart = λ o. (named o).not_dir;
  options = lines_options;
  required = tt;
  defaults = lines_defaults;
  defaults_pass = lines_defaults_pass;
  check = λ rows. refl;
}

-- ---- failures

abbrev pub failures_shape : Shape
failures_shape = shape_at (codes "failures")

failures_enters : walked whole.top.rules (names_of whole) (walk_from nothing_held) (codes "failures") ≡ gone nothing_held (codes "failures") []
unfolding clap_on_literals
failures_enters = refl

failures_enters_well : turn_fault whole.top (names_of whole) (walk_from nothing_held) (codes "failures") ≡ []
unfolding clap_on_literals
failures_enters_well = refl

failures_own : AllOf (IsOwn failures_shape.rules) failures_shape.rules
failures_own = own_computed failures_shape.rules refl refl refl refl

failures_options : AllOf (IsOption failures_shape.rules) (options_of failures)
failures_options = options_computed failures_shape.rules (options_of failures) refl refl refl

failures_defaults : AllOf IsDefaulted failures_shape.rules
failures_defaults = defaulted_computed failures_shape.rules refl

failures_defaults_pass : AllOf (λ a. given_default_fault a a.defaults ≡ []) failures_shape.rules
failures_defaults_pass = all_same (λ (a : Rule). given_default_fault a a.defaults) (λ a. []) failures_shape.rules refl

pub failures_is : IsCommand failures dir_rule failures_shape
failures_is = record {
  found = refl;
  name = refl;
  enters = failures_enters;
  enters_well = failures_enters_well;
  once = refl;
  own = own_by failures_shape.rules failures_own (λ x. refl);
  first = λ v e. record { single = record { here = refl; set = refl; least = refl; most = refl; passes = e }; place = refl; one = refl; several = refl; trailing = refl };
  after = λ found. refl;
  no_default = refl;
  apart = λ o. (named o).not_dir;
  options = failures_options;
  required = (failures_options.0, (failures_options.1.1.0, tt));
  defaults = failures_defaults;
  defaults_pass = failures_defaults_pass;
  check = λ rows. refl;
}

-- ---- sample

abbrev pub sample_shape : Shape
sample_shape = shape_at (codes "sample")

sample_enters : walked whole.top.rules (names_of whole) (walk_from nothing_held) (codes "sample") ≡ gone nothing_held (codes "sample") []
unfolding clap_on_literals
sample_enters = refl

sample_enters_well : turn_fault whole.top (names_of whole) (walk_from nothing_held) (codes "sample") ≡ []
unfolding clap_on_literals
sample_enters_well = refl

sample_own : AllOf (IsOwn sample_shape.rules) sample_shape.rules
sample_own = own_computed sample_shape.rules refl refl refl refl

sample_options : AllOf (IsOption sample_shape.rules) (options_of sample)
sample_options = options_computed sample_shape.rules (options_of sample) refl refl refl

sample_defaults : AllOf IsDefaulted sample_shape.rules
sample_defaults = defaulted_computed sample_shape.rules refl

sample_defaults_pass : AllOf (λ a. given_default_fault a a.defaults ≡ []) sample_shape.rules
sample_defaults_pass = all_same (λ (a : Rule). given_default_fault a a.defaults) (λ a. []) sample_shape.rules refl

pub sample_is : IsCommand sample count_rule sample_shape
sample_is = record {
  found = refl;
  name = refl;
  enters = sample_enters;
  enters_well = sample_enters_well;
  once = refl;
  own = own_by sample_shape.rules sample_own (λ x. refl);
  first = λ v e. record { single = record { here = refl; set = refl; least = refl; most = refl; passes = e }; place = refl; one = refl; several = refl; trailing = refl };
  after = λ found. refl;
  no_default = refl;
  apart = λ o. (named o).not_count;
  options = sample_options;
  required = tt;
  defaults = sample_defaults;
  defaults_pass = sample_defaults_pass;
  check = λ rows. refl;
}
