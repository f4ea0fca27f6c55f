-- Where a router has no process no session leads to it.
use Rattle.std.proofs.Common.{refl, ◌≡◌, ap, sym, ◌∙◌, ℕ, false, List, [], ◌∷◌, ◌++◌, Option, Some, None}
use Rattle.std.specs.Prelude.{is_some, option_and_then}
use Rattle.std.specs.List.{filter_map, flat_map, cons_option}
use Rattle.std.specs.Option.{option_map_or}
use Rattle.std.proofs.lemmas.Bool.{false≢true}
use Rattle.rc_config.specs.Bgp.{address_of}
use Rattle.rc_config.specs.ByNumber.{with_number}
use Rattle.rc_config.specs.Members.{router_at}
use Rattle.rc_config.specs.declared.bgp.BgpProcess.{BgpProcess}
use Rattle.rc_config.specs.declared.network.Network.{Network}
use Rattle.rc_config.specs.declared.router_text.RouterText.{RouterText}
use Rattle.rc_topology.specs.Topology.{Topology}
use Rattle.rc_bgp.specs.Sessions.{session_of, session_from, sessions_from, sessions_to}
use Rattle.rc_bgp.specs.Speakers.{has_process, statement_about, statement_in, statement_of}
use Rattle.rc_bgp.specs.declared.speaker.Speaker.{Speaker}
use Rattle.rc_bgp.specs.declared.statement.Statement.{Statement}

none_is : {X : Type 0} (o : Option X) → is_some o ≡ false → o ≡ None
none_is None e = refl
none_is (Some x) e = absurd (false≢true (sym e))

-- it has no statement
no_statement : (net : Network) (to : Speaker) (a : ℕ) → has_process net to ≡ false → statement_about net to a ≡ None
no_statement net to a e = by (router_at net to.router) e
  where
    by : (found : Option RouterText) → option_map_or (λ (file : RouterText). is_some file.bgp) found false ≡ false → option_and_then (statement_in to.own a) found ≡ None
    by None e = refl
    by (Some file) e = ap (option_and_then (λ (p : BgpProcess). option_and_then (statement_of file.interfaces to.own) (with_number address_of a p.neighbors))) (none_is file.bgp e)

pub none_to : (links : Topology) (net : Network) (all : List Speaker) (to : Speaker) → has_process net to ≡ false → sessions_to links net all to ≡ []
none_to links net all to e = by all
  where
    from_addresses : (from : Speaker) (addresses : List ℕ) → filter_map (session_from links net to from) addresses ≡ []
    from_addresses from [] = refl
    from_addresses from (a ∷ more) =
        ap (λ (said : Option Statement). cons_option (option_and_then (λ (x : Statement). option_and_then (session_of links to from x) (statement_about net from x.local)) said) (filter_map (session_from links net to from) more)) (no_statement net to a e)
        ∙ from_addresses from more

    by : (senders : List Speaker) → flat_map (sessions_from links net to) senders ≡ []
    by [] = refl
    by (from ∷ more) = ap (λ here. here ++ flat_map (sessions_from links net to) more) (from_addresses from from.locals) ∙ by more
