-- The texts that are written.
use Rattle.std.specs.Prelude.{ℕ, true, false, List, [], ◌++◌}
use Rattle.rc_config.specs.declared.network.Network.{Network}
use Rattle.rc_cubes.specs.Cubes.{cubes}
use Rattle.rc_report.specs.CubeText.{cubes_text, shown as only}
use Rattle.rc_report.specs.FailureText.{failures_text}
use Rattle.rc_report.specs.IdleText.{routers_text}
use Rattle.rc_report.specs.OutcomeText.{outcome_line}
use Rattle.rc_report.specs.StateText.{all_routes, routes_in, routes_line}
use Rattle.rc_report.specs.WalkText.{walk_text}
use Rattle.rc_route.specs.declared.outcome.RoundsEnd.{RoundsEnd}
use Rattle.rc_words.specs.declared.request.Request.{Request}
use Rattle.rc_words.specs.declared.request.Source.{Source}
use Rattle.rc_writing.specs.Places.{place_text}
use Rattle.rc_writing.specs.Texts.{head_text, no_place_line, refused_line}
use Rattle.rc_answers.specs.Given.{Given, refused, no_place, idle, ended, Shown, nothing, routes_of_all, routes_of, walk_of, cubes_of, first_cube_of, failures_of}

abbrev pub shown_text : Network → Shown → List ℕ
shown_text net nothing = []
shown_text net (routes_of_all state) = all_routes net state
shown_text net (routes_of state r) = routes_in net state r
shown_text net (walk_of walk) = walk_text net walk
shown_text net (cubes_of set examples) = cubes_text net (only false (cubes set)) examples
shown_text net (first_cube_of routes set) = routes_line routes ++ cubes_text net (only true (cubes set)) []
shown_text net (failures_of rows) = failures_text net rows

-- how the rounds ended, and what is shown after it
abbrev pub ended_text : Source → Network → RoundsEnd → Shown → List ℕ
ended_text source net end shown = head_text source ++ outcome_line end ++ shown_text net shown

-- the text of what was found
abbrev pub text_of : Request → Given → List ℕ
text_of r (refused refusal) = refused_line refusal
text_of r no_place = no_place_line (place_text r.ask)
text_of r (idle routers) = routers_text routers
text_of r (ended net end shown) = ended_text r.source net end shown
