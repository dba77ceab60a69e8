-- `integration_build::build_cells` meets its contract: the waves from the list run, and the places beyond it are cleared.
-- Assumes nothing.
use mathlib.Core.Path.{◌≡◌, ap}
use native.Mathlib.Omega.{arith}
use borrow.Author.Rules.{rules}
use lib.ListN.{length}
use Rattle.integration_field.specs.Build.{Built}
use Rattle.integration_build.proofs.Loops.{corners_cleared}
use Rattle.integration_build.proofs.Recursion.{waves_ready, built_cells_law, built_is}
use Rattle.integration_build.proofs.build_cells.Goals as goal

pub run_waves-requires : goal.run_waves-requires
run_waves-requires c =
    let f = c.args.field.now in
    let long : length f.los_corners ≡ 100 = search rules in
    let full : length f.field ≡ 100 = search rules in
    waves_ready c.args.costs.now f long c.requires _ c.corner_wave-wavefront.ensures full

pub returns-clause-built : goal.returns-clause-built
returns-clause-built c =
    let costs = c.args.costs.now in
    let f = c.args.field.now in
    let long : length f.los_corners ≡ 100 = search rules in
    let full : length f.field ≡ 100 = search rules in
    let left = built_cells_law costs f long c.requires _ c.corner_wave-wavefront.ensures full c.run_waves.ensures (omega arith) in
    built_is costs f long c.requires (ap (λ (b : Built). b.cells) left)
    (corners_cleared f.los_corners f.count c.fill.new.self long c.requires.count_in (c.fill.ensures.after (λ y e. e)))

pub returns-clause-waves : goal.returns-clause-waves
returns-clause-waves c =
    let costs = c.args.costs.now in
    let f = c.args.field.now in
    let long : length f.los_corners ≡ 100 = search rules in
    let full : length f.field ≡ 100 = search rules in
    ap (λ (b : Built). b.waves) (built_cells_law costs f long c.requires _ c.corner_wave-wavefront.ensures full c.run_waves.ensures (omega arith))
