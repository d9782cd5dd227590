-- Boundary after boundary, and at the end all that lie below the block type's limit. Assumes nothing.
use mathlib.Core.Path.{◌≡◌}
use native.Mathlib.Omega.{arith}
use Rattle.antialias.specs.Antialias.{boundaries, antialiased}
use Rattle.antialias.proofs.Boundaries.{antialiased-none, boundary_done, some_boundary, boundaries-most}
use Rattle.antialias.proofs.antialias_step.Goals as goal

pub loop-sb-init : goal.loop-sb-init
loop-sb-init c = antialiased-none c.args.samples.now c.told-samples

pub butterflies-requires : goal.butterflies-requires
butterflies-requires c = (c.cs_table-cs.ensures, c.ca_table-ca.ensures, omega arith, omega (arith, boundaries-most c.args.kind))

pub loop-sb-preserved : goal.loop-sb-preserved
loop-sb-preserved c =
    let l = c.loop-sb in
    let d = c.butterflies in
    boundary_done l.sb c.args.samples.now (omega arith) d.array_long l.invariant d.ensures.lowers d.ensures.uppers d.ensures.others (omega (arith, boundaries-most c.args.kind))

pub returns : goal.returns
unfolding antialiased
returns c =
    let l = c.loop-sb in
    let e : l.sb ≡ boundaries c.args.kind = omega (arith, some_boundary c.args.kind) in
    rw e at l.invariant
