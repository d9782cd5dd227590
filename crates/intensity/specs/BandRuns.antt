-- The runs that the program's value stands for. Assumes nothing.
use Rattle.intensity.specs.declared.band_runs.BandRuns.{BandRuns}
use Rattle.intensity.specs.Intensity.{Runs, runs}

abbrev pub runs_of : BandRuns → Runs
runs_of r = runs r.edition r.short r.starts.now r.factors.now r.count1
