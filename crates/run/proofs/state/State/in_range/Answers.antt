-- Its tests are those of the definition, and its array has 16 places.
use mathlib.Core.Path.{◌≡◌, sym}
use lib.ListN.{length}
use Rattle.job.specs.Limit.{count_most}
use Rattle.run.specs.Range.{values_in_range}
use Rattle.run.proofs.RangeLaws.{all_tested, by_values}
use Rattle.run.proofs.state.State.in_range.Goals as goal

pub returns : goal.returns
unfolding values_in_range
returns c =
    let s = c.args.self in
    let long : length s.places ≡ count_most = c.well_formed.0.1.1.1.1.1.0.1.0.1 in
    rw (c.allowed.ensures, all_tested s.setting s.count s.places long c.places_in_range.ensures, c.totals_in_range.ensures)
    (sym (by_values s long))
