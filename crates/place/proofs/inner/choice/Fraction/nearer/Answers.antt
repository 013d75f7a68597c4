-- No product of two small distances wraps.
use mir.Facts.{to_z-of_z}
use Rattle.place.specs.Choice.{nearer_of}
use Rattle.place.proofs.BoundLaws.{cross_at, cross_fits}
use Rattle.place.proofs.inner.choice.Fraction.nearer.Goals as goal

pub returns : goal.returns
unfolding nearer_of
returns c =
    let s = c.self.invariant in
    let t = c.than.invariant in
    rw (← c.self.view_is, ← c.than.view_is, cross_at s t, cross_at t s, to_z-of_z (cross_fits s t), to_z-of_z (cross_fits t s))
