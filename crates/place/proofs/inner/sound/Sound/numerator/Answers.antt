-- The signed difference of two small numbers.
use mir.Facts.{to_z-of_z}
use Rattle.place.proofs.BoundLaws.{numerator_at, numerator_fits}
use Rattle.place.proofs.inner.sound.Sound.numerator.Goals as goal

pub returns : goal.returns
returns c =
    let s = c.args.self.sound in
    rw (numerator_at s c.window_left-ahead.ensures c.owed.ensures) (to_z-of_z (numerator_fits s))
