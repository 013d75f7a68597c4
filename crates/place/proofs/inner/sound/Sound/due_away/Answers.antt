-- The numerator is small, and so it fits.
use mir.Facts.{to_z-of_z}
use Rattle.place.proofs.BoundLaws.{numerator_fits, virtual_small}
use Rattle.place.proofs.inner.sound.Sound.due_away.Goals as goal

pub invariant_of-result : goal.invariant_of-result
invariant_of-result c =
    let s = c.args.self.sound in
    rw (c.numerator-num.ensures, c.owed-den.ensures, to_z-of_z (numerator_fits s)) (virtual_small s)
