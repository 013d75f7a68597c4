use mathlib.Core.Path.{sym, ◌∙◌}
use mathlib.Core.Bool.{true}
use Rattle.place.proofs.BoundLaws.{lacks_is}
use Rattle.place.proofs.inner.sound.Sound.lacks.Goals as goal

pub returns-then-by_units : goal.returns-then-by_units
returns-then-by_units c =
    lacks_is c.args.self.sound true (sym c.by_units.ensures ∙ c.if-by_units.true)
