-- The place as the slot has it: its service, then its tag.
use mathlib.Core.Path.{ap, ap₂, ◌∙◌}
use Rattle.place.specs.Place.{tagged_of, turned_of, short_of, moved_of}
use Rattle.place.proofs.CounterLaws.{tagged_first}
use Rattle.place.proofs.inner.sound.Sound.moved.Goals as goal

pub returns : goal.returns
unfolding moved_of
returns c =
    let first = c.first_tagged-first.ensures in
    let setting = c.tagged-worked.ensures.setting ∙ c.given.ensures.setting in
    let worked = c.tagged-worked.ensures.place ∙ ap₂ tagged_of c.given.ensures.place first ∙ tagged_first _ _ _ in
    let place = c.turned.ensures ∙ ap turned_of worked in
    let short = c.is_short-short.ensures ∙ ap₂ short_of setting worked in
    λ i. record { place = place i; tagged = first i; short = short i }
