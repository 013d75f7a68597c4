-- The statements of specs/Meaning.
use mathlib.Core.Path.{◌≡◌}
use mathlib.Core.Logic.{◌↔◌}
use mathlib.Core.Bool.{true}
use lib.Dec.{leb}
use borrow.Author.Tests.{leb-true, le-leb}
use Rattle.job.specs.Limit.{original}
use Rattle.job.proofs.TestLaws.{both}
use Rattle.place.specs.declared.setting.Setting.{Setting}
use Rattle.place.specs.Setting.{order_w, setting_allowed}
use Rattle.place.specs.Sound.{Allowed}
use Rattle.place.specs.Meaning.{MadeOfBoth, AllowedAnswers, OpenedFirst, BlankZeros}

pub allowed_exactly : (s : Setting) → (setting_allowed s ≡ true) ↔ Allowed s
allowed_exactly s = (to, λ a. rw (le-leb s.order order_w a.order, le-leb s.model original a.model))
  where
    to : setting_allowed s ≡ true → Allowed s
    to e =
        let tests = both (leb s.order order_w) (leb s.model original) e in
        record { order = leb-true s.order order_w tests.0; model = leb-true s.model original tests.1 }

pub made_of_both : MadeOfBoth
made_of_both order model r promise = promise

pub allowed_answers : AllowedAnswers
allowed_answers s r promise = rw promise (allowed_exactly s)

pub opened_first : OpenedFirst
opened_first job r promise = promise

pub blank_zeros : BlankZeros
blank_zeros r promise = promise
