-- A place without its tag: no choice and no short window depends on the tag, so a run may leave it out.
use mathlib.Core.Path.{◌≡◌, refl, ap, ◌∙◌}
use mathlib.Core.Bool.{Bool, true, false}
use Prim.Native.Nat.{ℕ, ◌+◌}
use lib.Dec.{ltb}
use Rattle.place.specs.declared.setting.Setting.{Setting}
use Rattle.place.specs.declared.record.Place.{Place}
use Rattle.place.specs.declared.inner.choice.Held.{Held}
use Rattle.place.specs.Setting.{by_units}
use Rattle.place.specs.Place.{with_tag, window_left, left_of, finished_of, owed_of, eligible_of, numerator_of, served_of, given_of, worked_of, window_ends, short_of, turned_of, moved_of, passed_of}
use Rattle.place.specs.Choice.{room_of, takes_spare, candidate_of, due_away, distance_of, better_of}
use Rattle.place.specs.Sound.{SoundPlace}
use Rattle.place.proofs.PlaceLaws.{moved_sound}

abbrev pub bare : Place → Place
bare q = with_tag q false

-- what looks at no tag
module _ (setting : Setting) (q : Place) where
  pub bare_candidate : candidate_of setting (bare q) ≡ candidate_of setting q
  unfolding candidate_of eligible_of takes_spare room_of owed_of finished_of
  bare_candidate = refl

  pub bare_better : (best : Held) (i : ℕ) → better_of setting best i (bare q) ≡ better_of setting best i q
  unfolding better_of candidate_of eligible_of takes_spare room_of owed_of finished_of distance_of due_away numerator_of left_of window_left
  bare_better best i = refl

  bare_short : short_of setting (bare q) ≡ short_of setting q
  unfolding short_of window_ends owed_of finished_of
  bare_short = refl

pub bare_sound : {setting : Setting} {q : Place} → SoundPlace setting q → SoundPlace setting (bare q)
bare_sound s = record { job = s.job; e_high = s.e_high; period = s.period; service = s.service }

-- a slot
served_bare : (setting : Setting) (q : Place) (units : Bool) → by_units setting ≡ units → served_of setting (bare q) ≡ bare (served_of setting q)
unfolding served_of
served_bare setting q true e = rw e
served_bare setting q false e = rw e

given_bare : (setting : Setting) (q : Place) (chosen : Bool) → given_of setting (bare q) chosen ≡ bare (given_of setting q chosen)
unfolding given_of
given_bare setting q true = served_bare setting q (by_units setting) refl
given_bare setting q false = refl

turned_bare : (q : Place) → turned_of (bare q) ≡ bare (turned_of q)
unfolding turned_of
turned_bare q = go (ltb (q.at.e + 1) q.job.t) (ltb q.at.p q.job.k) refl refl
  where
    go :
        (inside more : Bool) → ltb (q.at.e + 1) q.job.t ≡ inside → ltb q.at.p q.job.k ≡ more
        → turned_of (bare q) ≡ bare (turned_of q)
    go true more e f = rw e
    go false true e f = rw (e, f)
    go false false e f = rw (e, f)

module _ (setting : Setting) (q : Place) (chosen : Bool) where
  worked_bare : given_of setting (bare q) chosen ≡ bare (worked_of setting q chosen)
  unfolding worked_of
  worked_bare = given_bare setting q chosen

  pub passed_place : (passed_of setting (bare q) chosen).place ≡ bare (moved_of setting q chosen).place
  unfolding passed_of moved_of
  passed_place = ap turned_of worked_bare ∙ turned_bare (worked_of setting q chosen)

  pub passed_short : (passed_of setting (bare q) chosen).short ≡ (moved_of setting q chosen).short
  unfolding passed_of moved_of
  passed_short = ap (short_of setting) worked_bare ∙ bare_short setting (worked_of setting q chosen)

  pub passed_sound : SoundPlace setting q → (chosen ≡ true → candidate_of setting q ≡ true) → SoundPlace setting (passed_of setting (bare q) chosen).place
  passed_sound sound fair = rw passed_place (bare_sound (moved_sound sound fair))
