-- After whole windows of every job the places are those of the fresh state, and so a run goes on as it began.
use mathlib.Core.Path.{◌≡◌, refl, sym, ap, subst, ◌∙◌}
use mathlib.Core.Logic.{◌⊎◌, inl, inr}
use mathlib.Core.Bool.{Bool, true}
use Prim.Native.Nat.{ℕ, zero, suc, ◌+◌, ◌*◌, ◌%◌, ◌≤◌, ◌<◌}
use native.Mathlib.Nat.{mod-eq-zero_of_dvd}
use native.Mathlib.Numerals.{add-one}
use native.Mathlib.Decide.{dec_lt}
use native.Mathlib.Omega.{arith}
use lib.Dec.{eqb}
use lib.Seq.{ext_get_or}
use borrow.Author.Tests.{eq-eqb}
use Rattle.job.specs.declared.list.JobList.{JobList}
use Rattle.job.specs.Sound.{SoundList}
use Rattle.job.proofs.TestLaws.{clash}
use Rattle.place.specs.declared.setting.Setting.{Setting}
use Rattle.place.specs.declared.record.Place.{Place}
use Rattle.place.specs.Opening.{blank, opened}
use Rattle.place.specs.Place.{window_ends}
use Rattle.place.specs.Sound.{Allowed}
use Rattle.place.proofs.WindowLaws.{Stays, Ends, moved_view}
use Rattle.run.specs.declared.state.State.{State}
use Rattle.run.specs.State.{clock_most, fresh_of}
use Rattle.run.specs.Sound.{SoundState}
use Rattle.run.specs.Run.{after_slots, choices_of}
use Rattle.run.proofs.FreshLaws.{fresh_listed, fresh_blank, fresh_sound}
use Rattle.run.proofs.HereLaws.{at, job_sound, past_blank}
use Rattle.run.proofs.TurnLaws.{next_byte, turn_place}
use Rattle.run.proofs.RunLaws.{after_setting, after_count, after_add, choices_long}
use Rattle.run.proofs.AgainLaws.{Alike, alike_after}
use Rattle.rules.specs.Rules.{job_of}
use Rattle.rules.specs.RepeatMeaning.{WholeWindows}
use Rattle.rules.proofs.HistoryLaws.{PlaceHistory}
use Rattle.rules.proofs.PlaceLaws.{ends_told}
use Rattle.rules.proofs.RunLaws.{sound_after, place_sound, places_told}

module _ (l : JobList) (setting : Setting) (jobs : SoundList l) (allowed : Allowed setting) where
  abbrev fresh : State
  fresh = fresh_of l setting

  abbrev after : ℕ → State
  after n = after_slots fresh n

  -- a job's place where its window has ended
  opens_again : (n : ℕ) → n ≤ clock_most → (i : ℕ) → i < l.count → n % ((job_of l i).k * (job_of l i).t) ≡ 0 → at (after n) i ≡ at fresh i
  unfolding after_slots
  opens_again zero high i listed whole = refl
  opens_again (suc n) high i listed whole =
      turn_place now sound i inside ∙ go (moved_view (job_sound sound i inside) (eqb (next_byte now) i))
    where
      now : State
      now = after n

      sound : SoundState now
      sound = sound_after l setting jobs allowed n (omega arith)

      inside : i < now.count
      inside = omega (arith, after_count fresh n)

      history : PlaceHistory setting (job_of l i) i n (choices_of fresh n) (at now i)
      history = places_told l setting jobs allowed n (omega arith) i listed

      over : window_ends (at now i) ≡ true
      over =
          ends_told setting (job_of l i) i n (choices_of fresh n) (at now i) history (place_sound l setting jobs allowed n (omega arith) i listed)
          (jobs.jobs i listed) (choices_long fresh n)
          ∙ eq-eqb ((n + 1) % ((job_of l i).k * (job_of l i).t)) 0 (ap (◌% ((job_of l i).k * (job_of l i).t)) (add-one n) ∙ whole)

      go : {chosen : Bool} {next : Place} → Stays now.setting (at now i) chosen next ⊎ Ends (at now i) next → next ≡ at fresh i
      go (inl stays) = absurd (clash stays.open_still over)
      go (inr ends) = ends.opens ∙ ap opened history.same_job ∙ sym (fresh_listed l setting jobs.count.high i listed)

  module _ (h : ℕ) (whole : WholeWindows l h) (high : h ≤ clock_most) where
    places_again : (after h).places ≡ fresh.places
    places_again = ext_get_or blank (after h).places fresh.places (now.long ∙ sym start.long) (λ i room. go i (dec_lt i l.count))
      where
        now : SoundState (after h)
        now = sound_after l setting jobs allowed h high

        start : SoundState fresh
        start = fresh_sound l setting jobs allowed

        go : (i : ℕ) → Dec (i < l.count) → at (after h) i ≡ at fresh i
        go i (yes listed) = opens_again h high i listed (mod-eq-zero_of_dvd _ (whole i listed))
        go i (no past) =
            past_blank now i (omega (arith, after_count fresh h)) ∙ sym (fresh_blank l setting jobs.count.high i (omega arith))

    -- h slots later everything is as it was
    pub again : (n : ℕ) → Alike (after (h + n)) (after n)
    again n =
        subst (λ (x : State). Alike x (after n)) (sym (after_add fresh h n))
        (alike_after (after h) fresh (record { setting = after_setting fresh h; count = after_count fresh h; places = places_again }) n)
