-- The fresh state of a list: its places, and that it is sound.
use mathlib.Core.Path.{◌≡◌, refl}
use mathlib.Core.List.{List}
use Prim.Native.Nat.{ℕ, min, ◌≤◌, ◌<◌}
use native.Mathlib.Omega.{arith}
use Rattle.job.specs.declared.record.Job.{Job}
use Rattle.job.specs.declared.list.JobList.{JobList}
use Rattle.job.specs.Limit.{count_most}
use Rattle.job.specs.Sound.{SoundList}
use Rattle.job.specs.Check.{job_at}
use Rattle.place.specs.declared.setting.Setting.{Setting}
use Rattle.place.specs.Opening.{blank, opened}
use Rattle.place.specs.Sound.{Allowed}
use Rattle.run.specs.State.{place_at, fresh_upto, fresh_of}
use Rattle.run.specs.Sound.{SoundState}
use Rattle.job.proofs.FilledLaws.{filled_long, filled_at, filled_past}
use Rattle.place.proofs.PlaceLaws.{opened_sound}
use Rattle.run.proofs.HereLaws.{places_sound}

-- the places
module _ (jobs : List Job) where
  pub fresh_at : (n i : ℕ) → i < n → n ≤ count_most → place_at (fresh_upto jobs n) i ≡ opened (job_at jobs i)
  fresh_at = filled_at blank (λ i. opened (job_at jobs i))

-- the fresh state of a list
module _ (l : JobList) (s : Setting) (few : l.count ≤ count_most) where
  all : min l.count count_most ≡ l.count
  all = omega arith

  pub fresh_listed : (i : ℕ) → i < l.count → place_at (fresh_of l s).places i ≡ opened (job_at l.jobs i)
  fresh_listed i h = rw all (fresh_at l.jobs l.count i h few)

  pub fresh_blank : (i : ℕ) → l.count ≤ i → place_at (fresh_of l s).places i ≡ blank
  fresh_blank i past = rw all (filled_past blank (λ i. opened (job_at l.jobs i)) l.count i past)

-- the fresh state of a sound list is sound
pub fresh_sound : (l : JobList) (s : Setting) → SoundList l → Allowed s → SoundState (fresh_of l s)
fresh_sound l s sound allowed =
    let few = sound.count.high in
    record {
      long = filled_long blank (λ i. opened (job_at l.jobs i)) (min l.count count_most);
      setting = allowed;
      clock_high = omega arith;
      count = sound.count;
      places =
          places_sound s l.count (fresh_of l s).places
          (λ i h. rw (fresh_listed l s few i h) (opened_sound (sound.jobs i h))) (fresh_blank l s few);
      slots = refl;
      tags_high = omega arith;
      shorts_high = omega arith;
    }
