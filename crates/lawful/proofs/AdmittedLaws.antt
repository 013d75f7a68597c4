-- What is known of an admitted list: it is sound, its cycle holds its load, and no window of its run misses anything.
use mathlib.Core.Path.{◌≡◌, refl, sym, subst}
use mathlib.Core.Logic.{◌↔◌}
use mathlib.Core.Bool.{Bool}
use Prim.Native.Nat.{ℕ, ◌≤◌, ◌<◌}
use native.Mathlib.Omega.{arith}
use lib.Dec.{eqb}
use Rattle.job.specs.declared.list.JobList.{JobList}
use Rattle.job.specs.Limit.{relaxed, cycle_most}
use Rattle.job.specs.Sound.{SoundList}
use Rattle.admission.specs.Cycle.{cycle_of}
use Rattle.admission.specs.Load.{load_of}
use Rattle.admission.proofs.Meaning.{admitted_exactly}
use Rattle.admission.proofs.CycleLaws.{cycle_common, cycle_positive, cycle_multiple, cycle_is}
use Rattle.admission.proofs.LoadLaws.{load_is, load_exact}
use Rattle.run.specs.State.{clock_most}
use Rattle.run.specs.Choice.{chosen_of}
use Rattle.run.proofs.HereLaws.{at}
use Rattle.lawful.specs.DemandThree.{Admits}
use Rattle.lawful.proofs.WorkLaws.{missed_of}
use Rattle.lawful.proofs.OnTimeLaws.{run_of, run_none_missed}

-- a sound list whose cycle is within its limit and holds the load
pub record Holds (l : JobList) : Type 0 where
  pub sound : SoundList l
  pub short : cycle_of l ≤ cycle_most
  pub loaded : load_of l (cycle_of l) ≤ cycle_of l

pub admits_exactly : (l : JobList) → Admits l ↔ Holds l
admits_exactly l = (to, from)
  where
    to : Admits l → Holds l
    to a =
        let facts = (admitted_exactly l relaxed a.0 a.1).0 (sym a.2) in
        let cycle : a.0 ≡ cycle_of l = cycle_is l facts.0.sound facts.0.cycle in
        record {
          sound = facts.0.sound;
          short = omega (arith, facts.0.cycle_short);
          loaded = subst (λ (h : ℕ). load_of l h ≤ h) cycle (omega (arith, load_is facts.0.load, facts.1));
        }

    from : Holds l → Admits l
    from h = (
      cycle_of l,
      load_of l (cycle_of l),
      sym
          ((admitted_exactly l relaxed (cycle_of l) (load_of l (cycle_of l))).1 (
            record {
              model_relaxed = refl;
              sound = h.sound;
              cycle = cycle_multiple l h.sound;
              cycle_short = h.short;
              load = load_exact l (cycle_common l);
            },
            h.loaded,
          )),
    )

pub admitted_none_missed :
    (spare : Bool) (l : JobList) → Holds l → (n : ℕ) → n ≤ clock_most → (i : ℕ) → i < l.count
    → missed_of (at (run_of spare l n) i) (eqb i (chosen_of (run_of spare l n))) ≡ 0
admitted_none_missed spare l holds =
    run_none_missed spare l holds.sound (cycle_of l) (cycle_common l) holds.loaded
    (cycle_positive l.jobs l.count holds.sound.jobs)
