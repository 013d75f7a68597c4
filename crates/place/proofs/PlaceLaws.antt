-- What one slot makes of one place, over the setting: it keeps the job, and the place sound.
use mathlib.Core.Path.{◌≡◌, refl, ◌∙◌}
use mathlib.Core.Bool.{Bool, true, false, ◌&&◌, ◌||◌, cond, or-true}
use mathlib.Core.Logic.{◌⊎◌, ⊎_elim}
use Prim.Native.Nat.{ℕ, zero, suc, ◌+◌, ◌-◌, ◌*◌, ◌/◌, ◌≤◌, ◌<◌}
use native.Mathlib.Nat.{div-lt_iff_lt-mul, mul-le-mul_right, le_trans}
use native.Mathlib.Omega.{arith}
use lib.Dec.{eqb, ltb}
use borrow.Author.Tests.{eqb-true, eqb-false, ltb-true}
use Rattle.job.specs.declared.record.Job.{Job}
use Rattle.job.specs.Sound.{SoundJob}
use Rattle.place.specs.declared.setting.Setting.{Setting}
use Rattle.place.specs.declared.record.Place.{Place}
use Rattle.place.specs.Setting.{by_units}
use Rattle.place.specs.Opening.{opened}
use Rattle.place.specs.Place.{at_slot, with_service, with_tag, finished_of, owed_of, eligible_of, served_of, tags_of, given_of, tagged_of, worked_of, turned_of, moved_of}
use Rattle.place.specs.Choice.{room_of, takes_spare, candidate_of}
use Rattle.place.specs.Sound.{ServiceByInstances, SoundService, SoundPlace}
use Rattle.job.proofs.TestLaws.{clash, refuted, both, three, either}
use Rattle.place.proofs.CondLaws.{by_test}
use Rattle.place.proofs.CounterLaws.{worked}

-- eligibility read off

both_below : (a b c d : ℕ) → (ltb a b && ltb c d) ≡ true → (a < b) × (c < d)
both_below a b c d e =
    let tests = both (ltb a b) (ltb c d) e in
    (ltb-true a b tests.0, ltb-true c d tests.1)

module _ (setting : Setting) (q : Place) where
  pub eligible_units :
      by_units setting ≡ true → eligible_of setting q ≡ true
      → (q.at.u < q.job.m * q.job.c) × (q.at.u < q.at.p * q.job.c)
  unfolding eligible_of
  eligible_units e h =
      both_below q.at.u (q.job.m * q.job.c) q.at.u (q.at.p * q.job.c) (rw e at h)

  pub eligible_instances :
      by_units setting ≡ false → eligible_of setting q ≡ true → (q.at.s < q.job.m) × (q.at.v < q.job.c)
  unfolding eligible_of
  eligible_instances e h = both_below q.at.s q.job.m q.at.v q.job.c (rw e at h)

  -- the eligible are candidates; another takes a spare slot
  pub eligible_candidate : eligible_of setting q ≡ true → candidate_of setting q ≡ true
  unfolding candidate_of
  eligible_candidate e = rw e

  pub spare_candidate : takes_spare setting q ≡ true → candidate_of setting q ≡ true
  unfolding candidate_of
  spare_candidate e = rw e (or-true (eligible_of setting q))

  pub candidate_either : candidate_of setting q ≡ true → (eligible_of setting q ≡ true) ⊎ (takes_spare setting q ≡ true)
  unfolding candidate_of
  candidate_either e = either (eligible_of setting q) (takes_spare setting q) e

  -- what a spare slot asks for
  spare_parts :
      takes_spare setting q ≡ true → (setting.spare ≡ true) × (owed_of setting q ≡ 0) × (room_of setting q ≡ true)
  unfolding takes_spare
  spare_parts e =
      let t = three setting.spare (eqb (owed_of setting q) 0) (room_of setting q) e in
      (t.0, eqb-true (owed_of setting q) 0 t.1, t.2)

  off_eligible : setting.spare ≡ false → candidate_of setting q ≡ true → eligible_of setting q ≡ true
  off_eligible off candidate = ⊎_elim (λ e. e) (λ e. absurd (clash off (spare_parts e).0)) (candidate_either candidate)

  -- a candidate may be served: the open period has room
  pub candidate_units : by_units setting ≡ true → candidate_of setting q ≡ true → q.at.u < q.at.p * q.job.c
  unfolding room_of
  candidate_units units candidate =
      ⊎_elim (λ e. (eligible_units units e).1)
      (λ e. ltb-true q.at.u (q.at.p * q.job.c) (rw units at (spare_parts e).2)) (candidate_either candidate)

  pub candidate_instances : by_units setting ≡ false → candidate_of setting q ≡ true → q.at.v < q.job.c
  unfolding room_of
  candidate_instances instances candidate =
      ⊎_elim (λ e. (eligible_instances instances e).1)
      (λ e. (both_below q.at.s q.at.p q.at.v q.job.c (rw instances at (spare_parts e).2)).1)
      (candidate_either candidate)

quotient_below : (u m c : ℕ) → u < m * c → u / c < m
quotient_below u m zero h = absurd (omega arith)
quotient_below u m (suc c) h = (div-lt_iff_lt-mul {k = suc c} (omega arith)).1 h

-- an eligible place lacks an instance, whether it is sound or not
pub eligible_owed : (setting : Setting) (q : Place) → eligible_of setting q ≡ true → 0 < owed_of setting q
unfolding eligible_of owed_of finished_of
eligible_owed setting q = go (by_units setting)
  where
    go :
        (b : Bool)
        → cond b (ltb q.at.u (q.job.m * q.job.c) && ltb q.at.u (q.at.p * q.job.c))
        (ltb q.at.s q.job.m && ltb q.at.v q.job.c)
        ≡ true
        → 0 < q.job.m - cond b (q.at.u / q.job.c) q.at.s
    go true e =
        let h = both_below q.at.u (q.job.m * q.job.c) q.at.u (q.at.p * q.job.c) e in
        omega (arith, quotient_below q.at.u q.job.m q.job.c h.0)
    go false e = let h = both_below q.at.s q.job.m q.at.v q.job.c e in omega arith

pub spare_not_due : (setting : Setting) (q : Place) → takes_spare setting q ≡ true → eligible_of setting q ≡ false
spare_not_due setting q spare = refuted (λ due. omega (arith, eligible_owed setting q due, (spare_parts setting q spare).1))

-- the service of a slot given, by instances
given_instances :
    {job : Job} {p u s v : ℕ} → ServiceByInstances job p u s v → v < job.c
    → ServiceByInstances job p u (cond (eqb (v + 1) job.c) (s + 1) s) (v + 1)
given_instances {job} {p} {u} {s} {v} r room =
    let behind : s < p = r.s_open room in
    by_test (λ (n : ℕ). ServiceByInstances job p u n (v + 1)) (eqb (v + 1) job.c)
    (λ e.
    let full : v + 1 ≡ job.c = eqb-true (v + 1) job.c e in
    record {
      v_c = omega arith;
      s_p = omega arith;
      s_open = λ open_still. absurd (omega arith);
      s_full = λ now_full. omega arith;
      u_unused = r.u_unused;
    })
    (λ e.
    record {
      v_c = omega arith;
      s_p = r.s_p;
      s_open = λ open_still. behind;
      s_full = λ now_full. absurd (eqb-false (v + 1) job.c e now_full);
      u_unused = r.u_unused;
    })

-- a job at the opening of its window
pub opened_sound : {setting : Setting} {j : Job} → SoundJob j → SoundPlace setting (opened j)
opened_sound job =
    record {
      job = job;
      e_high = job.t.low;
      period = record { low = omega arith; high = job.k.low };
      service =
          record {
            u_m = λ off. omega arith;
            s_m = λ off. omega arith;
            by_units_lem = λ is. record { u_p = omega arith; s_unused = refl; v_unused = refl };
            by_instances =
                λ is.
                record {
                  v_c = omega arith;
                  s_p = omega arith;
                  s_open = λ open_still. omega arith;
                  s_full = λ now_full. absurd (omega (arith, job.c.low));
                  u_unused = refl;
                };
          };
    }

-- a place stays sound

module _ {setting : Setting} {q : Place} (sound : SoundPlace setting q) where
  abbrev Serves : ℕ → ℕ → ℕ → Type 0
  Serves u s v = SoundService setting q.job q.at.p u s v

  with_service_lem : {u s v : ℕ} → Serves u s v → SoundPlace setting (with_service q u s v)
  with_service_lem service = record { job = sound.job; e_high = sound.e_high; period = sound.period; service = service }

  pub served_sound : candidate_of setting q ≡ true → SoundPlace setting (served_of setting q)
  unfolding served_of
  served_sound candidate =
      by_test (SoundPlace setting) (by_units setting)
      (λ e.
      let r = sound.service.by_units_lem e in
      with_service_lem
      (record {
        u_m = λ off. omega (arith, (eligible_units setting q e (off_eligible setting q off candidate)).0);
        s_m = sound.service.s_m;
        by_units_lem =
            λ is. record { u_p = omega (arith, candidate_units setting q e candidate); s_unused = r.s_unused; v_unused = r.v_unused };
        by_instances = λ is. absurd (clash is e);
      }))
      (λ e.
      with_service_lem
      (record {
        u_m = sound.service.u_m;
        s_m =
            λ off.
            let lacks = (eligible_instances setting q e (off_eligible setting q off candidate)).0 in
            by_test (λ (n : ℕ). n ≤ q.job.m) (eqb (q.at.v + 1) q.job.c) (λ f. omega arith) (λ f. sound.service.s_m off);
        by_units_lem = λ is. absurd (clash e is);
        by_instances = λ is. given_instances (sound.service.by_instances is) (candidate_instances setting q e candidate);
      }))

  -- at another slot of the period, or with another tag
  shifted_sound : (e : ℕ) (tag : Bool) → e < q.job.t → SoundPlace setting (with_tag (at_slot q e q.at.p) tag)
  shifted_sound e tag h = record { job = sound.job; e_high = h; period = sound.period; service = sound.service }

  -- in the next period of the window
  next_sound :
      q.at.p < q.job.k → SoundPlace setting (with_service (at_slot q 0 (q.at.p + 1)) q.at.u q.at.s 0)
  next_sound h =
      record {
        job = sound.job;
        e_high = sound.job.t.low;
        period = record { low = omega arith; high = omega arith };
        service =
            record {
              u_m = sound.service.u_m;
              s_m = sound.service.s_m;
              by_units_lem =
                  λ is.
                  let r = sound.service.by_units_lem is in
                  record {
                    u_p = le_trans r.u_p (mul-le-mul_right q.job.c (omega arith));
                    s_unused = r.s_unused;
                    v_unused = refl;
                  };
              by_instances =
                  λ is.
                  let r = sound.service.by_instances is in
                  record {
                    v_c = omega arith;
                    s_p = omega arith;
                    s_open = λ open_still. omega arith;
                    s_full = λ now_full. absurd (omega (arith, sound.job.c.low));
                    u_unused = r.u_unused;
                  };
            };
      }

  pub given_sound : (chosen : Bool) → (chosen ≡ true → candidate_of setting q ≡ true) → SoundPlace setting (given_of setting q chosen)
  unfolding given_of
  given_sound true fair = served_sound (fair refl)
  given_sound false fair = sound

  tagged_sound : (tags : Bool) → SoundPlace setting (tagged_of q tags)
  tagged_sound tags = shifted_sound q.at.e (tags || q.at.tag) sound.e_high

  pub turned_sound : SoundPlace setting (turned_of q)
  unfolding turned_of
  turned_sound =
      by_test (SoundPlace setting) (ltb (q.at.e + 1) q.job.t)
      (λ e. shifted_sound (q.at.e + 1) q.at.tag (ltb-true (q.at.e + 1) q.job.t e))
      (λ e.
      by_test (SoundPlace setting) (ltb q.at.p q.job.k)
      (λ f. next_sound (ltb-true q.at.p q.job.k f))
      (λ f. opened_sound sound.job))

module _ {setting : Setting} {q : Place} {chosen : Bool} (sound : SoundPlace setting q) (fair : chosen ≡ true → candidate_of setting q ≡ true) where
  pub worked_sound : SoundPlace setting (worked_of setting q chosen)
  unfolding worked_of
  worked_sound = tagged_sound (given_sound sound chosen fair) (tags_of setting q chosen)

  pub moved_sound : SoundPlace setting (moved_of setting q chosen).place
  unfolding moved_of
  moved_sound = turned_sound worked_sound

-- the job stays

turned_job : (q : Place) → (turned_of q).job ≡ q.job
unfolding turned_of
turned_job q =
    by_test (λ (r : Place). r.job ≡ q.job) (ltb (q.at.e + 1) q.job.t) (λ e. refl)
    (λ e. by_test (λ (r : Place). r.job ≡ q.job) (ltb q.at.p q.job.k) (λ f. refl) (λ f. refl))

pub moved_job : (setting : Setting) (q : Place) (chosen : Bool) → (moved_of setting q chosen).place.job ≡ q.job
unfolding moved_of
moved_job setting q chosen = turned_job (worked_of setting q chosen) ∙ (worked setting q chosen).same_job
