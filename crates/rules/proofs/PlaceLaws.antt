-- A place whose counters are told by the choices: what it is owed, whether it is due, when its deadline is and when its window ends.
use mathlib.Core.Path.{◌≡◌, refl, sym, ap, ap₂, ◌∙◌}
use mathlib.Core.Bool.{Bool, true, false, ◌&&◌, cond}
use mathlib.Core.List.{List}
use Prim.Native.Nat.{ℕ, suc, ◌+◌, ◌-◌, ◌*◌, ◌/◌, ◌%◌, ◌≤◌, ◌<◌}
use native.Mathlib.Nat.{mod-lt, mod-le}
use native.Mathlib.Omega.{arith}
use lib.Dec.{eqb, leb, ltb}
use lib.ListN.{length, length-drop}
use borrow.Author.Tests.{eq-eqb, ne_eqb}
use Rattle.job.specs.declared.record.Job.{Job}
use Rattle.job.specs.Sound.{SoundJob}
use Rattle.place.specs.declared.setting.Setting.{Setting}
use Rattle.place.specs.declared.record.Place.{Place}
use Rattle.place.specs.Setting.{by_units, in_order_v}
use Rattle.place.specs.Place.{window_left, left_of, finished_of, owed_of, eligible_of, numerator_of, overdue_of, window_ends}
use Rattle.place.specs.Choice.{room_of, takes_spare, virtual_away, window_away, due_away}
use Rattle.place.specs.Sound.{SoundPlace}
use Rattle.place.proofs.CycleLaws.{cycle_goes_on, cycle_ends}
use Rattle.place.proofs.CondLaws.{by_test}
use Rattle.place.proofs.SignedLaws.{difference_most}
use Rattle.place.proofs.DistanceLaws.{difference_parts, leb_shift}
use Rattle.rules.specs.Rules.{slots_of, finished_in, window_start, period_start, periods_begun, window_end, since_window, of_window, of_period, finished, owed, due, takes, virtual_deadline, deadline}
use Rattle.rules.proofs.BytesLaws.{finished_rest}
use Rattle.rules.proofs.CycleLaws.{Tick, nothing_ends, period_ends, window_ends_lem, window_split, begun_high, tick}
use Rattle.rules.proofs.HistoryLaws.{since_period, PlaceHistory, Worked}
use Rattle.rules.proofs.MomentLaws.{Away}

-- the instances finished, of a place whose service the bytes tell
module _ (setting : Setting) (job : Job) (sound : SoundJob job) (j n : ℕ) (seen : List ℕ) where
  -- 'finished in each period': those of the periods begun are those of the window
  periods_rest :
      length (since_window job n seen) ≤ periods_begun job n * job.t
      → finished_in job j (since_window job n seen) (periods_begun job n) ≡ finished_in job j (since_window job n seen) job.k
  periods_rest short =
      sym
      (finished_rest job j (since_window job n seen) (periods_begun job n) sound.c.low short job.k
      (begun_high job.t job.k n sound.t.low sound.k.low))

  pub finished_is :
      (q : Place) → Worked setting job j n seen q → finished_of setting q ≡ finished setting job j n seen
  unfolding finished_of finished
  finished_is q told = go (by_units setting) refl
    where
      go :
          (b : Bool) → by_units setting ≡ b
          → cond b (q.at.u / q.job.c) q.at.s
          ≡ cond b (slots_of j (since_window job n seen) / job.c) (finished_in job j (since_window job n seen) job.k)
      go true e = ap₂ ◌/◌ (told.u_is e) (ap (λ (x : Job). x.c) told.same_job)
      go false e = told.s_is e ∙ periods_rest told.short

  pub owed_is :
      (q : Place) → Worked setting job j n seen q → owed_of setting q ≡ owed setting job j n seen
  unfolding owed_of
  owed_is q told = ap₂ ◌-◌ (ap (λ (x : Job). x.m) told.same_job) (finished_is q told)

module _
    (setting : Setting) (job : Job) (j n : ℕ) (seen : List ℕ) (q : Place) (told : PlaceHistory setting job j n seen q)
    (place : SoundPlace setting q) (sound : SoundJob job) (long : length seen ≡ n)
  where
    t_same : q.job.t ≡ job.t
    t_same = ap (λ (x : Job). x.t) told.same_job

    k_same : q.job.k ≡ job.k
    k_same = ap (λ (x : Job). x.k) told.same_job

    gone : n % job.t < job.t
    gone = mod-lt n sound.t.low

    split : n % (job.k * job.t) ≡ n % (job.k * job.t) / job.t * job.t + n % job.t
    split = window_split job.t job.k n

    worked : Worked setting job j n seen q
    worked =
        record {
          same_job = told.same_job;
          short = omega (arith, length-drop (window_start job n) seen, mod-le n (job.k * job.t), split, gone);
          u_is = told.u_is;
          s_is = told.s_is;
        }

    pub finished_told : finished_of setting q ≡ finished setting job j n seen
    finished_told = finished_is setting job sound j n seen q worked

    owed_told : owed_of setting q ≡ owed setting job j n seen
    owed_told = owed_is setting job sound j n seen q worked

    s_finished : by_units setting ≡ false → q.at.s ≡ finished setting job j n seen
    unfolding finished
    s_finished e = told.s_is e ∙ periods_rest setting job sound j n seen worked.short ∙ rw e

    pub due_told : eligible_of setting q ≡ due setting job j n seen
    unfolding eligible_of due
    due_told = go (by_units setting) refl
      where
        u : ℕ
        u = of_window setting job j n seen

        go :
            (b : Bool) → by_units setting ≡ b
            → cond b (ltb q.at.u (q.job.m * q.job.c) && ltb q.at.u (q.at.p * q.job.c))
            (ltb q.at.s q.job.m && ltb q.at.v q.job.c)
            ≡ cond b (ltb u (job.m * job.c) && ltb u (periods_begun job n * job.c))
            (ltb (finished setting job j n seen) job.m && ltb (of_period setting job j n seen) job.c)
        go true e = rw (told.u_is e, told.p_is, told.same_job)
        go false e = rw (s_finished e, told.v_is e, told.same_job)

    pub takes_told : takes_spare setting q ≡ takes setting job j n seen
    unfolding takes_spare room_of takes
    takes_told = ap₂ (λ (m' : ℕ) (room : Bool). setting.spare && eqb m' 0 && room) owed_told (go (by_units setting) refl)
      where
        go :
            (b : Bool) → by_units setting ≡ b
            → cond b (ltb q.at.u (q.at.p * q.job.c)) (ltb q.at.s q.at.p && ltb q.at.v q.job.c)
            ≡ cond b (ltb (of_window setting job j n seen) (periods_begun job n * job.c))
            (ltb (finished setting job j n seen) (periods_begun job n) && ltb (of_period setting job j n seen) job.c)
        go true e = rw (told.u_is e, told.p_is, told.same_job)
        go false e = rw (s_finished e, told.v_is e, told.p_is, told.same_job)

    -- the counters, those of the other model too
    pub u_told : q.at.u ≡ cond (eqb setting.model 0) (slots_of j (since_window job n seen)) 0
    u_told =
        by_test (λ (x : ℕ). q.at.u ≡ x) (by_units setting) told.u_is
        (λ e. (place.service.by_instances e).u_unused)

    pub v_told : q.at.v ≡ cond (eqb setting.model 0) 0 (slots_of j (since_period job n seen))
    v_told =
        by_test (λ (x : ℕ). q.at.v ≡ x) (by_units setting)
        (λ e. (place.service.by_units_lem e).v_unused) told.v_is

    pub s_told : q.at.s ≡ cond (eqb setting.model 0) 0 (finished_in job j (since_window job n seen) job.k)
    s_told =
        by_test (λ (x : ℕ). q.at.s ≡ x) (by_units setting)
        (λ e. (place.service.by_units_lem e).s_unused)
        (λ e. told.s_is e ∙ periods_rest setting job sound j n seen worked.short)

    pub left_told : window_left q ≡ (job.k - periods_begun job n + 1) * job.t
    unfolding window_left
    left_told = rw (told.p_is, told.same_job)

    -- the deadline, measured from slot n
    begins : period_start job n + q.at.e ≡ n
    begins = omega (arith, told.e_is, mod-le n job.t)

    -- k'T and the periods before this one make the window
    parts : (job.k - periods_begun job n + 1) * job.t + n % (job.k * job.t) / job.t * job.t ≡ job.k * job.t
    parts =
        let high = begun_high job.t job.k n sound.t.low sound.k.low in
        let all : job.k - periods_begun job n + 1 + n % (job.k * job.t) / job.t ≡ job.k = omega arith in
        omega (arith, ap (◌* job.t) all)

    pub ends_away : n + left_of q ≡ window_end job n
    unfolding left_of
    ends_away = rw left_told (omega (arith, told.e_is, gone, mod-le n (job.k * job.t), split, parts))

    pub away : Away n (deadline setting job j n seen) (due_away setting q)
    unfolding deadline due_away numerator_of
    away = go (in_order_v setting)
      where
        go :
            (b : Bool)
            → Away n (cond b (virtual_deadline setting job j n seen) (record { num = window_end job n; den = 1 }))
            (cond b (virtual_away setting q) (window_away q))
        go true =
            let m' : ℕ = owed_of setting q in
            record {
              same_den = sym owed_told;
              shifted =
                  rw (← owed_told, ← left_told)
                  (omega (arith, difference_parts (window_left q) (q.at.e * m'), ap (◌* m') begins));
            }
        go false = record { same_den = refl; shifted = omega (arith, ends_away) }

    -- 'whose virtual deadline .. is at most the slot number + 1'
    pub overdue_told :
        let d = virtual_deadline setting job j n seen in
        overdue_of setting q ≡ (ltb 0 d.den && leb d.num ((n + 1) * d.den))
    unfolding overdue_of numerator_of
    overdue_told =
        let m' : ℕ = owed_of setting q in
        ap (ltb 0 m' &&◌)
        (difference_most (window_left q) (q.at.e * m') m'
        ∙ leb_shift (window_left q) (q.at.e * m' + m') (period_start job n * m' + window_left q) ((n + 1) * m') (period_start job n * m') 0 (omega arith) (omega (arith, ap (◌* m') begins)))
        ∙ rw (owed_told, left_told)

    -- the window ends with slot n
    pub ends_told : window_ends q ≡ eqb ((n + 1) % (job.k * job.t)) 0
    unfolding window_ends
    ends_told = go (tick job.t job.k n sound.t.low sound.k.low)
      where
        one : (n + 1) % (job.k * job.t) ≡ suc n % (job.k * job.t)
        one = ap (◌% (job.k * job.t)) (omega arith)

        go : Tick job.t job.k n → (eqb (q.at.e + 1) q.job.t && eqb q.at.p q.job.k) ≡ eqb ((n + 1) % (job.k * job.t)) 0
        go (nothing_ends inside stays same) =
            rw
            (ne_eqb (q.at.e + 1) q.job.t (omega (arith, told.e_is, t_same)), ne_eqb ((n + 1) % (job.k * job.t)) 0 (omega (arith, one, cycle_goes_on (job.k * job.t) n stays)))
        go (period_ends ends stays within one_more) =
            rw
            (eq-eqb (q.at.e + 1) q.job.t (omega (arith, told.e_is, t_same)), ne_eqb q.at.p q.job.k (omega (arith, told.p_is, k_same)), ne_eqb ((n + 1) % (job.k * job.t)) 0 (omega (arith, one, cycle_goes_on (job.k * job.t) n stays)))
        go (window_ends_lem ends closes last first) =
            rw
            (eq-eqb (q.at.e + 1) q.job.t (omega (arith, told.e_is, t_same)), eq-eqb q.at.p q.job.k (told.p_is ∙ last ∙ sym k_same), eq-eqb ((n + 1) % (job.k * job.t)) 0 (one ∙ cycle_ends (job.k * job.t) n closes))
