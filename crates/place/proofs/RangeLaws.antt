-- The range of a place: the test of row 10 and the facts of specs/Sound.
use mathlib.Core.Path.{◌≡◌, refl, ap}
use mathlib.Core.Bool.{Bool, true, false, ◌&&◌, ◌||◌, not, cond}
use mathlib.Core.Logic.{◌↔◌}
use Prim.Native.Nat.{◌*◌, ◌≤◌}
use native.Mathlib.Omega.{arith}
use lib.Dec.{leb, ltb, eqb}
use borrow.Author.Tests.{not-true, ltb-true, leb-true, eqb-true, eqb-false, lt-ltb, le-leb}
use Rattle.job.proofs.TestLaws.{clash, both, three, four}
use Rattle.job.proofs.Meaning.{job_passes_exactly}
use Rattle.place.specs.declared.setting.Setting.{Setting}
use Rattle.place.specs.declared.record.Place.{Place}
use Rattle.place.specs.Setting.{by_units}
use Rattle.place.specs.Opening.{blank}
use Rattle.place.specs.Range.{job_passes, within_m, units_in_range, instances_in_range, service_in_range, progress_in_range, place_blank, place_in_range}
use Rattle.place.specs.Sound.{ServiceByUnits, ServiceByInstances, SoundService, SoundPlace}

-- the service of a place
module _ (q : Place) where
  units_exactly : (units_in_range q ≡ true) ↔ ServiceByUnits q.job q.at.p q.at.u q.at.s q.at.v
  unfolding units_in_range
  units_exactly = (
    λ e.
        let t = three (leb q.at.u (q.at.p * q.job.c)) (eqb q.at.s 0) (eqb q.at.v 0) e in
        record {
          u_p = leb-true q.at.u (q.at.p * q.job.c) t.0;
          s_unused = eqb-true q.at.s 0 t.1;
          v_unused = eqb-true q.at.v 0 t.2;
        },
    λ r. simp (le-leb q.at.u (q.at.p * q.job.c) r.u_p, r.s_unused, r.v_unused),
  )

  instances_exactly : (instances_in_range q ≡ true) ↔ ServiceByInstances q.job q.at.p q.at.u q.at.s q.at.v
  unfolding instances_in_range
  instances_exactly = go (eqb q.at.v q.job.c) refl
    where
      go :
          (full : Bool) → eqb q.at.v q.job.c ≡ full
          → (cond full (leb 1 q.at.s && leb q.at.s q.at.p && eqb q.at.u 0)
          (leb q.at.v q.job.c && ltb q.at.s q.at.p && eqb q.at.u 0)
          ≡ true)
          ↔ ServiceByInstances q.job q.at.p q.at.u q.at.s q.at.v
      go true f =
          let full = eqb-true q.at.v q.job.c f in (
            λ e.
                let t = three (leb 1 q.at.s) (leb q.at.s q.at.p) (eqb q.at.u 0) e in
                record {
                  v_c = omega arith;
                  s_p = leb-true q.at.s q.at.p t.1;
                  s_open = λ less. absurd (omega arith);
                  s_full = λ _. leb-true 1 q.at.s t.0;
                  u_unused = eqb-true q.at.u 0 t.2;
                },
            λ o. simp (le-leb 1 q.at.s (o.s_full full), le-leb q.at.s q.at.p o.s_p, o.u_unused),
          )
      go false f =
          let apart = eqb-false q.at.v q.job.c f in (
            λ e.
                let t = three (leb q.at.v q.job.c) (ltb q.at.s q.at.p) (eqb q.at.u 0) e in
                let room = ltb-true q.at.s q.at.p t.1 in
                record {
                  v_c = leb-true q.at.v q.job.c t.0;
                  s_p = omega arith;
                  s_open = λ _. room;
                  s_full = λ full. absurd (apart full);
                  u_unused = eqb-true q.at.u 0 t.2;
                },
            λ o.
                let high = o.v_c in
                let room = o.s_open (omega arith) in
                simp (le-leb q.at.v q.job.c high, lt-ltb q.at.s q.at.p room, o.u_unused),
          )

module _ (setting : Setting) (q : Place) where
  abbrev Service : Type 0
  Service = SoundService setting q.job q.at.p q.at.u q.at.s q.at.v

  -- the limit of m
  abbrev InM : Type 0
  InM = (setting.spare ≡ false → q.at.u ≤ q.job.m * q.job.c) × (setting.spare ≡ false → q.at.s ≤ q.job.m)

  within_exactly : (within_m setting q ≡ true) ↔ InM
  unfolding within_m
  within_exactly = go setting.spare refl
    where
      in_u : Bool
      in_u = leb q.at.u (q.job.m * q.job.c)

      in_s : Bool
      in_s = leb q.at.s q.job.m

      go : (spare : Bool) → setting.spare ≡ spare → ((spare || (in_u && in_s)) ≡ true) ↔ InM
      go true on = (λ e. (λ off. absurd (clash off on), λ off. absurd (clash off on)), λ m. refl)
      go false off = (
        λ e.
            let t = both in_u in_s e in
            (λ _. leb-true q.at.u (q.job.m * q.job.c) t.0, λ _. leb-true q.at.s q.job.m t.1),
        λ m. rw (le-leb q.at.u (q.job.m * q.job.c) (m.0 off), le-leb q.at.s q.job.m (m.1 off)),
      )

  service_exactly : (service_in_range setting q ≡ true) ↔ Service
  unfolding service_in_range
  service_exactly = go (by_units setting) refl
    where
      go :
          (units : Bool) → by_units setting ≡ units
          → ((within_m setting q && cond units (units_in_range q) (instances_in_range q)) ≡ true) ↔ Service
      go true e = (
        λ t.
            let parts = both (within_m setting q) (units_in_range q) t in
            let m = within_exactly.0 parts.0 in
            record {
              u_m = m.0;
              s_m = m.1;
              by_units_lem = λ is. (units_exactly q).0 parts.1;
              by_instances = λ is. absurd (clash is e);
            },
        λ s. rw (within_exactly.1 (s.u_m, s.s_m)) ((units_exactly q).1 (s.by_units_lem e)),
      )
      go false e = (
        λ t.
            let parts = both (within_m setting q) (instances_in_range q) t in
            let m = within_exactly.0 parts.0 in
            record {
              u_m = m.0;
              s_m = m.1;
              by_units_lem = λ is. absurd (clash e is);
              by_instances = λ is. (instances_exactly q).0 parts.1;
            },
        λ s. rw (within_exactly.1 (s.u_m, s.s_m)) ((instances_exactly q).1 (s.by_instances e)),
      )

  -- a listed place
  pub place_facts : place_in_range setting true q ≡ true → SoundPlace setting q
  unfolding place_in_range progress_in_range job_passes
  place_facts e =
      let parts = both (job_passes q.job) (progress_in_range setting q) e in
      let t = four (ltb q.at.e q.job.t) (leb 1 q.at.p) (leb q.at.p q.job.k) (service_in_range setting q) parts.1 in
      record {
        job = (job_passes_exactly 0 q.job).0 parts.0;
        e_high = ltb-true q.at.e q.job.t t.0;
        period = record { low = leb-true 1 q.at.p t.1; high = leb-true q.at.p q.job.k t.2 };
        service = service_exactly.0 t.3;
      }

  pub place_test : SoundPlace setting q → place_in_range setting true q ≡ true
  unfolding place_in_range progress_in_range job_passes
  place_test s =
      simp
      ((job_passes_exactly 0 q.job).1 s.job, lt-ltb q.at.e q.job.t s.e_high, le-leb 1 q.at.p s.period.low, le-leb q.at.p q.job.k s.period.high, service_exactly.1 s.service)

-- a place past the last job
pub blank_facts : (q : Place) → place_blank q ≡ true → q ≡ blank
unfolding place_blank
blank_facts q e =
    let j = q.job in
    let r = q.at in
    let numbers = eqb j.c 0 && eqb j.t 0 && eqb j.m 0 && eqb j.k 0 in
    let last = four (numbers && eqb r.e 0 && eqb r.p 0 && eqb r.u 0) (eqb r.s 0) (eqb r.v 0) (not r.tag) e in
    let mid = four numbers (eqb r.e 0) (eqb r.p 0) (eqb r.u 0) last.0 in
    let first = four (eqb j.c 0) (eqb j.t 0) (eqb j.m 0) (eqb j.k 0) mid.0 in
    go (eqb-true j.c 0 first.0) (eqb-true j.t 0 first.1) (eqb-true j.m 0 first.2) (eqb-true j.k 0 first.3) (eqb-true r.e 0 mid.1) (eqb-true r.p 0 mid.2) (eqb-true r.u 0 mid.3) (eqb-true r.s 0 last.1) (eqb-true r.v 0 last.2) (not-true r.tag last.3)
  where
    go :
        q.job.c ≡ 0 → q.job.t ≡ 0 → q.job.m ≡ 0 → q.job.k ≡ 0 → q.at.e ≡ 0 → q.at.p ≡ 0 → q.at.u ≡ 0 → q.at.s ≡ 0
        → q.at.v ≡ 0 → q.at.tag ≡ false → q ≡ blank
    go c t m k e p u s v tag =
        λ i. record { job = record { c = c i; t = t i; m = m i; k = k i }; at = record { e = e i; p = p i; u = u i; s = s i; v = v i; tag = tag i } }

pub blank_test : {q : Place} → q ≡ blank → place_blank q ≡ true
unfolding place_blank
blank_test e = ap place_blank e
