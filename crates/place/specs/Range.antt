-- 'A state is in its ranges when ..': row 10 for one place, as a test.
use Rattle.std.specs.Prelude.{◌*◌, Bool, ◌&&◌, ◌||◌, not, cond, leb, ltb, eqb}
use Rattle.job.specs.declared.record.Job.{Job}
use Rattle.job.specs.Check.{job_told}
use Rattle.place.specs.declared.setting.Setting.{Setting}
use Rattle.place.specs.declared.record.Place.{Place}
use Rattle.place.specs.Setting.{by_units}

-- 'its jobs pass 1 to 6'
unfoldable pub job_passes : Job → Bool
job_passes j = eqb (job_told 0 j).number 0

-- 'u ≤ .. mC', 's ≤ m': 'unused counters are 0', and so within m too. With spare on 'the ranges become u ≤ pC, and s loses its m limit' (02)
unfoldable pub within_m : Setting → Place → Bool
within_m setting q = setting.spare || (leb q.at.u (q.job.m * q.job.c) && leb q.at.s q.job.m)

-- 'u ≤ .. pC (relaxed)', 'unused counters are 0'
unfoldable pub units_in_range : Place → Bool
units_in_range q = leb q.at.u (q.at.p * q.job.c) && eqb q.at.s 0 && eqb q.at.v 0

-- 'v ≤ C and s ≤ p−1, plus one if v = C, with s ≥ 1 if v = C (original)', 'unused counters are 0'
unfoldable pub instances_in_range : Place → Bool
instances_in_range q =
    let r = q.at in
    cond (eqb r.v q.job.c)
    (leb 1 r.s && leb r.s r.p && eqb r.u 0)
    (leb r.v q.job.c && ltb r.s r.p && eqb r.u 0)

unfoldable pub service_in_range : Setting → Place → Bool
service_in_range setting q = within_m setting q && cond (by_units setting) (units_in_range q) (instances_in_range q)

-- 'e (slots gone in its period, 0 to T−1), p (period in its window, 1 to k)'
unfoldable pub progress_in_range : Setting → Place → Bool
progress_in_range setting q =
    ltb q.at.e q.job.t && leb 1 q.at.p && leb q.at.p q.job.k && service_in_range setting q

-- 'places past the last job are all zero'
unfoldable pub place_blank : Place → Bool
place_blank q =
    let j = q.job in
    let r = q.at in
    eqb j.c 0 && eqb j.t 0 && eqb j.m 0 && eqb j.k 0 && eqb r.e 0 && eqb r.p 0 && eqb r.u 0
    && eqb r.s 0 && eqb r.v 0 && not r.tag

unfoldable pub place_in_range : Setting → Bool → Place → Bool
place_in_range setting listed q = cond listed (job_passes q.job && progress_in_range setting q) (place_blank q)
