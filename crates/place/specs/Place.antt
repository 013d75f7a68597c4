-- One place over one slot ('One slot, in order').
use Rattle.std.specs.Prelude.{ℕ, ◌+◌, ◌-◌, ◌*◌, ◌/◌, ◌%◌, Bool, ◌&&◌, ◌||◌, not, cond, ltb, eqb, ℤ, pos, ◌-ℤ◌}
use Rattle.std.specs.Int.Signed.{le_z}
use Rattle.place.specs.declared.setting.Setting.{Setting}
use Rattle.place.specs.declared.record.Place.{Place}
use Rattle.place.specs.declared.inner.service.Outcome.{Outcome}
use Rattle.place.specs.declared.inner.service.Passage.{Passage}
use Rattle.place.specs.Setting.{by_units}
use Rattle.place.specs.Opening.{opened}

-- a place with other progress
abbrev pub progressed : Place → ℕ → ℕ → ℕ → ℕ → ℕ → Bool → Place
progressed q e p u s v tag = record { job = q.job; at = record { e = e; p = p; u = u; s = s; v = v; tag = tag } }

-- a place at another slot of its window, with other service, with another tag
abbrev pub at_slot : Place → ℕ → ℕ → Place
at_slot q e p = let r = q.at in progressed q e p r.u r.s r.v r.tag

abbrev pub with_service : Place → ℕ → ℕ → ℕ → Place
with_service q u s v = let r = q.at in progressed q r.e r.p u s v r.tag

abbrev pub with_tag : Place → Bool → Place
with_tag q tag = let r = q.at in progressed q r.e r.p r.u r.s r.v tag

-- 'Write k' = k−p+1'; k'T, the slots from this period's start to the window's end
unfoldable pub window_left : Place → ℕ
window_left q = (q.job.k - q.at.p + 1) * q.job.t

-- 'k'T − e slots away': the slots from now to the window's end
unfoldable pub left_of : Place → ℕ
left_of q = window_left q - q.at.e

-- 'Finished instances: u divided by C, rounded down' (relaxed); 'Keep s (finished in this window)' (original)
unfoldable pub finished_of : Setting → Place → ℕ
finished_of setting q = cond (by_units setting) (q.at.u / q.job.c) q.at.s

-- 'm' = m minus the instances finished in this window'
unfoldable pub owed_of : Setting → Place → ℕ
owed_of setting q = q.job.m - finished_of setting q

-- 'eligible exactly if u < m times C and u < p times C' (relaxed); 'exactly if s < m and v < C' (original)
unfoldable pub eligible_of : Setting → Place → Bool
eligible_of setting q =
    cond (by_units setting)
    (ltb q.at.u (q.job.m * q.job.c) && ltb q.at.u (q.at.p * q.job.c))
    (ltb q.at.s q.job.m && ltb q.at.v q.job.c)

-- 'Measured from now it is (k'T − e times m') / m', which may be zero or negative': the numerator
unfoldable pub numerator_of : Setting → Place → ℤ
numerator_of setting q = pos (window_left q) -ℤ pos (q.at.e * owed_of setting q)

-- 'm' > 0 before the slot and whose virtual deadline is at most the slot number + 1'
unfoldable pub overdue_of : Setting → Place → Bool
overdue_of setting q = ltb 0 (owed_of setting q) && le_z (numerator_of setting q) (pos (owed_of setting q))

-- 'one more unit to the job chosen'; 'When v reaches C, s grows by one.'
unfoldable pub served_of : Setting → Place → Place
served_of setting q =
    let r = q.at in
    cond (by_units setting)
    (with_service q (r.u + 1) r.s r.v)
    (with_service q r.u (cond (eqb (r.v + 1) q.job.c) (r.s + 1) r.s) (r.v + 1))

-- whether one more unit finishes an instance: u + 1 is a multiple of C (relaxed); v + 1 is C (original)
unfoldable pub finishes_of : Setting → Place → Bool
finishes_of setting q = cond (by_units setting) (eqb ((q.at.u + 1) % q.job.c) 0) (eqb (q.at.v + 1) q.job.c)

-- whether the slot tags the place, first or again: 'Tag the job chosen too, unless it finishes an instance in that slot' (02, Item 2)
unfoldable pub tags_of : Setting → Place → Bool → Bool
tags_of setting q chosen = overdue_of setting q && not (chosen && finishes_of setting q)

-- 'the set of jobs first tagged in their window'
unfoldable pub first_tagged : Setting → Place → Bool → Bool
first_tagged setting q chosen = tags_of setting q chosen && not q.at.tag

-- 'Give the slot'
unfoldable pub given_of : Setting → Place → Bool → Place
given_of setting q chosen = cond chosen (served_of setting q) q

abbrev pub tagged_of : Place → Bool → Place
tagged_of q tags = with_tag q (tags || q.at.tag)

-- the service of the slot, then its tag
unfoldable pub worked_of : Setting → Place → Bool → Place
worked_of setting q chosen = tagged_of (given_of setting q chosen) (tags_of setting q chosen)

-- the slot is the last of its period, and of its window
unfoldable pub window_ends : Place → Bool
window_ends q = eqb (q.at.e + 1) q.job.t && eqb q.at.p q.job.k

-- 'A window is short exactly if it ends with m' > 0.'
unfoldable pub short_of : Setting → Place → Bool
short_of setting q = window_ends q && ltb 0 (owed_of setting q)

-- 'Where e reaches T the period ends; where the k-th period ends, the window ends. .. Then tag and service counters are cleared and p is 1.'
-- 'At a period's end v becomes 0'
unfoldable pub turned_of : Place → Place
turned_of q =
    let r = q.at in
    cond (ltb (r.e + 1) q.job.t)
    (at_slot q (r.e + 1) r.p)
    (cond (ltb r.p q.job.k)
    (with_service (at_slot q 0 (r.p + 1)) r.u r.s 0)
    (opened q.job))

-- the place after the slot; whether it is first tagged in it; whether its window ends short
unfoldable pub moved_of : Setting → Place → Bool → Outcome
moved_of setting q chosen =
    let worked = worked_of setting q chosen in
    record { place = turned_of worked; tagged = first_tagged setting q chosen; short = short_of setting worked }

-- the same where nobody asks for the tag: it is left as it is
unfoldable pub passed_of : Setting → Place → Bool → Passage
passed_of setting q chosen =
    let given = given_of setting q chosen in
    record { place = turned_of given; short = short_of setting given }
