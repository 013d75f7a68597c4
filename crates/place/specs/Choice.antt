-- Who may be given a slot, and which of two is chosen before the other: 'Choose among the eligible jobs', and document 02, Item 1.
use Rattle.std.specs.Prelude.{ℕ, ◌+◌, ◌*◌, Bool, ◌&&◌, ◌||◌, cond, ltb, eqb, pos, ◌*ℤ◌}
use Rattle.std.specs.Int.Signed.{lt_z}
use Rattle.job.specs.Limit.{count_most}
use Rattle.place.specs.declared.setting.Setting.{Setting}
use Rattle.place.specs.declared.record.Place.{Place}
use Rattle.place.specs.declared.inner.choice.Fraction.{Fraction}
use Rattle.place.specs.declared.inner.choice.Held.{Held}
use Rattle.place.specs.Setting.{by_units, in_order_v}
use Rattle.place.specs.Place.{left_of, owed_of, eligible_of, numerator_of}

-- 'still has an unserved instance come due' (02). 'Relaxed: u < pC; original: s < p and v < C.'
unfoldable pub room_of : Setting → Place → Bool
room_of setting q =
    cond (by_units setting) (ltb q.at.u (q.at.p * q.job.c))
    (ltb q.at.s q.at.p && ltb q.at.v q.job.c)

-- 'On, a slot with no eligible job .. goes to a job that has its m and still has an unserved instance come due' (02)
unfoldable pub takes_spare : Setting → Place → Bool
takes_spare setting q = setting.spare && eqb (owed_of setting q) 0 && room_of setting q

-- who may be given a slot
unfoldable pub candidate_of : Setting → Place → Bool
candidate_of setting q = eligible_of setting q || takes_spare setting q

abbrev pub ratio_of : ℕ → ℕ → Fraction
ratio_of num den = record { num = pos num; den = den }

-- how far away, as a fraction of slots. 'Order V: lowest virtual deadline'; 'Order W: soonest window end, k'T − e slots away'
abbrev pub virtual_away : Setting → Place → Fraction
virtual_away setting q = record { num = numerator_of setting q; den = owed_of setting q }

abbrev pub window_away : Place → Fraction
window_away q = ratio_of (left_of q) 1

unfoldable pub due_away : Setting → Place → Fraction
due_away setting q = cond (in_order_v setting) (virtual_away setting q) (window_away q)

-- the most slots of a window, 255 times 4,096
abbrev pub window_most : ℕ
window_most = 1044480

-- 'soonest window end first' (02), and behind every eligible place: none of their deadlines is more than a window away
abbrev pub spare_away : Place → Fraction
spare_away q = ratio_of (window_most + left_of q) 1

unfoldable pub distance_of : Setting → Place → Fraction
distance_of setting q = cond (eligible_of setting q) (due_away setting q) (spare_away q)

-- 'two are compared exactly as fractions'
unfoldable pub nearer_of : Fraction → Fraction → Bool
nearer_of a b = lt_z (a.num *ℤ pos b.den) (b.num *ℤ pos a.den)

-- candidate q is chosen before candidate r, whatever their numbers
unfoldable pub sooner_of : Setting → Place → Place → Bool
sooner_of setting q r = nearer_of (distance_of setting q) (distance_of setting r)

-- the candidate held in a search: its number and its distance
abbrev pub held_at : ℕ → Fraction → Held
held_at i away = record { at = i; away = away }

abbrev pub held_of : Setting → ℕ → Place → Held
held_of setting i q = held_at i (distance_of setting q)

-- nobody yet: the number of no place, and farther than any fraction
abbrev pub no_place : ℕ
no_place = count_most

abbrev pub nobody : Held
nobody = held_at no_place (ratio_of 1 0)

-- the one held after place q of number i. 'Equal: the lower job number.'
unfoldable pub better_of : Setting → Held → ℕ → Place → Held
better_of setting best i q =
    cond (candidate_of setting q && nearer_of (distance_of setting q) best.away) (held_of setting i q) best
