-- The tag of a place over one slot: while it has none, it lacks no more instances than its window has slots (document 02, Item 2).
use mathlib.Core.Path.{◌≡◌, refl, sym, ap, ap₂, ◌∙◌}
use mathlib.Core.Bool.{Bool, true, false, ◌&&◌, cond, and-true}
use mathlib.Core.Logic.{◌⊎◌, inl, inr}
use Prim.Native.Nat.{ℕ, zero, suc, ◌+◌, ◌-◌, ◌*◌, ◌/◌, ◌%◌, ◌≤◌, ◌<◌}
use native.Mathlib.Nat.{mul-le-mul, le_refl}
use native.Mathlib.Omega.{arith}
use lib.Dec.{eqb, ltb}
use borrow.Author.Tests.{ltb-true, leb-false}
use Rattle.job.specs.declared.record.Job.{Job}
use Rattle.job.specs.Sound.{SoundJob}
use Rattle.place.specs.declared.setting.Setting.{Setting}
use Rattle.place.specs.declared.record.Place.{Place}
use Rattle.place.specs.Setting.{by_units}
use Rattle.place.specs.Opening.{opened}
use Rattle.place.specs.Place.{window_left, left_of, finished_of, owed_of, overdue_of, finishes_of, tags_of, worked_of, window_ends, short_of, moved_of}
use Rattle.place.specs.Sound.{SoundPlace}
use Rattle.job.proofs.TestLaws.{both, neither}
use Rattle.place.proofs.CycleLaws.{whole_next}
use Rattle.place.proofs.BoundLaws.{window_low, left_low, overdue_is, owed_most}
use Rattle.place.proofs.PlaceLaws.{opened_sound}
use Rattle.place.proofs.CounterLaws.{Served, worked, worked_ends, worked_tag}
use Rattle.place.proofs.WindowLaws.{Stays, Ends, opened_left, window_last, moved_view}

-- 'counted from its opening': from an arbitrary state it need not hold, since tags are free
abbrev pub Untagged : Setting → Place → Type 0
Untagged setting q = q.at.tag ≡ false → owed_of setting q ≤ left_of q

-- where the virtual deadline is past the next slot, there is a slot more than what is owed
few_owed : (w e m : ℕ) → e < w → (e + 1) * m < w → m < w - e
few_owed w e zero open_still later = omega arith
few_owed w e (suc m) open_still later = omega arith

-- a window opens so: 'm ≤ k', and it has k periods of at least a slot
pub untagged_opened : (setting : Setting) (j : Job) → SoundJob j → Untagged setting (opened j)
untagged_opened setting j sound none =
    let most : owed_of setting (opened j) ≤ j.m = owed_most {setting = setting} (opened_sound sound) in
    omega (arith, opened_left sound, sound.m.high, mul-le-mul {n₁ = j.k} {m₁ = 1} (le_refl j.k) sound.t.low)

module _ {setting : Setting} {q : Place} (sound : SoundPlace setting q) (chosen : Bool) where
  abbrev given : Place
  given = worked_of setting q chosen

  served : Served setting q chosen given
  served = worked setting q chosen

  abbrev finishes : Bool
  finishes = chosen && finishes_of setting q

  -- the slot finishes an instance, or none
  pub finished_worked : finished_of setting given ≡ cond finishes (finished_of setting q + 1) (finished_of setting q)
  unfolding finished_of finishes_of
  finished_worked = go (by_units setting) refl chosen served
    where
      go :
          (b : Bool) → by_units setting ≡ b → (c : Bool) {r : Place} → Served setting q c r
          → cond b (r.at.u / r.job.c) r.at.s
          ≡ cond (c && cond b (eqb ((q.at.u + 1) % q.job.c) 0) (eqb (q.at.v + 1) q.job.c))
          (cond b (q.at.u / q.job.c) q.at.s + 1) (cond b (q.at.u / q.job.c) q.at.s)
      go true e true w =
          ap₂ ◌/◌ (w.u_more e) (ap (λ (j : Job). j.c) w.same_job) ∙ whole_next q.job.c q.at.u sound.job.c.low
      go true e false w = ap₂ ◌/◌ (w.u_more e) (ap (λ (j : Job). j.c) w.same_job)
      go false e true w = w.s_more e
      go false e false w = w.s_more e

  m_given : given.job.m ≡ q.job.m
  m_given = ap (λ (j : Job). j.m) served.same_job

  -- with no tag after the slot, there is a slot more than what is owed then: one for this
  owed_given : Untagged setting q → given.at.tag ≡ false → owed_of setting given < left_of q
  unfolding owed_of tags_of left_of
  owed_given fits none = go finishes refl
    where
      tests : (tags_of setting q chosen ≡ false) × (q.at.tag ≡ false)
      tests = neither (tags_of setting q chosen) q.at.tag (sym (worked_tag setting q chosen) ∙ none)

      go : (b : Bool) → finishes ≡ b → owed_of setting given < left_of q
      go true e =
          let done : finished_of setting given ≡ finished_of setting q + 1 = rw e at finished_worked in
          omega (arith, m_given, fits tests.1, left_low sound)
      go false e =
          let same : finished_of setting given ≡ finished_of setting q = rw e at finished_worked in
          let not_late : overdue_of setting q ≡ false = sym (and-true (overdue_of setting q)) ∙ (rw e at tests.0) in
          let later = leb-false (window_left q) ((q.at.e + 1) * owed_of setting q) (overdue_is sound ∙ not_late) in
          let few = few_owed (window_left q) q.at.e (owed_of setting q) (omega (arith, window_low sound, sound.e_high)) (omega arith) in
          omega (arith, m_given)

  -- 'A window that ends untagged is not short'
  pub short_tagged : Untagged setting q → short_of setting given ≡ true → given.at.tag ≡ true
  unfolding short_of
  short_tagged fits short = go given.at.tag refl
    where
      tests : (window_ends given ≡ true) × (ltb 0 (owed_of setting given) ≡ true)
      tests = both (window_ends given) (ltb 0 (owed_of setting given)) short

      last : left_of q ≡ 1
      last = window_last q (sym (worked_ends setting q chosen) ∙ tests.0)

      go : (b : Bool) → given.at.tag ≡ b → b ≡ true
      go true e = refl
      go false e = absurd (omega (arith, owed_given fits e, ltb-true 0 (owed_of setting given) tests.1, last))

  -- the law goes on from slot to slot
  pub untagged_next : Untagged setting q → Untagged setting (moved_of setting q chosen).place
  unfolding owed_of finished_of
  untagged_next fits = go (moved_view sound chosen)
    where
      next : Place
      next = (moved_of setting q chosen).place

      go : Stays setting q chosen next ⊎ Ends q next → Untagged setting next
      go (inl s) =
          λ none.
          let owed_same : owed_of setting next ≡ owed_of setting given = rw (s.same_job, s.same_u, s.same_s, served.same_job) in
          omega (arith, owed_given fits (sym s.same_tag ∙ none), s.one_less)
      go (inr s) = rw s.opens (untagged_opened setting q.job sound.job)
