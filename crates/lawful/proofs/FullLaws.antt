-- In the relaxed model a timetable is full exactly if no window that ends in it is short by the rules.
use mathlib.Core.Path.{◌≡◌, refl, sym, ap, ap₂, ◌∙◌}
use mathlib.Core.Bool.{Bool, true, false, ◌&&◌}
use mathlib.Core.List.{List}
use Prim.Native.Nat.{ℕ, ◌+◌, ◌-◌, ◌*◌, ◌/◌, ◌%◌, ◌≤◌, ◌<◌}
use native.Mathlib.Nat.{div-add-mod', le-div_iff_mul-le, mul-pos, mul-mod_left, suc-mul, lt_of_mul-lt-mul_right}
use native.Mathlib.Omega.{arith}
use lib.Arith.{digits_mod}
use lib.Dec.{eqb, ltb}
use lib.ListN.{length, take, drop}
use borrow.Author.Tests.{eqb-true, eq-eqb, le-ltb, ltb-false}
use Rattle.job.specs.declared.record.Job.{Job}
use Rattle.job.specs.declared.list.JobList.{JobList}
use Rattle.job.specs.Sound.{SoundJob, SoundList}
use Rattle.place.specs.declared.setting.Setting.{Setting}
use Rattle.rules.specs.Rules.{slots_of, window_start, since_window, finished, job_of, ends_short}
use Rattle.lawful.specs.Lawful.{Full}
use Rattle.lawful.proofs.TimetableLaws.{part_of_front}

module _ (l : JobList) (setting : Setting) (relaxed : setting.model ≡ 0) (bytes : List ℕ) (i : ℕ) (listed : i < l.count) (sound : SoundJob (job_of l i)) where
  abbrev job : Job
  job = job_of l i

  abbrev window : ℕ
  window = job.k * job.t

  -- the slots of the job in the window that slot n is in, that slot counted
  abbrev had : ℕ → ℕ
  had n = slots_of i (since_window job n (take (n + 1) bytes))

  some : 0 < window
  some = mul-pos sound.k.low sound.t.low

  -- window number w, from its last slot
  window_seen : (w n : ℕ) → w * window + window ≡ n + 1 → n < length bytes → slots_of i (take window (drop (w * window) bytes)) ≡ had n
  window_seen w n last inside =
      let low : 0 < window = some in
      let place : w * window + (window - 1) ≡ n = omega arith in
      let rest : n % window ≡ window - 1 = ap (◌% window) (sym place) ∙ digits_mod w (omega arith) in
      let start : window_start job n ≡ w * window = omega arith in
      ap (slots_of i)
      (part_of_front (w * window) window bytes (omega arith)
      ∙ ap₂ (λ (from upto : ℕ). drop from (take upto bytes)) (sym start) last)

  short_by : (n : ℕ) → ends_short l setting bytes n i ≡ (eqb ((n + 1) % window) 0 && ltb 0 (job.m - had n / job.c))
  unfolding ends_short finished
  short_by n = rw (eq-eqb setting.model 0 relaxed)

  pub not_short : Full l bytes → (n : ℕ) → n < length bytes → ends_short l setting bytes n i ≡ false
  not_short full n inside = short_by n ∙ go (eqb ((n + 1) % window) 0) refl
    where
      go : (b : Bool) → eqb ((n + 1) % window) 0 ≡ b → (b && ltb 0 (job.m - had n / job.c)) ≡ false
      go false e = refl
      go true e =
          let closes = eqb-true ((n + 1) % window) 0 e in
          let whole : (n + 1) / window * window ≡ n + 1 = omega (arith, div-add-mod' (n + 1) window) in
          let more : 0 < (n + 1) / window = lt_of_mul-lt-mul_right window (omega arith) in
          let w : ℕ = (n + 1) / window - 1 in
          let one_less : w + 1 ≡ (n + 1) / window = omega arith in
          let last : w * window + window ≡ n + 1 = omega (arith, ap (◌* window) one_less) in
          let enough : job.m * job.c ≤ had n = rw (← window_seen w n last inside) (full i listed w (omega arith)) in
          let done : job.m ≤ had n / job.c = (le-div_iff_mul-le sound.c.low).1 enough in
          le-ltb 0 (job.m - had n / job.c) (omega arith)

  full_where :
      ((n : ℕ) → n < length bytes → ends_short l setting bytes n i ≡ false) → (w : ℕ) → w * window + window ≤ length bytes
      → job.m * job.c ≤ slots_of i (take window (drop (w * window) bytes))
  full_where none w inside =
      let n : ℕ = w * window + (window - 1) in
      let last : w * window + window ≡ n + 1 = omega (arith, some) in
      let whole : (n + 1) % window ≡ 0 = ap (◌% window) (sym last ∙ omega (arith, suc-mul w window)) ∙ mul-mod_left (w + 1) window in
      let not-owed : ltb 0 (job.m - had n / job.c) ≡ false =
      ap (◌&& ltb 0 (job.m - had n / job.c)) (sym (eq-eqb ((n + 1) % window) 0 whole)) ∙ sym (short_by n) ∙ none n (omega arith) in
      let owes = ltb-false 0 (job.m - had n / job.c) not-owed in
      rw (window_seen w n last (omega arith)) ((le-div_iff_mul-le sound.c.low).0 (omega arith))

-- where no window ends short
pub none_short :
    (l : JobList) → SoundList l → (setting : Setting) → setting.model ≡ 0 → (bytes : List ℕ)
    → ((i : ℕ) → i < l.count → (n : ℕ) → n < length bytes → ends_short l setting bytes n i ≡ false) → Full l bytes
none_short l jobs setting relaxed bytes none i listed = full_where l setting relaxed bytes i listed (jobs.jobs i listed) (none i listed)
