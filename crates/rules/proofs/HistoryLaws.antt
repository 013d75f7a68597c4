-- The counters of one place, told by the choices since it was opened: at the opening of its window, and one slot on.
use mathlib.Core.Path.{◌≡◌, refl, sym, ap, subst, ◌∙◌}
use mathlib.Core.Bool.{Bool, true, false, cond}
use mathlib.Core.List.{List, [], ◌∷◌, ◌++◌}
use Prim.Native.Nat.{ℕ, suc, ◌+◌, ◌-◌, ◌*◌, ◌/◌, ◌%◌, ◌≤◌, ◌<◌}
use native.Mathlib.Nat.{zero-mod, zero-div, mod-lt, mod-le}
use native.Mathlib.Omega.{arith}
use lib.Dec.{eqb, leb}
use lib.ListN.{length, drop, length-append, length-drop}
use lib.Seq.{drop-drop, drop-append-le}
use borrow.Author.Tests.{eqb-true, eqb-false, le-leb, lt-leb}
use Rattle.job.specs.declared.record.Job.{Job}
use Rattle.job.specs.Sound.{SoundJob}
use Rattle.job.specs.Window.{window_of}
use Rattle.place.specs.declared.setting.Setting.{Setting}
use Rattle.place.specs.declared.record.Place.{Place}
use Rattle.place.specs.Opening.{opened}
use Rattle.place.specs.Setting.{by_units}
use Rattle.place.specs.Place.{worked_of, turned_of, moved_of}
use Rattle.place.specs.Choice.{candidate_of}
use Rattle.place.specs.Sound.{SoundPlace}
use Rattle.rules.specs.Rules.{slots_of, finished_in, period_start, since_window, periods_begun}
use Rattle.place.proofs.CycleLaws.{cycle_goes_on, cycle_ends}
use Rattle.place.proofs.CounterLaws.{Served, worked, turned_on, turned_period, turned_window}
use Rattle.place.proofs.PlaceLaws.{candidate_instances}
use Rattle.rules.proofs.BytesLaws.{count_in_none, count_in_more, finished_none, finished_append, finished_open, finished_empty}
use Rattle.rules.proofs.CycleLaws.{Tick, nothing_ends, period_ends, window_ends_lem, since_goes_on, since_none, window_split, tick}

-- the bytes of the open period
abbrev pub since_period : Job → ℕ → List ℕ → List ℕ
since_period job n bytes = drop (period_start job n) bytes

-- place q of job number j, n slots after it was opened; `bytes` are the choices since then. In a run of a list every place is opened at slot
-- 0, so that n is the clock and `bytes` all choices.
pub record PlaceHistory (setting : Setting) (job : Job) (j n : ℕ) (bytes : List ℕ) (q : Place) : Type 0 where
  pub same_job : q.job ≡ job
  pub e_is : q.at.e ≡ n % job.t
  pub p_is : q.at.p ≡ periods_begun job n
  pub u_is : by_units setting ≡ true → q.at.u ≡ slots_of j (since_window job n bytes)
  pub v_is : by_units setting ≡ false → q.at.v ≡ slots_of j (since_period job n bytes)
  pub s_is : by_units setting ≡ false → q.at.s ≡ finished_in job j (since_window job n bytes) (periods_begun job n)

-- what a place has had of its window, by the bytes seen: those before slot n, or its own too
pub record Worked (setting : Setting) (job : Job) (j n : ℕ) (seen : List ℕ) (q : Place) : Type 0 where
  pub same_job : q.job ≡ job
  pub short : length (since_window job n seen) ≤ periods_begun job n * job.t
  pub u_is : by_units setting ≡ true → q.at.u ≡ slots_of j (since_window job n seen)
  pub s_is : by_units setting ≡ false → q.at.s ≡ finished_in job j (since_window job n seen) (periods_begun job n)

-- where a cycle opens, no slot of it is given yet
none_since : (j m n : ℕ) (bytes : List ℕ) → length bytes ≡ n → n % m ≡ 0 → slots_of j (drop (n - n % m) bytes) ≡ 0
none_since j m n bytes long opens = ap (slots_of j) (since_none m n bytes long opens) ∙ count_in_none (λ b. eqb b j)

-- where a window opens
opens :
    (setting : Setting) (job : Job) → SoundJob job → (j n : ℕ) (bytes : List ℕ) → length bytes ≡ n → n % job.t ≡ 0
    → n % window_of job ≡ 0 → PlaceHistory setting job j n bytes (opened job)
opens setting job sound j n bytes long period window =
    let first : periods_begun job n ≡ 1 = ap (λ (x : ℕ). x / job.t + 1) window ∙ ap (◌+ 1) (zero-div job.t) in
    record {
      same_job = refl;
      e_is = sym period;
      p_is = sym first;
      u_is = λ m. sym (none_since j (window_of job) n bytes long window);
      v_is = λ m. sym (none_since j job.t n bytes long period);
      s_is =
          λ m.
          sym
          (rw (since_none (window_of job) n bytes long window, first)
          (finished_empty job j [] 0 sound.c.low (omega arith) ∙ finished_none job j []));
    }

pub history_starts :
    (setting : Setting) (job : Job) → SoundJob job → (j : ℕ) → PlaceHistory setting job j 0 [] (opened job)
history_starts setting job sound j = opens setting job sound j 0 [] refl (zero-mod job.t) (zero-mod (window_of job))

-- the instances finished, from the slots v of the open period and those finished before it
finished_step :
    (chosen : Bool) (c v s past : ℕ) → s ≡ cond (leb c v) (past + 1) past → (chosen ≡ true → v < c)
    → cond chosen (cond (eqb (v + 1) c) (s + 1) s) s ≡ cond (leb c (cond chosen (v + 1) v)) (past + 1) past
finished_step false c v s past now less = now
finished_step true c v s past now less = go (eqb (v + 1) c) refl
  where
    unfinished : s ≡ past
    unfinished = now ∙ rw (lt-leb c v (less refl))

    go : (b : Bool) → eqb (v + 1) c ≡ b → cond b (s + 1) s ≡ cond (leb c (v + 1)) (past + 1) past
    go true e = rw (le-leb c (v + 1) (omega (arith, eqb-true (v + 1) c e))) (ap (◌+ 1) unfinished)
    go false e = rw (lt-leb c (v + 1) (omega (arith, less refl, eqb-false (v + 1) c e))) unfinished

-- one slot of a place, with the byte b
module _
    (setting : Setting) (j n : ℕ) (bytes : List ℕ) (b : ℕ) (q : Place) (before : PlaceHistory setting q.job j n bytes q)
    (sound : SoundPlace setting q) (long : length bytes ≡ n) (fair : eqb b j ≡ true → candidate_of setting q ≡ true)
  where
    abbrev job : Job
    job = q.job

    abbrev window : List ℕ
    window = since_window job n bytes

    abbrev period : List ℕ
    period = since_period job n bytes

    -- the whole periods of the window before the open one, and their slots
    abbrev past : ℕ
    past = n % window_of job / job.t

    abbrev whole : ℕ
    whole = past * job.t

    split : n % window_of job ≡ whole + n % job.t
    split = window_split job.t job.k n

    window_long : length window ≡ whole + n % job.t
    window_long = omega (arith, length-drop (n - n % window_of job) bytes, mod-le n (window_of job), split)

    period_open : drop whole window ≡ period
    period_open =
        let start : n - n % window_of job + whole ≡ n - n % job.t = omega (arith, mod-le n (window_of job), split) in
        drop-drop whole (n - n % window_of job) bytes ∙ ap (λ (x : ℕ). drop x bytes) start

    -- the place when its slot was given, or not: its period and window are the same, its counters count b too
    abbrev given : Place
    given = worked_of setting q (eqb b j)

    served : Served setting q (eqb b j) given
    served = worked setting q (eqb b j)

    t_given : given.job.t ≡ job.t
    t_given = ap (λ (x : Job). x.t) served.same_job

    k_given : given.job.k ≡ job.k
    k_given = ap (λ (x : Job). x.k) served.same_job

    e_given : given.at.e ≡ n % job.t
    e_given = served.same_e ∙ before.e_is

    p_given : given.at.p ≡ periods_begun job n
    p_given = served.same_p ∙ before.p_is

    u_given : by_units setting ≡ true → given.at.u ≡ slots_of j (window ++ b ∷ [])
    u_given m =
        served.u_more m ∙ ap (λ (x : ℕ). cond (eqb b j) (x + 1) x) (before.u_is m)
        ∙ sym (count_in_more (λ b. eqb b j) window b)

    v_given : by_units setting ≡ false → given.at.v ≡ slots_of j (period ++ b ∷ [])
    v_given m =
        served.v_more m ∙ ap (λ (x : ℕ). cond (eqb b j) (x + 1) x) (before.v_is m)
        ∙ sym (count_in_more (λ b. eqb b j) period b)

    s_given : by_units setting ≡ false → given.at.s ≡ finished_in job j (window ++ b ∷ []) (periods_begun job n)
    s_given m =
        let finished : ℕ = finished_in job j window past in
        let e_high : n % job.t < job.t = mod-lt n sound.job.t.low in
        let now : q.at.s ≡ cond (leb job.c q.at.v) (finished + 1) finished =
        before.s_is m
        ∙ finished_open job j window past q.at.v finished (omega (arith, window_long))
        (ap (slots_of j) period_open ∙ sym (before.v_is m)) refl in
        let more : drop whole (window ++ b ∷ []) ≡ period ++ b ∷ [] =
        drop-append-le whole window (b ∷ []) (omega (arith, window_long)) ∙ ap (◌++ b ∷ []) period_open in
        served.s_more m
        ∙ finished_step (eqb b j) job.c q.at.v q.at.s finished now (λ c. candidate_instances setting q m (fair c))
        ∙ sym
        (finished_open job j (window ++ b ∷ []) past (cond (eqb b j) (q.at.v + 1) q.at.v) finished
        (omega (arith, window_long, length-append window (b ∷ [])))
        (ap (slots_of j) more ∙ sym (v_given m) ∙ served.v_more m)
        (finished_append job j window (b ∷ []) past (omega (arith, window_long))))

    -- the same, over the window's bytes with b among them
    window_more : since_window job n (bytes ++ b ∷ []) ≡ window ++ b ∷ []
    window_more = drop-append-le (n - n % window_of job) bytes (b ∷ []) (omega arith)

    worked_told : Worked setting job j n (bytes ++ b ∷ []) given
    worked_told =
        record {
          same_job = served.same_job;
          short = rw window_more (omega (arith, window_long, length-append window (b ∷ []), mod-lt n sound.job.t.low));
          u_is = λ m. rw window_more (u_given m);
          s_is = λ m. rw window_more (s_given m);
        }

    -- then the clock moves on
    longer : length (bytes ++ b ∷ []) ≡ suc n
    longer = omega (arith, length-append bytes (b ∷ []))

    -- where the window goes on, its bytes are one more
    module _ (stays : n % window_of job + 1 < window_of job) where
      window_next : since_window job (suc n) (bytes ++ b ∷ []) ≡ window ++ b ∷ []
      window_next = since_goes_on (window_of job) n bytes long b stays

      u_next : by_units setting ≡ true → given.at.u ≡ slots_of j (since_window job (suc n) (bytes ++ b ∷ []))
      u_next m = u_given m ∙ ap (slots_of j) (sym window_next)

    next : PlaceHistory setting job j (suc n) (bytes ++ b ∷ []) (turned_of given)
    next = go (tick job.t job.k n sound.job.t.low sound.job.k.low)
      where
        go : Tick job.t job.k n → PlaceHistory setting job j (suc n) (bytes ++ b ∷ []) (turned_of given)
        go (nothing_ends inside stays same) =
            rw (turned_on given (omega (arith, e_given, t_given)))
            (record {
              same_job = served.same_job;
              e_is = ap (◌+ 1) e_given ∙ sym (cycle_goes_on job.t n inside);
              p_is = p_given ∙ sym same;
              u_is = u_next stays;
              v_is = λ m. v_given m ∙ ap (slots_of j) (sym (since_goes_on job.t n bytes long b inside));
              s_is = λ m. rw (same, window_next stays) (s_given m);
            })
        go (period_ends ends stays within one_more) =
            rw (turned_period given (omega (arith, e_given, t_given)) (omega (arith, p_given, k_given)))
            (record {
              same_job = served.same_job;
              e_is = sym (cycle_ends job.t n ends);
              p_is = ap (◌+ 1) p_given ∙ sym one_more;
              u_is = u_next stays;
              v_is = λ m. sym (none_since j job.t (suc n) (bytes ++ b ∷ []) longer (cycle_ends job.t n ends));
              s_is =
                  λ m.
                  rw (one_more, window_next stays)
                  (s_given m
                  ∙ sym
                  (finished_empty job j (window ++ b ∷ []) (periods_begun job n) sound.job.c.low
                  (omega (arith, window_long, length-append window (b ∷ [])))));
            })
        go (window_ends_lem ends closes last first) =
            rw (turned_window given (omega (arith, e_given, t_given)) (omega (arith, p_given, k_given)), served.same_job)
            (opens setting job sound.job j (suc n) (bytes ++ b ∷ []) longer (cycle_ends job.t n ends)
            (cycle_ends (window_of job) n closes))

-- one slot on, for a place told by its own job
module _
    (setting : Setting) (job : Job) (j n : ℕ) (bytes : List ℕ) (q : Place) (told : PlaceHistory setting job j n bytes q)
    (sound : SoundPlace setting q) (long : length bytes ≡ n) (b : ℕ) (fair : eqb b j ≡ true → candidate_of setting q ≡ true)
  where
    own : PlaceHistory setting q.job j n bytes q
    own = subst (λ (x : Job). PlaceHistory setting x j n bytes q) (sym told.same_job) told

    pub history_worked : Worked setting job j n (bytes ++ b ∷ []) (worked_of setting q (eqb b j))
    history_worked =
        subst (λ (x : Job). Worked setting x j n (bytes ++ b ∷ []) (worked_of setting q (eqb b j)))
        told.same_job (worked_told setting j n bytes b q own sound long fair)

    pub history_goes_on : PlaceHistory setting job j (suc n) (bytes ++ b ∷ []) (moved_of setting q (eqb b j)).place
    unfolding moved_of
    history_goes_on =
        subst (λ (x : Job). PlaceHistory setting x j (suc n) (bytes ++ b ∷ []) (moved_of setting q (eqb b j)).place)
        told.same_job (next setting j n bytes b q own sound long fair)
