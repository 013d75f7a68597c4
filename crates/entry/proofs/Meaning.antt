-- The statements of specs/Meaning about the numbers of those entries and of `fill`: what each row says, and that it is given wherever that holds.
use mathlib.Core.Path.{◌≡◌, refl, sym, ap, subst, ◌∙◌}
use mathlib.Core.Bool.{Bool, true, false, ◌&&◌, cond}
use mathlib.Core.Logic.{◌↔◌, ◌⊎◌, inl, inr, ⊎_elim}
use mathlib.Core.List.{List}
use Prim.Native.Nat.{ℕ, ◌+◌, ◌≤◌, ◌<◌}
use native.Mathlib.Omega.{arith}
use lib.Dec.{leb, ltb, eqb}
use lib.ListN.{length, take, drop}
use borrow.Author.Tests.{leb-true, leb-false, le-leb, ne_eqb}
use Rattle.std.specs.Prelude.{Ok, Err}
use Rattle.job.specs.declared.record.Job.{Job}
use Rattle.job.specs.declared.list.JobList.{JobList}
use Rattle.job.specs.Limit.{original, cycle_most}
use Rattle.job.specs.declared.refusal.Refusal.{Refusal}
use Rattle.job.specs.Told.{Told, passed, told}
use Rattle.job.specs.Promise.{ListCheckPromise}
use Rattle.job.proofs.ToldLaws.{told_refuses}
use Rattle.job.specs.Check.{otherwise, list_told}
use Rattle.job.specs.Sound.{SoundList, FaultOf, t_fault, c_fault, k_fault, m_fault}
use Rattle.admission.specs.Cycle.{cycle_of}
use Rattle.admission.specs.Load.{load_of}
use Rattle.admission.specs.Verdict.{judged_told, verdict_told}
use Rattle.place.specs.declared.setting.Setting.{Setting}
use Rattle.place.specs.Sound.{Allowed}
use Rattle.run.specs.declared.state.State.{State}
use Rattle.run.specs.State.{clock_most}
use Rattle.run.specs.Range.{state_in_range}
use Rattle.run.specs.Sound.{SoundState}
use Rattle.run.specs.Step.{start_told, start_state}
use Rattle.timetable.specs.Table.{write_told, write_state, write_bytes}
use Rattle.timetable.specs.Meaning.{Room, Stays}
use Rattle.timetable.proofs.Meaning.{choices_written}
use Rattle.entry.specs.JobBytes.{list_from}
use Rattle.entry.specs.Entry.{admit_told, fill_told, fill_bytes}
use Rattle.entry.specs.Meaning.{BytesOfList, Whole, AdmitEntryAnswers, Starts, FillsRun, FillTold, FillAnswers, FillRowFourteen, FillNumbers, EntryFills}
use Rattle.job.proofs.Meaning.{ListView, no_jobs, many_jobs, sound_list, faulty_list, list_view, passes_exactly, row_one_exactly, row_two_exactly, job_rows_exactly}
use Rattle.run.proofs.RangeLaws.{range_exactly}
use Rattle.admission.proofs.LentMeaning.{same_verdict}
use Rattle.run.proofs.StartLaws.{start_checks, state_passed, start_sound, allowed_or, start_row_fifteen, start_alike, state_alike}
use Rattle.timetable.proofs.WriteLaws.{refused_twelve, refused_eleven, writes_on}
use Rattle.entry.proofs.NumberLaws.{fill_answered}
use Rattle.entry.proofs.JobLaws.{read_holds, held_whole, held_same, read_is}
use Rattle.entry.proofs.EntryLaws.{WritesOn, admit_broken, admit_whole, fill_broken, fill_starts, fill_keeps, writes_on as write-on}

-- two equal answers have one number
pub numbered : {a b : Told} → a ≡ b → a.number ≡ b.number
numbered e = ap (λ (t : Told). t.number) e

-- a list is sound or is refused by one of rows 1 to 6
unfoldable pub Faulty : JobList → Type 0
Faulty l = (1 ≤ (list_told l).number) × ((list_told l).number ≤ 6)

fault_row : {j : Job} {n : ℕ} → FaultOf j n → (1 ≤ n) × (n ≤ 6)
fault_row (t_fault t) = (omega arith, omega arith)
fault_row (c_fault t c) = (omega arith, omega arith)
fault_row (k_fault t c k) = (omega arith, omega arith)
fault_row (m_fault t c k m) = (omega arith, omega arith)

pub list_row : (l : JobList) → SoundList l ⊎ Faulty l
unfolding Faulty
list_row l = go (list_view l)
  where
    go : ListView l → SoundList l ⊎ Faulty l
    go (no_jobs h) = inr (rw ((row_one_exactly l).1 h) (omega arith, omega arith))
    go (many_jobs h) = inr (rw ((row_two_exactly l).1 h) (omega arith, omega arith))
    go (sound_list s) = inl s
    go (faulty_list n i f) = inr (rw ((job_rows_exactly l n i).1 f) (fault_row f.fault))

-- admission has no row 14 of its own
abbrev Other : Told → Type 0
Other t = t.number ≡ 14 → ⊥

either : (b : Bool) (x y : Told) → Other x → Other y → Other (cond b x y)
either true x y p q = p
either false x y p q = q

list_other : (l : JobList) → Other (list_told l)
unfolding Faulty
list_other l e = go (list_row l)
  where
    go : SoundList l ⊎ Faulty l → ⊥
    go (inl s) = omega (arith, numbered ((passes_exactly l).1 s))
    go (inr f) = omega arith

verdict_other : (l : JobList) (model : ℕ) → Other (verdict_told l model)
unfolding verdict_told otherwise judged_told
verdict_other l model =
    let h = cycle_of l in
    let d = load_of l h in
    either (ltb original model) _ _ (λ e. omega arith)
    (either (eqb (list_told l).number 0) _ _
    (either (eqb model original) _ _ (λ e. omega arith)
    (either (ltb cycle_most h) _ _ (λ e. omega arith)
    (either (ltb h d) _ _ (λ e. omega arith) (λ e. omega arith))))
    (list_other l))

-- what the entries return
abbrev admit_number : List ℕ → ℕ → ℕ
admit_number jobs model = (admit_told jobs model).number

admit_row_fourteen : (jobs : List ℕ) (model : ℕ) → (admit_number jobs model ≡ 14) ↔ (Whole jobs → ⊥)
admit_row_fourteen jobs model =
    (λ e whole. verdict_other (list_from jobs) model (numbered (sym (admit_whole jobs model whole)) ∙ e), λ broken. numbered (admit_broken jobs model broken))

admit_as : (jobs : List ℕ) (l : JobList) (model : ℕ) → BytesOfList jobs l → admit_told jobs model ≡ verdict_told l model
admit_as jobs l model held =
    admit_whole jobs model (held_whole jobs l held)
    ∙ ap (λ (x : JobList). verdict_told x model) (read_is jobs l held)
    ∙ same_verdict (list_from jobs).jobs l.jobs l.count model (held_same jobs l held)

pub admit_entry_answers : AdmitEntryAnswers
admit_entry_answers jobs model r promise =
    record {
      row_fourteen = rw promise (admit_row_fourteen jobs model);
      judges = λ l held a verdict. promise ∙ numbered (admit_as jobs l model held ∙ sym verdict);
    }

-- a fill of the bytes of a list
module _ (jobs : List ℕ) (l : JobList) (held : BytesOfList jobs l) (setting : Setting) (bytes : List ℕ) (offset n : ℕ) where
  abbrev answer : Told
  answer = fill_told jobs setting (length bytes) offset n

  abbrev number : ℕ
  number = answer.number

  whole : Whole jobs
  whole = held_whole jobs l held

  -- its start is the list's
  start_is : start_told (list_from jobs) setting ≡ start_told l setting
  start_is =
      ap (λ (x : JobList). start_told x setting) (read_is jobs l held) ∙ start_alike l (list_from jobs).jobs setting (held_same jobs l held)

  state_is : start_state (list_from jobs) setting ≡ start_state l setting
  state_is =
      ap (λ (x : JobList). start_state x setting) (read_is jobs l held) ∙ state_alike l (list_from jobs).jobs setting (held_same jobs l held)

  -- what a number says of the arguments
  abbrev ListRow : ℕ → Type 0
  ListRow r = Allowed setting × ((list_told l).number ≡ r)

  abbrev Says : ℕ → Type 0
  Says r =
      cond (leb 1 r && leb r 6) (ListRow r)
      (cond (eqb r 15) (Allowed setting → ⊥)
      (cond (eqb r 12) (Starts l setting × (length bytes < offset + n))
      (cond (eqb r 11) (Starts l setting × (offset + n ≤ length bytes) × (clock_most < n))
      (cond (eqb r 0) (Starts l setting × (offset + n ≤ length bytes) × (n ≤ clock_most)) ⊥))))

  -- where that holds, the number is returned
  abbrev Given : ℕ → Type 0
  Given r = Says r → number ≡ r

  refused_start : {t : Told} → start_told l setting ≡ t → eqb t.number 0 ≡ false → answer ≡ t
  refused_start e refused =
      fill_starts jobs setting (length bytes) offset n whole (ap (λ (t : Told). eqb t.number 0) (start_is ∙ e) ∙ refused)
      ∙ start_is
      ∙ e

  fifteen_given : Given 15
  fifteen_given strange = numbered (refused_start ((start_row_fifteen l setting).1 strange) refl)

  list_given : (r : ℕ) → 1 ≤ r → ListRow r → number ≡ r
  list_given r some s =
      numbered (refused_start (start_checks l setting s.0) (ne_eqb (list_told l).number 0 (omega arith))) ∙ s.1

  abbrev state : State
  state = start_state l setting

  module _ (starts : Starts l setting) where
    start_passes : start_told l setting ≡ passed
    start_passes = start_checks l setting starts.allowed ∙ (passes_exactly l).1 starts.sound

    started_sound : SoundState state
    started_sound = start_sound l setting start_passes

    in_range : state_in_range state ≡ true
    in_range = (range_exactly state).1 started_sound

    at_zero : state.clock ≡ 0
    at_zero = ap (λ (s : State). s.clock) (state_passed l setting start_passes)

    on : WritesOn jobs setting bytes offset n
    on = write-on jobs setting bytes offset n whole (numbered (start_is ∙ start_passes))

    written_given : {t : Told} → t ≡ write_told state (length bytes) offset n → number ≡ t.number
    written_given e =
        numbered (on.told_is ∙ ap (λ (s : State). write_told s (length bytes) offset n) state_is ∙ sym e)

  twelve_given : Given 12
  twelve_given s = written_given s.0 (refused_twelve state bytes offset n (in_range s.0) s.1).0

  eleven_given : Given 11
  eleven_given s =
      written_given s.0 (refused_eleven state bytes offset n (in_range s.0) s.1 (omega (arith, at_zero s.0, s.2))).0

  zero_given : Given 0
  zero_given s =
      written_given s.0 (writes_on state bytes offset n (in_range s.0) s.1 (omega (arith, at_zero s.0, s.2))).0

  -- and of every number that is returned, that holds
  list_says : (r : ℕ) → 1 ≤ r → r ≤ 6 → ListRow r → Says r
  list_says r some few s = rw (le-leb 1 r some, le-leb r 6 few) s

  say : (r : ℕ) → Given r → Says r → Says number
  say r given s = subst Says (sym (given s)) s

  writing : Starts l setting → Says number
  writing s = go (leb (offset + n) (length bytes)) (leb n clock_most) refl refl
    where
      go : (fits early : Bool) → leb (offset + n) (length bytes) ≡ fits → leb n clock_most ≡ early → Says number
      go false early f e = say 12 twelve_given (s, leb-false (offset + n) (length bytes) f)
      go true false f e =
          say 11 eleven_given (s, leb-true (offset + n) (length bytes) f, leb-false n clock_most e)
      go true true f e = say 0 zero_given (s, leb-true (offset + n) (length bytes) f, leb-true n clock_most e)

  holds : Says number
  unfolding Faulty
  holds = ⊎_elim (λ a. go a (list_row l)) (λ e. say 15 fifteen_given ((start_row_fifteen l setting).0 e)) (allowed_or l setting)
    where
      go : Allowed setting → SoundList l ⊎ Faulty l → Says number
      go a (inl s) = writing (record { allowed = a; sound = s })
      go a (inr f) =
          let r = (list_told l).number in
          let row : ListRow r = (a, refl) in
          say r (λ _. list_given r f.0 row) (list_says r f.0 f.1 row)

  pub says : (r : ℕ) → number ≡ r → Says r
  says r e = subst Says e holds

  -- where it is 0, a run is written
  fills : number ≡ 0 → FillsRun l setting bytes offset n (fill_bytes jobs setting bytes offset n)
  fills e =
      let s = says 0 e in
      let starts = s.0 in
      let room : Room state (length bytes) offset n =
      record { sound = started_sound starts; fits = s.1; clock = omega (arith, at_zero starts, s.2) } in
      let wrote = choices_written state bytes offset n room in
      let after : fill_bytes jobs setting bytes offset n ≡ write_bytes state bytes offset n =
      (on starts).bytes_are ∙ ap (λ (x : State). write_bytes x bytes offset n) state_is in
      record {
        slots = wrote.slots;
        state = write_state state (length bytes) offset n;
        long = wrote.long;
        run =
            record {
              started = record { answer = Ok tt; state = state };
              promise = (sym (start_passes starts), refl);
              passes = refl;
              steps = wrote.steps;
            };
        choices = ap (λ (x : List ℕ). take n (drop offset x)) after ∙ wrote.choices;
        stays = subst (λ (x : List ℕ). Stays bytes x offset n) (sym after) wrote.stays;
      }

  -- a list that its check refuses
  refused_list : Allowed setting → (refusal : Refusal) → ListCheckPromise l (Err refusal) → answer ≡ told refusal
  refused_list a refusal check = refused_start (start_checks l setting a ∙ sym check.0) (told_refuses refusal)

  pub tells : FillTold l setting bytes offset n answer (fill_bytes jobs setting bytes offset n)
  tells =
      record {
        row_fifteen = (says 15, fifteen_given);
        list_rows = refused_list;
        row_twelve = (says 12, twelve_given);
        row_eleven = (says 11, eleven_given);
        passes = (says 0, zero_given);
        runs = fills;
        keeps = fill_keeps jobs setting bytes offset n;
      }

pub fill_answers : FillAnswers
fill_answers jobs l held s before offset n r after promise =
    rw (promise.0, promise.1) (tells jobs l held s before offset n)

pub fill_row_fourteen : FillRowFourteen
fill_row_fourteen jobs s before offset n r after promise =
    let is = numbered promise.0 in (
      (
        λ e whole. says jobs (list_from jobs) (read_holds jobs whole) s before offset n 14 (sym is ∙ e),
        λ broken. is ∙ numbered (fill_broken jobs s (length before) offset n broken),
      ),
      λ e. promise.1 ∙ fill_keeps jobs s before offset n (λ zero. absurd (omega (arith, is, e, zero))),
    )

pub fill_numbers : FillNumbers
fill_numbers jobs s before offset n r after promise =
    let a = fill_answered jobs s (length before) offset n in
    (a.0, (a.1, promise.1), promise.0 ∙ numbered (sym a.1))

pub entry_fills : EntryFills
entry_fills jobs order model before offset n r after promise = promise
