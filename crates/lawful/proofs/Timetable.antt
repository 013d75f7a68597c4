-- Demand 3, the first half: a run of an admitted list in window order is lawful and full; so a list is admitted exactly if some lawful,
-- full timetable of one cycle exists.
use mathlib.Core.Path.{◌≡◌, refl, sym, ap, ap₂, subst, ◌∙◌}
use mathlib.Core.Bool.{Bool, false}
use mathlib.Core.Logic.{◌↔◌, ◌⊎◌, inl, inr}
use mathlib.Core.List.{List}
use Prim.Native.Nat.{ℕ, ◌+◌, ◌-◌, ◌*◌, ◌/◌, ◌%◌, ◌≤◌, ◌<◌}
use native.Mathlib.Nat.{mul_comm, div-mul_cancel}
use native.Mathlib.Omega.{arith}
use lib.Arith.{digits_mod}
use lib.ListN.{length, take, drop}
use lib.Seq.{take_all}
use Rattle.job.specs.declared.record.Job.{Job}
use Rattle.job.specs.declared.list.JobList.{JobList}
use Rattle.job.specs.Limit.{relaxed}
use Rattle.job.specs.Check.{job_at}
use Rattle.job.specs.Window.{window_of}
use Rattle.admission.specs.Answer.{admitted_of}
use Rattle.admission.specs.Answer.{told_admission}
use Rattle.admission.specs.Cycle.{cycle_of}
use Rattle.admission.specs.Load.{share_of, load_of}
use Rattle.admission.specs.Judged.{CommonMultiple}
use Rattle.admission.proofs.CycleLaws.{window_positive, multiple_unique, cycle_is}
use Rattle.admission.proofs.Meaning.{admitted_exactly}
use Rattle.admission.proofs.AnswerLaws.{admission_one_to_one}
use Rattle.run.specs.State.{clock_most, fresh_of}
use Rattle.run.specs.Calls.{bytes_of}
use Rattle.run.specs.Best.{by_need, as_spare}
use Rattle.run.proofs.RunLaws.{choices_long, choices_take}
use Rattle.run.proofs.CallLaws.{run_slots}
use Rattle.rules.specs.Rules.{idle_byte, slots_of, since_window, Chooses, picked, idled}
use Rattle.rules.specs.Meaning.{RunTold}
use Rattle.rules.proofs.Meaning.{run_short, run_follows, run_exists}
use Rattle.lawful.specs.Lawful.{Timetable, Lawful, Full}
use Rattle.lawful.specs.DemandThree.{Admits, CycleTimetable, window_order, AdmittedExactlyIfTimetable, AnswerExactlyIfTimetable, RunsLawful}
use Rattle.lawful.proofs.SumLaws.{sum_most}
use Rattle.lawful.proofs.CountLaws.{slots_high, windows_served}
use Rattle.lawful.proofs.WorkLaws.{service_of}
use Rattle.lawful.proofs.OnTimeLaws.{load_sum, window_allowed}
use Rattle.lawful.proofs.AdmittedLaws.{Holds, admits_exactly}
use Rattle.lawful.proofs.TimetableLaws.{run_bytes, part_of_front, slots_most_lem, slots_full}

-- a full timetable of N slots, whole windows of every job, has room for the load of N slots
module _ (l : JobList) (N : ℕ) (common : CommonMultiple l N) (bytes : List ℕ) (long : length bytes ≡ N) (full : Full l bytes) where
  share_served : (i : ℕ) → i < l.count → share_of (job_at l.jobs i) N ≤ slots_of i bytes
  share_served i h =
      let j : Job = job_at l.jobs i in
      let whole : N / window_of j * window_of j ≡ N = div-mul_cancel (window_of j) (common i h) in
      let all : take N bytes ≡ bytes = take_all N bytes (omega arith) in
      let served : N / window_of j * service_of j ≤ slots_of i bytes =
      rw (whole, all) at
      (windows_served i (window_of j) (service_of j) bytes (full i h) (N / window_of j) (omega arith)) in
      omega (arith, mul_comm (service_of j) (N / window_of j))

  pub full_holds : load_of l N ≤ N
  full_holds =
      omega (arith, load_sum l.jobs N l.count, sum_most l.count share_served, slots_high l.count bytes)

-- the choices of an admitted list in window order, however many, are lawful and full
module _ (spare : Bool) (l : JobList) (holds : Holds l) (slots : ℕ) (high : slots ≤ clock_most) where
  inside_run : {n : ℕ} → n < length (run_bytes spare l slots) → n < slots
  inside_run h = rw (choices_long (fresh_of l (window_order spare)) slots) at h

  choices_lawful : Lawful l (run_bytes spare l slots)
  choices_lawful i listed n inside =
      rw (choices_take (fresh_of l (window_order spare)) (n + 1) slots (omega (arith, inside_run inside)))
      (slots_most_lem spare l holds.sound i listed n (omega (arith, inside_run inside)))

  choices_full : Full l (run_bytes spare l slots)
  choices_full i listed w inside =
      let j : Job = job_at l.jobs i in
      let start : ℕ = w * window_of j in
      let last : ℕ = start + (window_of j - 1) in
      let some : 0 < window_of j = window_positive (holds.sound.jobs i listed) in
      let fits : start + window_of j ≤ slots = rw (choices_long (fresh_of l (window_order spare)) slots) at inside in
      let rest : last % window_of j ≡ window_of j - 1 = digits_mod w (omega arith) in
      let opens : last - last % window_of j ≡ start = omega arith in
      let next : last + 1 ≡ start + window_of j = omega arith in
      let seen : take (window_of j) (drop start (run_bytes spare l slots)) ≡ since_window j last (run_bytes spare l (last + 1)) =
      part_of_front start (window_of j) (run_bytes spare l slots) (omega arith)
      ∙ ap (drop start) (choices_take (fresh_of l (window_order spare)) (start + window_of j) slots fits)
      ∙ ap₂ (λ (from upto : ℕ). drop from (run_bytes spare l upto)) (sym opens) (sym next) in
      rw seen (slots_full spare l holds.sound i listed last (omega arith) holds (omega arith))

-- so is a run, which has these choices
pub runs_lawful : RunsLawful
runs_lawful l admits spare slots state run =
    let holds : Holds l = (admits_exactly l).0 admits in
    let told : RunTold l (window_order spare) slots state = run_follows l (window_order spare) holds.sound window_allowed slots state run in
    let short : length slots ≤ clock_most = run_short l (window_order spare) holds.sound window_allowed slots state run in
    let same : run_bytes spare l (length slots) ≡ bytes_of slots = sym (run_slots run).bytes_are in (
      record { long = told.long; named = λ n h. named (told.follows n (omega (arith, told.long))) },
      subst (Lawful l) same (choices_lawful spare l holds (length slots) short),
      subst (Full l) same (choices_full spare l holds (length slots) short),
    )
  where
    named :
        {n b : ℕ} {seen : List ℕ} → Chooses l (window_order spare) n seen b → (b < l.count) ⊎ (b ≡ idle_byte)
    named (picked j (by_need best)) = inl best.listed
    named (picked j (as_spare _ best)) = inl best.listed
    named (idled none) = inr refl

pub admitted_exactly_if_timetable : AdmittedExactlyIfTimetable
admitted_exactly_if_timetable l h sound cycle short = (
  λ admits.
      let holds : Holds l = (admits_exactly l).0 admits in
      let one = run_exists l (window_order false) holds.sound window_allowed h (omega arith) in
      let table = runs_lawful l admits false one.slots one.state one.run in
      record {
        bytes = bytes_of one.slots;
        names = subst (λ (n : ℕ). Timetable l n (bytes_of one.slots)) one.long table.0;
        lawful = table.1;
        full = table.2;
      },
  λ t.
      let same : h ≡ cycle_of l = cycle_is l sound cycle in
      (admits_exactly l).1
      (record {
        sound = sound;
        short = omega arith;
        loaded =
            subst (λ (n : ℕ). load_of l n ≤ n) same
            (full_holds l h cycle.common t.bytes t.names.long t.full);
      }),
)

pub answer_exactly_if_timetable : AnswerExactlyIfTimetable
answer_exactly_if_timetable l h r answers sound cycle short =
    let exactly : Admits l ↔ CycleTimetable l h = admitted_exactly_if_timetable l h sound cycle short in (
      λ a. exactly.0 (h, a.0, ap told_admission (sym a.1) ∙ answers),
      λ t.
          let a : Admits l = exactly.1 t in
          let same : a.0 ≡ h = multiple_unique ((admitted_exactly l relaxed a.0 a.1).0 (sym a.2)).0.cycle cycle in (
            a.1,
            admission_one_to_one r (admitted_of a.0 a.1) (answers ∙ sym a.2) ∙ ap (λ (x : ℕ). admitted_of x a.1) same,
          ),
    )
