-- The windows of a run that end short, by the rules and by the tallies; and the list that needs no run, since it has none.
use mathlib.Core.Path.{◌≡◌, sym, ap, subst, ◌∙◌}
use mathlib.Core.Bool.{Bool}
use mathlib.Core.List.{List}
use Prim.Native.Nat.{ℕ, ◌≤◌, ◌<◌}
use native.Mathlib.Omega.{arith}
use lib.ListN.{length, replicate}
use Rattle.job.specs.declared.list.JobList.{JobList}
use Rattle.job.specs.Limit.{count_most, cycle_most}
use Rattle.job.specs.Sound.{SoundList}
use Rattle.admission.specs.Cycle.{cycle_of}
use Rattle.admission.specs.Load.{load_of}
use Rattle.place.specs.declared.setting.Setting.{Setting}
use Rattle.place.specs.Sound.{Allowed}
use Rattle.run.specs.declared.state.State.{State}
use Rattle.run.specs.declared.answer.Slot.{Slot}
use Rattle.run.specs.State.{clock_most, fresh_of}
use Rattle.run.specs.Calls.{Run, bytes_of}
use Rattle.run.proofs.CallLaws.{run_slots}
use Rattle.rules.specs.Rules.{ends_short}
use Rattle.rules.proofs.RunLaws.{short_after}
use Rattle.rules.proofs.Meaning.{run_short, run_exists}
use Rattle.lawful.specs.DemandThree.{Admits, window_order}
use Rattle.lawful.proofs.OnTimeLaws.{window_allowed}
use Rattle.lawful.proofs.AdmittedLaws.{admits_exactly}
use Rattle.lawful.proofs.NeverShort.{ends_full}
use Rattle.shortfall.specs.declared.inner.Tally.{Tally}
use Rattle.shortfall.specs.Tally.{no_tally, tallies_of}
use Rattle.shortfall.proofs.TallyLaws.{short_in, tally_none, tallies_none}

-- of every run, slot by slot
pub short_of_run :
    (l : JobList) (setting : Setting) → SoundList l → Allowed setting → (slots : List Slot) (state : State) → Run l setting slots state
    → (n : ℕ) → n < length slots → (j : ℕ) → j < l.count → short_in (fresh_of l setting) j n ≡ ends_short l setting (bytes_of slots) n j
short_of_run l setting jobs allowed slots state run n inside j listed =
    subst (λ (b : List ℕ). short_in (fresh_of l setting) j n ≡ ends_short l setting b n j) (sym (run_slots run).bytes_are)
    (short_after l setting jobs allowed (length slots) (run_short l setting jobs allowed slots state run) n inside j listed)

-- an admitted list in window order
pub never_in_order :
    (l : JobList) → SoundList l → Admits l → (spare : Bool) (h : ℕ) → h ≤ clock_most → {none : Tally} → none ≡ no_tally
    → replicate count_most none ≡ tallies_of (fresh_of l (window_order spare)) h
never_in_order l jobs admits spare h high is =
    let setting : Setting = window_order spare in
    let one = run_exists l setting jobs window_allowed h high in
    tallies_none (fresh_of l setting) jobs.count.high h is
    (λ j listed.
    tally_none (fresh_of l setting) j h
    (λ n inside.
    let within : n < length one.slots = omega (arith, one.long) in
    short_of_run l setting jobs window_allowed one.slots one.state one.run n within j listed
    ∙ ends_full l admits spare one.slots one.state one.run n within j listed))

pub window_order_lem : (s : Setting) → s.order ≡ 1 → s.model ≡ 0 → window_order s.spare ≡ s
window_order_lem s order model dim = record { order = sym order dim; model = sym model dim; spare = s.spare }

pub never_tallied :
    (l : JobList) (setting : Setting) (h : ℕ) {none : Tally} → SoundList l → h ≡ cycle_of l → h ≤ cycle_most → load_of l h ≤ h
    → setting.order ≡ 1 → setting.model ≡ 0 → none ≡ no_tally → replicate count_most none ≡ tallies_of (fresh_of l setting) h
never_tallied l setting h sound is short loaded order model none =
    let admits =
    (admits_exactly l).1
    (record { sound = sound; short = omega arith; loaded = subst (λ (x : ℕ). load_of l x ≤ x) is loaded }) in
    never_in_order l sound admits setting.spare h (omega arith) none
    ∙ ap (λ (x : Setting). tallies_of (fresh_of l x) h) (window_order_lem setting order model)
