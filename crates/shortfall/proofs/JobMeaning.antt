-- What is told of one job is exact for all time: the short windows of a cycle come again in every other, and there are no more.
use mathlib.Core.Path.{◌≡◌, refl, sym, ap, subst, ◌∙◌}
use mathlib.Core.Bool.{Bool, true, false}
use mathlib.Core.List.{List}
use Prim.Native.Nat.{ℕ, ◌+◌, ◌*◌, ◌≤◌, ◌<◌}
use native.Mathlib.Nat.{div-mul_cancel}
use native.Mathlib.Omega.{arith}
use lib.ListN.{length}
use Rattle.std.specs.Prelude.{Option, None}
use Rattle.job.specs.declared.list.JobList.{JobList}
use Rattle.job.specs.Limit.{cycle_most}
use Rattle.job.specs.Sound.{SoundList}
use Rattle.job.specs.Window.{window_of}
use Rattle.admission.specs.Judged.{LeastCommonMultiple}
use Rattle.place.specs.declared.setting.Setting.{Setting}
use Rattle.place.specs.Sound.{Allowed}
use Rattle.run.specs.declared.state.State.{State}
use Rattle.run.specs.declared.answer.Slot.{Slot}
use Rattle.run.specs.State.{fresh_of}
use Rattle.run.specs.Run.{after_slots}
use Rattle.run.specs.Calls.{Run, bytes_of}
use Rattle.run.specs.SlotMeaning.{how_many}
use Rattle.run.proofs.AgainLaws.{alike_short}
use Rattle.run.proofs.CallLaws.{bytes_long}
use Rattle.run.proofs.SlotLaws.{count_is}
use Rattle.rules.specs.Rules.{job_of, ends_short}
use Rattle.rules.proofs.RepeatLaws.{again}
use Rattle.rules.proofs.Meaning.{run_exists}
use Rattle.shortfall.specs.declared.inner.Tally.{Tally}
use Rattle.shortfall.specs.Tally.{no_tally, tally_of}
use Rattle.shortfall.specs.Shortfall.{below_of}
use Rattle.shortfall.specs.Meaning.{JobTold}
use Rattle.shortfall.proofs.CountLaws.{many_same, many_often, none_ever}
use Rattle.shortfall.proofs.TallyLaws.{IsFirst, FirstIs, short_in, tally_counts, tally_none, tally_first}
use Rattle.shortfall.proofs.NeverLaws.{short_of_run}

module _
    (l : JobList) (setting : Setting) (jobs : SoundList l) (allowed : Allowed setting) (h : ℕ) (cycle : LeastCommonMultiple l h)
    (short : h ≤ cycle_most) (j : ℕ) (listed : j < l.count) where
  abbrev fresh : State
  fresh = fresh_of l setting

  abbrev falls : ℕ → Bool
  falls n = short_in fresh j n

  abbrev tally : Tally
  tally = tally_of fresh j h

  falls_again : (n : ℕ) → falls (h + n) ≡ falls n
  falls_again n =
      alike_short (after_slots fresh (h + n)) (after_slots fresh n) (again l setting jobs allowed h cycle.common (omega arith) n) j

  counted : tally.short ≡ how_many falls h
  counted = tally_counts fresh j h ∙ count_is falls falls h (λ i inside. refl)

  first_of : {first : Option ℕ} → tally.first ≡ first → FirstIs falls h first
  first_of e = subst (FirstIs falls h) e (tally_first fresh j h)

  -- the rules' words, of a run
  module _ (slots : List Slot) (state : State) (run : Run l setting slots state) where
    told : (n : ℕ) → n < length (bytes_of slots) → falls n ≡ ends_short l setting (bytes_of slots) n j
    told n inside = short_of_run l setting jobs allowed slots state run n (omega (arith, bytes_long slots)) j listed

    never_told : tally.first ≡ None → (n : ℕ) → n < length (bytes_of slots) → ends_short l setting (bytes_of slots) n j ≡ false
    never_told never n inside = sym (told n inside) ∙ none_ever falls h falls_again cycle.positive (first_of never) n

    first_told :
        (n : ℕ) → IsFirst falls h n → n < length (bytes_of slots)
        → (ends_short l setting (bytes_of slots) n j ≡ true) × ((i : ℕ) → i < n → ends_short l setting (bytes_of slots) i j ≡ false)
    first_told n first inside =
        (sym (told n inside) ∙ first.has, λ i less. sym (told i (omega arith)) ∙ first.none_before i less)

    cycles_told :
        (q : ℕ) → length (bytes_of slots) ≡ q * h
        → how_many (λ n. ends_short l setting (bytes_of slots) n j) (length (bytes_of slots)) ≡ q * tally.short
    cycles_told q long =
        sym (many_same falls (λ n. ends_short l setting (bytes_of slots) n j) (length (bytes_of slots)) told)
        ∙ ap (how_many falls) long
        ∙ many_often falls h falls_again q
        ∙ ap (q *◌) (sym counted)

  -- where no run of the list shows a short window of the job, its tally is empty
  pub none_tallied :
      ((slots : List Slot) (state : State) → Run l setting slots state → (n : ℕ) → n < length (bytes_of slots)
      → ends_short l setting (bytes_of slots) n j ≡ false)
      → tally ≡ no_tally
  none_tallied none =
      let one = run_exists l setting jobs allowed h (omega arith) in
      tally_none fresh j h
      (λ n inside.
      let within : n < length (bytes_of one.slots) = omega (arith, one.long, bytes_long one.slots) in
      told one.slots one.state one.run n within ∙ none one.slots one.state one.run n within)

  pub job_told_lem : JobTold l setting h j (below_of (job_of l j) h tally)
  job_told_lem =
      record {
        windows = div-mul_cancel (window_of (job_of l j)) (cycle.common j listed);
        never = (
          λ never slots state run. never_told slots state run never,
          λ none. ap (λ (t : Tally). t.first) (none_tallied none),
        );
        first = λ n e. ((first_of e).below, λ slots state run. first_told slots state run n (first_of e));
        cycles = λ q slots state run. cycles_told slots state run q;
      }
