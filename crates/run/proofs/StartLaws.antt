-- A start: row 15, then the check of the list, and a state that is sound or all zeros.
use mathlib.Core.Path.{◌≡◌, refl, sym, ◌∙◌, ap, ap₂, subst}
use mathlib.Core.Bool.{Bool, true, false, cond}
use mathlib.Core.Logic.{◌↔◌, ◌⊎◌, inl, inr, ⊎_elim}
use mathlib.Core.List.{List, []}
use Prim.Native.Nat.{ℕ, min}
use native.Mathlib.Omega.{arith}
use lib.Dec.{eqb}
use lib.ListN.{get_or-replicate}
use Rattle.job.specs.Limit.{count_most}
use Rattle.job.specs.declared.refusal.Refusal.{Refusal}
use Rattle.job.specs.declared.record.Job.{Job}
use Rattle.job.specs.declared.list.JobList.{JobList}
use Rattle.std.specs.Prelude.{Ok}
use Rattle.job.specs.Told.{Told, row, passed, told, told_checked}
use Rattle.job.specs.Check.{job_at, list_told}
use Rattle.job.proofs.FilledLaws.{filled_long, filled_past}
use Rattle.job.proofs.AlikeLaws.{Same, listed, list_alike, filled_alike}
use Rattle.place.specs.declared.setting.Setting.{Setting}
use Rattle.place.specs.declared.record.Place.{Place}
use Rattle.place.specs.Opening.{blank, opened}
use Rattle.place.specs.Setting.{setting_allowed}
use Rattle.place.specs.Sound.{Allowed}
use Rattle.run.specs.declared.state.State.{State}
use Rattle.run.specs.State.{zeros, fresh_of}
use Rattle.run.specs.Sound.{SoundState}
use Rattle.run.specs.Step.{start_told, start_state}
use Rattle.run.specs.Meaning.{AllZeros, ZerosAll, Opens, FreshOpens, StartAnswers}
use Rattle.job.proofs.ToldLaws.{told_refuses, apart, checked_one_to_one}
use Rattle.job.specs.Meaning.{ListRows}
use Rattle.job.proofs.Meaning.{list_rows, passes_exactly, sound_or, no_other_row}
use Rattle.place.specs.Meaning.{place_of_zeros}
use Rattle.place.proofs.Meaning.{allowed_exactly}
use Rattle.run.proofs.FreshLaws.{fresh_at, fresh_sound}

-- the answer
pub not_started : (l : JobList) (s : Setting) → setting_allowed s ≡ false → start_told l s ≡ row 15 []
unfolding start_told
not_started l s e = rw e

pub start_checks : (l : JobList) (s : Setting) → Allowed s → start_told l s ≡ list_told l
unfolding start_told
start_checks l s a = rw ((allowed_exactly s).1 a)

-- the state, by the answer
state_by : (l : JobList) (s : Setting) (t : Told) → start_told l s ≡ t → start_state l s ≡ cond (eqb t.number 0) (fresh_of l s) zeros
unfolding start_state
state_by l s t e = ap (λ (x : Told). cond (eqb x.number 0) (fresh_of l s) zeros) e

pub state_passed : (l : JobList) (s : Setting) → start_told l s ≡ passed → start_state l s ≡ fresh_of l s
state_passed l s e = state_by l s passed e

pub state_refused : (l : JobList) (s : Setting) (r : Refusal) → start_told l s ≡ told r → start_state l s ≡ zeros
state_refused l s r e = state_by l s (told r) e ∙ ap (λ (b : Bool). cond b (fresh_of l s) zeros) (told_refuses r)

-- an allowed setting, or row 15
pub allowed_or : (l : JobList) (s : Setting) → Allowed s ⊎ (start_told l s ≡ row 15 [])
allowed_or l s = go (setting_allowed s) refl
  where
    go : (b : Bool) → setting_allowed s ≡ b → Allowed s ⊎ (start_told l s ≡ row 15 [])
    go true e = inl ((allowed_exactly s).0 e)
    go false e = inr (not_started l s e)

pub start_row_fifteen : (l : JobList) (s : Setting) → (start_told l s ≡ row 15 []) ↔ (Allowed s → ⊥)
start_row_fifteen l s =
    (λ e a. no_other_row l refl refl refl (sym (start_checks l s a) ∙ e), λ n. ⊎_elim (λ a. absurd (n a)) (λ e. e) (allowed_or l s))

pub start_sound : (l : JobList) (s : Setting) → start_told l s ≡ passed → SoundState (start_state l s)
start_sound l s e =
    rw (state_passed l s e)
    (⊎_elim (λ a. fresh_sound l s ((passes_exactly l).0 (sym (start_checks l s a) ∙ e)) a)
    (λ f. absurd (apart (sym f ∙ e) refl)) (allowed_or l s))

-- a start that does not pass has the number of its row
refused_number : (l : JobList) (s : Setting) → (start_told l s ≡ passed → ⊥) → eqb (start_told l s).number 0 ≡ false
refused_number l s refused =
    ⊎_elim
    (λ a.
    rw (start_checks l s a)
    (⊎_elim (λ h. absurd (refused (start_checks l s a ∙ (passes_exactly l).1 h))) (λ e. e) (sound_or l)))
    (λ e. ap (λ (t : Told). eqb t.number 0) e) (allowed_or l s)

all_zeros : AllZeros zeros
all_zeros =
    record {
      order = refl;
      model = refl;
      spare = refl;
      clock = refl;
      count = refl;
      places_long = refl;
      places = λ i h. get_or-replicate count_most i place_of_zeros place_of_zeros h;
      given = refl;
      idle = refl;
      tags = refl;
      shorts = refl;
    }

refused_zeros : (l : JobList) (s : Setting) → (start_told l s ≡ passed → ⊥) → AllZeros (start_state l s)
unfolding start_state
refused_zeros l s refused = rw (refused_number l s refused) all_zeros

opens : (l : JobList) (s : Setting) → Opens l s (fresh_of l s)
opens l s =
    let filled : ℕ → Place = λ i. opened (job_at l.jobs i) in
    record {
      setting_is = refl;
      clock = refl;
      count = refl;
      places_long = filled_long blank filled (min l.count count_most);
      places = λ i h few. fresh_at l.jobs (min l.count count_most) i (omega arith) (omega arith);
      others = λ i past. filled_past blank filled (min l.count count_most) i (omega arith);
      given = refl;
      idle = refl;
      tags = refl;
      shorts = refl;
    }

pub fresh_opens : FreshOpens
fresh_opens l s r promise = subst (Opens l s) (sym promise) (opens l s)

pub zeros_all : ZerosAll
zeros_all r promise = subst AllZeros (sym promise) all_zeros

pub start_answers : StartAnswers
start_answers l s r promise =
    let rows : Allowed s → ListRows l (told_checked r.answer) = λ a. subst (ListRows l) (sym (promise.0 ∙ start_checks l s a)) (list_rows l) in
    let told : r.answer ≡ Ok tt → start_told l s ≡ passed = λ p. sym promise.0 ∙ ap told_checked p in
    record {
      row_fifteen = rw promise.0 (start_row_fifteen l s);
      list_rows = rows;
      passes = (
        λ p. ⊎_elim (λ a. (a, (rows a).passes.0 (ap told_checked p))) (λ e. absurd (apart (sym e ∙ told p) refl)) (allowed_or l s),
        λ h. checked_one_to_one r.answer (Ok tt) ((rows h.0).passes.1 h.1),
      );
      opens = λ p. subst (Opens l s) (sym (promise.1 ∙ state_passed l s (told p))) (opens l s);
      sound = λ p. subst SoundState (sym promise.1) (start_sound l s (told p));
      zeros =
          λ refused.
          subst AllZeros (sym promise.1)
          (refused_zeros l s (λ e. refused (checked_one_to_one r.answer (Ok tt) (promise.0 ∙ e))));
    }

-- what stands behind the jobs of a list does not change its start
module _ (l : JobList) (jobs : List Job) (s : Setting) (same : Same jobs l.jobs (min l.count count_most)) where
  pub start_alike : start_told (listed jobs l.count) s ≡ start_told l s
  unfolding start_told
  start_alike = ap (λ (t : Told). cond (setting_allowed s) t (row 15 [])) (list_alike jobs l.jobs l.count same)

  pub state_alike : start_state (listed jobs l.count) s ≡ start_state l s
  unfolding start_state
  state_alike =
      ap₂ (λ (t : Told) (x : State). cond (eqb t.number 0) x zeros) start_alike
      (ap
      (λ (places : List Place).
      record { setting = s; clock = 0; count = l.count; places = places; totals = zeros.totals })
      (filled_alike blank (λ i. opened (job_at jobs i)) (λ i. opened (job_at l.jobs i)) (min l.count count_most)
      (λ i h. ap opened (same i h))))
