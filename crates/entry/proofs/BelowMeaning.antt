-- The statements of specs/BelowMeaning: what each row of `below` says, and that it is given wherever that holds; and the bytes.
use mathlib.Core.Path.{◌≡◌, refl, sym, ap, subst, ◌∙◌}
use mathlib.Core.Bool.{Bool, true, false, ◌&&◌, cond}
use mathlib.Core.Logic.{◌⊎◌, inl, inr}
use mathlib.Core.List.{List, []}
use Prim.Native.Nat.{ℕ, ◌*◌, ◌≤◌, ◌<◌}
use native.Mathlib.Omega.{arith}
use lib.Dec.{leb, eqb}
use lib.ListN.{length, get_or}
use borrow.Author.Tests.{leb-true, leb-false, le-leb, ne_eqb}
use Rattle.std.specs.Prelude.{Ok, Err}
use Rattle.job.specs.declared.list.JobList.{JobList}
use Rattle.job.specs.Limit.{count_most, cycle_most}
use Rattle.job.specs.declared.refusal.Refusal.{Refusal}
use Rattle.job.specs.Told.{Told, row, passed, told}
use Rattle.job.specs.Promise.{ListCheckPromise}
use Rattle.job.specs.Check.{list_told}
use Rattle.job.specs.Sound.{SoundList}
use Rattle.job.proofs.ToldLaws.{told_refuses}
use Rattle.job.proofs.Meaning.{passes_exactly}
use Rattle.admission.specs.Cycle.{cycle_of}
use Rattle.text.specs.Written.{written}
use Rattle.place.specs.declared.setting.Setting.{Setting}
use Rattle.place.specs.Sound.{Allowed}
use Rattle.shortfall.specs.declared.answer.Judgement.{Judgement}
use Rattle.shortfall.specs.Promise.{ShortfallPromise}
use Rattle.shortfall.specs.Shortfall.{none_below, shortfall_told, cycle_judged}
use Rattle.shortfall.proofs.JudgeLaws.{RowView, strange, faulty, too_long, judgeable, row_view, refused_told}
use Rattle.shortfall.proofs.AlikeLaws.{shortfall_alike}
use Rattle.entry.specs.JobBytes.{list_from}
use Rattle.entry.specs.Below.{answers_upto, below_told, below_bytes, setting_by}
use Rattle.entry.specs.Meaning.{BytesOfList, Whole}
use Rattle.entry.specs.BelowMeaning.{AnswerStands, AnswersStand, BelowTold, BelowAnswers, BelowRowFourteen, BelowNumber, EntryBelow}
use Rattle.entry.proofs.JobLaws.{read_holds, held_whole, held_same, read_is}
use Rattle.entry.proofs.Meaning.{numbered, Faulty, list_row}
use Rattle.entry.proofs.NumberLaws.{below_answered}
use Rattle.entry.proofs.BelowLaws.{below_broken, below_refused, below_no_room, below_passes, below_stays, below_writes, entry_broken, entry_strange, entry_strange_stays, entry_asks, entry_writes}
use Rattle.entry.proofs.AnswerLaws.{each_stands, behind_stays, length_stays}

-- the question asked of the bytes of a list
module _ (jobs : List ℕ) (l : JobList) (held : BytesOfList jobs l) (s : Setting) (bytes : List ℕ) where
  abbrev answer : Told
  answer = below_told jobs s (length bytes)

  abbrev number : ℕ
  number = answer.number

  whole : Whole jobs
  whole = held_whole jobs l held

  -- is answered as of the list
  count_is : (list_from jobs).count ≡ l.count
  count_is = ap (λ (x : JobList). x.count) (read_is jobs l held)

  told_is : shortfall_told (list_from jobs) s ≡ shortfall_told l s
  told_is =
      ap (λ (x : JobList). shortfall_told x s) (read_is jobs l held) ∙ (shortfall_alike l (list_from jobs).jobs s (held_same jobs l held)).0

  judged_is : l.count ≤ count_most → cycle_judged (list_from jobs) s ≡ cycle_judged l s
  judged_is few =
      ap (λ (x : JobList). cycle_judged x s) (read_is jobs l held) ∙ (shortfall_alike l (list_from jobs).jobs s (held_same jobs l held)).1 few

  -- what a number says of the arguments
  abbrev ListRow : ℕ → Type 0
  ListRow r = Allowed s × ((list_told l).number ≡ r)

  abbrev Says : ℕ → Type 0
  Says r =
      cond (leb 1 r && leb r 6) (ListRow r)
      (cond (eqb r 15) (Allowed s → ⊥)
      (cond (eqb r 8) (shortfall_told l s ≡ row 8 [])
      (cond (eqb r 12) ((shortfall_told l s ≡ passed) × (length bytes < l.count * 12))
      (cond (eqb r 0) ((shortfall_told l s ≡ passed) × (l.count * 12 ≤ length bytes)) ⊥))))

  -- where that holds, the number is returned
  abbrev Given : ℕ → Type 0
  Given r = Says r → number ≡ r

  refused_answer : {t : Told} → shortfall_told l s ≡ t → eqb t.number 0 ≡ false → answer ≡ t
  refused_answer e refused =
      below_refused jobs s (length bytes) whole (ap (λ (t : Told). eqb t.number 0) (told_is ∙ e) ∙ refused) ∙ told_is ∙ e

  refused_given : {t : Told} → shortfall_told l s ≡ t → eqb t.number 0 ≡ false → number ≡ t.number
  refused_given e refused = numbered (refused_answer e refused)

  eight_given : Given 8
  eight_given e = refused_given e refl

  fifteen_given : Given 15
  fifteen_given none-such = go (row_view l s)
    where
      go : RowView l s → number ≡ 15
      go (strange n e) = refused_given e refl
      go (faulty a b e r) = absurd (none-such a)
      go (too_long a sound h e) = absurd (none-such a)
      go (judgeable a sound h e) = absurd (none-such a)

  list_given : (r : ℕ) → 1 ≤ r → ListRow r → number ≡ r
  list_given r some row_is = go (row_view l s)
    where
      sound_not : SoundList l → ⊥
      sound_not sound = omega (arith, numbered ((passes_exactly l).1 sound), row_is.1)

      go : RowView l s → number ≡ r
      go (strange n e) = absurd (n row_is.0)
      go (faulty a b e refused) = refused_given e refused ∙ row_is.1
      go (too_long a sound h e) = absurd (sound_not sound)
      go (judgeable a sound h e) = absurd (sound_not sound)

  answered : shortfall_told l s ≡ passed → (shortfall_told (list_from jobs) s).number ≡ 0
  answered e = numbered (told_is ∙ e)

  passed_told_lem : Says 0 → answer ≡ passed
  passed_told_lem says = below_passes jobs s (length bytes) whole (answered says.0) (omega (arith, count_is, says.1))

  zero_given : Given 0
  zero_given says = numbered (passed_told_lem says)

  twelve_given : Given 12
  twelve_given says =
      numbered (below_no_room jobs s (length bytes) whole (answered says.0) (omega (arith, count_is, says.1)))

  -- and of every number that is returned, that holds
  say : (r : ℕ) → Given r → Says r → Says number
  say r given says = subst Says (sym (given says)) says

  holds : Says number
  unfolding Faulty
  holds = go (row_view l s)
    where
      room : shortfall_told l s ≡ passed → (fits : Bool) → leb (l.count * 12) (length bytes) ≡ fits → Says number
      room e true f = say 0 zero_given (e, leb-true (l.count * 12) (length bytes) f)
      room e false f = say 12 twelve_given (e, leb-false (l.count * 12) (length bytes) f)

      refused : Allowed s → SoundList l ⊎ Faulty l → (SoundList l → ⊥) → Says number
      refused a (inl sound) broken = absurd (broken sound)
      refused a (inr f) broken =
          let r = (list_told l).number in
          let row_is : ListRow r = (a, refl) in
          say r (λ _. list_given r f.0 row_is) (rw (le-leb 1 r f.0, le-leb r 6 f.1) row_is)

      go : RowView l s → Says number
      go (strange n e) = say 15 fifteen_given n
      go (faulty a broken e r) = refused a (list_row l) broken
      go (too_long a sound h e) = say 8 eight_given e
      go (judgeable a sound h e) = room e (leb (l.count * 12) (length bytes)) refl

  pub says : (r : ℕ) → number ≡ r → Says r
  says r e = subst Says e holds

  -- a list that its check refuses
  refused_list : Allowed s → (refusal : Refusal) → ListCheckPromise l (Err refusal) → answer ≡ told refusal
  refused_list a refusal check = refused_answer (refused_told l s a (sym check.0) (told_refuses refusal)) (told_refuses refusal)

  cycle_told_lem : shortfall_told l s ≡ passed → (l.count ≤ count_most) × (cycle_of l ≤ cycle_most)
  cycle_told_lem told = go (row_view l s)
    where
      differ : {t : Told} → shortfall_told l s ≡ t → t.number ≡ 0
      differ e = numbered (sym e ∙ told)

      go : RowView l s → (l.count ≤ count_most) × (cycle_of l ≤ cycle_most)
      go (strange n e) = absurd (omega (arith, differ e))
      go (faulty a broken e refused) = absurd (broken ((passes_exactly l).0 (sym e ∙ told)))
      go (too_long a sound h e) = absurd (omega (arith, differ e))
      go (judgeable a sound h e) = (sound.count.high, h)

  -- where it is 0, the answers are written
  writes : Says 0 → l.count ≤ count_most → below_bytes jobs s bytes ≡ written bytes 0 (answers_upto (cycle_judged l s).jobs l.count)
  writes says few =
      below_writes jobs s bytes (passed_told_lem says)
      ∙ ap (λ (j : Judgement). written bytes 0 (answers_upto j.jobs (list_from jobs).count)) (judged_is few)
      ∙ ap (λ (n : ℕ). written bytes 0 (answers_upto (cycle_judged l s).jobs n)) count_is

  stand : Says 0 → (j : Judgement) → ShortfallPromise l s (Ok j) → AnswersStand l j bytes (below_bytes jobs s bytes)
  stand says j promise =
      let small = cycle_told_lem says.0 in
      let now : List ℕ = written bytes 0 (answers_upto (cycle_judged l s).jobs l.count) in
      subst (AnswersStand l j bytes) (sym (writes says small.0))
      (record {
        each =
            λ i h.
            subst (λ (x : Judgement). AnswerStands now (i * 12) (get_or x.jobs i none_below)) (sym promise.1)
            (each_stands l s small.0 small.1 bytes says.1 i h);
        behind = behind_stays l s small.0 small.1 bytes says.1;
        long = length_stays l s small.0 small.1 bytes says.1;
      })

  pub tells : BelowTold l s bytes answer (below_bytes jobs s bytes)
  tells =
      record {
        row_fifteen = (says 15, fifteen_given);
        list_rows = refused_list;
        row_eight = λ r asked. rw asked.0 (says 8, eight_given);
        row_twelve = λ r asked. rw asked.0 (says 12, twelve_given);
        passes = λ r asked. rw asked.0 (says 0, zero_given);
        answers = λ zero. stand (says 0 zero);
        keeps = λ refused. sym (below_stays jobs s bytes refl (ne_eqb number 0 refused));
      }

pub below_answers : BelowAnswers
below_answers jobs l held s before r after promise = rw (promise.0, promise.1) (tells jobs l held s before)

pub below_row_fourteen : BelowRowFourteen
below_row_fourteen jobs s before r after promise =
    let is = numbered promise.0 in (
      (
        λ e whole. says jobs (list_from jobs) (read_holds jobs whole) s before 14 (sym is ∙ e),
        λ broken. is ∙ numbered (below_broken jobs s (length before) broken),
      ),
      λ e. promise.1 ∙ sym (below_stays jobs s before refl (ap (λ (n : ℕ). eqb n 0) (sym is ∙ e))),
    )

pub entry_below : EntryBelow
entry_below jobs order model spare before r after promise =
    let plain : spare ≤ 1 → BelowNumber jobs (setting_by order model spare) before r after =
    λ h.
    let s = setting_by order model spare in
    let a = below_answered jobs s (length before) in (
      a.0,
      (a.1, promise.1 ∙ entry_writes jobs order model spare h before),
      promise.0 ∙ numbered (entry_asks jobs order model spare h (length before)) ∙ numbered (sym a.1),
    ) in
    record {
      off = λ e. rw e at (plain (omega arith));
      on = λ e. rw e at (plain (omega arith));
      row_fifteen = λ strange whole. promise.0 ∙ numbered (entry_strange jobs order model spare strange (length before) whole);
      row_fourteen = λ broken. promise.0 ∙ numbered (entry_broken jobs order model spare (length before) broken);
      keeps = λ strange. promise.1 ∙ sym (entry_strange_stays jobs order model spare strange before);
    }
