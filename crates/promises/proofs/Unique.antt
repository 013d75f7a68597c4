-- Each public operation's promise allows one result: by one law for equations, and that `told` is one-to-one.
use mathlib.Core.Path.{◌≡◌, refl, sym, ap, ◌∙◌}
use mathlib.Core.Logic.{◌↔◌}
use mathlib.Core.Bool.{Bool, true, false}
use Prim.Native.Nat.{ℕ, min, ◌<◌}
use native.Mathlib.Decide.{dec_lt}
use native.Mathlib.Omega.{arith}
use Rattle.std.specs.Prelude.{Result, Ok, Err, IfOk, IsTrue}
use Rattle.std.proofs.lemmas.List.{ext_get_or}
use Rattle.job.specs.declared.record.Job.{Job}
use Rattle.job.specs.declared.refusal.Refusal.{Refusal}
use Rattle.job.specs.Limit.{count_most}
use Rattle.job.specs.Check.{no_job, job_at}
use Rattle.job.specs.Promise.{ListByPromise}
use Rattle.job.specs.Told.{Told, told_checked}
use Rattle.job.proofs.ToldLaws.{checked_one_to_one, refusal_one_to_one, not_passed}
use Rattle.admission.specs.Answer.{told_admission}
use Rattle.admission.proofs.AnswerLaws.{admission_one_to_one}
use Rattle.admission.proofs.DivisorLaws.{divisor_unique}
use Rattle.run.proofs.AnswerLaws.{step_one_to_one}
use Rattle.shortfall.specs.Shortfall.{cycle_judged}
use Rattle.sheet.proofs.ReadLaws.{read_unique}
use Rattle.promises.specs.Unique.{Unique, JobUnique, AdmissionUnique, RunUnique, TextUnique, BytesUnique}

-- a result fixed by an equation
fixed : {A : Type 0} (x : A) → Unique (λ (r : A). r ≡ x)
fixed x a b e f = e ∙ sym f

-- an answer fixed by what it tells, where telling is one-to-one
told_fixed :
    {A B : Type 0} (f : A → B) → ((a b : A) → f a ≡ f b → a ≡ b) → (x : B) → Unique (λ (r : A). f r ≡ x)
told_fixed f injective x a b e g = injective a b (e ∙ sym g)

-- an answer that hands back what was handed in, or a refusal
checked_fixed : {A : Type 0} (x : A) (t : Told) → Unique (λ (r : Result A Refusal). (told_checked r ≡ t) × IfOk r (λ c. c ≡ x))
checked_fixed x t (Ok a) (Ok b) e f = ap Ok (e.1 ∙ sym f.1)
checked_fixed x t (Ok a) (Err s) e f = absurd (not_passed s (f.0 ∙ sym e.0))
checked_fixed x t (Err r) (Ok b) e f = absurd (not_passed r (e.0 ∙ sym f.0))
checked_fixed x t (Err r) (Err s) e f = ap Err (refusal_one_to_one r s (e.0 ∙ sym f.0))

-- two lists by calls
module _ (answers : ℕ → Job → Type 0) (one : (at : ℕ) → Unique (answers at)) (count : ℕ) where
  lists_alike : Unique (ListByPromise answers count)
  lists_alike a b e f i = record { jobs = same i; count = (e.0 ∙ sym f.0) i }
    where
      each : (at : ℕ) → Dec (at < min count count_most) → job_at a.jobs at ≡ job_at b.jobs at
      each at (yes h) = one at _ _ (e.1.put at h) (f.1.put at h)
      each at (no h) = e.1.past at (omega arith) ∙ sym (f.1.past at (omega arith))

      same : a.jobs ≡ b.jobs
      same = ext_get_or no_job _ _ (e.1.long ∙ sym f.1.long) (λ at _. each at (dec_lt at (min count count_most)))

pub job_unique : JobUnique
job_unique =
    record {
      of = λ c t m k a b e f i. record { c = (e.slots ∙ sym f.slots) i; t = (e.period ∙ sym f.period) i; m = (e.instances ∙ sym f.instances) i; k = (e.periods ∙ sym f.periods) i };
      none = fixed _;
      check = λ at j. checked_fixed j _;
      empty = λ count. fixed _;
      list_by = λ answers one count a b e f. lists_alike answers one count a b e f;
      list_of = λ jobs. fixed _;
      list_check = λ l. checked_fixed l _;
      window = λ j a b e f. e.value ∙ sym f.value;
      answer_number = λ A a. fixed _;
      refusal_number = λ r. fixed _;
    }

pub admission_unique : AdmissionUnique
admission_unique =
    record {
      cycle = λ a. fixed _;
      load = λ a. fixed _;
      divisor = divisor_unique;
      verdict = λ l model. told_fixed told_admission admission_one_to_one _;
      admit = λ jobs model. told_fixed told_admission admission_one_to_one _;
      admit_first = λ jobs n model. told_fixed told_admission admission_one_to_one _;
    }

pub run_unique : RunUnique
run_unique =
    record {
      made = λ order model. fixed _;
      allowed = λ s. fixed _;
      blank = fixed _;
      opened = λ j. fixed _;
      zeros = fixed _;
      fresh = λ l s. fixed _;
      in_range = λ s. fixed _;
      choose = λ s. fixed _;
      start =
          λ l s a b e f i.
          record {
            answer = checked_one_to_one a.answer b.answer (e.0 ∙ sym f.0) i;
            state = (e.1 ∙ sym f.1) i;
          };
      step = λ s a b x y e f. (step_one_to_one a b (e.0 ∙ sym f.0), e.1 ∙ sym f.1);
      shortfall = λ l s. checked_fixed (cycle_judged l s) _;
    }

-- a test fixed by what it says
test_fixed : {P : Type 0} → Unique (λ (r : Bool). IsTrue r ↔ P)
test_fixed true true e f = refl
test_fixed true false e f = sym (f.1 (e.0 refl))
test_fixed false true e f = e.1 (f.0 refl)
test_fixed false false e f = refl

pub text_unique : TextUnique
text_unique = record { empty = fixed _; slice = λ now. fixed _; room = λ most now count. test_fixed }

pub bytes_unique : BytesUnique
bytes_unique =
    record {
      write =
          λ s before offset n a b x y e f. (
            checked_one_to_one a b (e.0 ∙ sym f.0),
            λ i. ((e.1 ∙ sym f.1) i, (e.2 ∙ sym f.2) i),
          );
      admit_entry = λ jobs model. fixed _;
      fill = λ jobs setting before offset n a b x y e f. (checked_one_to_one a b (e.0 ∙ sym f.0), e.1 ∙ sym f.1);
      fill_number = λ jobs setting before offset n a b x y e f. (e.0 ∙ sym f.0, e.1 ∙ sym f.1);
      fill_entry = λ jobs order model before offset n a b x y e f. (e.0 ∙ sym f.0, e.1 ∙ sym f.1);
      below = λ jobs setting before a b x y e f. (checked_one_to_one a b (e.0 ∙ sym f.0), e.1 ∙ sym f.1);
      below_entry = λ jobs order model spare before a b x y e f. (e.0 ∙ sym f.0, e.1 ∙ sym f.1);
      blank_sheet_lem = fixed _;
      read = read_unique;
      slot_line = λ number slot. fixed _;
      refusal_line = λ r. fixed _;
      answer_line = λ number a. fixed _;
      admission_line = λ a. fixed _;
      totals_line = λ t. fixed _;
      job_line_lem = λ job below. fixed _;
      fallen_line = λ fallen jobs. fixed _;
    }
