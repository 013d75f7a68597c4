-- No text is two sheets: letters, numbers and lines are read off the front of the text one by one.
use mathlib.Core.Path.{◌≡◌, refl, sym, ◌∙◌, ap}
use mathlib.Core.Bool.{Bool, true, false, cond}
use mathlib.Core.List.{List, [], ◌∷◌, ◌++◌, append_assoc, head-eq_of_cons-eq, tail-eq_of_cons-eq}
use Prim.Native.Nat.{ℕ, zero, suc, ◌≤◌, ◌<◌}
use native.Mathlib.Omega.{arith}
use lib.Dec.{eqb}
use lib.ListN.{length, length-append}
use Rattle.job.specs.declared.record.Job.{Job}
use Rattle.text.specs.Decimal.{decimal_of}
use Rattle.place.specs.declared.setting.Setting.{Setting}
use Rattle.sheet.specs.Form.{number_most, order_letter, model_letter, spare_end, first_line, job_line, job_lines, SmallJob}
use Rattle.sheet.specs.Meaning.{TextDetermined, ValuesDetermined}
use Rattle.text.proofs.DecimalLaws.{decimal_some, decimal_cut}
use Rattle.sheet.proofs.HoldsLaws.{SmallJobs}

pub text_determined : TextDetermined
text_determined a b s slots jobs first second = first.text ∙ sym second.text

-- one of two letters
letter_cut :
    (a b : ℕ) {p q : List ℕ} → (a ≡ b → ⊥) → (x y : ℕ) → x ≤ 1 → y ≤ 1
    → cond (eqb x 0) (a ∷ []) (b ∷ []) ++ p ≡ cond (eqb y 0) (a ∷ []) (b ∷ []) ++ q → (x ≡ y) × (p ≡ q)
letter_cut a b differ zero zero hx hy e = (refl, tail-eq_of_cons-eq e)
letter_cut a b differ (suc zero) (suc zero) hx hy e = (refl, tail-eq_of_cons-eq e)
letter_cut a b differ zero (suc zero) hx hy e = absurd (differ (head-eq_of_cons-eq e))
letter_cut a b differ (suc zero) zero hx hy e = absurd (differ (sym (head-eq_of_cons-eq e)))
letter_cut a b differ zero (suc (suc y)) hx hy e = absurd (omega arith)
letter_cut a b differ (suc zero) (suc (suc y)) hx hy e = absurd (omega arith)
letter_cut a b differ (suc (suc x)) y hx hy e = absurd (omega arith)

number_cut :
    (x y : ℕ) {a : ℕ} {p q : List ℕ} → x ≤ number_most → y ≤ number_most → a < 48 → decimal_of x ++ (a ∷ p) ≡ decimal_of y ++ (a ∷ q)
    → (x ≡ y) × (p ≡ q)
number_cut x y hx hy ha e =
    let cut = decimal_cut x y (omega arith) (omega arith) ha ha e in (cut.0, tail-eq_of_cons-eq cut.1)

-- the slot count, and S or no S behind it
slots_cut :
    (x y : ℕ) (spare spare' : Bool) {p q : List ℕ} → x ≤ number_most → y ≤ number_most
    → decimal_of x ++ (spare_end spare ++ p) ≡ decimal_of y ++ (spare_end spare' ++ q) → (x ≡ y) × (spare ≡ spare') × (p ≡ q)
slots_cut x y true true hx hy e =
    let cut = number_cut x y hx hy (omega arith) e in (cut.0, refl, tail-eq_of_cons-eq (tail-eq_of_cons-eq cut.1))
slots_cut x y false false hx hy e = let cut = number_cut x y hx hy (omega arith) e in (cut.0, refl, cut.1)
slots_cut x y true false hx hy e =
    absurd (omega (arith, head-eq_of_cons-eq (decimal_cut x y (omega arith) (omega arith) (omega arith) (omega arith) e).1))
slots_cut x y false true hx hy e =
    absurd (omega (arith, head-eq_of_cons-eq (decimal_cut x y (omega arith) (omega arith) (omega arith) (omega arith) e).1))

-- a line
first_line_text :
    (s : Setting) (slots : ℕ) (p : List ℕ)
    → first_line s slots ++ p ≡ order_letter s.order ++ (32 ∷ (model_letter s.model ++ (32 ∷ (decimal_of slots ++ (spare_end s.spare ++ p)))))
unfolding first_line
first_line_text s slots p = simp append_assoc

job_line_text :
    (j : Job) (p : List ℕ)
    → job_line j ++ p ≡ decimal_of j.c ++ (32 ∷ (decimal_of j.t ++ (32 ∷ (decimal_of j.m ++ (32 ∷ (decimal_of j.k ++ (10 ∷ p)))))))
unfolding job_line
job_line_text j p = simp append_assoc

job_line_cut : (j j' : Job) {p q : List ℕ} → SmallJob j → SmallJob j' → job_line j ++ p ≡ job_line j' ++ q → (j ≡ j') × (p ≡ q)
job_line_cut j j' {p} {q} small small' e =
    let c = number_cut j.c j'.c small.c small'.c (omega arith) (sym (job_line_text j p) ∙ e ∙ job_line_text j' q) in
    let t = number_cut j.t j'.t small.t small'.t (omega arith) c.1 in
    let m = number_cut j.m j'.m small.m small'.m (omega arith) t.1 in
    let k = number_cut j.k j'.k small.k small'.k (omega arith) m.1 in
    (λ i. record { c = c.0 i; t = t.0 i; m = m.0 i; k = k.0 i }, k.1)

-- all job lines
line_some : (j : Job) (p : List ℕ) → [] ≡ job_line j ++ p → ⊥
line_some j p e =
    omega (arith, decimal_some j.c, simp length-append at (ap length (e ∙ job_line_text j p)))

jobs_cut : (jobs jobs' : List Job) → SmallJobs jobs → SmallJobs jobs' → job_lines jobs ≡ job_lines jobs' → jobs ≡ jobs'
unfolding job_lines
jobs_cut [] [] small small' e = refl
jobs_cut [] (j ∷ jobs) small small' e = absurd (line_some j (job_lines jobs) e)
jobs_cut (j ∷ jobs) [] small small' e = absurd (line_some j (job_lines jobs) (sym e))
jobs_cut (j ∷ jobs) (j' ∷ jobs') small small' e =
    let cut = job_line_cut j j' (small 0 (omega arith)) (small' 0 (omega arith)) e in
    let rest = jobs_cut jobs jobs' (λ i h. small (suc i) (omega arith)) (λ i h. small' (suc i) (omega arith)) cut.1 in
    λ i. cut.0 i ∷ rest i

pub values_determined : ValuesDetermined
values_determined bytes s s' slots slots' jobs jobs' is is' =
    let same : first_line s slots ++ job_lines jobs ≡ first_line s' slots' ++ job_lines jobs' = sym is.text ∙ is'.text in
    let order =
    letter_cut 86 87 (λ e. omega arith) s.order s'.order is.order is'.order
    (sym (first_line_text s slots (job_lines jobs)) ∙ same ∙ first_line_text s' slots' (job_lines jobs')) in
    let model =
    letter_cut 82 79 (λ e. omega arith) s.model s'.model is.model is'.model (tail-eq_of_cons-eq order.1) in
    let count = slots_cut slots slots' s.spare s'.spare is.slots_small is'.slots_small (tail-eq_of_cons-eq model.1) in
    (λ i. record { order = order.0 i; model = model.0 i; spare = count.1 i }, count.0, jobs_cut jobs jobs' is.jobs_small is'.jobs_small count.2)
