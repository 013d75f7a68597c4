-- What a caller finds in his buffer: the writer's bytes are those of calls of `step`, and calls of `step` keep the rules.
use mathlib.Core.Path.{◌≡◌, refl, sym, ap, subst, ◌∙◌}
use mathlib.Core.List.{List, [], ◌∷◌, ◌++◌}
use Prim.Native.Nat.{ℕ}
use lib.ListN.{length}
use Rattle.run.specs.declared.state.State.{State}
use Rattle.run.specs.declared.answer.Slot.{Slot}
use Rattle.run.specs.Answer.{byte_of}
use Rattle.run.specs.Calls.{Steps, no_step, a_step, Run, bytes_of}
use Rattle.run.proofs.CallLaws.{bytes_long}
use Rattle.rules.specs.Rules.{Follows}
use Rattle.rules.specs.Meaning.{StateTold, RunTold}
use Rattle.rules.proofs.Meaning.{run_follows}
use Rattle.timetable.specs.Meaning.{WritesSteps}
use Rattle.timetable.proofs.Meaning.{write_answers}
use Rattle.entry.specs.Meaning.{FillsRun}
use Rattle.entry.proofs.Meaning.{fill_answers}
use Rattle.promises.specs.Buffers.{part, WriteFollows, FillFollows}

-- calls that go on from where others ended
steps_more : {s t u : State} {a b : List Slot} → Steps s a t → Steps t b u → Steps s (a ++ b) u
steps_more no_step rest = rest
steps_more (a_step r promise done first) rest = a_step r promise done (steps_more first rest)

bytes_more : (a b : List Slot) → bytes_of (a ++ b) ≡ bytes_of a ++ bytes_of b
unfolding bytes_of
bytes_more [] b = refl
bytes_more (x ∷ a) b = ap (λ (r : List ℕ). byte_of x.choice ∷ r) (bytes_more a b)

pub write_follows : WriteFollows
write_follows l setting jobs allowed slots state run before offset n r next after promise passes =
    let wrote : WritesSteps state before offset n next after = (write_answers state before offset n r next after promise).writes passes in
    let whole : Run l setting (slots ++ wrote.slots) next =
    record { started = run.started; promise = run.promise; passes = run.passes; steps = steps_more run.steps wrote.steps } in
    let told : RunTold l setting (slots ++ wrote.slots) next = run_follows l setting jobs allowed (slots ++ wrote.slots) next whole in
    let bytes : bytes_of (slots ++ wrote.slots) ≡ bytes_of slots ++ part after offset n =
    bytes_more slots wrote.slots ∙ ap (bytes_of slots ++◌) (sym wrote.choices) in
    record {
      long = ap length wrote.choices ∙ bytes_long wrote.slots ∙ wrote.long;
      follows = subst (Follows l setting) bytes told.follows;
      state_is = subst (λ (x : List ℕ). StateTold l setting x next) bytes told.state_is;
    }

pub fill_follows : FillFollows
fill_follows jobs l held setting before offset n r after promise zero =
    let told = fill_answers jobs l held setting before offset n r after promise in
    let starts = (told.passes.0 zero).0 in
    let fills : FillsRun l setting before offset n after = told.runs zero in
    let kept : RunTold l setting fills.slots fills.state =
    run_follows l setting starts.sound starts.allowed fills.slots fills.state fills.run in
    record {
      long = ap length fills.choices ∙ kept.long ∙ fills.long;
      follows = subst (Follows l setting) (sym fills.choices) kept.follows;
    }
