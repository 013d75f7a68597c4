-- The runs worked by hand, computed from the definitions.
use mathlib.Core.Path.{refl}
use Rattle.job.specs.Check.{job_told, otherwise, jobs_told, list_told}
use Rattle.job.specs.Filled.{filled_upto}
use Rattle.admission.specs.Divisor.{gcd_in, gcd}
use Rattle.admission.specs.Cycle.{lcm, cycle_upto}
use Rattle.admission.specs.Load.{load_upto}
use Rattle.admission.specs.Verdict.{judged_told, verdict_told}
use Rattle.place.specs.Place.{window_left, left_of, finished_of, owed_of, eligible_of, numerator_of, overdue_of, finishes_of, tags_of, first_tagged, served_of, given_of, worked_of, window_ends, short_of, turned_of, moved_of}
use Rattle.place.specs.Choice.{room_of, takes_spare, candidate_of, due_away, distance_of, nearer_of, better_of}
use Rattle.run.specs.Choice.{held_upto, chosen_of}
use Rattle.run.specs.Slot.{choice_of, places_upto, mask_upto, count_upto, all_moved, turn_of}
use Rattle.place.specs.Range.{job_passes, within_m, units_in_range, instances_in_range, service_in_range, progress_in_range, place_blank, place_in_range}
use Rattle.run.specs.Range.{places_in_range, totals_in_range, values_in_range, state_in_range}
use Rattle.run.specs.Step.{start_told, start_state, step_told, step_state}
use Rattle.promises.specs.Cases.{answers_of, CasesHold}

pub cases_hold : CasesHold
unfolding job_told otherwise jobs_told list_told gcd_in gcd lcm cycle_upto load_upto judged_told verdict_told filled_upto window_left left_of finished_of owed_of eligible_of numerator_of overdue_of finishes_of tags_of first_tagged served_of given_of worked_of window_ends short_of turned_of moved_of room_of takes_spare candidate_of due_away distance_of nearer_of better_of held_upto chosen_of choice_of places_upto mask_upto count_upto all_moved turn_of job_passes within_m units_in_range instances_in_range service_in_range progress_in_range place_blank place_in_range places_in_range totals_in_range values_in_range state_in_range start_told start_state step_told step_state answers_of
cases_hold = refl
