-- The laws of `specs/Laws` as terms. Lemmas of crates above may cite this module and no other of these proofs.
use Rattle.std.proofs.Common.{ℕ, take}
use Rattle.std.proofs.lemmas.Option.{slice_get_within, get_or_from_slice_get}
use Rattle.pyramid.specs.declared.command.Command.TheVariants.{Show}
use Rattle.pyramid.specs.Display.{empty_slots, shows, showing}
use Rattle.pyramid.specs.Laws.{GopReplays, PlanIsPlayable, HeldIsCoded, GopIsMoved, PlanIsMoved, SlotsAreOfTheGop, ShowCommandsShowTheirPositions, GopHides, StartsRise, SlotsAfterBoth, AcceptsBoth, ShownByBoth, ShowingBoth, SettingsHaveATable, SubtypesFollowLevels, FirstEmptyIsNamed, FirstRefusedIsFirst, ReferencesNamePositions, SettingsSwitchInOrder, UnitsMakeThePlan, KnownBeginsThePlan, KnownStays, KnownBeginsLaterPlans, PlacesHaveTheCommands, PlacesFollowTheTable, GuessesReachTheirUnits}
use Rattle.pyramid.specs.Plan.{plan}
use Rattle.pyramid.specs.Playable.{InOrder}
use Rattle.pyramid.proofs.Below.{plan-below}
use Rattle.pyramid.proofs.Coded.{held-coded}
use Rattle.pyramid.proofs.CodedOnce.{plan-codes_once}
use Rattle.pyramid.proofs.Counting.{hiding-gop, plan-length}
use Rattle.pyramid.proofs.Current.{gop-holds}
use Rattle.pyramid.proofs.GuessEnds.{walk-reaches}
use Rattle.pyramid.proofs.KnownUnits.{units-plan, known-begins, known-stays, known-begins_later}
use Rattle.pyramid.proofs.Lists.{count-append}
use Rattle.pyramid.proofs.Machine.{slots_after-append, accepts-append, shown-append}
use Rattle.pyramid.proofs.Moved.{gop-moved, plan-moved}
use Rattle.pyramid.proofs.NamedPlan.{plan-names, settings-switch}
use Rattle.pyramid.proofs.PlacedUnits.{settled-commands, place-follows}
use Rattle.pyramid.proofs.PlanLaws.{plan-in_order, plan-accepts, plan-shows, plan-showing, plan-show, plan-code}
use Rattle.pyramid.proofs.PlanSteps.{start_after-later, start_after-within}
use Rattle.pyramid.proofs.Refusals.{first-empty, first-refused}
use Rattle.pyramid.proofs.Replay.{gop-replays}
use Rattle.pyramid.proofs.ShowExisting.{shows-its-position}
use Rattle.pyramid.proofs.Subtyped.{subtype-of_row}
use Rattle.pyramid.proofs.Tables.{settings-table}
use Rattle.pyramid.proofs.Unshown.{next-unshown}

pub gop_replays : GopReplays
gop_replays numbers slots start inputs table eight some =
    let r = gop-replays numbers slots start inputs table eight some in
    record { accepted = r.accepted; showed = r.showed }

pub plan_is_playable : PlanIsPlayable
plan_is_playable numbers interval frames keys table some =
    let commands = plan numbers interval frames keys in
    let front : (k : ℕ) → InOrder empty_slots (take k commands) 0 (showing (take k commands)) = λ k. record { accepted = plan-accepts numbers interval frames keys k table some; showed = plan-shows numbers interval frames keys k table some } in
    record {
      whole = plan-in_order numbers interval frames keys table some;
      count = plan-showing numbers interval frames keys table some;
      front = front;
      show = λ k slot is. plan-show numbers interval frames keys k slot (Show slot) table some (slice_get_within commands k (Show slot) is) (get_or_from_slice_get commands k (Show slot) (Show slot) is);
      code = λ k frame kind refs refresh is. plan-code numbers interval frames keys k frame kind refs refresh (Show 0) table some (slice_get_within commands k _ is) (get_or_from_slice_get commands k _ (Show 0) is);
      unshown = λ k frame kind refs refresh visible is.
          let within = plan-below numbers interval frames keys some k frame kind refs refresh visible is in
          next-unshown commands k frame kind refs refresh visible (front k) (plan-codes_once numbers interval frames frame keys table some within) is;
      below = plan-below numbers interval frames keys some;
      once = λ frame within. plan-codes_once numbers interval frames frame keys table some within;
      size = plan-length numbers interval frames keys table some;
    }

pub held_is_coded : HeldIsCoded
held_is_coded = held-coded

pub gop_is_moved : GopIsMoved
gop_is_moved = gop-moved

pub plan_is_moved : PlanIsMoved
plan_is_moved = plan-moved

pub slots_are_of_the_gop : SlotsAreOfTheGop
slots_are_of_the_gop = gop-holds

pub show_commands_show_their_positions : ShowCommandsShowTheirPositions
show_commands_show_their_positions = shows-its-position

pub gop_hides : GopHides
gop_hides = hiding-gop

pub starts_rise : StartsRise
starts_rise interval frames start keys some within =
    (start_after-later interval frames keys start some within, start_after-within interval frames keys start)

pub slots_after_both : SlotsAfterBoth
slots_after_both = slots_after-append

pub accepts_both : AcceptsBoth
accepts_both = accepts-append

pub shown_by_both : ShownByBoth
shown_by_both = shown-append

pub showing_both : ShowingBoth
showing_both = count-append shows

pub settings_have_a_table : SettingsHaveATable
settings_have_a_table = settings-table

pub units_make_the_plan : UnitsMakeThePlan
units_make_the_plan = units-plan

pub known_begins_the_plan : KnownBeginsThePlan
known_begins_the_plan = known-begins

pub known_stays : KnownStays
known_stays = known-stays

pub known_begins_later_plans : KnownBeginsLaterPlans
known_begins_later_plans = known-begins_later

pub places_have_the_commands : PlacesHaveTheCommands
places_have_the_commands = settled-commands

pub places_follow_the_table : PlacesFollowTheTable
places_follow_the_table = place-follows

pub guesses_reach_their_units : GuessesReachTheirUnits
guesses_reach_their_units = walk-reaches

pub references_name_positions : ReferencesNamePositions
references_name_positions = plan-names

pub settings_switch_in_order : SettingsSwitchInOrder
settings_switch_in_order = settings-switch

pub first_empty_is_named : FirstEmptyIsNamed
first_empty_is_named = first-empty

pub first_refused_is_first : FirstRefusedIsFirst
first_refused_is_first = first-refused

pub subtypes_follow_levels : SubtypesFollowLevels
subtypes_follow_levels = subtype-of_row
