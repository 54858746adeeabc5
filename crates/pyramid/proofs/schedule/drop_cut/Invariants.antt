use Rattle.std.proofs.Common.{◌≡◌, length}
use Rattle.pyramid.specs.Places.{places_from}
use Rattle.pyramid.proofs.schedule.drop_cut.Given as goal

abbrev pub invariant-loop-place : goal.invariant-loop-place
invariant-loop-place l = places_from 0 l.places.items ≡ places_from 0 l.initial.places.items

abbrev pub decreases-loop-place : goal.decreases-loop-place
decreases-loop-place l = length l.places.items
