-- The first n elements are the other places below the one that is looked at.
use Rattle.std.proofs.Common.{◌≡◌, length, take}
use Rattle.model.specs.Layout.{capacity}
use Rattle.image_sections.specs.LogPlaces.{others_below}
use Rattle.image_sections.proofs.held.held_places.Given as goal

abbrev pub invariant-loop-place : goal.invariant-loop-place
invariant-loop-place l = record {
  count : l.n ≡ length (others_below l.place-counter l.places);
  others : take l.n l.held ≡ others_below l.place-counter l.places;
  size : length l.held ≡ capacity;
}
