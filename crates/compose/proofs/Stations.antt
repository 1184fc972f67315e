-- The table's set is the image's, and the places are its log's.
use Rattle.std.specs.Prelude.{◌≡◌, List, ℕ, ◌≤◌, take}
use Rattle.model.specs.Layout.{capacity}
use Rattle.model.specs.Image.{state_in}
use Rattle.set_table.specs.Table.{set_in}
use Rattle.image_sections.specs.LogPlaces.{LogPlaces}
use Rattle.image_listed.specs.declared.Station.{Station}
use Rattle.image_judged.specs.Judging.{IsStation}

module _ (b : List ℕ) (r : Station) (is : IsStation b r) where
  pub starts_fit : r.table.count ≤ capacity
  starts_fit = is.table.fits

  pub logged_fit : r.logged ≤ capacity
  logged_fit = is.fits

  pub log_places : LogPlaces b (take r.table.count r.table.starts) (take r.logged r.places)
  log_places = record { holds = is.table.holds; log = is.log }

  pub set_is : set_in b (take r.table.count r.table.starts) ≡ state_in b
  set_is = is.table.set

pub ruleset stations = (starts_fit, logged_fit, log_places, set_is)
