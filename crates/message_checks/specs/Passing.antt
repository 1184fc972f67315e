-- A message checked by 3 to 6: refused by the first that applies; and it passes where none does.
use Rattle.std.specs.Prelude.{◌≡◌, refl, Bool, true, false, ◌&&◌, Result, Err, is_ok}
use Rattle.model.specs.Message.{Message, layout_right, numbers_right, dependencies_right, content_right, passes}
use Rattle.refusals.specs.Refusals.{checked}
use Rattle.refusals.specs.declared.Refusal.{Refusal}
use Rattle.refusals.specs.declared.Refusal.TheVariants.{WrongLayout, WrongNumber, WrongDependencies, WrongContent}

-- by the answers of the four tests
abbrev pub first_failed : Bool → Bool → Bool → Bool → Result (Unit {0}) Refusal
first_failed false n d c = Err WrongLayout
first_failed true false d c = Err WrongNumber
first_failed true true false c = Err WrongDependencies
first_failed true true true c = checked WrongContent c

unfoldable pub message_checked : Message → Result (Unit {0}) Refusal
message_checked m = first_failed (layout_right m) (numbers_right m) (dependencies_right m) (content_right m)

pub passes_checked : (m : Message) → is_ok (message_checked m) ≡ passes m
unfolding passes message_checked
passes_checked m = go (layout_right m) (numbers_right m) (dependencies_right m) (content_right m)
  where
    go : (l n d c : Bool) → is_ok (first_failed l n d c) ≡ l && n && d && c
    go false n d c = refl
    go true false d c = refl
    go true true false c = refl
    go true true true true = refl
    go true true true false = refl
