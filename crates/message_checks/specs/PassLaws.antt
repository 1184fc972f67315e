-- Passing 3 to 6, by the four tests one after the other.
use Rattle.std.specs.Prelude.{◌≡◌, Bool, true, ◌&&◌}
use Rattle.std.proofs.Common.{sym, ◌∙◌, ap₂}
use Rattle.model.specs.Message.{Message, layout_right, numbers_right, dependencies_right, content_right, passes}
use Rattle.laws_order.specs.TestLaws.{true_T}
use Rattle.laws_wire.specs.MessageLaws.{Sized, layout_sized}

-- what the later checks ask for is told by the first
pub sized : {m : Message} → true ≡ layout_right m → Sized m
sized {m} e = layout_sized m (true_T (layout_right m) (sym e))

pub passes_by : (m : Message) {l n d c : Bool} → l ≡ layout_right m → n ≡ numbers_right m → d ≡ dependencies_right m → c ≡ content_right m
    → l && n && d && c ≡ passes m
unfolding passes
passes_by m {l} {n} {d} {c} layout numbers dependencies content =
    ap₂ (λ (x y : Bool). x && y && d && c) layout numbers ∙ ap₂ (λ (x y : Bool). layout_right m && numbers_right m && x && y) dependencies content
