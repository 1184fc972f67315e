-- Commands in a run of bytes, one after the other.
use Rattle.std.specs.Prelude.{◌≡◌, List, [], ◌∷◌, ℕ, suc, ◌+◌, ◌*◌, ◌/◌, ◌≤◌, ◌<◌, length, take, drop}
use Rattle.std.proofs.Common.{ap, ◌∙◌, arith, length-drop, drop-drop}
use Rattle.model.specs.Bytes.{parts}
use Rattle.model.specs.Layout.{command_size}
use Rattle.setpoints.specs.Commands.{commands_in}

-- the commands past the first k: none where there are no more, else one and those behind it
pub commands_end : (c : List ℕ) (k : ℕ) → length c / command_size ≤ k → commands_in (drop (command_size * k) c) ≡ []
commands_end c k h =
    let rest = drop (command_size * k) c in
    ap (λ (n : ℕ). parts n command_size rest) {x = length rest / command_size} {y = 0} (omega (arith, length-drop (command_size * k) c))

pub commands_next : (c : List ℕ) (k : ℕ) → k < length c / command_size
    → commands_in (drop (command_size * k) c) ≡ take command_size (drop (command_size * k) c) ∷ commands_in (drop (command_size * (k + 1)) c)
commands_next c k h =
    let rest = drop (command_size * (k + 1)) c in
    let behind : command_size * k + command_size ≡ command_size * (k + 1) = omega arith in
    ap (λ (n : ℕ). parts n command_size (drop (command_size * k) c)) {x = length (drop (command_size * k) c) / command_size} {y = suc (length rest / command_size)}
    (omega (arith, length-drop (command_size * k) c, length-drop (command_size * (k + 1)) c))
    ∙ ap (λ (l : List ℕ). take command_size (drop (command_size * k) c) ∷ parts (length rest / command_size) command_size l)
    (drop-drop command_size (command_size * k) c ∙ ap (λ (n : ℕ). drop n c) behind)
