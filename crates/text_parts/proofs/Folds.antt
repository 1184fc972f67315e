-- A test of all items, folded from the front.
use Rattle.std.specs.Prelude.{◌≡◌, Bool, ◌&&◌, List, [], ◌∷◌, ℕ}
use Rattle.std.specs.List.{fold}
use Rattle.std.proofs.Common.{sym, ◌∙◌}
use Rattle.std.proofs.Math.Bool.{and-true, and_assoc}
use Rattle.model.specs.Lists.{every}

pub every_fold : (p : ℕ → Bool) (t : Bool) (l : List ℕ) → fold (λ r x. r && p x) t l ≡ t && every p l
every_fold p t [] = sym (and-true t)
every_fold p t (x ∷ l) = every_fold p (t && p x) l ∙ and_assoc t (p x) (every p l)
