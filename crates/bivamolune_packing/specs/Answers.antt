-- What the calls in C promise: the number that they answer, and every byte of the buffers that they may write.
use Rattle.std.specs.Prelude.{◌≡◌, List, ℕ, ◌≤◌, Result, Ok, Err}
use Rattle.model.specs.Layout.{capacity}
use Rattle.model.specs.Message.{Message}
use Rattle.model.specs.Calls.{empty, deliver, purge}
use Rattle.refusals.specs.declared.Refusal.{Refusal}
use Rattle.refusals.specs.Refusals.{code_of}
use Rattle.deliver_accepting.specs.declared.Counts.{Counts}
use Rattle.bivamolune_packing.specs.Packing.{packed, Unpacks}

pub record Empties (entry : List ℕ) (r : ℕ) (exit : List ℕ) : Type 0 where
  pub code : r ≡ (empty entry).code
  pub image : exit ≡ (empty entry).image

pub record Purges (entry : List ℕ) (k r : ℕ) (exit : List ℕ) : Type 0 where
  pub code : r ≡ (purge entry k).code
  pub image : exit ≡ (purge entry k).image

-- code + 256 × undos + 65536 × executions, and the header gives the three back
pub record Delivers (image : List ℕ) (message : Message) (steps : List ℕ) (r : ℕ) (image_exit steps_exit : List ℕ) : Type 0 where
  pub answer : r ≡ packed (deliver image message steps).code (deliver image message steps).undos (deliver image message steps).executions
  pub parts : Unpacks r (deliver image message steps).code (deliver image message steps).undos (deliver image message steps).executions
  pub image_after : image_exit ≡ (deliver image message steps).image
  pub steps_after : steps_exit ≡ (deliver image message steps).steps

-- the number of each answer
abbrev pub packed_by : Result Counts Refusal → ℕ
packed_by (Ok counts) = packed 0 counts.undos counts.executions
packed_by (Err why) = code_of why

-- its counts are at most 64
abbrev pub Small : Result Counts Refusal → Type 0
Small (Ok counts) = (counts.undos ≤ capacity) × (counts.executions ≤ capacity)
Small (Err why) = Unit {0}
